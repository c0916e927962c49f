-- The starred cases: the whole table is computed on the tables that the memories hold, and a law brings that to the entries' own contracts on memory.
-- Assumes nothing.
use Prim.Native.Nat.{ℕ}
use mathlib.Core.Path.{◌≡◌, refl, ap, ◌∙◌, subst}
use mathlib.Core.List.{List, [], ◌∷◌, ◌++◌, map}
use mathlib.Core.Bool.{Bool, true, false}
use mathlib.Core.Option.{Option, none, some}
use lib.ListN.{length, drop, replicate, length-replicate}
use lib.Dec.{eqb}
use borrow.Author.Tests.{eqb-true}
use Rattle.limits.specs.Test.{◌&◌, pick, total}
use Rattle.limits.specs.Outcome.{is_done, number_of}
use Rattle.limits.specs.Size.{point_types, system_types, process_types, end_types, named_types, point_octets, element_octets, octets_in, listed, class_of}
use Rattle.limits.proofs.Tests.{both}
use Rattle.limits.proofs.Outcomes.{not_both}
use Rattle.model.specs.Request.{own_fault, point_of, element}
use Rattle.table.specs.Table.{Table, plan_ok, numbers_ok}
use Rattle.table.specs.Settings.{limit_of}
use Rattle.table.specs.Change.{station_of, in_station, changed, seek_in, known, insert_in, remove_in, added, removed}
use Rattle.table.specs.Memory.{parse}
use Rattle.table.proofs.Parse.{Good, good_is, is_good}
use Rattle.asdu.specs.Command.{read_as}
use Rattle.asdu.specs.Confirmation.{confirmation, reply}
use Rattle.asdu.specs.Header.{header, object_octets, asdu_octets, wire}
use Rattle.report.specs.Packing.{selected, joined, flat, cut, chunks, Each}
use Rattle.report.specs.Selection.{interrogation_types, interrogation_types_of, counter_types}
use Rattle.report.specs.Report.{object_of, run, report}
use Rattle.report.specs.Order.{points_for}
use Rattle.registry.specs.Effect.{Effect, next, reply_from}
use Rattle.registry.specs.Registry.{is_planned, is_registered, room_fault, request_outcome, registering, unregistering}
use Rattle.registry.specs.Opening.{planned, table_octets, valid_plan, opens, fresh}
use Rattle.registry.specs.History.Call.{command}
use Rattle.registry.proofs.Effects.{parse_after}
use Rattle.registry.proofs.Histories.{keeps}
use Rattle.opening.proofs.Fresh.{opens_good, opened_parses, opens_done}
use Rattle.answers.specs.Said.{Said, Lent, lent, outcome_with, answered_from, lent_from}
use Rattle.answers.specs.System.{system_from, is_silent, command_said, interrogation_answer, counter_answer, after_counters, reset_by, reset_at, reset_in, reported, answer_to}
use Rattle.answers.proofs.Common.{effect_in, command_effect}
use Rattle.khuvelter.specs.Interface.{place_reply, answer_reply}
use Rattle.khuvelter.specs.declared.Reply.{Reply}
use Rattle.khuvelter.specs.Calls.{Change, Question, Call, effect_by, said_by, reply_to, left_by}
use Rattle.khuvelter.specs.Calls.Call.{open_table, change, ask}
use Rattle.promises.proofs.Past.{registered, same_effect, quiet}
use Rattle.promises.specs.Cases.{Line, Case, lent_for, Comes, memory_for, Holds, many, objects, cases, AllCases}

-- ---- a call on the table that a memory holds

-- What it gives back, the octets that it says, and the table after it.
record Went : Type 0 where
  reply : Reply
  said : List ℕ
  after : Table

abbrev effected : (Table → Effect) → Table → Went
effected f t = record { reply = place_reply (record { outcome = (f t).outcome; place = (f t).place }); said = []; after = next f t }

abbrev answered : (Table → Said) → Lent → Table → Went
answered f l t =
    record { reply = answer_reply (answered_from f l (some t)); said = pick (is_done (outcome_with (f t) l)) (wire (f t).answer) []; after = next (effect_in f l) t }

-- The calls that the cases make, with this clock, answer and spontaneous memory.
unfoldable went : Call → List ℕ → List ℕ → List ℕ → Table → Option Went
went (open_table k plan) clock answer spontaneous t = none
went (change c) clock answer spontaneous t = some (effected (effect_by c) t)
went (ask q) clock answer spontaneous t = some (answered (said_by q clock) (lent [] clock answer spontaneous) t)

-- The memory holds a good table.
record Has (m : List ℕ) (t : Table) : Type 0 where
  read : parse m ≡ some t
  is_good : Good t

-- The call on the memory is the call on the table.
record Is (c : Call) (l : Lent) (w : Went) : Type 0 where
  replied : reply_to c l ≡ w.reply
  wrote : (left_by c l).answer ≡ w.said ++ drop (length w.said) l.answer
  left : Has (left_by c l).table w.after

module _ (l : Lent) (t : Table) (h : Has l.table t) where
  change_is : (c : Change) → Is (change c) l (effected (effect_by c) t)
  unfolding reply_from
  change_is c =
      let g = subst (λ (f : Table → Effect). Good (next f t)) (same_effect c) (keeps t h.is_good (registered c)).is_good in
      record {
        replied = ap (λ (o : Option Table). place_reply (reply_from (effect_by c) o)) h.read;
        wrote = refl;
        left = record { read = parse_after (effect_by c) l.table t h.read (is_good _ g); is_good = g };
      }

  said_front : (f : Table → Said) (l₁ : Lent) → (lent_from f l₁ (some t)).answer
      ≡ pick (is_done (outcome_with (f t) l₁)) (wire (f t).answer) [] ++ drop (length (pick (is_done (outcome_with (f t) l₁)) (wire (f t).answer) [])) l₁.answer
  unfolding lent_from
  said_front f l₁ = by_test (is_done (outcome_with (f t) l₁)) refl
    where
      by_test : (b : Bool) → is_done (outcome_with (f t) l₁) ≡ b → (lent_from f l₁ (some t)).answer
          ≡ pick b (wire (f t).answer) [] ++ drop (length (pick b (wire (f t).answer) [])) l₁.answer
      by_test true e = simp e
      by_test false e = simp e

  question_is : (q : Question) → Is (ask q) l (answered (said_by q l.clock) (lent [] l.clock l.answer l.spontaneous) t)
  unfolding answered_from outcome_with effect_in
  question_is q =
      let f = said_by q l.clock in
      let g = (keeps t h.is_good (command (effect_in f l) (quiet q l))).is_good in
      record {
        replied = ap (λ (o : Option Table). answer_reply (answered_from f l o)) h.read;
        wrote = ap (λ (o : Option Table). (lent_from f l o).answer) h.read ∙ said_front f l;
        left = record { read = ap parse (command_effect f l).0 ∙ parse_after (effect_in f l) l.table t h.read (is_good _ g); is_good = g };
      }

  -- of what went, if the cases make such a call
  IsOf : Call → Option Went → Type 0
  IsOf c none = Unit
  IsOf c (some w) = Is c l w

  went_is : (c : Call) → IsOf c (went c l.clock l.answer l.spontaneous t)
  unfolding IsOf went
  went_is (open_table k plan) = tt
  went_is (change c) = change_is c
  went_is (ask q) = question_is q

-- ---- lines, computed

same : List ℕ → List ℕ → Bool
same [] [] = true
same [] (y ∷ ys) = false
same (x ∷ xs) [] = false
same (x ∷ xs) (y ∷ ys) = eqb x y & same xs ys

same_is : (xs ys : List ℕ) → same xs ys ≡ true → xs ≡ ys
unfolding same
same_is [] [] e = refl
same_is [] (y ∷ ys) e = not_both e
same_is (x ∷ xs) [] e = not_both e
same_is (x ∷ xs) (y ∷ ys) e = λ j. eqb-true x y (both _ _ e).0 j ∷ same_is xs ys (both _ _ e).1 j

same_reply : Reply → Reply → Bool
same_reply r s = eqb r.number s.number & eqb r.place s.place & eqb r.octets s.octets & eqb r.spontaneous s.spontaneous

same_reply_is : (r s : Reply) → same_reply r s ≡ true → r ≡ s
unfolding same_reply
same_reply_is r s e =
    let a = both _ _ e in
    let b = both _ _ a.1 in
    let c = both _ _ b.1 in
    let n : r.number ≡ s.number = eqb-true _ _ a.0 in
    let p : r.place ≡ s.place = eqb-true _ _ b.0 in
    let o : r.octets ≡ s.octets = eqb-true _ _ c.0 in
    let q : r.spontaneous ≡ s.spontaneous = eqb-true _ _ c.1 in
    λ j. record { number = n j; place = p j; octets = o j; spontaneous = q j }

-- what a line says comes back
abbrev expected : Line → Reply
expected x = record { number = x.number; place = 0; octets = length (flat x.asdus); spontaneous = 0 }

-- A line comes out, and so does what follows it.
agrees_on : Line → (Table → Bool) → Option Went → Bool
agrees_on x rest none = false
agrees_on x rest (some w) =
    same_reply w.reply (expected x) & same w.said (flat x.asdus) & same (map length x.asdus) x.sizes & rest w.after

agrees : List Line → Table → Bool
agrees [] t = true
agrees (x ∷ xs) t = agrees_on x (agrees xs) (went x.call (replicate 8 0) (replicate x.room 0xEE) [] t)

-- What is computed comes.
line_is : (x : Line) (xs : List Line) (m : List ℕ) (t : Table) (h : Has m t)
    → ((u : Table) → Has (left_by x.call (lent_for m x)).table u → agrees xs u ≡ true → Comes (left_by x.call (lent_for m x)).table xs)
    → (o : Option Went) → IsOf (lent_for m x) t h x.call o → agrees_on x (agrees xs) o ≡ true → Comes m (x ∷ xs)
unfolding agrees_on Comes IsOf
line_is x xs m t h rest none is e = not_both e
line_is x xs m t h rest (some w) is e =
    let a = both _ _ e in
    let b = both _ _ a.1 in
    let c = both _ _ b.1 in (
      is.replied ∙ same_reply_is w.reply (expected x) a.0,
      is.wrote ∙ ap (λ (y : List ℕ). y ++ drop (length y) (replicate x.room 0xEE)) (same_is w.said (flat x.asdus) b.0),
      same_is (map length x.asdus) x.sizes c.0,
      rest w.after is.left c.1,
    )

agrees_is : (xs : List Line) (m : List ℕ) (t : Table) → Has m t → agrees xs t ≡ true → Comes m xs
unfolding agrees Comes
agrees_is [] m t h e = tt
agrees_is (x ∷ xs) m t h e = line_is x xs m t h (λ u k f. agrees_is xs (left_by x.call (lent_for m x)).table u k f) _ (went_is (lent_for m x) t h x.call) e

-- ---- cases, computed

-- The plan is valid and the lines come out.
case_agrees : Case → Bool
case_agrees c = opens c.capacity c.plan (table_octets c.capacity (length (planned c.plan))) & agrees c.lines (fresh c.capacity c.plan)

case_is : (c : Case) → case_agrees c ≡ true → Holds c
unfolding case_agrees
case_is c e =
    let k = c.capacity in
    let o : opens k c.plan (length (memory_for c)) ≡ true = ap (opens k c.plan) (length-replicate _ _) ∙ (both _ _ e).0 in
    record {
      opens = ap number_of (opens_done k c.plan (memory_for c) o);
      comes = agrees_is c.lines _ (fresh k c.plan) (record { read = opened_parses k c.plan (memory_for c) o; is_good = good_is _ (opens_good k c.plan _ o) }) (both _ _ e).1;
    }

all_agree : List Case → Bool
all_agree [] = true
all_agree (c ∷ cs) = case_agrees c & all_agree cs

all_is : (cs : List Case) → all_agree cs ≡ true → Each Holds cs
unfolding all_agree Each
all_is [] e = tt
all_is (c ∷ cs) e = (case_is c (both _ _ e).0, all_is cs (both _ _ e).1)

-- ---- the table

agreed : all_agree cases ≡ true
unfolding cases many objects went agrees agrees_on same same_reply case_agrees all_agree ◌&◌ total opens valid_plan planned plan_ok numbers_ok registering request_outcome is_planned is_registered own_fault room_fault added changed in_station insert_in seek_in known point_of element unregistering removed remove_in point_types system_types process_types end_types named_types point_octets element_octets octets_in listed class_of station_of read_as confirmation reply header object_octets asdu_octets wire selected joined cut chunks interrogation_types interrogation_types_of counter_types limit_of object_of run report points_for system_from is_silent command_said interrogation_answer counter_answer after_counters reset_by reset_at reset_in reported answer_to outcome_with answered_from effect_in
agreed = refl

-- Cases a to j of document 01 come out of the entries' definitions, octet by octet.
pub all_cases : AllCases
all_cases = all_is cases agreed
