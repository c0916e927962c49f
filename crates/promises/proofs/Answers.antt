-- Demand 1: an answer and an end. The common last step of the calls that change the table (registry/proofs/Effects) and that of the calls that answer
-- (answers/proofs/Common) are lifted to every call. Assumes nothing.
use Prim.Native.Nat.{ℕ, ◌≤◌, ◌<◌}
use mathlib.Core.Path.{◌≡◌, refl, sym, ap, ◌∙◌, subst}
use mathlib.Core.List.{List}
use mathlib.Core.Bool.{Bool, true, false}
use mathlib.Core.Option.{Option, none, some}
use native.Mathlib.Omega.{arith}
use lib.ListN.{length, drop}
use borrow.Author.Tests.{leb-true}
use Rattle.limits.specs.Test.{pick}
use Rattle.std.specs.Prelude.{Err}
use Rattle.limits.specs.Outcome.{Outcome, done, is_done, number_of}
use Rattle.limits.specs.declared.outcome.Refusal.TheVariants.{AnswerShort, SpontaneousShort, InvalidPlan}
use Rattle.limits.proofs.Outcomes.{done_number, not_both, first_done, done_is}
use Rattle.octets.specs.Number.{Octets}
use Rattle.table.specs.Table.{Station, Table}
use Rattle.table.specs.Change.{station_of}
use Rattle.table.specs.Memory.{parse}
use Rattle.report.specs.Selection.{among}
use Rattle.registry.specs.Effect.{Reply as TableReply, Effect, first_fault, reply_on, memory_on}
use Rattle.registry.specs.Registry.{share_in, share_from}
use Rattle.registry.specs.Opening.{opens, open_outcome, opened_memory}
use Rattle.registry.proofs.Effects.{refusal_keeps_memory}
use Rattle.answers.specs.Said.{Answered, Said, Lent, size, fits, outcome_with, answered_from, answered_on, lent_after}
use Rattle.asdu.specs.Header.{Asdu}
use Rattle.answers.proofs.Common.{refused_says_nothing, past_the_reported}
use Rattle.khuvelter.specs.Interface.{narrowed, flat_share}
use Rattle.khuvelter.specs.declared.Reply.{Reply}
use Rattle.khuvelter.proofs.Whole.{whole}
use Rattle.khuvelter.specs.Calls.{Call, effect_by, said_by, table_alone, with_memory, reply_to, left_by}
use Rattle.khuvelter.specs.Calls.Call.{open_table, change, ask}
use Rattle.promises.specs.Answers.{Refusal, Beyond, ShareRefusal, numbers_of, own_octets, Settled, AnAnswerAndAnEnd}
use Rattle.promises.proofs.Numbers.{call_numbered}
use Rattle.promises.proofs.Past.{past_own}
use Rattle.promises.proofs.Small.{question_small, small_whole}

-- ---- a refusal reports nothing and changes nothing

-- The calls that change the table, whatever else is lent.
effect_refusal : (f : Table → Effect) (l : Lent) → Refusal (number_of (reply_on f l.table).outcome) 0 0 l (with_memory (memory_on f l.table) l)
effect_refusal f l =
    record {
      reports_nothing = λ e. (refl, refl);
      changes_nothing = λ e. ap (λ (n : List ℕ). with_memory n l) (refusal_keeps_memory f l.table (done_number _ ∙ e));
    }

-- Opening.
open_refusal : (k : ℕ) (plan : List ℕ) (l : Lent) → Refusal (number_of (open_outcome k plan l.table)) 0 0 l (with_memory (opened_memory k plan l.table) l)
open_refusal k plan l = by_test (opens k plan (length l.table)) _
  where
    by_test : (b : Bool) (n : List ℕ) → Refusal (number_of (pick b done (Err InvalidPlan))) 0 0 l (with_memory (pick b n l.table) l)
    by_test true n = record { reports_nothing = λ z. (refl, refl); changes_nothing = λ z. not_both (sym z) }
    by_test false n = record { reports_nothing = λ z. (refl, refl); changes_nothing = λ z. refl }

-- The calls that answer: the common last step.
said_refusal : (f : Table → Said) (l : Lent) → Refusal (number_of (answered_on f l).outcome) (answered_on f l).octets (answered_on f l).spontaneous l (lent_after f l)
said_refusal f l =
    record {
      reports_nothing = λ e. let n = refused_says_nothing f l (done_number _ ∙ e) in (n.0, n.1);
      changes_nothing = λ e. (refused_says_nothing f l (done_number _ ∙ e)).2;
    }

said_beyond : (f : Table → Said) (l : Lent) → Beyond (answered_on f l).octets (answered_on f l).spontaneous l (lent_after f l)
said_beyond f l = by_test (is_done (answered_on f l).outcome) refl
  where
    by_test : (b : Bool) → is_done (answered_on f l).outcome ≡ b → Beyond (answered_on f l).octets (answered_on f l).spontaneous l (lent_after f l)
    by_test true e = let p = past_the_reported f l e in record { of_the_answer = p.0; of_the_spontaneous = p.1 }
    by_test false e =
        let n = (refused_says_nothing f l e).2 in
        record {
          of_the_answer = ap (λ (x : Lent). drop (answered_on f l).octets x.answer) n;
          of_the_spontaneous = ap (λ (x : Lent). drop (answered_on f l).spontaneous x.spontaneous) n;
        }

-- ---- what is told lies in its memory, so that in one of less than 2^32 octets it is reported whole; answers are small (Small.antt)

fits_is : (asdus : List Asdu) (memory : List ℕ) (o : Outcome) → is_done o ≡ false → pick (fits asdus memory) done o ≡ done → size asdus ≤ length memory
fits_is asdus memory o n e = by_test (fits asdus memory) refl e
  where
    by_test : (b : Bool) → fits asdus memory ≡ b → pick b done o ≡ done → size asdus ≤ length memory
    by_test true t e' = leb-true _ _ t
    by_test false t e' = not_both (sym n ∙ ap is_done e')

told_fits : (s : Said) (l : Lent) → outcome_with s l ≡ done → size s.told ≤ length l.spontaneous
unfolding outcome_with
told_fits s l e =
    let told : Outcome = pick (fits s.told l.spontaneous) done (Err SpontaneousShort) in
    let answered : Outcome = pick (fits s.answer l.answer) done (Err AnswerShort) in
    let d = first_done told answered (first_done s.outcome (first_fault told answered) e).1 in
    fits_is s.told l.spontaneous (Err SpontaneousShort) refl d.0

module _ (f : Table → Said) (l : Lent) where
  told_within : (t : Option Table) → (answered_from f l t).spontaneous ≤ length l.spontaneous
  unfolding answered_from
  told_within none = omega arith
  told_within (some t) = by_test (is_done (outcome_with (f t) l)) refl
    where
      by_test : (b : Bool) → is_done (outcome_with (f t) l) ≡ b → pick b (size (f t).told) 0 ≤ length l.spontaneous
      by_test true e = told_fits (f t) l (done_is _ e)
      by_test false e = omega arith

  spontaneous_whole : length l.spontaneous < 4294967296 → narrowed (answered_on f l).spontaneous ≡ (answered_on f l).spontaneous
  spontaneous_whole h = let w = told_within (parse l.table) in whole _ (omega arith)

-- ---- every call

call_refusal : (c : Call) (l : Lent) → Refusal (reply_to c l).number (reply_to c l).octets (reply_to c l).spontaneous l (left_by c l)
call_refusal (open_table k plan) l = open_refusal k plan l
call_refusal (change c) l = effect_refusal (effect_by c) l
call_refusal (ask q) l =
    let r = said_refusal (said_by q l.clock) l in
    record {
      reports_nothing = λ e. let n = r.reports_nothing e in (ap narrowed n.0, ap narrowed n.1);
      changes_nothing = r.changes_nothing;
    }

nothing_beyond : (before after : Lent) → after.answer ≡ before.answer → after.spontaneous ≡ before.spontaneous → Beyond 0 0 before after
nothing_beyond before after p q = record { of_the_answer = ap (drop 0) p; of_the_spontaneous = ap (drop 0) q }

-- What past-the-octets says of the reported number, where that arrives whole.
narrowed_beyond : (n : ℕ) (x y : List ℕ) → narrowed n ≡ n → drop n x ≡ drop n y → drop (narrowed n) x ≡ drop (narrowed n) y
narrowed_beyond n x y w e = subst (λ (k : ℕ). drop k x ≡ drop k y) (sym w) e

call_beyond : (c : Call) (l : Lent) → Octets l.table → length l.spontaneous < 4294967296 → Beyond (reply_to c l).octets (reply_to c l).spontaneous l (left_by c l)
call_beyond (open_table k plan) l o few = nothing_beyond l (left_by (open_table k plan) l) refl refl
call_beyond (change c) l o few = nothing_beyond l (left_by (change c) l) refl refl
call_beyond (ask q) l o few =
    let f = said_by q l.clock in
    record {
      of_the_answer = narrowed_beyond (answered_on f l).octets _ _ (small_whole f l o (question_small q l.clock)) (said_beyond f l).of_the_answer;
      of_the_spontaneous = narrowed_beyond (answered_on f l).spontaneous _ _ (spontaneous_whole f l few) (said_beyond f l).of_the_spontaneous;
    }

-- The share of a station: 0, 3 or 12, and with 3 or 12 no other number.
share_from_lem : (ca : ℕ) (t : Option Table) → ShareRefusal (flat_share (share_from ca t))
unfolding share_from share_in among
share_from_lem ca none = record { numbered = refl; tells_nothing = λ e. refl }
share_from_lem ca (some t) = of_station (station_of ca t.stations)
  where
    of_station : (o : Option Station) → ShareRefusal (flat_share (share_in t o))
    of_station none = record { numbered = refl; tells_nothing = λ e. refl }
    of_station (some s) = record { numbered = refl; tells_nothing = λ e. not_both (sym e) }

-- ---- demand 1

-- "Any octets, any table, any call: an answer and an end. … A refusal gives its number from document 01, reports zero octets written, and changes
-- no table, clock or output memory."
pub an_answer_and_an_end : AnAnswerAndAnEnd
an_answer_and_an_end =
    record {
      numbered = λ c before r after m. ap (λ (x : Reply). among (numbers_of c) x.number) m.answered ∙ call_numbered c before;
      refusal = λ c before r after m.
          subst (λ (x : Lent). Refusal r.number r.octets r.spontaneous before x) (sym m.left)
          (subst (λ (x : Reply). Refusal x.number x.octets x.spontaneous before (left_by c before)) (sym m.answered) (call_refusal c before));
      beyond = λ c before r after m o few.
          subst (λ (x : Lent). Beyond r.octets r.spontaneous before x) (sym m.left)
          (subst (λ (x : Reply). Beyond x.octets x.spontaneous before (left_by c before)) (sym m.answered) (call_beyond c before o few));
      past_the_table = λ c before r after m o t e.
          ap (λ (x : Lent). drop (own_octets c t) x.table) m.left ∙ past_own c before o t e;
      share = λ ca m r e. subst ShareRefusal (sym e) (share_from_lem ca (parse m));
      table_entry = λ f m r n e.
          subst (λ (x : List ℕ). Refusal (number_of r.outcome) 0 0 (table_alone m) (table_alone x)) (sym e.1)
          (subst (λ (x : TableReply). Refusal (number_of x.outcome) 0 0 (table_alone m) (table_alone (memory_on f m))) (sym e.0) (effect_refusal f (table_alone m)));
      open_entry = λ k plan m r n e.
          subst (λ (x : List ℕ). Refusal (number_of r) 0 0 (table_alone m) (table_alone x)) (sym e.1)
          (subst (λ (x : Outcome). Refusal (number_of x) 0 0 (table_alone m) (table_alone (opened_memory k plan m))) (sym e.0) (open_refusal k plan (table_alone m)));
      answering_entry = λ f before r after e.
          subst (λ (x : Lent). Settled r before x) (sym e.leaves)
          (subst (λ (x : Answered). Settled x before (lent_after f before)) (sym e.answers) (said_refusal f before, said_beyond f before));
    }
