-- Demand 2: the right answer. An accepted interrogation of one station, with room enough for its answer, is answered as the demand says; with less it is
-- number 4; and every entry has one right answer (Unique.antt). Assumes nothing.
use Prim.Native.Nat.{ℕ, ◌+◌, ◌≤◌, ◌<◌}
use mathlib.Core.Path.{◌≡◌, refl, sym, ap, ◌∙◌, subst}
use mathlib.Core.List.{List, [], ◌∷◌, ◌++◌}
use mathlib.Core.Bool.{Bool, true, false}
use native.Mathlib.Omega.{arith}
use lib.ListN.{length}
use lib.Dec.{leb, eqb}
use borrow.Author.Tests.{eqb-true}
use Rattle.limits.specs.Test.{◌&◌, pick}
use Rattle.limits.specs.Size.{Kind, point_types, point_octets, octets_in}
use Rattle.limits.proofs.Tests.{both}
use Rattle.octets.specs.Number.{Octets}
use Rattle.model.specs.declared.Point.{Point}
use Rattle.model.specs.Place.{point_ok, valid}
use Rattle.table.specs.Table.{Station, Table, rising}
use Rattle.table.specs.Settings.{limit_of}
use Rattle.table.specs.Memory.{table_of, well_formed}
use Rattle.table.proofs.Parse.{Good, is_good, passed, printed, holds}
use Rattle.table.proofs.Settings.{limit_least}
use Rattle.table.proofs.Change.{station_found, station_rises}
use Rattle.registry.specs.Effect.{holding}
use Rattle.asdu.specs.Header.{Asdu}
use Rattle.asdu.specs.declared.command.Command.{Command}
use Rattle.asdu.specs.Command.{Reading}
use Rattle.report.specs.declared.Selection.{Selection}
use Rattle.report.specs.Packing.{selected}
use Rattle.report.specs.Selection.{selects, among, interrogation_types, interrogation_types_of}
use Rattle.report.specs.Report.{report}
use Rattle.report.proofs.Cases.{interrogation_ascending}
use Rattle.report.specs.Order.{points_for, points_of}
use Rattle.answers.specs.Choice.{Choice}
use Rattle.std.specs.Prelude.{Some, None}
use Rattle.answers.specs.Said.{Said, Lent, lent, size, says, fronted, Leaves, as_it_is, given}
use Rattle.answers.specs.System.{qualifier_of, confirmed, terminated, interrogated, is_silent, interrogation_answer, answer_to, reported, command_said, system_from, system_said}
use Rattle.answers.proofs.Ends.{ends_short, ends_done}
use Rattle.faithful.specs.Faithful.{Faithful}
use Rattle.faithful.proofs.Theorem.{faithful}
use Rattle.khuvelter.specs.Interface.{answer_reply}
use Rattle.khuvelter.proofs.Whole.{whole}
use Rattle.khuvelter.specs.Calls.{reply_to, left_by}
use Rattle.khuvelter.specs.Calls.Question.{system}
use Rattle.khuvelter.specs.Calls.Call.{ask}
use Rattle.promises.specs.Interrogation.{Accepted, Reports, whole_answer, TheRightAnswer}
use Rattle.promises.proofs.Small.{question_small}
use Rattle.replies.proofs.Ways.{placeless_tells, numbered_tells, placed_tells}
use Rattle.answers.proofs.Ends.{answered_tells}
use Rattle.promises.proofs.Unique.{one_outcome, one_table_entry, one_opening, one_share, one_said}

-- ---- every point of a good table has a type of the interrogation

-- Does the set have the type of every entry?
unfoldable covers : List ℕ → List Kind → Bool
covers types [] = true
covers types (k ∷ ks) = among types k.number & covers types ks

-- A type with an element is one of the list, so the set has it.
covered : (types : List ℕ) (ks : List Kind) (n : ℕ) → covers types ks ≡ true → leb 1 (octets_in ks n) ≡ true → among types n ≡ true
unfolding covers octets_in
covered types [] n c e = let z : ◌≡◌ {A = ℕ} 0 1 = ap (λ (b : Bool). pick b 1 0) e in absurd (omega arith)
covered types (k ∷ ks) n c e = by_test (covered types ks n (both _ _ c).1) (eqb k.number n) refl e
  where
    by_test : (leb 1 (octets_in ks n) ≡ true → among types n ≡ true) → (b : Bool) → eqb k.number n ≡ b
        → leb 1 (pick b k.octets (octets_in ks n)) ≡ true → among types n ≡ true
    by_test ih true f e' = subst (λ (x : ℕ). among types x ≡ true) (eqb-true k.number n f) (both _ _ c).0
    by_test ih false f e' = ih e'

all_covered : covers interrogation_types point_types ≡ true
unfolding covers among interrogation_types point_types ◌&◌
all_covered = refl

point_among : (t : Table) (p : Point) → point_ok p ≡ true → among (interrogation_types_of t) p.kind ≡ true
unfolding point_ok valid point_octets interrogation_types_of
point_among t p e = covered interrogation_types point_types p.kind all_covered (both _ _ (both _ _ (both _ _ e).1).1).0

-- The point between two parts of rising points is as described.
rising_at : (low : ℕ) (before : List Point) (p : Point) (after : List Point) → rising low (before ++ (p ∷ after)) ≡ true → point_ok p ≡ true
unfolding rising
rising_at low [] p after e = (both _ _ (both _ _ e).1).0
rising_at low (q ∷ before) p after e = rising_at (q.ioa + 1) before p after (both _ _ (both _ _ e).1).1

-- ---- what is said

module _ (m : List ℕ) (c : Command) (sel : Selection) (t : Table) (s : Station) (a : Accepted m c sel t s) where
  -- A qualifier that selects is not 0.
  asks : eqb (qualifier_of m) 0 ≡ false
  unfolding ◌&◌
  asks = by_test (eqb (qualifier_of m) 0) refl
    where
      by_test : (b : Bool) → eqb (qualifier_of m) 0 ≡ b → b ≡ false
      by_test false e = refl
      by_test true e =
          let n : None ≡ Some sel = ap interrogated (sym (eqb-true (qualifier_of m) 0 e)) ∙ a.asked in
          let z : ◌≡◌ {A = ℕ} 0 1 = cc in absurd (omega arith)

  heard : is_silent c m ≡ false
  unfolding is_silent ◌&◌
  heard = simp (a.object, a.cause, a.kind, asks)

  -- The points that its CA speaks of are the station's.
  its_points : points_for c.ca t.stations ≡ s.points
  unfolding points_for
  its_points = simp a.one (ap points_of a.planned)

  -- It says its answer, and changes nothing.
  accepted_said : (clock : List ℕ) → system_said clock m t ≡ says (whole_answer m c sel t s) t clock
  unfolding system_from command_said interrogation_answer answer_to reported
  accepted_said clock =
      ap (λ (r : Reading). system_from clock m r t) a.read
      ∙ (simp (heard, a.kind)
      (ap (λ (x : Choice). says (answer_to t c m (interrogation_types_of t) (qualifier_of m) x) t clock) a.asked
      ∙ ap (λ (ps : List Point). says (confirmed c m ∷ (report (limit_of t) (interrogation_types_of t) (qualifier_of m) c.ca (selected (selects sel) ps) ++ (terminated c m ∷ []))) t clock) its_points))

-- ---- demand 2

-- A station's report is faithful, by whatever limit and types the table's settings say.
station_faithful : (t : Table) → Good t → (cause ca : ℕ) (sel : Selection) (s : Station) → rising 0 s.points ≡ true
    → Faithful (limit_of t) (interrogation_types_of t) cause ca (selects sel) s.points
unfolding interrogation_types_of
station_faithful t g cause ca sel s r = faithful (limit_of t) (limit_least t (is_good t g)) interrogation_types interrogation_ascending cause ca (selects sel) s.points r

module _ (m : List ℕ) (c : Command) (sel : Selection) (s : Station) (l : Lent) (o : Octets l.table) (w : well_formed l.table ≡ true)
    (a : Accepted m c sel (table_of l.table) s) where
  abbrev t : Table
  t = table_of l.table

  abbrev f : Table → Said
  f = system_said l.clock m

  abbrev answer : List Asdu
  answer = whole_answer m c sel t s

  said : f t ≡ says answer t l.clock
  said = accepted_said m c sel t s a l.clock

  rises : rising 0 s.points ≡ true
  rises = station_rises t c.ca s (holds l.table o w).0 (station_found c.ca t.stations s a.planned)

  -- With room enough for the answer.
  answers : size answer ≤ length l.answer → Leaves as_it_is f l (given (size answer)) (lent l.table l.clock (fronted answer l.answer) l.spontaneous)
  answers room =
      ends_done f l w (size answer) _ (ap (λ (x : Said). x.outcome) said) (ap (λ (x : Said). x.told) said)
      (sym (ap (λ (x : Said). size x.answer) said)) room
      (ap (λ (n : List ℕ). lent n l.clock (fronted answer l.answer) l.spontaneous) (printed l.table o (passed l.table w))
      ∙ sym (ap (λ (x : Said). lent (holding l.table t x.after) x.clock (fronted x.answer l.answer) l.spontaneous) said))

  reported_once : size answer ≤ length l.answer → Reports m c sel t s l
  reported_once room =
      let e = answers room in
      let y = station_faithful t (holds l.table o w).0 (qualifier_of m) c.ca sel s rises in
      let few = ap (λ (x : Said). size x.answer) said in
      let small = (question_small (system m) l.clock t (holds l.table o w).0).is_small in
      let n = whole (size answer) (omega arith) in
      record {
        answered = sym e.answers;
        replied = ap answer_reply (sym e.answers) ∙ (λ j. record { number = 0; place = 0; octets = n j; spontaneous = 0 });
        left = sym e.leaves;
        faithful = y;
        once = λ before after p is yes. y.once before after p is yes (point_among t p (rising_at 0 before p after (subst (λ (ps : List Point). rising 0 ps ≡ true) is rises)));
      }

  -- With less room it is number 4, nothing is reported, and every memory is as it was.
  refused_whole : length l.answer < size answer
      → (reply_to (ask (system m)) l ≡ record { number = 4; place = 0; octets = 0; spontaneous = 0 }) × (left_by (ask (system m)) l ≡ l)
  refused_whole short =
      let e = ends_short f l w (ap (λ (x : Said). x.outcome) said) (ap (λ (x : Said). x.told) said)
      (subst (λ (x : Said). length l.answer < size x.answer) (sym said) short) in
      (ap answer_reply (sym e.answers), sym e.leaves)

pub the_right_answer : TheRightAnswer
the_right_answer =
    record {
      reports = reported_once;
      too_long = refused_whole;
      one_outcome = one_outcome;
      one_share = λ ca m r r' p q. p ∙ sym q;
      one_table_entry = one_table_entry;
      one_opening = one_opening;
      one_station_share = one_share;
      one_answer = one_said;
      placeless_tells = placeless_tells;
      numbered_tells = numbered_tells;
      placed_tells = placed_tells;
      answered_tells = answered_tells;
    }
