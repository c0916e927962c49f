-- Three parts written one by one, the middle first, are the whole at the front; and so data between confirmation and termination are the answer.
-- Assumes nothing.
use mathlib.Core.Path.{◌≡◌, refl, sym, ap, ap₂, ◌∙◌}
use mathlib.Core.List.{List, [], ◌++◌, append_assoc}
use mathlib.Core.Bool.{Bool, true, false}
use Prim.Native.Nat.{ℕ, ◌+◌, ◌-◌, ◌≤◌, ◌<◌}
use native.Mathlib.Omega.{arith}
use lib.ListN.{length, take, drop, length-append, length-drop, take-append-drop}
use lib.Seq.{length-take-le}
use lib.Dec.{ltb}
use borrow.Author.Tests.{ltb-true, ltb-false}
use Rattle.std.specs.Prelude.{Some, None}
use Rattle.limits.specs.Test.{pick}
use Rattle.asdu.specs.declared.command.Command.{Command}
use Rattle.asdu.specs.Header.{asdu_octets, wire}
use Rattle.asdu.proofs.Laws.{wire_between}
use Rattle.asdu.proofs.Lengths.{length_confirmation}
use Rattle.report.specs.declared.Selection.{Selection}
use Rattle.output.specs.Data.{arranged, data_of, wrote, written, too_short}
use Rattle.output.specs.Reach.{reach_of}
use Rattle.output.proofs.Reached.{reached}
use Rattle.octets.specs.Number.{Octets}
use Rattle.table.specs.Memory.{well_formed, table_of, points_at}
use Rattle.model.specs.declared.Point.{Point}
use Rattle.report.specs.declared.Reach.{Reach}
use Rattle.report.specs.declared.Terms.{Terms}
use Rattle.report.specs.Packing.{selected}
use Rattle.report.specs.Selection.{selects}
use Rattle.report.specs.Report.{report}
use Rattle.report.specs.Order.{points_for}
use Rattle.std.specs.Prelude.{Err}
use Rattle.limits.specs.declared.outcome.Refusal.TheVariants.{AnswerShort}
use Rattle.octets.specs.Over.{over}
use Rattle.octets.proofs.Laws.{over_at}
use Rattle.answers.proofs.Ends.{sends_nothing, sends_all}
use Rattle.answers.specs.Said.{size, nothing, given, Sends}
use Rattle.answers.specs.System.{confirmed, terminated, reported}
use Rattle.table.specs.Table.{Table}
use Rattle.table.specs.Settings.{limit_of}
use Rattle.asdu.specs.Command.{first_element}

-- Data between what stands before and after them: the data first, then the front, then the end.
pub between : (m C D T : List ℕ) (c d : ℕ) → length C ≡ c → length D ≡ d → c + (d + length T) ≤ length m
    → over (over (over m c D) 0 C) (c + d) T ≡ over m 0 (C ++ (D ++ T))
between m C D T c d ec ed h =
    let t : ℕ = length T in
    let A : List ℕ = take c m in
    let m1 : List ℕ = drop c m in
    let B : List ℕ = take d m1 in
    let m2 : List ℕ = drop d m1 in
    let E : List ℕ = take t m2 in
    let R : List ℕ = drop t m2 in
    let l1 : length m1 ≡ length m - c = length-drop c m in
    let l2 : length m2 ≡ length m1 - d = length-drop d m1 in
    let la : length A ≡ c = length-take-le c m (omega arith) in
    let lb : length B ≡ d = length-take-le d m1 (omega arith) in
    let le : length E ≡ t = length-take-le t m2 (omega arith) in
    let split : m ≡ A ++ (B ++ (E ++ R)) =
    sym (take-append-drop c m) ∙ ap (λ (x : List ℕ). A ++ x) (sym (take-append-drop d m1) ∙ ap (λ (x : List ℕ). B ++ x) (sym (take-append-drop t m2))) in
    let s1 : over m c D ≡ A ++ (D ++ (E ++ R)) = ap (λ (x : List ℕ). over x c D) split ∙ over_at A B (E ++ R) D c la (lb ∙ sym ed) in
    let s2 : over (over m c D) 0 C ≡ C ++ (D ++ (E ++ R)) = ap (λ (x : List ℕ). over x 0 C) s1 ∙ over_at [] A (D ++ (E ++ R)) C 0 refl (la ∙ sym ec) in
    let cd : length (C ++ D) ≡ c + d = length-append C D ∙ ap₂ (λ (x y : ℕ). x + y) ec ed in
    let s3 : over (over (over m c D) 0 C) (c + d) T ≡ (C ++ D) ++ (T ++ R) =
    ap (λ (x : List ℕ). over x (c + d) T) (s2 ∙ sym (append_assoc C D (E ++ R))) ∙ over_at (C ++ D) E R T (c + d) cd le in
    let w : length (A ++ (B ++ E)) ≡ length (C ++ (D ++ T)) =
    length-append A (B ++ E) ∙ ap₂ (λ (x y : ℕ). x + y) (la ∙ sym ec) (length-append B E ∙ ap₂ (λ (x y : ℕ). x + y) (lb ∙ sym ed) le ∙ sym (length-append D T))
    ∙ sym (length-append C (D ++ T)) in
    let s4 : over m 0 (C ++ (D ++ T)) ≡ (C ++ (D ++ T)) ++ R =
    ap (λ (x : List ℕ). over x 0 (C ++ (D ++ T))) (split ∙ ap (λ (x : List ℕ). A ++ x) (sym (append_assoc B E R)) ∙ sym (append_assoc A (B ++ E) R))
    ∙ over_at [] (A ++ (B ++ E)) R (C ++ (D ++ T)) 0 refl w in
    s3 ∙ append_assoc C D (T ++ R) ∙ ap (λ (x : List ℕ). C ++ x) (sym (append_assoc D T R)) ∙ sym (append_assoc C (D ++ T) R) ∙ sym s4

-- ---- what `put_data` answers

pub data_short : (out : List ℕ) (before after : ℕ) (xs : List ℕ) → wrote (length out) before after xs ≡ None
    → (length out < before + (length xs + after)) × (out ≡ written out before after xs)
unfolding wrote written too_short
data_short out before after xs e = by_test (ltb (length out) (before + (length xs + after))) refl e
  where
    by_test : (b : Bool) → ltb (length out) (before + (length xs + after)) ≡ b → pick b None (Some (length xs)) ≡ None
        → (length out < before + (length xs + after)) × (out ≡ pick (ltb (length out) (before + (length xs + after))) out (over out before xs))
    by_test true t e' = (ltb-true _ _ t, sym (simp t))
    by_test false t e' = let z : ◌≡◌ {A = ℕ} 0 1 = cc in absurd (omega arith)

pub data_full : (out : List ℕ) (before after k : ℕ) (xs : List ℕ) → wrote (length out) before after xs ≡ Some k
    → (k ≡ length xs) × (before + (length xs + after) ≤ length out) × (written out before after xs ≡ over out before xs)
unfolding wrote written too_short
data_full out before after k xs e = by_test (ltb (length out) (before + (length xs + after))) refl e
  where
    by_test : (b : Bool) → ltb (length out) (before + (length xs + after)) ≡ b → pick b None (Some (length xs)) ≡ Some k
        → (k ≡ length xs) × (before + (length xs + after) ≤ length out) × (pick (ltb (length out) (before + (length xs + after))) out (over out before xs) ≡ over out before xs)
    by_test true t e' = let z : ◌≡◌ {A = ℕ} 0 1 = cc in absurd (omega arith)
    by_test false t e' = (cc, ltb-false _ _ t, simp t)

-- ---- the whole answer

-- What `put_data` writes of the reach of a CA is the report of the points that the CA speaks of.
pub data_is : (terms : Terms) (types : List ℕ) (sel : Selection) (m : List ℕ) (ca : ℕ) (r : Reach) → r ≡ reach_of m ca → Octets m → well_formed m ≡ true
    → data_of terms types sel m r ≡ report terms.limit types terms.cause terms.ca (selected (selects sel) (points_for ca (table_of m).stations))
unfolding data_of
data_is terms types sel m ca r e o w =
    ap (λ (x : Reach). report terms.limit types terms.cause terms.ca (selected (selects sel) (arranged x.every (points_at m x.base x.n)))) e
    ∙ ap (λ (ps : List Point). report terms.limit types terms.cause terms.ca (selected (selects sel) ps)) (reached m ca o w).points

module _ (t : Table) (c : Command) (m types : List ℕ) (cause : ℕ) (sel : Selection) (out : List ℕ) (h : first_element + c.element ≤ length m) where
  -- its data, and the octets before and after them
  abbrev asked : List ℕ
  asked = wire (report (limit_of t) types cause c.ca (selected (selects sel) (points_for c.ca t.stations)))

  abbrev around : ℕ
  around = first_element + c.element

  -- the octets of the whole, part by part
  reported_octets : wire (reported t c m types cause sel) ≡ asdu_octets (confirmed c m) ++ (asked ++ asdu_octets (terminated c m))
  unfolding reported
  reported_octets = wire_between (confirmed c m) (report (limit_of t) types cause c.ca (selected (selects sel) (points_for c.ca t.stations))) (terminated c m)

  length_reported : size (reported t c m types cause sel) ≡ around + (length asked + around)
  length_reported =
      let a = length_confirmation c m 7 false h in
      let b = length_confirmation c m 10 false h in
      ap length reported_octets ∙ simp length-append (omega arith)

  -- There is no room: nothing is written.
  pub no_room : wrote (length out) around around asked ≡ None → (out' : List ℕ) → out' ≡ written out around around asked
      → Sends (reported t c m types cause sel) out (nothing (Err AnswerShort)) out'
  no_room e out' f =
      let s = data_short out around around asked e in
      let l = length_reported in
      let z = sends_nothing (reported t c m types cause sel) out (omega (arith, s.0)) in
      record { answers = z.answers; leaves = f ∙ sym s.1 ∙ z.leaves }

  -- There is room for all.
  pub has_room : (k : ℕ) → wrote (length out) around around asked ≡ Some k → around + (k + around) ≤ length out
  has_room k e = let s = data_full out around around k asked e in omega (arith, s.0, s.1)

  -- And the data, the confirmation, the termination make the whole.
  pub all_written : (k : ℕ) → wrote (length out) around around asked ≡ Some k → (out₁ out₂ out₃ : List ℕ) → out₁ ≡ written out around around asked
      → out₂ ≡ over out₁ 0 (asdu_octets (confirmed c m)) → out₃ ≡ over out₂ (around + k) (asdu_octets (terminated c m))
      → Sends (reported t c m types cause sel) out (given (around + (k + around))) out₃
  all_written k e out₁ out₂ out₃ e₁ e₂ e₃ =
      let s = data_full out around around k asked e in
      let l = length_reported in
      let lc = length_confirmation c m 7 false h in
      let lt = length_confirmation c m 10 false h in
      let room = s.1 in
      let n = s.0 in
      let C = asdu_octets (confirmed c m) in
      let T = asdu_octets (terminated c m) in
      let o₂ : out₂ ≡ over (over out around asked) 0 C = e₂ ∙ ap (λ (x : List ℕ). over x 0 C) (e₁ ∙ s.2) in
      let o₃ = e₃ ∙ (λ j. over (o₂ j) (around + n j) T) in
      let w = between out C asked T around (length asked) lc refl (omega arith) in
      sends_all (reported t c m types cause sel) out (around + (k + around)) out₃ (omega arith) (omega arith)
      (o₃ ∙ w ∙ ap (over out 0) (sym reported_octets))
