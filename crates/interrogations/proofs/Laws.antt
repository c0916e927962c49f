-- The types of each report can be chained, each qualifier leads to its choice, and a choice that was taken has a cause. Assumes nothing.
use mathlib.Core.Path.{◌≡◌, refl, sym, ap, ◌∙◌}
use mathlib.Core.List.{List, [], ◌∷◌}
use mathlib.Core.Bool.{Bool, true, false}
use Prim.Native.Nat.{ℕ, ◌+◌, ◌-◌, ◌/◌, ◌%◌, ◌≤◌, ◌<◌}
use native.Mathlib.Omega.{arith}
use lib.Dec.{leb, ltb, eqb}
use borrow.Author.Tests.{ltb-true, leb-true, eqb-true, eq-eqb, ne_eqb, le-leb, lt-leb}
use Rattle.limits.specs.Test.{◌&◌, pick}
use Rattle.limits.proofs.Tests.{both}
use Rattle.octets.specs.Number.{Octets}
use Rattle.table.specs.Table.{Table}
use Rattle.table.specs.Memory.{table_of, well_formed}
use Rattle.table.proofs.Parse.{passed, printed}
use Rattle.report.specs.declared.Selection.{Selection}
use Rattle.report.specs.declared.Selection.TheVariants.{Every, Group, CounterGroup}
use Rattle.report.specs.Packing.{Each}
use Rattle.report.specs.Selection.{interrogation_types, interrogation_types_of, counter_types}
use Rattle.output.specs.Data.{Slots, TypesOk}
use Rattle.registry.specs.Effect.{holding}
use Rattle.answers.specs.Choice.{Choice}
use Rattle.std.specs.Prelude.{Some, None}
use Rattle.answers.specs.Said.{with_table}
use Rattle.answers.specs.System.{interrogated, chosen, counter_cause, resets, reset_by, reset_at}
use Rattle.interrogations.specs.Interrogations.{CauseOf}

-- ---- the types

-- types below 64 and none of them 0, tested
slotted : List ℕ → Bool
slotted [] = true
slotted (k ∷ ks) = ltb 0 k & ltb k 64 & slotted ks

slots_from : (types : List ℕ) → slotted types ≡ true → Slots types
unfolding slotted Slots Each
slots_from [] t = tt
slots_from (k ∷ ks) t = let a = both _ _ t in let b = both _ _ a.1 in ((ltb-true _ _ a.0, ltb-true _ _ b.0), slots_from ks b.1)

pub interrogation_slots : (t : Table) → TypesOk (interrogation_types_of t)
unfolding slotted ◌&◌ interrogation_types interrogation_types_of
interrogation_slots t = (omega arith, slots_from interrogation_types refl)

pub counter_slots : TypesOk counter_types
unfolding slotted ◌&◌ counter_types
counter_slots = (omega arith, slots_from counter_types refl)

-- ---- what each qualifier chooses

module _ (q : ℕ) where
  pub asks_all : q ≡ 20 → interrogated q ≡ Some Every
  asks_all e = simp (eq-eqb _ _ e)

  pub asks_none_below : (q ≡ 20 → ⊥) → q < 21 → interrogated q ≡ None
  unfolding ◌&◌
  asks_none_below n h = simp (ne_eqb _ _ n, lt-leb 21 q h)

  pub asks_none_above : (q ≡ 20 → ⊥) → 21 ≤ q → 36 < q → interrogated q ≡ None
  unfolding ◌&◌
  asks_none_above n l h = simp (ne_eqb _ _ n, le-leb 21 q l, lt-leb q 36 h)

  pub asks_group : (q ≡ 20 → ⊥) → 21 ≤ q → q ≤ 36 → interrogated q ≡ Some (Group (q - 20))
  unfolding ◌&◌
  asks_group n l h = simp (ne_eqb _ _ n, le-leb 21 q l, le-leb q 36 h)

  pub chooses_all : q % 64 ≡ 5 → chosen q ≡ Some Every
  chooses_all e = simp (eq-eqb _ _ e)

  pub chooses_none_below : (q % 64 ≡ 5 → ⊥) → q % 64 < 1 → chosen q ≡ None
  unfolding ◌&◌
  chooses_none_below n h = simp (ne_eqb _ _ n, lt-leb 1 (q % 64) h)

  pub chooses_none_above : (q % 64 ≡ 5 → ⊥) → 1 ≤ q % 64 → 4 < q % 64 → chosen q ≡ None
  unfolding ◌&◌
  chooses_none_above n l h = simp (ne_eqb _ _ n, le-leb 1 (q % 64) l, lt-leb (q % 64) 4 h)

  pub chooses_group : (q % 64 ≡ 5 → ⊥) → 1 ≤ q % 64 → q % 64 ≤ 4 → chosen q ≡ Some (CounterGroup (q % 64))
  unfolding ◌&◌
  chooses_group n l h = simp (ne_eqb _ _ n, le-leb 1 (q % 64) l, le-leb (q % 64) 4 h)

  -- What is selected has a cause of six bits.
  pub interrogated_cause : CauseOf (interrogated q) q
  interrogated_cause = by_tests (eqb q 20) refl (leb 21 q & leb q 36) refl
    where
      by_tests : (a : Bool) → eqb q 20 ≡ a → (b : Bool) → leb 21 q & leb q 36 ≡ b → CauseOf (pick a (Some Every) (pick b (Some (Group (q - 20))) None)) q
      by_tests true e b f = let z : q ≡ 20 = eqb-true _ _ e in omega arith
      by_tests false e true f = let z : q ≤ 36 = leb-true _ _ (both (leb 21 q) _ f).1 in omega arith
      by_tests false e false f = tt

  pub chosen_cause : CauseOf (chosen q) (counter_cause q)
  chosen_cause = by_tests (eqb (q % 64) 5) refl (leb 1 (q % 64) & leb (q % 64) 4) refl
    where
      by_tests : (a : Bool) → eqb (q % 64) 5 ≡ a → (b : Bool) → leb 1 (q % 64) & leb (q % 64) 4 ≡ b
          → CauseOf (pick a (Some Every) (pick b (Some (CounterGroup (q % 64))) None)) (pick a 37 (37 + q % 64))
      by_tests true e b f = omega arith
      by_tests false e true f = let z : q % 64 ≤ 4 = leb-true _ _ (both (leb 1 (q % 64)) _ f).1 in omega arith
      by_tests false e false f = tt

-- ---- what each leaves

module _ (m : List ℕ) (o : Octets m) (w : well_formed m ≡ true) (ca q : ℕ) (choice : Choice) where
  -- a table that is left as it was
  unchanged : pick (resets q) (reset_by (table_of m) ca choice) (table_of m) ≡ table_of m → m ≡ with_table (λ t. pick (resets q) (reset_by t ca choice) t) m
  unchanged e = printed m o (passed m w) ∙ ap (holding m (table_of m)) (sym e)

  pub no_action : q / 64 < 2 → m ≡ with_table (λ t. pick (resets q) (reset_by t ca choice) t) m
  no_action h = unchanged (simp (lt-leb 2 (q / 64) h))

  pub none_chosen : choice ≡ None → m ≡ with_table (λ t. pick (resets q) (reset_by t ca choice) t) m
  unfolding reset_by
  none_chosen e = unchanged (ap (λ (x : Choice). pick (resets q) (reset_by (table_of m) ca x) (table_of m)) e ∙ either (resets q))
    where
      either : (b : Bool) → pick b (table_of m) (table_of m) ≡ table_of m
      either true = refl
      either false = refl

  pub some_chosen : (sel : Selection) → choice ≡ Some sel → 2 ≤ q / 64
      → holding m (table_of m) (reset_at (table_of m) ca sel) ≡ with_table (λ t. pick (resets q) (reset_by t ca choice) t) m
  unfolding reset_by
  some_chosen sel e h =
      ap (holding m (table_of m)) (sym (ap (λ (x : Choice). pick (resets q) (reset_by (table_of m) ca x) (table_of m)) e ∙ simp (le-leb 2 (q / 64) h)))
