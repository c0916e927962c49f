-- The sets of types of a report have a chain for each type. Assumes nothing.
use mathlib.Core.Path.{◌≡◌, refl}
use mathlib.Core.List.{List, [], ◌∷◌}
use mathlib.Core.Bool.{Bool, true}
use Prim.Native.Nat.{ℕ}
use lib.Dec.{ltb}
use borrow.Author.Tests.{ltb-true}
use Rattle.limits.specs.Test.{◌&◌}
use Rattle.limits.proofs.Tests.{both}
use Rattle.report.specs.Packing.{Each}
use Rattle.report.specs.Selection.{interrogation_types, counter_types}
use Rattle.output.specs.Data.{Slots}

-- a test for computing
all_slots : List ℕ → Bool
all_slots [] = true
all_slots (k ∷ ks) = (ltb 0 k & ltb k 64) & all_slots ks

slots_are : (ks : List ℕ) → all_slots ks ≡ true → Slots ks
unfolding Slots Each all_slots
slots_are [] e = tt
slots_are (k ∷ ks) e =
    let t = both _ _ e in
    let u = both _ _ t.0 in
    ((ltb-true 0 k u.0, ltb-true k 64 u.1), slots_are ks t.1)

pub interrogation_slots : Slots interrogation_types
unfolding interrogation_types all_slots ◌&◌
interrogation_slots = slots_are interrogation_types refl

pub counter_slots : Slots counter_types
unfolding counter_types all_slots ◌&◌
counter_slots = slots_are counter_types refl
