-- How `◌&◌` is taken apart and put together, and how a sum over a list goes over joined lists. Assumes nothing.
use mathlib.Core.Path.{◌≡◌, refl}
use mathlib.Core.List.{List, [], ◌∷◌, ◌++◌}
use mathlib.Core.Bool.{Bool, true, false}
use Prim.Native.Nat.{ℕ, ◌+◌}
use native.Mathlib.Omega.{arith}
use Rattle.limits.specs.Test.{◌&◌, total}

pub both : (a b : Bool) → (a & b) ≡ true → (a ≡ true) × (b ≡ true)
unfolding ◌&◌
both true b e = (refl, e)
both false b e = let z : ◌≡◌ {A = ℕ} 0 1 = cc in absurd (omega arith)

pub join : {a b : Bool} → a ≡ true → b ≡ true → (a & b) ≡ true
unfolding ◌&◌
join e f = simp (e, f)

pub total_append : {A : Type 0} (f : A → ℕ) (xs ys : List A) → total f (xs ++ ys) ≡ total f xs + total f ys
unfolding total
total_append f [] ys = omega arith
total_append f (x ∷ xs) ys = let ih : total f (xs ++ ys) ≡ total f xs + total f ys = total_append f xs ys in omega arith
