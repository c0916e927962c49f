-- Octets compared as numbers: a number of octets is below 256 to the e exactly if the octets from e on are zero. Assumes nothing.
use mathlib.Core.Path.{◌≡◌, refl, sym, ap, ◌∙◌}
use mathlib.Core.List.{List}
use mathlib.Core.Bool.{Bool, true, false}
use Prim.Native.Nat.{ℕ, zero, suc, ◌+◌, ◌*◌, ◌-◌, ◌≤◌, ◌<◌}
use native.Mathlib.Omega.{arith}
use lib.ListN.{get_or}
use lib.Dec.{eqb, ltb}
use borrow.Author.Tests.{eqb-true, eqb-false, eq-eqb, ne_eqb, lt-ltb, le-ltb, ltb-true, ltb-false}
use Rattle.limits.specs.Test.{◌&◌}
use Rattle.octets.specs.Number.{Octets, four, eight, zeros, number, power}

-- a number is zero exactly if its octets are
pub number_zero : (m : List ℕ) (at n : ℕ) → eqb (number m at n) 0 ≡ zeros m at n
unfolding number zeros ◌&◌
number_zero m at zero = refl
number_zero m at (suc n) = go (get_or m at 0) (number m (at + 1) n) (eqb (get_or m at 0) 0) refl ∙ ap (λ (b : Bool). eqb (get_or m at 0) 0 & b) (number_zero m (at + 1) n)
  where
    low : (x y : ℕ) (b : Bool) → eqb y 0 ≡ b → x ≡ 0 → eqb (x + 256 * y) 0 ≡ b
    low x y true q z = let w : y ≡ 0 = eqb-true _ _ q in eq-eqb (x + 256 * y) 0 (omega arith)
    low x y false q z = let w : y ≡ 0 → ⊥ = eqb-false _ _ q in ne_eqb (x + 256 * y) 0 (λ t. w (omega arith))

    go : (x y : ℕ) (b : Bool) → eqb x 0 ≡ b → eqb (x + 256 * y) 0 ≡ (b & eqb y 0)
    go x y true e = low x y (eqb y 0) refl (eqb-true x 0 e)
    go x y false e = let z : x ≡ 0 → ⊥ = eqb-false x 0 e in ne_eqb (x + 256 * y) 0 (λ t. z (omega arith))

pub power_positive : (e : ℕ) → 0 < power e
power_positive zero = omega arith
power_positive (suc e) = let z = power_positive e in omega arith

below_one : (x : ℕ) → ltb x 1 ≡ eqb x 0
below_one x = go (eqb x 0) refl
  where
    go : (b : Bool) → eqb x 0 ≡ b → ltb x 1 ≡ b
    go true q = let w : x ≡ 0 = eqb-true _ _ q in lt-ltb x 1 (omega arith)
    go false q = let w : x ≡ 0 → ⊥ = eqb-false _ _ q in le-ltb x 1 (omega arith)

below_step : (x y p : ℕ) → x < 256 → ltb (x + 256 * y) (256 * p) ≡ ltb y p
below_step x y p h = go (ltb y p) refl
  where
    go : (b : Bool) → ltb y p ≡ b → ltb (x + 256 * y) (256 * p) ≡ b
    go true q = let w : y < p = ltb-true _ _ q in lt-ltb (x + 256 * y) (256 * p) (omega arith)
    go false q = let w : p ≤ y = ltb-false _ _ q in le-ltb (x + 256 * y) (256 * p) (omega arith)

-- the limit
pub below_power : (m : List ℕ) → Octets m → (e at n : ℕ) → ltb (number m at n) (power e) ≡ zeros m (at + e) (n - e)
unfolding number zeros
below_power m o zero at n =
    let i : at ≡ at + 0 = omega arith in
    let k : n ≡ n - 0 = omega arith in
    below_one (number m at n) ∙ number_zero m at n ∙ (λ j. zeros m (i j) (k j))
below_power m o (suc e) at zero =
    let k : 0 - suc e ≡ 0 = omega arith in
    lt-ltb 0 (256 * power e) (let z = power_positive e in omega arith) ∙ ap (zeros m (at + suc e)) (sym k)
below_power m o (suc e) at (suc n) =
    let i : at + 1 + e ≡ at + suc e = omega arith in
    let k : n - e ≡ suc n - suc e = omega arith in
    below_step (get_or m at 0) (number m (at + 1) n) (power e) (o at) ∙ below_power m o e (at + 1) n ∙ (λ j. zeros m (i j) (k j))

pub four_number : (m : List ℕ) (at : ℕ) → four m at ≡ number m at 4
unfolding number
four_number m at =
    let a : at + 1 + 1 ≡ at + 2 = omega arith in
    let b : at + 1 + 1 + 1 ≡ at + 3 = omega arith in
    let p : number m at 4 ≡ get_or m at 0 + 256 * (get_or m (at + 1) 0 + 256 * (get_or m (at + 2) 0 + 256 * (get_or m (at + 3) 0 + 0))) =
    λ j. get_or m at 0 + 256 * (get_or m (at + 1) 0 + 256 * (get_or m (a j) 0 + 256 * (get_or m (b j) 0 + 0))) in
    omega arith

-- a number in two parts
number_join : (m : List ℕ) (at k : ℕ) → number m at (suc (suc (suc (suc k)))) ≡ number m at 4 + 4294967296 * number m (at + 4) k
unfolding number
number_join m at k =
    let d : at + 1 + 1 + 1 + 1 ≡ at + 4 = omega arith in
    let p : number m (at + 1 + 1 + 1 + 1) k ≡ number m (at + 4) k = ap (λ (i : ℕ). number m i k) d in
    omega arith

pub eight_number : (m : List ℕ) (at : ℕ) → eight m at ≡ number m at 8
eight_number m at =
    let a : four m at ≡ number m at 4 = four_number m at in
    let b : four m (at + 4) ≡ number m (at + 4) 4 = four_number m (at + 4) in
    let c : number m at 8 ≡ number m at 4 + 4294967296 * number m (at + 4) 4 = number_join m at 4 in
    (λ j. a j + 4294967296 * b j) ∙ sym c
