-- The test for zeros: octet by octet, by the bit OR of octets, and part by part. Assumes nothing.
use mathlib.Core.Path.{◌≡◌, refl, sym, ap, ◌∙◌}
use mathlib.Core.List.{List}
use mathlib.Core.Bool.{Bool, true, false}
use Prim.Native.Nat.{ℕ, zero, suc, ◌+◌, ◌≤◌}
use native.Mathlib.Omega.{arith}
use lib.ListN.{length, take, drop, get_or}
use lib.Seq.{drop-cons}
use Rattle.std.specs.List.{fold}
use lib.Dec.{eqb}
use lib.Bits.{bit_or, bit_and, or_add_and, and_le_r}
use borrow.Author.Tests.{eqb-true, eqb-false, ne_eqb}
use Rattle.limits.specs.Test.{◌&◌}
use Rattle.octets.specs.Number.{zeros}

or_left : (x y : ℕ) → bit_or x y ≡ 0 → x ≡ 0
or_left x y e =
    let p : bit_or x y + bit_and x y ≡ x + y = or_add_and x y in
    let r : bit_and x y ≤ y = and_le_r x y in
    omega arith

-- an OR is zero exactly if both are
pub or_zero : (x y : ℕ) → eqb (bit_or x y) 0 ≡ (eqb x 0 & eqb y 0)
unfolding ◌&◌
or_zero x y = go (eqb x 0) refl
  where
    go : (b : Bool) → eqb x 0 ≡ b → eqb (bit_or x y) 0 ≡ (b & eqb y 0)
    go true e = ap (λ (z : ℕ). eqb (bit_or z y) 0) (eqb-true x 0 e)
    go false e = ne_eqb (bit_or x y) 0 (λ q. eqb-false x 0 e (or_left x y q))

pub and_assoc : (a b c : Bool) → ((a & b) & c) ≡ (a & (b & c))
unfolding ◌&◌
and_assoc true b c = refl
and_assoc false b c = refl

pub and_true : (a : Bool) → (a & true) ≡ a
unfolding ◌&◌
and_true true = refl
and_true false = refl

-- the OR of a number and a run of octets is zero exactly if all of them are
any_from : (m : List ℕ) (x at n : ℕ) → at + n ≤ length m → eqb (fold bit_or x (take n (drop at m))) 0 ≡ (eqb x 0 & zeros m at n)
unfolding zeros
any_from m x at zero h = sym (and_true (eqb x 0))
any_from m x at (suc n) h =
    let y : ℕ = get_or m at 0 in
    let i : at + 1 ≡ suc at = omega arith in
    let p : eqb (fold bit_or (bit_or x y) (take n (drop (suc at) m))) 0 ≡ (eqb (bit_or x y) 0 & zeros m (suc at) n) =
    any_from m (bit_or x y) (suc at) n (omega arith) in
    ap (λ (l : List ℕ). eqb (fold bit_or x (take (suc n) l)) 0) (drop-cons m at 0 (omega arith))
    ∙ p
    ∙ ap (λ (b : Bool). b & zeros m (suc at) n) (or_zero x y)
    ∙ and_assoc (eqb x 0) (eqb y 0) (zeros m (suc at) n)
    ∙ ap (λ (k : ℕ). eqb x 0 & (eqb y 0 & zeros m k n)) (sym i)

-- the same from nothing, as the code counts
pub any_zero : (m : List ℕ) (x at n k : ℕ) → at + n ≤ length m → k ≡ n → x ≡ fold bit_or 0 (take k (drop at m)) → eqb x 0 ≡ zeros m at n
unfolding ◌&◌
any_zero m x at n k h e f = rw (f, e) (any_from m 0 at n h)

-- zeros in two parts, one after the other
pub zeros_split : (m : List ℕ) (at n k : ℕ) → zeros m at (n + k) ≡ (zeros m at n & zeros m (at + n) k)
unfolding zeros ◌&◌
zeros_split m at zero k =
    let z : 0 + k ≡ k = omega arith in
    let i : at ≡ at + 0 = omega arith in
    ap (zeros m at) z ∙ ap (λ (j : ℕ). zeros m j k) i
zeros_split m at (suc n) k =
    let i : at + 1 + n ≡ at + suc n = omega arith in
    let j : suc n + k ≡ suc (n + k) = omega arith in
    ap (zeros m at) j
    ∙ ap (λ (b : Bool). eqb (get_or m at 0) 0 & b) (zeros_split m (at + 1) n k ∙ ap (λ (j : ℕ). zeros m (at + 1) n & zeros m j k) i)
    ∙ sym (and_assoc (eqb (get_or m at 0) 0) (zeros m (at + 1) n) (zeros m (at + suc n) k))
