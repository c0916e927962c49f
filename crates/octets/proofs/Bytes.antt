-- Numbers as the library reads them from octets and writes them to octets, low octet first. Assumes nothing.
use mathlib.Core.Path.{◌≡◌, refl, sym, ap, ◌∙◌}
use mathlib.Core.List.{List, [], ◌∷◌, ◌++◌}
use Prim.Native.Nat.{ℕ, zero, suc, ◌+◌, ◌*◌, ◌-◌, ◌/◌, ◌%◌, ◌^◌, ◌≤◌, ◌<◌}
use native.Mathlib.Omega.{arith}
use Rattle.std.proofs.lemmas.List.{drop-replicate}
use native.Mathlib.Nat.{div-lt_iff_lt-mul, mod-eq_of_lt, pow-suc, pow-succ'}
use lib.ListN.{length, take, drop, get_or, replicate, length-replicate, length-take, length-drop, length-append}
use lib.Seq.{drop-cons, take_all}
use Rattle.std.specs.Int.{w64, from_le_bytes, to_le_bytes, bytes_low_first}
use Rattle.octets.specs.Number.{Octets, number, number_of, number_on, octets_of, octets_on, power, twelve, eight}
use Rattle.octets.proofs.Limit.{eight_number}

-- ---- reading

-- a list of octets as a number
unfoldable value : List ℕ → ℕ
value [] = 0
value (x ∷ xs) = x + 256 * value xs

value_at : (m : List ℕ) (at n : ℕ) → at + n ≤ length m → value (take n (drop at m)) ≡ number m at n
unfolding value number
value_at m at zero h = refl
value_at m at (suc n) h =
    let i : suc at ≡ at + 1 = omega arith in
    ap (λ (l : List ℕ). value (take (suc n) l)) (drop-cons m at 0 (omega arith))
    ∙ ap (λ (y : ℕ). get_or m at 0 + 256 * y) (value_at m (suc at) n (omega arith) ∙ ap (λ (k : ℕ). number m k n) i)

value_zeros : (k : ℕ) → value (replicate k 0) ≡ 0
unfolding value
value_zeros zero = refl
value_zeros (suc k) = let e = value_zeros k in omega arith

value_padded : (xs : List ℕ) (k : ℕ) → value (xs ++ replicate k 0) ≡ value xs
unfolding value
value_padded [] k = value_zeros k
value_padded (x ∷ xs) k = ap (λ (y : ℕ). x + 256 * y) (value_padded xs k)

-- what the library reads from eight octets
read_eight : (l : List ℕ) → length l ≡ 8 → from_le_bytes w64 l ≡ value l
unfolding number
read_eight l e =
    let p : from_le_bytes w64 l ≡ number l 0 8 = omega arith in
    p ∙ sym (value_at l 0 8 (omega arith)) ∙ ap value (take_all 8 l (omega arith))

number_below : (m : List ℕ) → Octets m → (at n : ℕ) → number m at n < power n
unfolding number
number_below m o at zero = omega arith
number_below m o at (suc n) = let h = number_below m o (at + 1) n in let x = o at in omega arith

number_on_is : (m : List ℕ) (at k n : ℕ) → number_on m at k n ≡ number m (at + k) (suc n)
unfolding number
number_on_is m at k zero = omega arith
number_on_is m at k (suc n) =
    let i : at + suc k ≡ at + k + 1 = omega arith in
    ap (λ (y : ℕ). get_or m (at + k) 0 + 256 * y) (number_on_is m at (suc k) n ∙ ap (λ (j : ℕ). number m j (suc n)) i)

pub number_is : (m : List ℕ) (at n : ℕ) → number_of n m at ≡ number m at n
unfolding number
number_is m at zero = refl
number_is m at (suc zero) = omega arith
number_is m at (suc (suc n)) = ap (λ (y : ℕ). get_or m at 0 + 256 * y) (number_on_is m at 1 n)

pub zeros_left : (n : ℕ) → n ≤ 8 → drop n (replicate {A = ℕ} 8 0) ≡ replicate {A = ℕ} (8 - n) 0
zeros_left n h = drop-replicate {X = ℕ} n 8 0

pub eight_is : (m : List ℕ) (at : ℕ) → number_of 8 m at ≡ eight m at
eight_is m at = number_is m at 8 ∙ sym (eight_number m at)

-- n octets, with zeros up to eight, as the library reads them
pub read_part : (m : List ℕ) → Octets m → (at n r : ℕ) (xs zs : List ℕ) → n ≤ 8 → at + n ≤ length m → xs ≡ take n (drop at m) → zs ≡ replicate (8 - n) 0
    → r ≡ from_le_bytes w64 (xs ++ zs) → (r ≡ number_of n m at) × (r < power n)
read_part m o at n r xs zs i h e z f =
    let j : length zs ≡ 8 - n = ap length z ∙ length-replicate {A = ℕ} (8 - n) 0 in
    let k : length xs ≡ n = rw (e, length-take, length-drop) (omega arith) in
    let l : length (xs ++ zs) ≡ 8 = simp length-append (omega arith) in
    let p : r ≡ number m at n =
    f ∙ read_eight (xs ++ zs) l ∙ ap (λ (t : List ℕ). value (xs ++ t)) z ∙ value_padded xs (8 - n) ∙ ap value e ∙ value_at m at n h in
    let q = number_below m o at n in
    (p ∙ sym (number_is m at n), omega arith)

-- ---- octets by value

unfoldable octets_past : List ℕ → ℕ → ℕ → ℕ → List ℕ
octets_past m at k zero = []
octets_past m at k (suc n) = get_or m (at + k) 0 ∷ octets_past m at (suc k) n

past_is : (m : List ℕ) (at k n : ℕ) → at + k + n ≤ length m → take n (drop (at + k) m) ≡ octets_past m at k n
unfolding octets_past
past_is m at k zero h = refl
past_is m at k (suc n) h =
    let i : suc (at + k) ≡ at + suc k = omega arith in
    ap (take (suc n)) (drop-cons m (at + k) 0 (omega arith))
    ∙ ap (λ (l : List ℕ). get_or m (at + k) 0 ∷ l) (ap (λ (j : ℕ). take n (drop j m)) i ∙ past_is m at (suc k) n (omega arith))

-- twelve octets copied out
pub twelve_is : (m xs : List ℕ) (at k : ℕ) → at + 12 ≤ length m → k ≡ 12 → xs ≡ take k (drop at m) → xs ≡ twelve m at
unfolding octets_past
twelve_is m xs at k h e f =
    let i : suc at ≡ at + 1 = omega arith in
    f
    ∙ ap (λ (n : ℕ). take n (drop at m)) e
    ∙ ap (take 12) (drop-cons m at 0 (omega arith))
    ∙ ap (λ (l : List ℕ). get_or m at 0 ∷ l) (ap (λ (j : ℕ). take 11 (drop j m)) i ∙ past_is m at 1 11 (omega arith))

-- ---- writing

pow_positive : (j : ℕ) → 0 < 256 ^ j
pow_positive zero = omega arith
pow_positive (suc j) = let h = pow_positive j in rw (pow-suc 256 j) (omega arith)

written_on : (v j k n : ℕ) → n ≤ k → v < 256 ^ suc j * power (suc n) → take (suc n) (bytes_low_first (suc j) (suc k) v) ≡ octets_on v (256 ^ suc j) n
written_on v j k zero h b =
    let e : v / 256 ^ suc j < 256 = (div-lt_iff_lt-mul (pow_positive (suc j))).1 (omega arith) in
    ap (λ (x : ℕ). x ∷ []) (mod-eq_of_lt e)
written_on v j zero (suc n) h b = absurd (omega arith)
written_on v j (suc k) (suc n) h b =
    let e : 256 ^ suc (suc j) ≡ 256 * 256 ^ suc j = pow-succ' 256 (suc j) in
    ap (λ (l : List ℕ). v / 256 ^ suc j % 256 ∷ l) (written_on v (suc j) k n (omega arith) (rw e (omega arith)) ∙ ap (λ (p : ℕ). octets_on v p n) e)

-- n octets of a number that they hold, as the library writes it
pub written : (n v : ℕ) → n ≤ 8 → v < power n → take n (to_le_bytes w64 v) ≡ octets_of n v
written zero v h k = refl
written (suc zero) v h k = let e : v % 256 ≡ v = omega arith in λ j. e j ∷ []
written (suc (suc n)) v h k = ap (λ (l : List ℕ). v % 256 ∷ l) (written_on v 0 6 n (omega arith) (omega arith))
