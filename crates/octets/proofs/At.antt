-- What stands in a memory from a place on, and how that is put together and taken apart. Assumes nothing.
use mathlib.Core.Path.{◌≡◌, refl, sym, ap, ap₂, ◌∙◌, subst}
use mathlib.Core.List.{List, [], ◌∷◌, ◌++◌, append_assoc}
use mathlib.Core.Bool.{Bool, true}
use Prim.Native.Nat.{ℕ, zero, suc, ◌+◌, ◌≤◌, ◌<◌}
use native.Mathlib.Omega.{arith}
use native.Mathlib.Nat.{add-zero, add_assoc, zero-add}
use lib.ListN.{length, take, drop, get_or, replicate, length-append, take-append-drop}
use lib.Seq.{drop-drop, drop-cons, get_or-drop, drop-append_seam}
use lib.Dec.{eqb}
use borrow.Author.Tests.{eqb-true, eq-eqb}
use Rattle.limits.specs.Test.{◌&◌}
use Rattle.octets.specs.Number.{zeros}
use Rattle.limits.proofs.Tests.{both, join}

-- the octets xs stand in m from `at`
pub record At (m : List ℕ) (at : ℕ) (xs : List ℕ) : Type 0 where
  pub is : drop at m ≡ xs ++ drop (at + length xs) m

pub at_here : (xs rest : List ℕ) → At (xs ++ rest) 0 xs
at_here xs rest = record { is = rw zero-add (sym (ap (λ (l : List ℕ). xs ++ l) (drop-append_seam xs rest))) }

pub at_none : (m : List ℕ) (at : ℕ) → At m at []
at_none m at = record { is = rw add-zero }

pub at_join : {m xs ys : List ℕ} {at : ℕ} → At m at xs → At m (at + length xs) ys → At m at (xs ++ ys)
at_join {m} {xs} {ys} {at} a b =
    record { is = a.is ∙ ap (λ (l : List ℕ). xs ++ l) b.is ∙ rw (length-append, append_assoc, add_assoc) }

-- the same, where the length is known
pub at_next : {m xs ys : List ℕ} {at : ℕ} (n : ℕ) → At m at xs → length xs ≡ n → At m (at + n) ys → At m at (xs ++ ys)
at_next {m} {xs} {ys} {at} n a e b = at_join a (subst (λ (k : ℕ). At m (at + k) ys) (sym e) b)

pub at_snd : (m xs ys : List ℕ) (at : ℕ) → At m at (xs ++ ys) → At m (at + length xs) ys
at_snd m xs ys at a =
    let n : ℕ = length xs in
    let e : drop at m ≡ xs ++ (ys ++ drop (at + n + length ys) m) =
    a.is ∙ rw (length-append, append_assoc, add_assoc) in
    record { is = sym (drop-drop n at m) ∙ ap (drop n) e ∙ drop-append_seam xs (ys ++ drop (at + n + length ys) m) }

pub at_rest : (m xs ys : List ℕ) (at n : ℕ) → length xs ≡ n → At m at (xs ++ ys) → At m (at + n) ys
at_rest m xs ys at n e a = subst (λ (k : ℕ). At m (at + k) ys) e (at_snd m xs ys at a)

pub at_fst : (m xs ys : List ℕ) (at : ℕ) → At m at (xs ++ ys) → At m at xs
at_fst m xs ys at a =
    record { is = a.is ∙ append_assoc xs ys (drop (at + length (xs ++ ys)) m) ∙ ap (λ (l : List ℕ). xs ++ l) (rw (length-append, ← add_assoc) (sym (at_snd m xs ys at a).is)) }

pub at_cons : (m xs : List ℕ) (at x : ℕ) → at < length m → get_or m at 0 ≡ x → At m (at + 1) xs → At m at (x ∷ xs)
at_cons m xs at x h e a =
    let n : suc at ≡ at + 1 = omega arith in
    let k : at + 1 + length xs ≡ at + suc (length xs) = omega arith in
    let d : drop (suc at) m ≡ xs ++ drop (at + suc (length xs)) m = ap (λ (i : ℕ). drop i m) n ∙ a.is ∙ ap (λ (i : ℕ). xs ++ drop i m) k in
    record { is = drop-cons m at 0 h ∙ ap₂ (λ (y : ℕ) (l : List ℕ). y ∷ l) e d }

pub at_head : (m xs : List ℕ) (at x : ℕ) → At m at (x ∷ xs) → get_or m at 0 ≡ x
at_head m xs at x a =
    let z : at + 0 ≡ at = omega arith in
    ap (λ (k : ℕ). get_or m k 0) (sym z) ∙ sym (get_or-drop at m 0 0) ∙ ap (λ (l : List ℕ). get_or l 0 0) a.is

pub at_tail : (m xs : List ℕ) (at x : ℕ) → At m at (x ∷ xs) → At m (at + 1) xs
at_tail m xs at x a = at_snd m (x ∷ []) xs at a

-- the octets as a part
pub at_take : (m xs : List ℕ) (at : ℕ) → xs ≡ take (length xs) (drop at m) → At m at xs
at_take m xs at e =
    record { is = sym (take-append-drop (length xs) (drop at m)) ∙ ap₂ (λ (p q : List ℕ). p ++ q) (sym e) (drop-drop (length xs) at m) }

-- ---- zeros

pub zeros_drop : (m : List ℕ) (at k n : ℕ) → zeros (drop at m) k n ≡ zeros m (at + k) n
unfolding zeros
zeros_drop m at k zero = refl
zeros_drop m at k (suc n) = rw (get_or-drop at m k 0) (ap (λ (b : Bool). eqb (get_or m (at + k) 0) 0 & b) (zeros_drop m at (k + 1) n ∙ rw add_assoc))

pub zeros_are : (m : List ℕ) (at n : ℕ) → at + n ≤ length m → zeros m at n ≡ true → At m at (replicate n 0)
unfolding zeros
zeros_are m at zero h e = at_none m at
zeros_are m at (suc n) h e =
    let t = both _ _ e in
    at_cons m (replicate n 0) at 0 (omega arith) (eqb-true _ _ t.0) (zeros_are m (at + 1) n (omega arith) t.1)

pub are_zeros : (m : List ℕ) (at n : ℕ) → At m at (replicate n 0) → zeros m at n ≡ true
unfolding zeros
are_zeros m at zero a = refl
are_zeros m at (suc n) a = join (eq-eqb _ _ (at_head m (replicate n 0) at 0 a)) (are_zeros m (at + 1) n (at_tail m (replicate n 0) at 0 a))
