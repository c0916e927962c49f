-- Objects read from octets: how many they are, and that written again they are the same octets. Assumes nothing.
use mathlib.Core.Path.{◌≡◌, refl, sym, ap, ap₂, ◌∙◌}
use mathlib.Core.List.{List, [], ◌∷◌, ◌++◌, append_assoc}
use Prim.Native.Nat.{ℕ, zero, suc, ◌+◌, ◌*◌, ◌-◌, ◌/◌, ◌%◌, ◌≤◌, ◌<◌}
use native.Mathlib.Omega.{arith}
use native.Mathlib.Nat.{zero-mul, suc-mul, add-zero, not-suc-le-zero, div-add-mod'}
use lib.ListN.{length, take, drop, length-append, length-take, length-drop}
use lib.Seq.{take-add, take_all, take_at, drop_at, get_or-drop}
use Rattle.octets.specs.Number.{Octets, three, triple}
use Rattle.asdu.specs.Joined.{joined}
use Rattle.asdu.specs.Header.{Object, object_octets}
use Rattle.asdu.specs.Confirmation.{object_in, objects_in, objects_of}
use Rattle.asdu.proofs.Laws.{length_object}

-- ---- three octets

three_front : (xs : List ℕ) → Octets xs → 3 ≤ length xs → triple (three xs 0) ≡ take 3 xs
three_front [] o h = absurd (not-suc-le-zero h)
three_front (x ∷ []) o h = let z : ⊥ = omega arith in absurd z
three_front (x ∷ y ∷ []) o h = let z : ⊥ = omega arith in absurd z
three_front (x ∷ y ∷ z ∷ xs) o h =
    let a = o 0 in
    let b = o 1 in
    let c = o 2 in
    let e0 : (x + 256 * (y + 256 * z)) % 256 ≡ x = omega arith in
    let q : (x + 256 * (y + 256 * z)) / 256 ≡ y + 256 * z = omega arith in
    let r : (y + 256 * z) % 256 ≡ y = omega arith in
    let e1 : (x + 256 * (y + 256 * z)) / 256 % 256 ≡ y = ap (λ (n : ℕ). n % 256) q ∙ r in
    let e2 : (x + 256 * (y + 256 * z)) / 65536 ≡ z = omega arith in
    λ i. e0 i ∷ e1 i ∷ e2 i ∷ []

-- what follows octets in a memory of octets
pub octets_drop : (m : List ℕ) (k : ℕ) → Octets m → Octets (drop k m)
octets_drop m k o i = rw (get_or-drop k m i 0) (o (k + i))

three_here : (m : List ℕ) (at : ℕ) → three m at ≡ three (drop at m) 0
three_here m at = simp (get_or-drop, add-zero)

-- three octets read as a number and written again
pub three_again : (m : List ℕ) (at : ℕ) → Octets m → at + 3 ≤ length m → triple (three m at) ≡ take 3 (drop at m)
three_again m at o h = ap triple (three_here m at) ∙ three_front (drop at m) (octets_drop m at o) (simp length-drop (omega arith))

-- ---- how many

-- THE COUNT of objects that are read is the number asked for
pub objects_count : (e n : ℕ) (xs : List ℕ) → length (objects_in e n xs) ≡ n
unfolding objects_in
objects_count e zero xs = refl
objects_count e (suc n) xs = ap suc (objects_count e n (drop (3 + e) xs))

pub whole_count : (e : ℕ) (xs : List ℕ) → length (objects_of e xs) ≡ length xs / (3 + e)
unfolding objects_of
whole_count e xs = objects_count e (length xs / (3 + e)) xs

-- their octets
pub length_objects : (e n : ℕ) (xs : List ℕ) → n * (3 + e) ≤ length xs → length (joined object_octets (objects_in e n xs)) ≡ n * (3 + e)
unfolding objects_in joined object_octets
length_objects e zero xs h = sym (zero-mul (3 + e))
length_objects e (suc n) xs h =
    let s : suc n * (3 + e) ≡ n * (3 + e) + (3 + e) = suc-mul n (3 + e) in
    let d : length (drop (3 + e) xs) ≡ length xs - (3 + e) = length-drop (3 + e) xs in
    let r : length (joined object_octets (objects_in e n (drop (3 + e) xs))) ≡ n * (3 + e) = length_objects e n (drop (3 + e) xs) (omega arith) in
    simp (length-append, length-take, length-drop) (omega arith)

-- ---- written and read back

-- an object whose address fits three octets, its element of e octets
abbrev pub Readable : ℕ → Object → Type 0
Readable e x = (x.ioa < 16777216) × (length x.element ≡ e)

object_in_back : (e : ℕ) (x : Object) (rest : List ℕ) → Readable e x → object_in e (object_octets x ++ rest) ≡ x
unfolding object_octets
object_in_back e x rest h =
    let n : three (triple x.ioa ++ x.element ++ rest) 0 ≡ x.ioa = omega (arith, h.0) in
    let t : take e (x.element ++ rest) ≡ x.element = take_at x.element rest e h.1 in
    λ j. record { ioa = n j; element = t j }

unfoldable pub AllReadable : ℕ → List Object → Type 0
AllReadable e [] = Unit
AllReadable e (x ∷ xs) = Readable e x × AllReadable e xs

-- OBJECTS that were written are read back, whatever follows them
pub objects_back : (e : ℕ) (xs : List Object) (rest : List ℕ) → AllReadable e xs → objects_in e (length xs) (joined object_octets xs ++ rest) ≡ xs
unfolding objects_in joined AllReadable
objects_back e [] rest h = refl
objects_back e (x ∷ xs) rest h =
    let A : List ℕ = object_octets x in
    let R : List ℕ = joined object_octets xs ++ rest in
    let s : A ++ joined object_octets xs ++ rest ≡ A ++ R = append_assoc A (joined object_octets xs) rest in
    let l : length A ≡ 3 + e = length_object x ∙ ap (λ (k : ℕ). 3 + k) h.0.1 in
    let d : drop (3 + e) (A ++ R) ≡ R = drop_at A R (3 + e) l in
    ap (objects_in e (suc (length xs))) s
    ∙ ap₂ (λ (y : Object) (ys : List Object). y ∷ ys) (object_in_back e x R h.0) (ap (objects_in e (length xs)) d ∙ objects_back e xs rest h.1)

-- ---- written again

-- one object
pub object_again : (e : ℕ) (xs : List ℕ) → Octets xs → 3 + e ≤ length xs → object_octets (object_in e xs) ≡ take (3 + e) xs
unfolding object_octets
object_again e xs o h = ap (λ (l : List ℕ). l ++ take e (drop 3 xs)) (three_front xs o (omega arith)) ∙ sym (take-add 3 e xs)

-- objects that were read are written as they lay
pub objects_again : (e n : ℕ) (xs : List ℕ) → Octets xs → n * (3 + e) ≤ length xs → joined object_octets (objects_in e n xs) ≡ take (n * (3 + e)) xs
unfolding objects_in joined
objects_again e zero xs o h = let z : 0 * (3 + e) ≡ 0 = zero-mul (3 + e) in rw z
objects_again e (suc n) xs o h =
    let s : suc n * (3 + e) ≡ n * (3 + e) + (3 + e) = suc-mul n (3 + e) in
    let t : suc n * (3 + e) ≡ (3 + e) + n * (3 + e) = omega arith in
    let d : length (drop (3 + e) xs) ≡ length xs - (3 + e) = length-drop (3 + e) xs in
    ap₂ (λ (x y : List ℕ). x ++ y) (object_again e xs o (omega arith)) (objects_again e n (drop (3 + e) xs) (octets_drop xs (3 + e) o) (omega arith))
    ∙ sym (take-add (3 + e) (n * (3 + e)) xs)
    ∙ ap (λ (k : ℕ). take k xs) (sym t)

-- A RUN of whole objects, read and written again, is the same octets
pub whole_again : (e n : ℕ) (xs : List ℕ) → Octets xs → length xs ≡ n * (3 + e) → joined object_octets (objects_in e n xs) ≡ xs
whole_again e n xs o h = objects_again e n xs o (omega arith) ∙ take_all (n * (3 + e)) xs (omega arith)

pub run_again : (e : ℕ) (xs : List ℕ) → Octets xs → length xs % (3 + e) ≡ 0 → joined object_octets (objects_of e xs) ≡ xs
unfolding objects_of
run_again e xs o h = let d = div-add-mod' (length xs) (3 + e) in whole_again e (length xs / (3 + e)) xs o (omega arith)
