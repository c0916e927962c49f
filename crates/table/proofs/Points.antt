-- The places of a station's points: what is tested is printed, and what is printed is read back. Assumes nothing.
use mathlib.Core.Path.{◌≡◌, refl, sym, ap, ap₂, ◌∙◌, subst}
use mathlib.Core.List.{List, [], ◌∷◌, ◌++◌}
use mathlib.Core.Bool.{true}
use Prim.Native.Nat.{ℕ, zero, suc, ◌+◌, ◌*◌, ◌/◌, ◌%◌, ◌≤◌}
use native.Mathlib.Omega.{arith}
use native.Mathlib.Nat.{add-zero, add_assoc}
use lib.ListN.{length, take, drop, get_or, replicate, length-append, length-drop, take-append-drop}
use lib.Seq.{drop-cons, get_or-drop, take_all}
use lib.Dec.{leb}
use borrow.Author.Tests.{eqb-true, eq-eqb, le-leb}
use Rattle.limits.specs.Test.{◌&◌}
use Rattle.model.specs.declared.Point.{Point}
use Rattle.octets.specs.Number.{three, twelve, zeros, Octets}
use Rattle.model.specs.Place.{point_at, place_of, valid, point_ok, place_ok, places_ok}
use Rattle.limits.proofs.Tests.{both, join}
use Rattle.table.specs.Table.{rising, places_of}
use Rattle.table.specs.Memory.{points_at}
use Rattle.octets.proofs.At.{At, at_none, at_join, at_fst, at_snd, at_take, zeros_drop, zeros_are}

-- A part of octets is octets.
pub octets_drop : (m : List ℕ) (at : ℕ) → Octets m → Octets (drop at m)
octets_drop m at o i = rw (get_or-drop at m i 0) (o (at + i))

-- n elements from k, spelt out
unfoldable pub gets : ℕ → ℕ → List ℕ → List ℕ
gets k zero v = []
gets k (suc n) v = get_or v k 0 ∷ gets (suc k) n v

-- n elements spelt out are a part of the list.
pub gets_drop : (k n : ℕ) (v : List ℕ) → k + n ≤ length v → gets k n v ≡ take n (drop k v)
unfolding gets
gets_drop k zero v h = refl
gets_drop k (suc n) v h =
    let e : drop k v ≡ get_or v k 0 ∷ drop (suc k) v = drop-cons v k 0 (omega arith) in
    rw e (ap (λ (l : List ℕ). get_or v k 0 ∷ l) (gets_drop (suc k) n v (omega arith)))

twelve_is : (v : List ℕ) → length v ≡ 12 → twelve v 0 ≡ v
unfolding gets
twelve_is v e = gets_drop 0 12 v (omega arith) ∙ take_all 12 v (omega arith)

-- a place is read from the list that starts there
pub at_drop : (m : List ℕ) (at : ℕ) → point_at m at ≡ point_at (drop at m) 0
at_drop m at = simp (get_or-drop, add-zero, add_assoc)

ok_drop : (m : List ℕ) (at ca low : ℕ) → place_ok m at ca low ≡ place_ok (drop at m) 0 ca low
unfolding place_ok
ok_drop m at ca low = simp (get_or-drop, zeros_drop, add-zero, add_assoc)

-- ---- what is tested is printed

place_back : (l : List ℕ) (ca low : ℕ) → 48 ≤ length l → Octets l → place_ok l 0 ca low ≡ true → place_of ca (point_at l 0) ≡ take 48 l
unfolding place_ok gets
place_back l ca low h o t =
    let t1 = both _ _ t in
    let t2 = both _ _ t1.1 in
    let t3 = both _ _ t2.1 in
    let t4 = both _ _ t3.1 in
    let e : get_or l 1 0 + 256 * get_or l 2 0 ≡ ca = eqb-true _ _ t1.0 in
    let e9 : get_or l 9 0 ≡ 0 = eqb-true _ _ t4.0 in
    let z : At l 22 (replicate 26 0) = zeros_are l 22 26 (omega arith) t4.1 in
    let a1 = o 1 in
    let a2 = o 2 in
    let a3 = o 3 in
    let a4 = o 4 in
    let a5 = o 5 in
    let a6 = o 6 in
    let a7 = o 7 in
    let c0 : ca % 256 ≡ get_or l 1 0 = omega arith in
    let c1 : ca / 256 ≡ get_or l 2 0 = omega arith in
    let g0 : (get_or l 6 0 + 256 * get_or l 7 0) % 256 ≡ get_or l 6 0 = omega arith in
    let g1 : (get_or l 6 0 + 256 * get_or l 7 0) / 256 ≡ get_or l 7 0 = omega arith in
    let i0 : (get_or l 3 0 + 256 * (get_or l 4 0 + 256 * get_or l 5 0)) % 256 ≡ get_or l 3 0 = omega arith in
    let q : (get_or l 3 0 + 256 * (get_or l 4 0 + 256 * get_or l 5 0)) / 256 ≡ get_or l 4 0 + 256 * get_or l 5 0 = omega arith in
    let r : (get_or l 4 0 + 256 * get_or l 5 0) % 256 ≡ get_or l 4 0 = omega arith in
    let i1 : (get_or l 3 0 + 256 * (get_or l 4 0 + 256 * get_or l 5 0)) / 256 % 256 ≡ get_or l 4 0 = ap (λ (x : ℕ). x % 256) q ∙ r in
    let i2 : (get_or l 3 0 + 256 * (get_or l 4 0 + 256 * get_or l 5 0)) / 65536 ≡ get_or l 5 0 = omega arith in
    let g : gets 0 22 l ≡ take 22 l = gets_drop 0 22 l (omega arith) in
    let w : take 22 l ++ (replicate 26 0 ++ drop 48 l) ≡ l = ap (λ (x : List ℕ). take 22 l ++ x) (sym z.is) ∙ take-append-drop 22 l in
    let v : gets 0 22 l ++ (replicate 26 0 ++ drop 48 l) ≡ l = ap (λ (x : List ℕ). x ++ (replicate 26 0 ++ drop 48 l)) g ∙ w in
    let y = ap (λ (x : ℕ). take 48 ((gets 0 9 l ++ (x ∷ gets 10 12 l)) ++ (replicate 26 0 ++ drop 48 l))) (sym e9) ∙ ap (take 48) v in
    rw (c0, c1, g0, g1, i0, i1, i2) y

-- A place that passes the test is the place of the point read from it.
pub place_sound : (m : List ℕ) (at ca low : ℕ) → Octets m → at + 48 ≤ length m → place_ok m at ca low ≡ true → At m at (place_of ca (point_at m at))
place_sound m at ca low o h t =
    let l : 48 ≤ length (drop at m) = simp length-drop (omega arith) in
    subst (λ (p : Point). At m at (place_of ca p)) (sym (at_drop m at)) (at_take m (place_of ca (point_at (drop at m) 0)) at (place_back (drop at m) ca low l (octets_drop m at o) (sym (ok_drop m at ca low) ∙ t)))

-- ---- what is printed is read back

here : (ca : ℕ) (p : Point) (Y : List ℕ) → length p.value ≡ 12 → point_at (place_of ca p ++ Y) 0 ≡ p
here ca p Y f =
    let i : p.ioa % 256 + 256 * (p.ioa / 256 % 256 + 256 * (p.ioa / 65536)) ≡ p.ioa = omega arith in
    let g : p.group % 256 + 256 * (p.group / 256) ≡ p.group = omega arith in
    let v : twelve p.value 0 ≡ p.value = twelve_is p.value f in
    λ j. record { kind = p.kind; ioa = i j; group = g j; counter = p.counter; value = v j }

pub place_read : (m : List ℕ) (at ca : ℕ) (p : Point) → length p.value ≡ 12 → At m at (place_of ca p) → point_at m at ≡ p
place_read m at ca p f a = rw (at_drop m at, a.is) (here ca p (drop (at + 48) m) f)

here_spare : (ca : ℕ) (p : Point) (Y : List ℕ) → zeros (place_of ca p ++ Y) 22 26 ≡ true
unfolding zeros ◌&◌
here_spare ca p Y = refl

here_ok : (ca low : ℕ) (p : Point) (Y : List ℕ) → point_at (place_of ca p ++ Y) 0 ≡ p → leb low p.ioa ≡ true → valid p ≡ true
    → place_ok (place_of ca p ++ Y) 0 ca low ≡ true
unfolding place_ok
here_ok ca low p Y f l v =
    let c : ca % 256 + 256 * (ca / 256) ≡ ca = omega arith in
    join (eq-eqb _ _ c) (join (ap (λ (q : Point). leb low q.ioa) f ∙ l) (join (ap valid f ∙ v) (join refl (here_spare ca p Y))))

pub place_ok_lem : (m : List ℕ) (at ca low : ℕ) (p : Point) → length p.value ≡ 12 → leb low p.ioa ≡ true → valid p ≡ true
    → At m at (place_of ca p) → place_ok m at ca low ≡ true
place_ok_lem m at ca low p f l v a =
    ok_drop m at ca low ∙ rw a.is (here_ok ca low p (drop (at + 48) m) (here ca p (drop (at + 48) m) f) l v)

-- ---- the points of a station

-- Each point takes 48 octets.
pub length_places : (ca : ℕ) (ps : List Point) → length (places_of ca ps) ≡ 48 * length ps
unfolding places_of
length_places ca [] = refl
length_places ca (p ∷ ps) = let ih : length (places_of ca ps) ≡ 48 * length ps = length_places ca ps in simp length-append (omega arith)

-- As many points are read as are asked for.
pub length_points_at : (m : List ℕ) (at n : ℕ) → length (points_at m at n) ≡ n
unfolding points_at
length_points_at m at zero = refl
length_points_at m at (suc n) = ap suc (length_points_at m (at + 48) n)

ioa_small : (m : List ℕ) (at : ℕ) → Octets m → three m (at + 3) ≤ 16777215
ioa_small m at o =
    let a = o (at + 3) in
    let b = o (at + 3 + 1) in
    let c = o (at + 3 + 2) in
    omega arith

place_good : (m : List ℕ) (at ca low : ℕ) → Octets m → place_ok m at ca low ≡ true
    → (leb low (three m (at + 3)) ≡ true) × (point_ok (point_at m at) ≡ true)
unfolding place_ok point_ok
place_good m at ca low o t =
    let t2 = both _ _ (both _ _ t).1 in
    (t2.0, join (le-leb _ _ (ioa_small m at o)) (join refl (both _ _ t2.1).0))

-- Places that pass the test are the places of the points read from them, and these rise.
pub points_sound : (m : List ℕ) (at ca low n : ℕ) → Octets m → at + 48 * n ≤ length m → places_ok m at ca low n ≡ true
    → At m at (places_of ca (points_at m at n)) × (rising low (points_at m at n) ≡ true)
unfolding places_ok points_at places_of rising
points_sound m at ca low zero o h t = (at_none m at, refl)
points_sound m at ca low (suc n) o h t =
    let t1 = both _ _ t in
    let a : At m at (place_of ca (point_at m at)) = place_sound m at ca low o (omega arith) t1.0 in
    let ih = points_sound m (at + 48) ca (three m (at + 3) + 1) n o (omega arith) t1.1 in
    let g = place_good m at ca low o t1.0 in
    (at_join a ih.0, join g.0 (join g.1 ih.1))

-- The places of rising points are read back as these points, and pass the test.
pub points_complete : (m : List ℕ) (at ca low : ℕ) (ps : List Point) → At m at (places_of ca ps) → rising low ps ≡ true
    → (points_at m at (length ps) ≡ ps) × (places_ok m at ca low (length ps) ≡ true)
unfolding places_ok points_at places_of rising point_ok
points_complete m at ca low [] a t = (refl, refl)
points_complete m at ca low (p ∷ ps) a t =
    let t1 = both _ _ t in
    let t2 = both _ _ t1.1 in
    let t3 = both _ _ t2.0 in
    let t4 = both _ _ t3.1 in
    let b : At m at (place_of ca p) = at_fst m (place_of ca p) (places_of ca ps) at a in
    let d : At m (at + 48) (places_of ca ps) = at_snd m (place_of ca p) (places_of ca ps) at a in
    let l : length p.value ≡ 12 = eqb-true _ _ t4.0 in
    let e : point_at m at ≡ p = place_read m at ca p l b in
    let k : place_ok m at ca low ≡ true = place_ok_lem m at ca low p l t1.0 t4.1 b in
    let ih = points_complete m (at + 48) ca (p.ioa + 1) ps d t2.1 in
    let i : three m (at + 3) ≡ p.ioa = ap (λ (q : Point). q.ioa) e in
    (ap₂ (λ (q : Point) (l : List Point). q ∷ l) e ih.0, join k (rw i ih.1))
