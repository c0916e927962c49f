-- Halving finds what the plain search of a rising list finds: below a place all IOAs are lower, from it on none is. Assumes nothing.
use mathlib.Core.Path.{◌≡◌, refl, sym, ap, ◌∙◌}
use mathlib.Core.List.{List, [], ◌∷◌}
use mathlib.Core.Bool.{Bool, true, false}
use mathlib.Core.Option.{Option, some}
use Prim.Native.Nat.{ℕ, zero, suc, ◌+◌, ◌*◌, ◌-◌, ◌/◌, ◌≤◌, ◌<◌}
use native.Mathlib.Omega.{arith}
use lib.ListN.{length}
use lib.Dec.{leb, ltb, eqb}
use borrow.Author.Tests.{leb-true, leb-false, ltb-true, ltb-false, eqb-true, eqb-false, ne_eqb}
use Rattle.std.specs.Prelude.{Ok, Err}
use Rattle.limits.specs.Test.{◌&◌, pick}
use Rattle.limits.proofs.Tests.{both}
use Rattle.octets.specs.Number.{three}
use Rattle.model.specs.declared.Point.{Point}
use Rattle.model.specs.Place.{point_at}
use Rattle.table.specs.Table.{rising}
use Rattle.table.specs.Memory.{points_at}
use Rattle.table.proofs.Points.{length_points_at}
use Rattle.table.specs.Change.{seek_in, known, point_in}
use Rattle.lookup.specs.Find.{spot_in, ioa_at, Bounds, narrowed, halve, spot_at, find_at}
use Rattle.lookup.proofs.Walk.{nearer, missing_end, missing_at, held_at_lem}

-- ---- halving, on numbers

-- below j the numbers are below x, from j up to n they are not
pub record Parted (key : ℕ → ℕ) (x j n : ℕ) : Type 0 where
  pub under : (i : ℕ) → i < j → key i < x
  pub over : (i : ℕ) → j ≤ i → i < n → x ≤ key i

-- the bounds around j after a turn
record Around (j : ℕ) (b : Bounds) : Type 0 where
  from : b.low ≤ j
  to : j ≤ b.high

around : (key : ℕ → ℕ) (x j n low high : ℕ) → Parted key x j n → low ≤ j → j ≤ high → high ≤ n → low < high → Around j (narrowed key x low high)
unfolding narrowed
around key x j n low high p a b h l = by_tests (ltb (key ((low + high) / 2)) x) refl (ltb ((low + high) / 2) j) refl
  where
    by_tests : (t : Bool) → ltb (key ((low + high) / 2)) x ≡ t → (u : Bool) → ltb ((low + high) / 2) j ≡ u
        → Around j (pick t (record { low = (low + high) / 2 + 1; high = high }) (record { low = low; high = (low + high) / 2 }))
    by_tests true e true f = let g : (low + high) / 2 < j = ltb-true _ _ f in record { from = omega arith; to = b }
    by_tests true e false f =
        let g : j ≤ (low + high) / 2 = ltb-false _ _ f in
        let k : key ((low + high) / 2) < x = ltb-true _ _ e in
        let c : x ≤ key ((low + high) / 2) = p.over ((low + high) / 2) g (omega arith) in
        absurd (omega arith)
    by_tests false e true f =
        let g : (low + high) / 2 < j = ltb-true _ _ f in
        let k : x ≤ key ((low + high) / 2) = ltb-false _ _ e in
        let c : key ((low + high) / 2) < x = p.under ((low + high) / 2) g in
        absurd (omega arith)
    by_tests false e false f = record { from = a; to = ltb-false _ _ f }

-- Halving finds the number that parts them.
pub halve_finds : (key : ℕ → ℕ) (x j n : ℕ) → Parted key x j n → (turns low high : ℕ) → low ≤ j → j ≤ high → high ≤ n → high - low ≤ turns → halve key x low high turns ≡ j
unfolding halve
halve_finds key x j n p zero low high a b h l = omega arith
halve_finds key x j n p (suc turns) low high a b h l =
    by_test (ltb low high) refl
    (λ less.
    let r = around key x j n low high p a b h less in
    let q = nearer key x low high less in
    let to = q.to in
    let nearer-by = q.less in
    halve_finds key x j n p turns (narrowed key x low high).low (narrowed key x low high).high r.from r.to (omega arith) (omega arith))
  where
    by_test : (t : Bool) → ltb low high ≡ t → (low < high → halve key x (narrowed key x low high).low (narrowed key x low high).high turns ≡ j)
        → pick t (halve key x (narrowed key x low high).low (narrowed key x low high).high turns) low ≡ j
    by_test true e again = again (ltb-true _ _ e)
    by_test false e again = let g : high ≤ low = ltb-false _ _ e in omega arith

-- the bounds of what halving finds, whatever the numbers
pub halve_le : (key : ℕ → ℕ) (x turns low high : ℕ) → low ≤ high → halve key x low high turns ≤ high
unfolding halve
halve_le key x zero low high h = h
halve_le key x (suc turns) low high h =
    by_test (ltb low high) refl
    (λ less.
    let q = nearer key x low high less in
    let to = q.to in
    let ih = halve_le key x turns (narrowed key x low high).low (narrowed key x low high).high q.order in
    omega arith)
  where
    by_test : (t : Bool) → ltb low high ≡ t → (low < high → halve key x (narrowed key x low high).low (narrowed key x low high).high turns ≤ high)
        → pick t (halve key x (narrowed key x low high).low (narrowed key x low high).high turns) low ≤ high
    by_test true e again = again (ltb-true _ _ e)
    by_test false e again = h

-- ---- the IOAs of a station's places

ioa_next : (m : List ℕ) (at i : ℕ) → ioa_at m at (suc i) ≡ ioa_at m (at + 48) i
unfolding ioa_at
ioa_next m at i = let e : at + 48 * suc i + 3 ≡ at + 48 + 48 * i + 3 = omega arith in ap (three m) e

ioa_here : (m : List ℕ) (at : ℕ) → ioa_at m at 0 ≡ three m (at + 3)
unfolding ioa_at
ioa_here m at = let e : at + 48 * 0 + 3 ≡ at + 3 = omega arith in ap (three m) e

-- rising: none is below the first bound
none_below : (m : List ℕ) (at low n : ℕ) → rising low (points_at m at n) ≡ true → (i : ℕ) → i < n → low ≤ ioa_at m at i
unfolding rising points_at
none_below m at low zero r i h = absurd (omega arith)
none_below m at low (suc n) r zero h = let e = ioa_here m at in let l : low ≤ three m (at + 3) = leb-true _ _ (both _ _ r).0 in omega arith
none_below m at low (suc n) r (suc i) h =
    let t = both _ _ r in
    let e = ioa_next m at i in
    let l : low ≤ three m (at + 3) = leb-true _ _ t.0 in
    let ih : three m (at + 3) + 1 ≤ ioa_at m (at + 48) i = none_below m (at + 48) (three m (at + 3) + 1) n (both _ _ t.1).1 i (omega arith) in
    omega arith

under_seek : (m : List ℕ) (at ioa n i : ℕ) → i < seek_in ioa (points_at m at n) → ioa_at m at i < ioa
unfolding seek_in points_at
under_seek m at ioa zero i h = absurd (omega arith)
under_seek m at ioa (suc n) i h = by_test (leb ioa (three m (at + 3))) refl i h (λ j. under_seek m (at + 48) ioa n j)
  where
    by_test : (t : Bool) → leb ioa (three m (at + 3)) ≡ t → (i : ℕ) → i < pick t 0 (suc (seek_in ioa (points_at m (at + 48) n)))
        → ((j : ℕ) → j < seek_in ioa (points_at m (at + 48) n) → ioa_at m (at + 48) j < ioa) → ioa_at m at i < ioa
    by_test true e i h again = absurd (omega arith)
    by_test false e zero h again = let f = ioa_here m at in let l : three m (at + 3) < ioa = leb-false _ _ e in omega arith
    by_test false e (suc i) h again = let f = ioa_next m at i in let ih = again i (omega arith) in omega arith

over_seek : (m : List ℕ) (at ioa low n i : ℕ) → rising low (points_at m at n) ≡ true → seek_in ioa (points_at m at n) ≤ i → i < n → ioa ≤ ioa_at m at i
unfolding seek_in points_at rising
over_seek m at ioa low zero i r h k = absurd (omega arith)
over_seek m at ioa low (suc n) i r h k =
    let later = (both _ _ (both _ _ r).1).1 in
    by_test (leb ioa (three m (at + 3))) refl i h k later (λ j. over_seek m (at + 48) ioa (three m (at + 3) + 1) n j later)
  where
    by_test : (t : Bool) → leb ioa (three m (at + 3)) ≡ t → (i : ℕ) → pick t 0 (suc (seek_in ioa (points_at m (at + 48) n))) ≤ i → i < suc n
        → rising (three m (at + 3) + 1) (points_at m (at + 48) n) ≡ true
        → ((j : ℕ) → seek_in ioa (points_at m (at + 48) n) ≤ j → j < n → ioa ≤ ioa_at m (at + 48) j) → ioa ≤ ioa_at m at i
    by_test true e zero h k later again = let f = ioa_here m at in let l : ioa ≤ three m (at + 3) = leb-true _ _ e in omega arith
    by_test true e (suc i) h k later again =
        let f = ioa_next m at i in
        let l : ioa ≤ three m (at + 3) = leb-true _ _ e in
        let g : three m (at + 3) + 1 ≤ ioa_at m (at + 48) i = none_below m (at + 48) (three m (at + 3) + 1) n later i (omega arith) in
        omega arith
    by_test false e zero h k later again = absurd (omega arith)
    by_test false e (suc i) h k later again = let f = ioa_next m at i in let ih = again i (omega arith) (omega arith) in omega arith

-- The plain search stays inside the list.
pub seek_le : (ioa : ℕ) (ps : List Point) → seek_in ioa ps ≤ length ps
unfolding seek_in
seek_le ioa [] = omega arith
seek_le ioa (q ∷ qs) = by_test (leb ioa q.ioa) (seek_le ioa qs)
  where
    by_test : (b : Bool) → seek_in ioa qs ≤ length qs → pick b 0 (suc (seek_in ioa qs)) ≤ suc (length qs)
    by_test true e = omega arith
    by_test false e = omega arith

-- Halving over rising points finds what the plain search finds.
pub seek_law : (m : List ℕ) (first n ioa : ℕ) → rising 0 (points_at m first n) ≡ true
    → halve (ioa_at m first) ioa 0 n n ≡ seek_in ioa (points_at m first n)
seek_law m first n ioa r =
    let l = length_points_at m first n in
    let h = seek_le ioa (points_at m first n) in
    halve_finds (ioa_at m first) ioa (seek_in ioa (points_at m first n)) n
    (record { under = λ i. under_seek m first ioa n i; over = λ i. over_seek m first ioa 0 n i r })
    n 0 n (omega arith) (omega arith) (omega arith) (omega arith)

-- ---- the point there

-- a place with the IOA: the point is known
known_at : (m : List ℕ) (at ioa n i : ℕ) → i < n → ioa_at m at i ≡ ioa → known ioa (points_at m at n) ≡ true
unfolding known points_at
known_at m at ioa zero i h e = absurd (omega arith)
known_at m at ioa (suc n) i h e = by_test (eqb (three m (at + 3)) ioa) refl i h e (λ j. known_at m (at + 48) ioa n j)
  where
    by_test : (t : Bool) → eqb (three m (at + 3)) ioa ≡ t → (i : ℕ) → i < suc n → ioa_at m at i ≡ ioa
        → ((j : ℕ) → j < n → ioa_at m (at + 48) j ≡ ioa → known ioa (points_at m (at + 48) n) ≡ true)
        → pick t true (known ioa (points_at m (at + 48) n)) ≡ true
    by_test true f i h e again = refl
    by_test false f zero h e again = absurd (eqb-false _ _ f (sym (ioa_here m at) ∙ e))
    by_test false f (suc i) h e again = again i (omega arith) (sym (ioa_next m at i) ∙ e)

-- a known point stands at the place of the plain search
record Stands (m : List ℕ) (at ioa n j : ℕ) (p : Option Point) : Type 0 where
  inside : j < n
  is_ioa : ioa_at m at j ≡ ioa
  is_point : p ≡ some (point_at m (at + 48 * j))

not_known : (ioa low : ℕ) (ps : List Point) → ioa < low → rising low ps ≡ true → known ioa ps ≡ true → ⊥
unfolding rising known
not_known ioa low [] h r e = let z : ◌≡◌ {A = ℕ} 0 1 = cc in omega arith
not_known ioa low (q ∷ qs) h r e =
    let t = both _ _ r in
    let l : low ≤ q.ioa = leb-true _ _ t.0 in
    let n : q.ioa ≡ ioa → ⊥ = omega arith in
    not_known ioa (q.ioa + 1) qs (omega arith) (both _ _ t.1).1 (simp (ne_eqb _ _ n) at e)

stands : (m : List ℕ) (at ioa low n : ℕ) → rising low (points_at m at n) ≡ true → known ioa (points_at m at n) ≡ true
    → Stands m at ioa n (seek_in ioa (points_at m at n)) (point_in ioa (points_at m at n))
unfolding rising known points_at seek_in point_in
stands m at ioa low zero r k = let z : ◌≡◌ {A = ℕ} 0 1 = cc in absurd (omega arith)
stands m at ioa low (suc n) r k =
    let later = (both _ _ (both _ _ r).1).1 in
    by_tests (leb ioa (three m (at + 3))) refl (eqb (three m (at + 3)) ioa) refl k later (λ f. stands m (at + 48) ioa (three m (at + 3) + 1) n later f)
  where
    by_tests : (t : Bool) → leb ioa (three m (at + 3)) ≡ t → (u : Bool) → eqb (three m (at + 3)) ioa ≡ u → pick u true (known ioa (points_at m (at + 48) n)) ≡ true
        → rising (three m (at + 3) + 1) (points_at m (at + 48) n) ≡ true
        → (known ioa (points_at m (at + 48) n) ≡ true → Stands m (at + 48) ioa n (seek_in ioa (points_at m (at + 48) n)) (point_in ioa (points_at m (at + 48) n)))
        → Stands m at ioa (suc n) (pick t 0 (suc (seek_in ioa (points_at m (at + 48) n)))) (pick u (some (point_at m at)) (point_in ioa (points_at m (at + 48) n)))
    by_tests true e true f k later again =
        let z : at + 48 * 0 ≡ at = omega arith in
        record { inside = omega arith; is_ioa = ioa_here m at ∙ eqb-true _ _ f; is_point = ap (λ (x : ℕ). some (point_at m x)) (sym z) }
    by_tests true e false f k later again =
        let l : ioa ≤ three m (at + 3) = leb-true _ _ e in
        absurd (not_known ioa (three m (at + 3) + 1) (points_at m (at + 48) n) (omega arith) later k)
    by_tests false e true f k later again =
        let l : three m (at + 3) < ioa = leb-false _ _ e in
        let g : three m (at + 3) ≡ ioa = eqb-true _ _ f in
        absurd (omega arith)
    by_tests false e false f k later again =
        let s = again k in
        let j : ℕ = seek_in ioa (points_at m (at + 48) n) in
        let i = s.inside in
        let z : at + 48 + 48 * j ≡ at + 48 * suc j = omega arith in
        record { inside = omega arith; is_ioa = ioa_next m at j ∙ s.is_ioa; is_point = s.is_point ∙ ap (λ (x : ℕ). some (point_at m x)) z }

-- ---- the law of `find`

-- Over rising points the code finds what the plain definition says.
pub find_law : (m : List ℕ) (first n ioa : ℕ) → rising 0 (points_at m first n) ≡ true → find_at m first n ioa ≡ spot_in first ioa (points_at m first n)
unfolding find_at spot_in
find_law m first n ioa r =
    ap (spot_at m first n ioa) (seek_law m first n ioa r)
    ∙ by_test (known ioa (points_at m first n)) refl
  where
    missing : known ioa (points_at m first n) ≡ false → (t : Bool) → ltb (seek_in ioa (points_at m first n)) n ≡ t → (u : Bool) → eqb (ioa_at m first (seek_in ioa (points_at m first n))) ioa ≡ u
        → spot_at m first n ioa (seek_in ioa (points_at m first n)) ≡ Err (first + 48 * seek_in ioa (points_at m first n))
    missing k true e true f =
        let z : ◌≡◌ {A = Bool} true false = sym (known_at m first ioa n (seek_in ioa (points_at m first n)) (ltb-true _ _ e) (eqb-true _ _ f)) ∙ k in
        let y : ◌≡◌ {A = ℕ} 0 1 = cc in
        absurd (omega arith)
    missing k true e false f = sym (missing_at m first n ioa (seek_in ioa (points_at m first n)) (ltb-true _ _ e) (eqb-false _ _ f))
    missing k false e u f = sym (missing_end m first n ioa (seek_in ioa (points_at m first n)) (ltb-false _ _ e))

    by_test : (b : Bool) → known ioa (points_at m first n) ≡ b → spot_at m first n ioa (seek_in ioa (points_at m first n))
        ≡ pick b (Ok (first + 48 * seek_in ioa (points_at m first n))) (Err (first + 48 * seek_in ioa (points_at m first n)))
    by_test true e = let s = stands m first ioa 0 n r e in sym (held_at_lem m first n ioa (seek_in ioa (points_at m first n)) s.inside s.is_ioa)
    by_test false e =
        missing e (ltb (seek_in ioa (points_at m first n)) n) refl (eqb (ioa_at m first (seek_in ioa (points_at m first n))) ioa) refl

-- What the answer says: the point that stands there, or that there is none; and where, in the order.
pub record HeldAt (m : List ℕ) (first n ioa at : ℕ) (ps : List Point) : Type 0 where
  pub is_known : known ioa ps ≡ true
  pub place : at ≡ first + 48 * seek_in ioa ps
  pub inside : at + 48 ≤ first + 48 * n
  pub is_point : point_in ioa ps ≡ some (point_at m at)

-- A point that is not known, and where it would go.
pub record MissingAt (first n ioa at : ℕ) (ps : List Point) : Type 0 where
  pub not_known : known ioa ps ≡ false
  pub place : at ≡ first + 48 * seek_in ioa ps
  pub inside : at ≤ first + 48 * n

-- A place found holds the point with the IOA.
pub held_law : (m : List ℕ) (first n ioa at : ℕ) → rising 0 (points_at m first n) ≡ true → find_at m first n ioa ≡ Ok at
    → HeldAt m first n ioa at (points_at m first n)
unfolding spot_in
held_law m first n ioa at r e = by_test (known ioa (points_at m first n)) refl (sym (find_law m first n ioa r) ∙ e)
  where
    by_test : (b : Bool) → known ioa (points_at m first n) ≡ b
        → pick b (Ok (first + 48 * seek_in ioa (points_at m first n))) (Err (first + 48 * seek_in ioa (points_at m first n))) ≡ Ok at → HeldAt m first n ioa at (points_at m first n)
    by_test true k f =
        let s = stands m first ioa 0 n r k in
        let i = s.inside in
        let p : first + 48 * seek_in ioa (points_at m first n) ≡ at = cc in
        record { is_known = k; place = sym p; inside = omega arith; is_point = s.is_point ∙ ap (λ (x : ℕ). some (point_at m x)) p }
    by_test false k f = let z : ◌≡◌ {A = ℕ} 0 1 = cc in absurd (omega arith)

-- No place found: no point has the IOA.
pub missing_law : (m : List ℕ) (first n ioa at : ℕ) → rising 0 (points_at m first n) ≡ true → find_at m first n ioa ≡ Err at
    → MissingAt first n ioa at (points_at m first n)
unfolding spot_in
missing_law m first n ioa at r e = by_test (known ioa (points_at m first n)) refl (sym (find_law m first n ioa r) ∙ e)
  where
    by_test : (b : Bool) → known ioa (points_at m first n) ≡ b
        → pick b (Ok (first + 48 * seek_in ioa (points_at m first n))) (Err (first + 48 * seek_in ioa (points_at m first n))) ≡ Err at → MissingAt first n ioa at (points_at m first n)
    by_test true k f = let z : ◌≡◌ {A = ℕ} 0 1 = cc in absurd (omega arith)
    by_test false k f =
        let p : first + 48 * seek_in ioa (points_at m first n) ≡ at = cc in
        let l = length_points_at m first n in
        let h = seek_le ioa (points_at m first n) in
        record { not_known = k; place = sym p; inside = omega arith }

-- where a missing point would go lies inside, whatever the places hold
pub spot_inside : (m : List ℕ) (first n ioa at : ℕ) → find_at m first n ioa ≡ Err at → (first ≤ at) × (at ≤ first + 48 * n)
unfolding find_at spot_at
spot_inside m first n ioa at e = by_test (ltb (halve (ioa_at m first) ioa 0 n n) n & eqb (ioa_at m first (halve (ioa_at m first) ioa 0 n n)) ioa) e
  where
    by_test : (b : Bool) → pick b (Ok (first + 48 * halve (ioa_at m first) ioa 0 n n)) (Err (first + 48 * halve (ioa_at m first) ioa 0 n n)) ≡ Err at
        → (first ≤ at) × (at ≤ first + 48 * n)
    by_test true f = let z : ◌≡◌ {A = ℕ} 0 1 = cc in absurd (omega arith)
    by_test false f =
        let p : first + 48 * halve (ioa_at m first) ioa 0 n n ≡ at = cc in
        let h = halve_le (ioa_at m first) ioa n 0 n (omega arith) in
        (omega arith, omega arith)
