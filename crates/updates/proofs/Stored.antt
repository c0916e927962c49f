-- What storing an update makes of the image of a table: the image of the table with the point's new value.
-- The image is cut at the station, its points at the point, and the place at the element; the write is then a law of lists alone. Assumes nothing.
use mathlib.Core.Path.{◌≡◌, refl, sym, ap, ◌∙◌}
use mathlib.Core.List.{List, [], ◌∷◌, ◌++◌, append_assoc, append-nil}
use mathlib.Core.Bool.{Bool, true, false}
use mathlib.Core.Option.{some}
use Prim.Native.Nat.{ℕ, suc, ◌+◌, ◌*◌, ◌-◌, ◌/◌, ◌%◌, ◌≤◌, ◌<◌}
use native.Mathlib.Omega.{arith}
use lib.ListN.{length, take, drop, replicate, length-append, length-replicate, take-append-drop, drop_of_length-le}
use lib.Seq.{length-take-le, take_all, drop_at}
use lib.Dec.{eqb}
use borrow.Author.Tests.{eqb-true, eq-eqb, ne_eqb, leb-true, le-leb, lt-leb}
use Rattle.limits.specs.Test.{pick, total}
use Rattle.limits.specs.Size.{point_octets}
use Rattle.limits.proofs.Tests.{both}
use Rattle.limits.proofs.Sizes.{point_at_most}
use Rattle.octets.specs.Over.{over}
use Rattle.octets.specs.Number.{twelve, zeros}
use Rattle.octets.proofs.Laws.{over_at}
use Rattle.octets.proofs.At.{zeros_are, at_here}
use Rattle.layout.specs.Layout.{place_size}
use Rattle.model.specs.declared.Point.{Point}
use Rattle.model.specs.Place.{point_at, place_of, point_ok, valid}
use Rattle.model.specs.Request.{element}
use Rattle.model.proofs.Requests.{length_element}
use Rattle.table.specs.Table.{Station, Table, held, rising, places_of, bodies, eight, entries, head, image}
use Rattle.table.specs.Change.{with_points, with_stations, changed, seek_in, point_in}
use Rattle.table.proofs.Points.{gets, gets_drop, at_drop, place_read, length_places}
use Rattle.table.proofs.Stations.{length_bodies}
use Rattle.table.proofs.Cut.{places_at_lem, held_at_lem, image_at}
use Rattle.table.proofs.Change.{Found, stations_split}
use Rattle.answers.specs.Process.{revalued, replace_in}

-- ---- a place, cut at its element

-- a place but for its value
unfoldable ten : ℕ → Point → List ℕ
ten ca p = p.kind ∷ ca % 256 ∷ ca / 256 ∷ p.ioa % 256 ∷ p.ioa / 256 % 256 ∷ p.ioa / 65536 ∷ p.group % 256 ∷ p.group / 256 ∷ p.counter ∷ 0 ∷ []

twelve_is : (v : List ℕ) → length v ≡ 12 → twelve v 0 ≡ v
unfolding gets
twelve_is v e = gets_drop 0 12 v (omega arith) ∙ take_all 12 v (omega arith)

place_is : (ca : ℕ) (p : Point) → length p.value ≡ 12 → place_of ca p ≡ ten ca p ++ (p.value ++ replicate 26 0)
unfolding ten
place_is ca p l = ap (λ (v : List ℕ). ten ca p ++ (v ++ replicate 26 0)) (twelve_is p.value l)

-- a value whose octets past the element are zero
value_is : (v : List ℕ) (e : ℕ) → length v ≡ 12 → e ≤ 12 → zeros v e (12 - e) ≡ true → v ≡ take e v ++ replicate (12 - e) 0
value_is v e l h z =
    let r : length (replicate {A = ℕ} (12 - e) 0) ≡ 12 - e = length-replicate {A = ℕ} (12 - e) 0 in
    let n : drop (e + length (replicate {A = ℕ} (12 - e) 0)) v ≡ [] = drop_of_length-le v {i = e + length (replicate {A = ℕ} (12 - e) 0)} (omega arith) in
    let d : drop e v ≡ replicate (12 - e) 0 = (zeros_are v e (12 - e) (omega arith) z).is ∙ ap (λ (x : List ℕ). replicate (12 - e) 0 ++ x) n ∙ append-nil (replicate (12 - e) 0) in
    sym (take-append-drop e v) ∙ ap (λ (x : List ℕ). take e v ++ x) d

-- the zeros of a place after its element
after : ℕ → List ℕ
after e = replicate (12 - e) 0 ++ replicate 26 0

old_place : (ca : ℕ) (q : Point) → point_ok q ≡ true
    → place_of ca q ≡ ten ca q ++ (take (point_octets q.kind) q.value ++ after (point_octets q.kind))
unfolding point_ok valid after
old_place ca q o =
    let o1 = both _ _ (both _ _ o).1 in
    let l : length q.value ≡ 12 = eqb-true _ _ o1.0 in
    let z = (both _ _ (both _ _ (both _ _ (both _ _ o1.1).1).1).1).1 in
    let e : ℕ = point_octets q.kind in
    place_is ca q l
    ∙ ap (λ (v : List ℕ). ten ca q ++ (v ++ replicate 26 0)) (value_is q.value e l (point_at_most q.kind) z)
    ∙ ap (λ (x : List ℕ). ten ca q ++ x) (append_assoc (take e q.value) (replicate (12 - e) 0) (replicate 26 0))

new_place : (ca : ℕ) (q : Point) (v : List ℕ) → length v ≡ 12
    → place_of ca (revalued q v) ≡ ten ca q ++ (take (point_octets q.kind) v ++ after (point_octets q.kind))
unfolding element after ten
new_place ca q v l =
    let e : ℕ = point_octets q.kind in
    place_is ca (revalued q v) (length_element v e l (point_at_most q.kind))
    ∙ ap (λ (x : List ℕ). ten ca q ++ x) (append_assoc (take e v) (replicate (12 - e) 0) (replicate 26 0))

-- ---- the points, cut at the one that is found

-- Where a point stands among ascending points, and what another in its place leaves.
pub record Parted (ioa : ℕ) (ps : List Point) (q : Point) : Type 0 where
  pub below : List Point
  pub above : List Point
  pub split : ps ≡ below ++ (q ∷ above)
  pub sought : seek_in ioa ps ≡ length below
  pub is_ok : point_ok q ≡ true
  pub put : (p : Point) → p.ioa ≡ ioa → replace_in p ps ≡ below ++ (p ∷ above)

-- no point above an address is replaced
none_replaced : (p : Point) (low : ℕ) (ps : List Point) → p.ioa < low → rising low ps ≡ true → replace_in p ps ≡ ps
unfolding rising replace_in
none_replaced p low [] h r = refl
none_replaced p low (q ∷ qs) h r =
    let r1 = both _ _ r in
    let l : low ≤ q.ioa = leb-true _ _ r1.0 in
    let n : q.ioa ≡ p.ioa → ⊥ = omega arith in
    simp (ne_eqb _ _ n) (ap (λ (l : List Point). q ∷ l) (none_replaced p (q.ioa + 1) qs (omega arith) (both _ _ r1.1).1))

-- a point that is found lies not below the first
found_from : (ioa low : ℕ) (ps : List Point) (q : Point) → rising low ps ≡ true → point_in ioa ps ≡ some q → low ≤ ioa
unfolding rising point_in
found_from ioa low [] q r e = let z : ◌≡◌ {A = ℕ} 0 1 = cc in absurd (omega arith)
found_from ioa low (x ∷ xs) q r e = by_test (eqb x.ioa ioa) refl e (λ f. found_from ioa (x.ioa + 1) xs q (both _ _ (both _ _ r).1).1 f)
  where
    by_test : (b : Bool) → eqb x.ioa ioa ≡ b → pick b (some x) (point_in ioa xs) ≡ some q → (point_in ioa xs ≡ some q → x.ioa + 1 ≤ ioa) → low ≤ ioa
    by_test true t f again =
        let l : low ≤ x.ioa = leb-true _ _ (both _ _ r).0 in
        let i : x.ioa ≡ ioa = eqb-true _ _ t in
        omega arith
    by_test false t f again =
        let l : low ≤ x.ioa = leb-true _ _ (both _ _ r).0 in
        let i = again f in
        omega arith

pub parted : (ioa low : ℕ) (ps : List Point) (q : Point) → rising low ps ≡ true → point_in ioa ps ≡ some q → Parted ioa ps q
unfolding rising point_in seek_in replace_in
parted ioa low [] q r e = let z : ◌≡◌ {A = ℕ} 0 1 = cc in absurd (omega arith)
parted ioa low (x ∷ xs) q r e = by_test (eqb x.ioa ioa) refl e (λ f. parted ioa (x.ioa + 1) xs q (both _ _ (both _ _ r).1).1 f)
  where
    by_test : (b : Bool) → eqb x.ioa ioa ≡ b → pick b (some x) (point_in ioa xs) ≡ some q → (point_in ioa xs ≡ some q → Parted ioa xs q) → Parted ioa (x ∷ xs) q
    by_test true t f again =
        let s : x ≡ q = cc in
        let i : x.ioa ≡ ioa = eqb-true _ _ t in
        let l : ioa ≤ x.ioa = omega arith in
        record {
          below = [];
          above = xs;
          split = ap (λ (y : Point). y ∷ xs) s;
          sought = simp (le-leb _ _ l);
          is_ok = ap point_ok (sym s) ∙ (both _ _ (both _ _ r).1).0;
          put = λ p k.
              let n : x.ioa ≡ p.ioa = omega arith in
              let h : p.ioa < x.ioa + 1 = omega arith in
              simp (eq-eqb _ _ n) (ap (λ (l : List Point). p ∷ l) (none_replaced p (x.ioa + 1) xs h (both _ _ (both _ _ r).1).1));
        }
    by_test false t f again =
        let w = again f in
        let l : x.ioa + 1 ≤ ioa = found_from ioa (x.ioa + 1) xs q (both _ _ (both _ _ r).1).1 f in
        let l' : x.ioa < ioa = omega arith in
        record {
          below = x ∷ w.below;
          above = w.above;
          split = ap (λ (l : List Point). x ∷ l) w.split;
          sought = simp (lt-leb _ _ l') (ap suc w.sought);
          is_ok = w.is_ok;
          put = λ p k.
              let n : x.ioa ≡ p.ioa → ⊥ = omega arith in
              simp (ne_eqb _ _ n) (ap (λ (l : List Point). x ∷ l) (w.put p k));
        }

-- ---- lists only: an element written over another, inside a place

write_at : (H B P T N W Q D N' : List ℕ) (at : ℕ) → length H + (length B + (length P + length T)) ≡ at → length N ≡ length N'
    → over (H ++ (B ++ ((P ++ ((T ++ (N ++ W)) ++ Q)) ++ D))) at N' ≡ H ++ (B ++ ((P ++ ((T ++ (N' ++ W)) ++ Q)) ++ D))
write_at H B P T N W Q D N' at e f =
    let X : List ℕ = H ++ (B ++ (P ++ T)) in
    let Y : List ℕ = W ++ (Q ++ D) in
    let lx : length X ≡ at = simp length-append e in
    let a : H ++ (B ++ ((P ++ ((T ++ (N ++ W)) ++ Q)) ++ D)) ≡ X ++ (N ++ Y) = simp append_assoc in
    ap (λ (l : List ℕ). over l at N') a ∙ over_at X N Y N' at lx f ∙ simp append_assoc

read_at : (H B P L Q D : List ℕ) (at : ℕ) → length H + (length B + length P) ≡ at → drop at (H ++ (B ++ ((P ++ (L ++ Q)) ++ D))) ≡ L ++ (Q ++ D)
read_at H B P L Q D at e =
    let X : List ℕ = H ++ (B ++ P) in
    let lx : length X ≡ at = simp length-append e in
    let a : H ++ (B ++ ((P ++ (L ++ Q)) ++ D)) ≡ X ++ (L ++ (Q ++ D)) = simp append_assoc in
    ap (drop at) a ∙ drop_at X (L ++ (Q ++ D)) at lx

-- ---- the image

module _ (t : Table) (before : List Station) (s : Station) (behind : List Station) (n : ℕ) (rest : List ℕ) (ioa : ℕ) (q : Point) (v : List ℕ)
    (count : total held (before ++ (s ∷ behind)) ≡ n) (w : Parted ioa s.points q) (is_ioa : q.ioa ≡ ioa) (long : length v ≡ 12) where
  size : ℕ
  size = point_octets q.kind

  -- what lies after the station's places
  rear : List ℕ
  rear = bodies behind ++ (replicate (place_size * (t.capacity - n)) 0 ++ (entries before ++ (eight s.ca s.reservation s.ceiling (held s) ++ (entries behind ++ rest))))

  cut_old : image (with_stations (before ++ (s ∷ behind)) t) ++ rest
      ≡ head t.settings t.capacity (length before + suc (length behind)) n ++ (bodies before
      ++ ((places_of s.ca w.below ++ ((ten s.ca q ++ (take size q.value ++ after size)) ++ places_of s.ca w.above)) ++ rear))
  unfolding size rear
  cut_old =
      let S : ℕ = length before + suc (length behind) in
      let ps = ap (places_of s.ca) w.split ∙ places_at_lem s.ca w.below q w.above in
      image_at t before s behind n rest count
      ∙ ap (λ (l : List ℕ). head t.settings t.capacity S n ++ (bodies before ++ (l ++ rear))) ps
      ∙ ap (λ (l : List ℕ). head t.settings t.capacity S n ++ (bodies before ++ ((places_of s.ca w.below ++ (l ++ places_of s.ca w.above)) ++ rear))) (old_place s.ca q w.is_ok)

  cut_new : image (with_stations (before ++ (with_points (replace_in (revalued q v)) s ∷ behind)) t) ++ rest
      ≡ head t.settings t.capacity (length before + suc (length behind)) n ++ (bodies before
      ++ ((places_of s.ca w.below ++ ((ten s.ca q ++ (take size v ++ after size)) ++ places_of s.ca w.above)) ++ rear))
  unfolding size rear
  cut_new =
      let S : ℕ = length before + suc (length behind) in
      let p : Point = revalued q v in
      let s' : Station = with_points (replace_in p) s in
      let put : replace_in p s.points ≡ w.below ++ (p ∷ w.above) = w.put p is_ioa in
      let same : length (replace_in p s.points) ≡ held s =
      ap length put ∙ length-append w.below (p ∷ w.above) ∙ sym (length-append w.below (q ∷ w.above)) ∙ ap length (sym w.split) in
      let a : total held (before ++ (s ∷ behind)) ≡ total held before + (held s + total held behind) = held_at_lem before s behind in
      let b : total held (before ++ (s' ∷ behind)) ≡ total held before + (length (replace_in p s.points) + total held behind) = held_at_lem before s' behind in
      let ps = ap (places_of s.ca) put ∙ places_at_lem s.ca w.below p w.above in
      image_at t before s' behind n rest (omega arith)
      ∙ (λ j. head t.settings t.capacity S n ++ (bodies before ++ (ps j ++ (bodies behind ++ (replicate (place_size * (t.capacity - n)) 0
      ++ (entries before ++ (eight s.ca s.reservation s.ceiling (same j) ++ (entries behind ++ rest))))))))
      ∙ ap (λ (l : List ℕ). head t.settings t.capacity S n ++ (bodies before ++ ((places_of s.ca w.below ++ (l ++ places_of s.ca w.above)) ++ rear))) (new_place s.ca q v long)

  stored_cut : (at : ℕ) → at ≡ 64 + 48 * (total held before + seek_in ioa s.points)
      → over (image (with_stations (before ++ (s ∷ behind)) t) ++ rest) (at + 10) (take size v)
      ≡ image (with_stations (before ++ (with_points (replace_in (revalued q v)) s ∷ behind)) t) ++ rest
  unfolding size ten point_ok
  stored_cut at e =
      let S : ℕ = length before + suc (length behind) in
      let lv : length q.value ≡ 12 = eqb-true _ _ (both _ _ (both _ _ w.is_ok).1).0 in
      let most : size ≤ 12 = point_at_most q.kind in
      let l1 : length (take size q.value) ≡ size = length-take-le size q.value (omega arith) in
      let l2 : length (take size v) ≡ size = length-take-le size v (omega arith) in
      let lb : length (bodies before) ≡ 48 * total held before = length_bodies before in
      let lp : length (places_of s.ca w.below) ≡ 48 * length w.below = length_places s.ca w.below in
      let so : seek_in ioa s.points ≡ length w.below = w.sought in
      ap (λ (l : List ℕ). over l (at + 10) (take size v)) cut_old
      ∙ write_at (head t.settings t.capacity S n) (bodies before) (places_of s.ca w.below) (ten s.ca q) (take size q.value) (after size) (places_of s.ca w.above) rear
      (take size v) (at + 10) (omega arith) (omega arith)
      ∙ sym cut_new

  -- the point at the place is then the one with the new value
  stored_read : (at : ℕ) → at ≡ 64 + 48 * (total held before + seek_in ioa s.points)
      → point_at (image (with_stations (before ++ (with_points (replace_in (revalued q v)) s ∷ behind)) t) ++ rest) at ≡ revalued q v
  unfolding size
  stored_read at e =
      let S : ℕ = length before + suc (length behind) in
      let p : Point = revalued q v in
      let M : List ℕ = image (with_stations (before ++ (with_points (replace_in p) s ∷ behind)) t) ++ rest in
      let Q : List ℕ = places_of s.ca w.above in
      let lb : length (bodies before) ≡ 48 * total held before = length_bodies before in
      let lp : length (places_of s.ca w.below) ≡ 48 * length w.below = length_places s.ca w.below in
      let so : seek_in ioa s.points ≡ length w.below = w.sought in
      let d : drop at M ≡ place_of s.ca p ++ (Q ++ rear) =
      ap (drop at) cut_new
      ∙ read_at (head t.settings t.capacity S n) (bodies before) (places_of s.ca w.below) (ten s.ca q ++ (take size v ++ after size)) Q rear at (omega arith)
      ∙ ap (λ (l : List ℕ). l ++ (Q ++ rear)) (sym (new_place s.ca q v long)) in
      at_drop M at
      ∙ ap (λ (l : List ℕ). point_at l 0) d
      ∙ place_read (place_of s.ca p ++ (Q ++ rear)) 0 s.ca p (length_element v (point_octets q.kind) long (point_at_most q.kind)) (at_here (place_of s.ca p) (Q ++ rear))

-- Storing an element at a point's place makes of a table's image the image of the table with the point's new value, and that is then the point at the place.
pub stored_image : (t : Table) (rest : List ℕ) (ca ioa : ℕ) (s : Station) (f : Found ca t.stations s) (q : Point) (v : List ℕ) (at : ℕ)
    → rising 0 s.points ≡ true → point_in ioa s.points ≡ some q → q.ioa ≡ ioa → length v ≡ 12
    → at ≡ 64 + 48 * (total held f.before + seek_in ioa s.points)
    → (over (image t ++ rest) (at + 10) (take (point_octets q.kind) v) ≡ image (changed t ca (replace_in (revalued q v))) ++ rest)
    × (point_at (image (changed t ca (replace_in (revalued q v))) ++ rest) at ≡ revalued q v)
unfolding changed size
stored_image t rest ca ioa s f q v at r e i l p =
    let count = ap (total held) (sym f.split) in
    let w = parted ioa 0 s.points q r e in (
      (λ j. over (image (with_stations (f.split j) t) ++ rest) (at + 10) (take (point_octets q.kind) v))
          ∙ stored_cut t f.before s f.after (total held t.stations) rest ioa q v count w i l at p
          ∙ (λ j. image (with_stations (sym (stations_split t ca (replace_in (revalued q v)) s f) j) t) ++ rest),
      (λ j. point_at (image (with_stations (stations_split t ca (replace_in (revalued q v)) s f j) t) ++ rest) at)
          ∙ stored_read t f.before s f.after (total held t.stations) rest ioa q v count w i l at p,
    )
