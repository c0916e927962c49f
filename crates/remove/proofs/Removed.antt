-- One point taken out: the memory after it is the image of the table without the point. Assumes nothing.
use mathlib.Core.Path.{◌≡◌, refl, sym, ap, ◌∙◌}
use mathlib.Core.List.{List, [], ◌∷◌, ◌++◌, append_assoc}
use mathlib.Core.Bool.{Bool, true, false}
use mathlib.Core.Option.{some}
use Prim.Native.Nat.{ℕ, suc, ◌+◌, ◌*◌, ◌-◌, ◌≤◌, ◌<◌}
use native.Mathlib.Omega.{arith}
use lib.ListN.{length, drop, replicate, length-append, length-replicate, replicate-append-replicate}
use lib.Dec.{eqb}
use borrow.Author.Tests.{eqb-true, eqb-false, leb-true, le-leb, lt-leb}
use Rattle.limits.specs.Test.{pick, total}
use Rattle.limits.proofs.Tests.{both}
use Rattle.octets.specs.Over.{over, lowered}
use Rattle.octets.specs.Number.{two, pair, Octets}
use Rattle.octets.proofs.Laws.{over_at, lowered_cleared}
use Rattle.model.specs.declared.Point.{Point}
use Rattle.model.specs.Place.{place_of}
use Rattle.table.specs.Table.{Station, Table, held, rising, places_of, bodies, eight, entries, head, image}
use Rattle.table.specs.Change.{with_stations, with_points, changed, seek_in, known, remove_in, removed}
use Rattle.table.proofs.Points.{length_places}
use Rattle.table.proofs.Stations.{length_bodies, length_entries}
use Rattle.table.specs.Memory.{parse}
use Rattle.table.proofs.Parse.{Good, good_is, Laid, laid, parse_sound}
use Rattle.table.proofs.Change.{Found, stations_split, station_rises}
use Rattle.lookup.proofs.Laws.{Standing}
use Rattle.remove.specs.Remove.{closed_up, taken_out, Removable}
use Rattle.table.proofs.Cut.{six, head_over, places_append, places_at_lem, held_at_lem, image_at}

-- ---- the points

-- Where a known point stands among ascending points, and what is left without it.
pub record Parted (ioa : ℕ) (ps : List Point) : Type 0 where
  pub below : List Point
  pub point : Point
  pub above : List Point
  pub split : ps ≡ below ++ (point ∷ above)
  pub is_ioa : point.ioa ≡ ioa
  pub sought : seek_in ioa ps ≡ length below
  pub left : remove_in ioa ps ≡ below ++ above

known_from : (ioa low : ℕ) (ps : List Point) → rising low ps ≡ true → known ioa ps ≡ true → low ≤ ioa
unfolding rising known
known_from ioa low [] r k = let z : ◌≡◌ {A = ℕ} 0 1 = cc in absurd (omega arith)
known_from ioa low (q ∷ qs) r k = by_test (λ e. known_from ioa (q.ioa + 1) qs (both _ _ (both _ _ r).1).1 e) (eqb q.ioa ioa) refl k
  where
    by_test : (known ioa qs ≡ true → q.ioa + 1 ≤ ioa) → (b : Bool) → eqb q.ioa ioa ≡ b → pick b true (known ioa qs) ≡ true → low ≤ ioa
    by_test ih true t e = let l : low ≤ q.ioa = leb-true _ _ (both _ _ r).0 in let q' : q.ioa ≡ ioa = eqb-true _ _ t in omega arith
    by_test ih false t e = let l : low ≤ q.ioa = leb-true _ _ (both _ _ r).0 in let h = ih e in omega arith

pub parted : (ioa low : ℕ) (ps : List Point) → rising low ps ≡ true → known ioa ps ≡ true → Parted ioa ps
unfolding rising known seek_in remove_in
parted ioa low [] r k = let z : ◌≡◌ {A = ℕ} 0 1 = cc in absurd (omega arith)
parted ioa low (q ∷ qs) r k = by_test (λ e. parted ioa (q.ioa + 1) qs (both _ _ (both _ _ r).1).1 e) (eqb q.ioa ioa) refl k
  where
    by_test : (known ioa qs ≡ true → Parted ioa qs) → (b : Bool) → eqb q.ioa ioa ≡ b → pick b true (known ioa qs) ≡ true → Parted ioa (q ∷ qs)
    by_test ih true t e =
        let q' : q.ioa ≡ ioa = eqb-true _ _ t in
        let l : ioa ≤ q.ioa = omega arith in
        record { below = []; point = q; above = qs; split = refl; is_ioa = q'; sought = simp (le-leb _ _ l); left = simp t }
    by_test ih false t e =
        let p = ih e in
        let l : q.ioa + 1 ≤ ioa = known_from ioa (q.ioa + 1) qs (both _ _ (both _ _ r).1).1 e in
        let l' : q.ioa < ioa = omega arith in
        record {
          below = q ∷ p.below;
          point = p.point;
          above = p.above;
          split = ap (λ (l : List Point). q ∷ l) p.split;
          is_ioa = p.is_ioa;
          sought = simp (lt-leb _ _ l') (ap suc p.sought);
          left = simp t (ap (λ (l : List Point). q ∷ l) p.left);
        }

-- The removed point is not known any more, and the others are as they were.
pub known_remove : (ioa other low : ℕ) (ps : List Point) → rising low ps ≡ true → known other (remove_in ioa ps) ≡ pick (eqb ioa other) false (known other ps)
unfolding rising known remove_in
known_remove ioa other low [] r = by_test (eqb ioa other)
  where
    by_test : (b : Bool) → false ≡ pick b false false
    by_test true = refl
    by_test false = refl
known_remove ioa other low (q ∷ qs) r =
    by_test (known_remove ioa other (q.ioa + 1) qs (both _ _ (both _ _ r).1).1)
    (known other qs) refl (eqb q.ioa ioa) refl (eqb ioa other) refl (eqb q.ioa other) refl
  where
    by_test : known other (remove_in ioa qs) ≡ pick (eqb ioa other) false (known other qs)
        → (k : Bool) → known other qs ≡ k → (b : Bool) → eqb q.ioa ioa ≡ b → (d : Bool) → eqb ioa other ≡ d → (e : Bool) → eqb q.ioa other ≡ e
        → known other (pick b qs (q ∷ remove_in ioa qs)) ≡ pick d false (pick e true (known other qs))
    by_test ih true w true t true u e v =
        let h : q.ioa + 1 ≤ other = known_from other (q.ioa + 1) qs (both _ _ (both _ _ r).1).1 w in
        let a : q.ioa ≡ ioa = eqb-true _ _ t in
        let b : ioa ≡ other = eqb-true _ _ u in
        absurd (omega arith)
    by_test ih false w true t true u e v = w
    by_test ih k w true t false u true v =
        let a : q.ioa ≡ ioa = eqb-true _ _ t in
        let b : q.ioa ≡ other = eqb-true _ _ v in
        absurd (eqb-false ioa other u (omega arith))
    by_test ih k w true t false u false v = refl
    by_test ih k w false t true u true v =
        let a : ioa ≡ other = eqb-true _ _ u in
        let b : q.ioa ≡ other = eqb-true _ _ v in
        absurd (eqb-false q.ioa ioa t (omega arith))
    by_test ih k w false t true u false v = simp v (ih ∙ simp u)
    by_test ih k w false t false u true v = simp v
    by_test ih k w false t false u false v = simp v (ih ∙ simp u)

-- ---- lists only: a place closed up in one part, and two octets changed in another
pub closed_at : (H B P L Q D Z E S T R T' : List ℕ) (from to at : ℕ)
    → length H + (length B + length P) ≡ from → length L ≡ 48 → from + 48 + (length Q + length D) ≡ to
    → to + (length Z + (length E + length S)) ≡ at → length T ≡ length T'
    → over (closed_up (H ++ (B ++ ((P ++ (L ++ Q)) ++ (D ++ (Z ++ (E ++ ((S ++ T) ++ R))))))) from to) at T'
    ≡ H ++ (B ++ ((P ++ Q) ++ (D ++ ((replicate 48 0 ++ Z) ++ (E ++ ((S ++ T') ++ R))))))
unfolding closed_up
closed_at H B P L Q D Z E S T R T' from to at ef el et ea eT =
    let X : List ℕ = H ++ (B ++ P) in
    let Y : List ℕ = Q ++ D in
    let W : List ℕ = Z ++ (E ++ (S ++ (T ++ R))) in
    let N : List ℕ = replicate 48 0 in
    let A : List ℕ = X ++ (Y ++ (N ++ (Z ++ (E ++ S)))) in
    let lx : length X ≡ from = simp length-append (omega arith) in
    let ly : from + 48 + length Y ≡ to = simp length-append (omega arith) in
    let la : length A ≡ at = simp length-append (omega arith) in
    let e : H ++ (B ++ ((P ++ (L ++ Q)) ++ (D ++ (Z ++ (E ++ ((S ++ T) ++ R)))))) ≡ X ++ (L ++ (Y ++ W)) = simp append_assoc in
    let g : X ++ (Y ++ (N ++ W)) ≡ A ++ (T ++ R) = simp append_assoc in
    ap (λ (l : List ℕ). over (over (lowered l from to 48) (to - 48) N) at T') e
    ∙ ap (λ (l : List ℕ). over l at T') (lowered_cleared X L Y W from to 48 lx el ly ∙ g)
    ∙ over_at A T R T' at la eT
    ∙ simp append_assoc

-- ---- the image

module _ (t : Table) (before : List Station) (s : Station) (after : List Station) (ioa n : ℕ) (rest : List ℕ)
    (count : total held (before ++ (s ∷ after)) ≡ n) (few : n ≤ t.capacity) (p : Parted ioa s.points) where
  abbrev k : ℕ
  k = t.capacity

  one_less : length (remove_in ioa s.points) + 1 ≡ held s
  one_less =
      let a : length (remove_in ioa s.points) ≡ length p.below + length p.above = ap length p.left ∙ length-append p.below p.above in
      let b : held s ≡ length p.below + suc (length p.above) = ap length p.split ∙ length-append p.below (p.point ∷ p.above) in
      omega arith

  -- both images, cut at the station
  cut : image (with_stations (before ++ (s ∷ after)) t) ++ rest
      ≡ head t.settings k (length before + suc (length after)) n ++ (bodies before
      ++ ((places_of s.ca p.below ++ (place_of s.ca p.point ++ places_of s.ca p.above)) ++ (bodies after
      ++ (replicate (48 * (k - n)) 0 ++ (entries before ++ ((six s.ca s.reservation s.ceiling ++ pair (held s)) ++ (entries after ++ rest)))))))
  unfolding six
  cut =
      let S : ℕ = length before + suc (length after) in
      let F : List ℕ = eight s.ca s.reservation s.ceiling (held s) in
      image_at t before s after n rest count
      ∙ ap (λ (l : List ℕ). head t.settings k S n ++ (bodies before ++ (l ++ (bodies after ++ (replicate (48 * (k - n)) 0 ++ (entries before ++ (F ++ (entries after ++ rest))))))))
      (ap (places_of s.ca) p.split ∙ places_at_lem s.ca p.below p.point p.above)

  cut_removed : image (with_stations (before ++ (with_points (remove_in ioa) s ∷ after)) t) ++ rest
      ≡ head t.settings k (length before + suc (length after)) (n - 1) ++ (bodies before
      ++ ((places_of s.ca p.below ++ places_of s.ca p.above) ++ (bodies after
      ++ ((replicate 48 0 ++ replicate (48 * (k - n)) 0)
      ++ (entries before ++ ((six s.ca s.reservation s.ceiling ++ pair (held s - 1)) ++ (entries after ++ rest)))))))
  unfolding six
  cut_removed =
      let S : ℕ = length before + suc (length after) in
      let s' : Station = with_points (remove_in ioa) s in
      let a : total held (before ++ (s ∷ after)) ≡ total held before + (held s + total held after) = held_at_lem before s after in
      let b : total held (before ++ (s' ∷ after)) ≡ total held before + (length (remove_in ioa s.points) + total held after) = held_at_lem before s' after in
      let less : length (remove_in ioa s.points) + 1 ≡ held s = one_less in
      let h : length (remove_in ioa s.points) ≡ held s - 1 = omega arith in
      let f : 48 * (k - (n - 1)) ≡ 48 + 48 * (k - n) = omega arith in
      let z : replicate {A = ℕ} (48 * (k - (n - 1))) 0 ≡ replicate 48 0 ++ replicate (48 * (k - n)) 0 =
      ap (λ (x : ℕ). replicate {A = ℕ} x 0) f ∙ sym (replicate-append-replicate 48 (48 * (k - n)) 0) in
      let ps : places_of s.ca (remove_in ioa s.points) ≡ places_of s.ca p.below ++ places_of s.ca p.above =
      ap (places_of s.ca) p.left ∙ places_append s.ca p.below p.above in
      image_at t before s' after (n - 1) rest (omega arith)
      ∙ (λ j. head t.settings k S (n - 1) ++ (bodies before ++ (ps j ++ (bodies after ++ (z j
      ++ (entries before ++ (eight s.ca s.reservation s.ceiling (h j) ++ (entries after ++ rest))))))))

  taken_out_cut : (at : ℕ) → at ≡ 64 + 48 * (total held before + seek_in ioa s.points)
      → over (over (closed_up (image (with_stations (before ++ (s ∷ after)) t) ++ rest) at (64 + 48 * n))
      (64 + 48 * k + 8 * length before + 6) (pair (held s - 1))) 8 (pair (n - 1))
      ≡ image (with_stations (before ++ (with_points (remove_in ioa) s ∷ after)) t) ++ rest
  unfolding six
  taken_out_cut at e =
      let S : ℕ = length before + suc (length after) in
      let P : List ℕ = places_of s.ca p.below in
      let Q : List ℕ = places_of s.ca p.above in
      let Z : List ℕ = replicate (48 * (k - n)) 0 in
      let R : List ℕ = entries after ++ rest in
      let six' : List ℕ = six s.ca s.reservation s.ceiling in
      let a : total held (before ++ (s ∷ after)) ≡ total held before + (held s + total held after) = held_at_lem before s after in
      let b : held s ≡ length p.below + suc (length p.above) = ap length p.split ∙ length-append p.below (p.point ∷ p.above) in
      let i : seek_in ioa s.points ≡ length p.below = p.sought in
      let lb : length (bodies before) ≡ 48 * total held before = length_bodies before in
      let ld : length (bodies after) ≡ 48 * total held after = length_bodies after in
      let le : length (entries before) ≡ 8 * length before = length_entries before in
      let lz : length Z ≡ 48 * (k - n) = length-replicate (48 * (k - n)) 0 in
      let lp : length P ≡ 48 * length p.below = length_places s.ca p.below in
      let lq : length Q ≡ 48 * length p.above = length_places s.ca p.above in
      let moved = closed_at (head t.settings k S n) (bodies before) P (place_of s.ca p.point) Q (bodies after) Z (entries before) six' (pair (held s)) R
      (pair (held s - 1)) at (64 + 48 * n) (64 + 48 * k + 8 * length before + 6) (omega arith) refl (omega arith) (omega arith) refl in
      ap (λ (l : List ℕ). over (over (closed_up l at (64 + 48 * n)) (64 + 48 * k + 8 * length before + 6) (pair (held s - 1))) 8 (pair (n - 1))) cut
      ∙ ap (λ (l : List ℕ). over l 8 (pair (n - 1))) moved
      ∙ head_over t.settings k S n (n - 1) (bodies before ++ ((P ++ Q) ++ (bodies after ++ ((replicate 48 0 ++ Z) ++ (entries before ++ ((six' ++ pair (held s - 1)) ++ R))))))
      ∙ sym cut_removed

-- What `take_out` asks of the numbers.
pub take_out_bounds : (t : Table) (m : List ℕ) (ca ioa : ℕ) (s : Station) (w : Found ca t.stations s) (i h at : ℕ) → Good t → Laid m t
    → known ioa s.points ≡ true → Standing t.stations ca ioa s w i h at
    → Removable m i h at
take_out_bounds t m ca ioa s w i h at g l k z =
    let p : Parted ioa s.points = parted ioa 0 s.points (station_rises t ca s g w) k in
    let e4 : two m 4 ≡ t.capacity = l.is_k in
    let e6 : two m 6 ≡ length t.stations = l.is_s in
    let e8 : two m 8 ≡ total held t.stations = l.is_n in
    let room : 64 + 48 * t.capacity + 8 * length t.stations ≤ length m = l.room in
    let few : total held t.stations ≤ t.capacity = g.few in
    let high : t.capacity ≤ 4096 = g.k_high in
    let all : total held t.stations ≡ total held w.before + (held s + total held w.after) = ap (total held) w.split ∙ held_at_lem w.before s w.after in
    let len : length t.stations ≡ length w.before + suc (length w.after) = ap length w.split ∙ length-append w.before (s ∷ w.after) in
    let b : held s ≡ length p.below + suc (length p.above) = ap length p.split ∙ length-append p.below (p.point ∷ p.above) in
    let i' : seek_in ioa s.points ≡ length p.below = p.sought in
    let ei : i ≡ length w.before = z.index in
    let eh : h ≡ held s = z.count in
    let ea : at ≡ 64 + 48 * (total held w.before + seek_in ioa s.points) = z.place in
    (omega arith, omega arith, omega arith, omega arith, omega arith, omega arith, omega arith)

-- Taking the place of a known point out of a table's image leaves the image of the table without the point.
pub taken_out_image : (t : Table) (rest : List ℕ) (ca ioa : ℕ) (s : Station) (w : Found ca t.stations s) (i h at : ℕ) → Good t
    → known ioa s.points ≡ true → Standing t.stations ca ioa s w i h at → taken_out (image t ++ rest) i h at ≡ image (removed t ca ioa) ++ rest
unfolding taken_out removed changed
taken_out_image t rest ca ioa s w i h at g k z =
    let m : List ℕ = image t ++ rest in
    let K : ℕ = t.capacity in
    let n : ℕ = total held t.stations in
    let l : Laid m t = laid t rest g in
    let p : Parted ioa s.points = parted ioa 0 s.points (station_rises t ca s g w) k in
    let same : image t ≡ image (with_stations (w.before ++ (s ∷ w.after)) t) = λ j. image (with_stations (w.split j) t) in
    (λ j. over (over (closed_up m at (64 + 48 * l.is_n j)) (64 + 48 * l.is_k j + 8 * z.index j + 6) (pair (z.count j - 1))) 8 (pair (l.is_n j - 1)))
    ∙ (λ j. over (over (closed_up (same j ++ rest) at (64 + 48 * n)) (64 + 48 * K + 8 * length w.before + 6) (pair (held s - 1))) 8 (pair (n - 1)))
    ∙ taken_out_cut t w.before s w.after ioa n rest (ap (total held) (sym w.split)) g.few p at z.place
    ∙ (λ j. image (with_stations (sym (stations_split t ca (remove_in ioa) s w) j) t) ++ rest)

-- The same of a memory that holds a table: what lies past the table's octets stays.
pub taken_out_parsed : (m : List ℕ) (t : Table) (ca ioa : ℕ) (s : Station) (w : Found ca t.stations s) (i h at : ℕ) → Octets m → parse m ≡ some t
    → known ioa s.points ≡ true → Standing t.stations ca ioa s w i h at → taken_out m i h at ≡ image (removed t ca ioa) ++ drop (length (image t)) m
taken_out_parsed m t ca ioa s w i h at o e k z =
    let q = parse_sound m t o e in
    ap (λ (x : List ℕ). taken_out x i h at) q.1 ∙ taken_out_image t (drop (length (image t)) m) ca ioa s w i h at (good_is t q.0) k z
