-- What putting a point in makes of the image of a table: the image of the table with the point.
-- The image is cut at the station and its points at the place in the order; the move is then a law of lists alone. Assumes nothing.
use mathlib.Core.Path.{◌≡◌, refl, sym, ap, ◌∙◌}
use mathlib.Core.List.{List, ◌∷◌, ◌++◌, append_assoc}
use mathlib.Core.Option.{some}
use Prim.Native.Nat.{ℕ, suc, ◌+◌, ◌*◌, ◌-◌, ◌≤◌, ◌<◌}
use native.Mathlib.Omega.{arith}
use lib.ListN.{length, take, drop, replicate, length-append, length-take, length-drop, length-replicate, take-append-drop, replicate-append-replicate}
use lib.Seq.{length-take-le}
use Rattle.limits.specs.Test.{total}
use Rattle.octets.specs.Over.{over, shifted}
use Rattle.octets.specs.Number.{two, pair, Octets}
use Rattle.octets.proofs.Laws.{over_at, shifted_at}
use Rattle.model.specs.declared.Point.{Point}
use Rattle.model.specs.Place.{place_of}
use Rattle.table.specs.Table.{Station, Table, held, bodies, places_of, entries, eight, head, image}
use Rattle.table.specs.Memory.{parse}
use Rattle.table.specs.Change.{with_stations, seek_in, insert_in, with_points, changed, added}
use Rattle.table.proofs.Points.{length_places}
use Rattle.table.proofs.Stations.{length_bodies, length_entries}
use Rattle.table.proofs.Parse.{Good, good_is, Laid, laid, parse_sound}
use Rattle.table.proofs.Cut.{six, head_over, places_append, places_at_lem, held_at_lem, image_at}
use Rattle.table.proofs.Change.{Found, stations_split, insert_length}
use Rattle.lookup.proofs.Laws.{Standing}
use Rattle.lookup.proofs.Halving.{seek_le}
use Rattle.insert.specs.Insert.{put_in, placed, HasRoom}

-- ---- lists only: a place put in in one part, and two octets changed in another
put_at : (H B P Q D N Z E S T R L T' : List ℕ) (from to at : ℕ)
    → length H + (length B + length P) ≡ from → from + (length Q + length D) ≡ to → length N ≡ 48 → length L ≡ 48
    → to + 48 + (length Z + (length E + length S)) ≡ at → length T ≡ length T'
    → over (put_in (H ++ (B ++ ((P ++ Q) ++ (D ++ ((N ++ Z) ++ (E ++ ((S ++ T) ++ R))))))) from to L) at T'
    ≡ H ++ (B ++ ((P ++ (L ++ Q)) ++ (D ++ (Z ++ (E ++ ((S ++ T') ++ R))))))
unfolding put_in
put_at H B P Q D N Z E S T R L T' from to at ef et en el ea eT =
    let X : List ℕ = H ++ (B ++ P) in
    let Y : List ℕ = Q ++ D in
    let W : List ℕ = Z ++ (E ++ (S ++ (T ++ R))) in
    let A : List ℕ = X ++ (L ++ (Y ++ (Z ++ (E ++ S)))) in
    let lx : length X ≡ from = simp length-append ef in
    let ly : from + length Y ≡ to = simp length-append et in
    let lt : length (take 48 (Y ++ N)) ≡ length L = simp (length-take, length-append) (omega arith) in
    let la : length A ≡ at = simp length-append (omega arith) in
    let e : H ++ (B ++ ((P ++ Q) ++ (D ++ ((N ++ Z) ++ (E ++ ((S ++ T) ++ R)))))) ≡ X ++ (Y ++ (N ++ W)) = simp append_assoc in
    let f : over (shifted (X ++ (Y ++ (N ++ W))) from to 48) from L ≡ X ++ (L ++ (Y ++ W)) =
    rw (shifted_at X Y N W from to 48 lx ly en) (over_at X (take 48 (Y ++ N)) (Y ++ W) L from lx lt) in
    let g : X ++ (L ++ (Y ++ W)) ≡ A ++ (T ++ R) = simp append_assoc in
    ap (λ (l : List ℕ). over (over (shifted l from to 48) from L) at T') e
    ∙ ap (λ (l : List ℕ). over l at T') (f ∙ g)
    ∙ over_at A T R T' at la eT
    ∙ simp append_assoc

-- ---- the image

module _ (t : Table) (before : List Station) (s : Station) (after : List Station) (p : Point) (n : ℕ) (rest : List ℕ)
    (count : total held (before ++ (s ∷ after)) ≡ n) (room : n < t.capacity) where
  abbrev k : ℕ
  k = t.capacity

  below : List Point
  below = take (seek_in p.ioa s.points) s.points

  above : List Point
  above = drop (seek_in p.ioa s.points) s.points

  -- both images, cut at the station and at the point's place in the order
  cut : image (with_stations (before ++ (s ∷ after)) t) ++ rest
      ≡ head t.settings k (length before + suc (length after)) n ++ (bodies before ++ ((places_of s.ca below ++ places_of s.ca above) ++ (bodies after
      ++ ((replicate 48 0 ++ replicate (48 * (k - (n + 1))) 0)
      ++ (entries before ++ ((six s.ca s.reservation s.ceiling ++ pair (held s)) ++ (entries after ++ rest)))))))
  unfolding six below above
  cut =
      let S : ℕ = length before + suc (length after) in
      let F : List ℕ = eight s.ca s.reservation s.ceiling (held s) in
      let f : 48 * (k - n) ≡ 48 + 48 * (k - (n + 1)) = omega arith in
      let z : replicate {A = ℕ} (48 * (k - n)) 0 ≡ replicate 48 0 ++ replicate (48 * (k - (n + 1))) 0 =
      ap (λ (x : ℕ). replicate {A = ℕ} x 0) f ∙ sym (replicate-append-replicate 48 (48 * (k - (n + 1))) 0) in
      let ps : places_of s.ca s.points ≡ places_of s.ca below ++ places_of s.ca above =
      ap (places_of s.ca) (sym (take-append-drop (seek_in p.ioa s.points) s.points)) ∙ places_append s.ca below above in
      image_at t before s after n rest count
      ∙ (λ j. head t.settings k S n ++ (bodies before ++ (ps j ++ (bodies after ++ (z j ++ (entries before ++ (F ++ (entries after ++ rest))))))))

  cut_added : image (with_stations (before ++ (with_points (insert_in p) s ∷ after)) t) ++ rest
      ≡ head t.settings k (length before + suc (length after)) (n + 1) ++ (bodies before
      ++ ((places_of s.ca below ++ (place_of s.ca p ++ places_of s.ca above)) ++ (bodies after
      ++ (replicate (48 * (k - (n + 1))) 0
      ++ (entries before ++ ((six s.ca s.reservation s.ceiling ++ pair (held s + 1)) ++ (entries after ++ rest)))))))
  unfolding six below above insert_in
  cut_added =
      let S : ℕ = length before + suc (length after) in
      let s' : Station = with_points (insert_in p) s in
      let h : length (insert_in p s.points) ≡ held s + 1 = insert_length p s.points in
      let a : total held (before ++ (s ∷ after)) ≡ total held before + (held s + total held after) = held_at_lem before s after in
      let b : total held (before ++ (s' ∷ after)) ≡ total held before + (length (insert_in p s.points) + total held after) = held_at_lem before s' after in
      let ps : places_of s.ca (insert_in p s.points) ≡ places_of s.ca below ++ (place_of s.ca p ++ places_of s.ca above) =
      places_at_lem s.ca below p above in
      image_at t before s' after (n + 1) rest (omega arith)
      ∙ (λ j. head t.settings k S (n + 1) ++ (bodies before ++ (ps j ++ (bodies after ++ (replicate (48 * (k - (n + 1))) 0
      ++ (entries before ++ (eight s.ca s.reservation s.ceiling (h j) ++ (entries after ++ rest))))))))

  placed_cut : (at : ℕ) → at ≡ 64 + 48 * (total held before + seek_in p.ioa s.points)
      → over (over (put_in (image (with_stations (before ++ (s ∷ after)) t) ++ rest) at (64 + 48 * n) (place_of s.ca p))
      (64 + 48 * k + 8 * length before + 6) (pair (held s + 1))) 8 (pair (n + 1))
      ≡ image (with_stations (before ++ (with_points (insert_in p) s ∷ after)) t) ++ rest
  unfolding six below above
  placed_cut at e =
      let S : ℕ = length before + suc (length after) in
      let j : ℕ = seek_in p.ioa s.points in
      let hj : j ≤ held s = seek_le p.ioa s.points in
      let P : List ℕ = places_of s.ca below in
      let Q : List ℕ = places_of s.ca above in
      let Z : List ℕ = replicate (48 * (k - (n + 1))) 0 in
      let R : List ℕ = entries after ++ rest in
      let six' : List ℕ = six s.ca s.reservation s.ceiling in
      let a : total held (before ++ (s ∷ after)) ≡ total held before + (held s + total held after) = held_at_lem before s after in
      let lb : length (bodies before) ≡ 48 * total held before = length_bodies before in
      let ld : length (bodies after) ≡ 48 * total held after = length_bodies after in
      let le : length (entries before) ≡ 8 * length before = length_entries before in
      let lz : length Z ≡ 48 * (k - (n + 1)) = length-replicate (48 * (k - (n + 1))) 0 in
      let lp : length P ≡ 48 * j = length_places s.ca below ∙ ap (λ (x : ℕ). 48 * x) (length-take-le j s.points hj) in
      let lq : length Q ≡ 48 * (held s - j) = length_places s.ca above ∙ ap (λ (x : ℕ). 48 * x) (length-drop j s.points) in
      let moved = put_at (head t.settings k S n) (bodies before) P Q (bodies after) (replicate 48 0) Z (entries before) six' (pair (held s)) R
      (place_of s.ca p) (pair (held s + 1)) at (64 + 48 * n) (64 + 48 * k + 8 * length before + 6) (omega arith) (omega arith) refl refl (omega arith) refl in
      ap (λ (l : List ℕ). over (over (put_in l at (64 + 48 * n) (place_of s.ca p)) (64 + 48 * k + 8 * length before + 6) (pair (held s + 1))) 8 (pair (n + 1))) cut
      ∙ ap (λ (l : List ℕ). over l 8 (pair (n + 1))) moved
      ∙ head_over t.settings k S n (n + 1) (bodies before ++ ((P ++ (place_of s.ca p ++ Q)) ++ (bodies after ++ (Z ++ (entries before ++ ((six' ++ pair (held s + 1)) ++ R))))))
      ∙ sym cut_added

-- Putting a point in at its place in a station makes of a table's image the image of the table with the point.
pub insert_image : (t : Table) (rest : List ℕ) (ca : ℕ) (p : Point) (s : Station) (w : Found ca t.stations s) (i h at : ℕ) → Good t
    → total held t.stations < t.capacity → Standing t.stations ca p.ioa s w i h at → placed (image t ++ rest) ca p i h at ≡ image (added t ca p) ++ rest
unfolding placed added changed
insert_image t rest ca p s w i h at g room z =
    let m : List ℕ = image t ++ rest in
    let K : ℕ = t.capacity in
    let n : ℕ = total held t.stations in
    let l : Laid m t = laid t rest g in
    let same : image t ≡ image (with_stations (w.before ++ (s ∷ w.after)) t) = λ j. image (with_stations (w.split j) t) in
    (λ j. over (over (put_in m at (64 + 48 * l.is_n j) (place_of (sym w.is_ca j) p)) (64 + 48 * l.is_k j + 8 * z.index j + 6) (pair (z.count j + 1))) 8 (pair (l.is_n j + 1)))
    ∙ (λ j. over (over (put_in (same j ++ rest) at (64 + 48 * n) (place_of s.ca p)) (64 + 48 * K + 8 * length w.before + 6) (pair (held s + 1))) 8 (pair (n + 1)))
    ∙ placed_cut t w.before s w.after p n rest (ap (total held) (sym w.split)) room at z.place
    ∙ (λ j. image (with_stations (sym (stations_split t ca (insert_in p) s w) j) t) ++ rest)

-- The same of a memory that holds a table: what lies past the table's octets stays.
pub insert_parsed : (m : List ℕ) (t : Table) (ca : ℕ) (p : Point) (s : Station) (w : Found ca t.stations s) (i h at : ℕ) → Octets m → parse m ≡ some t
    → total held t.stations < t.capacity → Standing t.stations ca p.ioa s w i h at → placed m ca p i h at ≡ image (added t ca p) ++ drop (length (image t)) m
insert_parsed m t ca p s w i h at o e room z =
    let q = parse_sound m t o e in
    ap (λ (x : List ℕ). placed x ca p i h at) q.1 ∙ insert_image t (drop (length (image t)) m) ca p s w i h at (good_is t q.0) room z

-- What `insert` asks of the numbers.
pub insert_bounds : (t : Table) (m : List ℕ) (ca ioa : ℕ) (s : Station) (w : Found ca t.stations s) (i h at : ℕ) → Good t → Laid m t
    → total held t.stations < t.capacity → Standing t.stations ca ioa s w i h at
    → HasRoom m i h at
insert_bounds t m ca ioa s w i h at g l room z =
    let e4 : two m 4 ≡ t.capacity = l.is_k in
    let e6 : two m 6 ≡ length t.stations = l.is_s in
    let e8 : two m 8 ≡ total held t.stations = l.is_n in
    let long : 64 + 48 * t.capacity + 8 * length t.stations ≤ length m = l.room in
    let high : t.capacity ≤ 4096 = g.k_high in
    let all : total held t.stations ≡ total held w.before + (held s + total held w.after) = ap (total held) w.split ∙ held_at_lem w.before s w.after in
    let len : length t.stations ≡ length w.before + suc (length w.after) = ap length w.split ∙ length-append w.before (s ∷ w.after) in
    let j : seek_in ioa s.points ≤ held s = seek_le ioa s.points in
    let ei : i ≡ length w.before = z.index in
    let eh : h ≡ held s = z.count in
    let ea : at ≡ 64 + 48 * (total held w.before + seek_in ioa s.points) = z.place in
    (omega arith, omega arith, omega arith, omega arith, omega arith)
