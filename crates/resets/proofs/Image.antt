-- Resetting the places of a table's image gives the image of the table with its counters reset: the places of one station, or all of them.
-- Assumes nothing.
use mathlib.Core.Path.{◌≡◌, refl, sym, ap, ap₂, ◌∙◌, subst}
use mathlib.Core.List.{List, [], ◌∷◌, ◌++◌, map, append_assoc}
use mathlib.Core.Bool.{Bool, true, false}
use Prim.Native.Nat.{ℕ, suc, ◌+◌, ◌*◌, ◌-◌, ◌/◌, ◌%◌}
use native.Mathlib.Omega.{arith}
use native.Mathlib.Nat.{zero-add}
use lib.ListN.{length, drop, get_or, replicate, length-append}
use lib.Seq.{get_or-drop}
use borrow.Author.Tests.{eqb-true}
use Rattle.limits.specs.Test.{◌&◌, pick, total}
use Rattle.limits.proofs.Tests.{both}
use Rattle.octets.specs.Over.{over}
use Rattle.octets.proofs.Laws.{over_at}
use Rattle.octets.proofs.At.{At, at_here, at_rest}
use Rattle.model.specs.declared.Point.{Point}
use Rattle.model.specs.Place.{is_counter, point_ok, place_of}
use Rattle.table.specs.Table.{Station, Table, held, rising, all_rising, places_of, bodies, eight, entries, head, image}
use Rattle.table.specs.Change.{with_stations, with_points, changed}
use Rattle.table.proofs.Points.{place_read, length_places}
use Rattle.table.proofs.Stations.{length_bodies}
use Rattle.table.proofs.Parse.{Good}
use Rattle.table.proofs.Cut.{held_at_lem, image_at}
use Rattle.table.proofs.Change.{Found, station_rises, stations_split}
use Rattle.report.specs.declared.Selection.{Selection}
use Rattle.report.specs.Selection.{selects}
use Rattle.answers.specs.System.{zeroed, reset_in}
use Rattle.answers.proofs.Values.{reset_gentle}
use Rattle.resets.specs.Resets.{takes_at, reset_place, reset_places}
use Rattle.resets.proofs.Turns.{reset_then}

-- ---- one place

-- octets that lie after others stand there
at_after : (X L Y : List ℕ) (at : ℕ) → length X ≡ at → At (X ++ (L ++ Y)) at L
at_after X L Y at e =
    let a : At (X ++ (L ++ Y)) 0 (X ++ L) = subst (λ (m : List ℕ). At m 0 (X ++ L)) (append_assoc X L Y) (at_here (X ++ L) Y) in
    subst (λ (k : ℕ). At (X ++ (L ++ Y)) k L) (zero-add at) (at_rest (X ++ (L ++ Y)) X L 0 at e a)

-- the point, reset where the selection takes it
reset_one : Selection → Point → Point
reset_one sel p = pick (is_counter p.kind & selects sel p) (zeroed p) p

place_image : (sel : Selection) (ca : ℕ) (X Y : List ℕ) (p : Point) (at : ℕ) → length X ≡ at → length p.value ≡ 12
    → reset_place sel (X ++ (place_of ca p ++ Y)) at ≡ X ++ (place_of ca (reset_one sel p) ++ Y)
unfolding reset_place takes_at reset_one
place_image sel ca X Y p at e f =
    ap (λ (q : Point). pick (is_counter q.kind & selects sel q) (over (X ++ (place_of ca p ++ Y)) (at + 10) (replicate 4 0)) (X ++ (place_of ca p ++ Y)))
    (place_read (X ++ (place_of ca p ++ Y)) at ca p f (at_after X (place_of ca p) Y at e))
    ∙ go (is_counter p.kind & selects sel p)
  where
    H : List ℕ
    H = p.kind ∷ ca % 256 ∷ ca / 256 ∷ p.ioa % 256 ∷ p.ioa / 256 % 256 ∷ p.ioa / 65536 ∷ p.group % 256 ∷ p.group / 256 ∷ p.counter ∷ 0 ∷ []

    O : List ℕ
    O = get_or p.value 0 0 ∷ get_or p.value 1 0 ∷ get_or p.value 2 0 ∷ get_or p.value 3 0 ∷ []

    W : List ℕ
    W = get_or p.value 4 0 ∷ get_or p.value 5 0 ∷ get_or p.value 6 0 ∷ get_or p.value 7 0 ∷ get_or p.value 8 0 ∷ get_or p.value 9 0 ∷ get_or p.value 10 0 ∷ get_or p.value 11 0 ∷ (replicate 26 0 ++ Y)

    lh : length (X ++ H) ≡ at + 10
    lh = simp length-append (omega arith)

    w : W ≡ get_or (drop 4 p.value) 0 0 ∷ get_or (drop 4 p.value) 1 0 ∷ get_or (drop 4 p.value) 2 0 ∷ get_or (drop 4 p.value) 3 0 ∷ get_or (drop 4 p.value) 4 0 ∷ get_or (drop 4 p.value) 5 0 ∷ get_or (drop 4 p.value) 6 0 ∷ get_or (drop 4 p.value) 7 0 ∷ (replicate 26 0 ++ Y)
    w = simp (get_or-drop 4 p.value)

    go : (b : Bool) → pick b (over (X ++ (place_of ca p ++ Y)) (at + 10) (replicate 4 0)) (X ++ (place_of ca p ++ Y)) ≡ X ++ (place_of ca (pick b (zeroed p) p) ++ Y)
    go true =
        ap (λ (l : List ℕ). over l (at + 10) (replicate 4 0)) (sym (append_assoc X H (O ++ W)))
        ∙ over_at (X ++ H) O W (replicate 4 0) (at + 10) lh refl
        ∙ append_assoc X H (0 ∷ 0 ∷ 0 ∷ 0 ∷ W)
        ∙ ap (λ (l : List ℕ). X ++ (H ++ (0 ∷ 0 ∷ 0 ∷ 0 ∷ l))) w
    go false = refl

-- ---- the places of a station

places_image : (sel : Selection) (ca low : ℕ) (ps : List Point) (X Y : List ℕ) (at : ℕ) → rising low ps ≡ true → length X ≡ at
    → reset_places sel (X ++ (places_of ca ps ++ Y)) at (length ps) ≡ X ++ (places_of ca (reset_in sel ps) ++ Y)
unfolding reset_places places_of reset_in rising point_ok reset_one
places_image sel ca low [] X Y at r e = refl
places_image sel ca low (p ∷ ps) X Y at r e =
    let r2 = both _ _ (both _ _ r).1 in
    let v : length p.value ≡ 12 = eqb-true _ _ (both _ _ (both _ _ r2.0).1).0 in
    let p' : Point = reset_one sel p in
    let s : length (X ++ place_of ca p') ≡ at + 48 = simp length-append (omega arith) in
    let q : X ++ (place_of ca p ++ places_of ca ps ++ Y) ≡ X ++ (place_of ca p ++ (places_of ca ps ++ Y)) = ap (λ (l : List ℕ). X ++ l) (append_assoc (place_of ca p) (places_of ca ps) Y) in
    let t : reset_place sel (X ++ (place_of ca p ++ places_of ca ps ++ Y)) at ≡ (X ++ place_of ca p') ++ (places_of ca ps ++ Y) =
    ap (λ (l : List ℕ). reset_place sel l at) q ∙ place_image sel ca X (places_of ca ps ++ Y) p at e v ∙ sym (append_assoc X (place_of ca p') (places_of ca ps ++ Y)) in
    let Q : List ℕ = places_of ca (reset_in sel ps) in
    ap (λ (l : List ℕ). reset_places sel l (at + 48) (length ps)) t
    ∙ places_image sel ca (p.ioa + 1) ps (X ++ place_of ca p') Y (at + 48) r2.1 s
    ∙ append_assoc X (place_of ca p') (Q ++ Y)
    ∙ ap (λ (l : List ℕ). X ++ l) (sym (append_assoc (place_of ca p') Q Y))

-- As many points as before.
same_count : (sel : Selection) (ps : List Point) → length (reset_in sel ps) ≡ length ps
same_count sel ps = (reset_gentle sel).same_length ps

-- Resetting the places of one station leaves the image of the table with that station's counters reset.
pub station_image : (t : Table) (rest : List ℕ) (ca : ℕ) (sel : Selection) (s : Station) (w : Found ca t.stations s) (first h : ℕ) → Good t
    → first ≡ 64 + 48 * total held w.before → h ≡ held s → reset_places sel (image t ++ rest) first h ≡ image (changed t ca (reset_in sel)) ++ rest
unfolding changed
station_image t rest ca sel s w first h g ef eh =
    let K : ℕ = t.capacity in
    let n : ℕ = total held t.stations in
    let S : ℕ = length w.before + suc (length w.after) in
    let s' : Station = with_points (reset_in sel) s in
    let B : List ℕ = bodies w.before in
    let P : List ℕ = places_of s.ca s.points in
    let P' : List ℕ = places_of s.ca (reset_in sel s.points) in
    let Y : List ℕ = bodies w.after ++ (replicate (48 * (K - n)) 0 ++ (entries w.before ++ (eight s.ca s.reservation s.ceiling (held s) ++ (entries w.after ++ rest)))) in
    let same : length (reset_in sel s.points) ≡ held s = same_count sel s.points in
    let all : total held (w.before ++ (s ∷ w.after)) ≡ n = ap (total held) (sym w.split) in
    let a : total held (w.before ++ (s ∷ w.after)) ≡ total held w.before + (held s + total held w.after) = held_at_lem w.before s w.after in
    let b : total held (w.before ++ (s' ∷ w.after)) ≡ total held w.before + (length (reset_in sel s.points) + total held w.after) = held_at_lem w.before s' w.after in
    let all' : total held (w.before ++ (s' ∷ w.after)) ≡ n = omega arith in
    let lx : length (head t.settings K S n ++ B) ≡ first = let lb = length_bodies w.before in simp length-append (omega arith) in
    let was : image t ++ rest ≡ (head t.settings K S n ++ B) ++ (P ++ Y) =
    (λ j. image (with_stations (w.split j) t) ++ rest)
    ∙ image_at t w.before s w.after n rest all
    ∙ sym (append_assoc (head t.settings K S n) B (P ++ Y)) in
    let is : image (with_stations (w.before ++ (s' ∷ w.after)) t) ++ rest ≡ (head t.settings K S n ++ B) ++ (P' ++ Y) =
    image_at t w.before s' w.after n rest all'
    ∙ (λ j. head t.settings K S n ++ (B ++ (P' ++ (bodies w.after ++ (replicate (48 * (K - n)) 0 ++ (entries w.before ++ (eight s.ca s.reservation s.ceiling (same j) ++ (entries w.after ++ rest))))))))
    ∙ sym (append_assoc (head t.settings K S n) B (P' ++ Y)) in
    (λ j. reset_places sel (was j) first (eh j))
    ∙ places_image sel s.ca 0 s.points (head t.settings K S n ++ B) Y first (station_rises t ca s g w) lx
    ∙ sym is
    ∙ (λ j. image (with_stations (sym (stations_split t ca (reset_in sel) s w) j) t) ++ rest)

-- ---- the places of every station

bodies_image : (sel : Selection) (ss : List Station) (X Y : List ℕ) (at : ℕ) → all_rising ss ≡ true → length X ≡ at
    → reset_places sel (X ++ (bodies ss ++ Y)) at (total held ss) ≡ X ++ (bodies (map (with_points (reset_in sel)) ss) ++ Y)
unfolding reset_places bodies all_rising total
bodies_image sel [] X Y at r e = refl
bodies_image sel (s ∷ ss) X Y at r e =
    let r1 = both _ _ r in
    let P : List ℕ = places_of s.ca s.points in
    let P' : List ℕ = places_of s.ca (reset_in sel s.points) in
    let D : List ℕ = bodies ss in
    let D' : List ℕ = bodies (map (with_points (reset_in sel)) ss) in
    let same : length (reset_in sel s.points) ≡ held s = same_count sel s.points in
    let lp : length P' ≡ 48 * length (reset_in sel s.points) = length_places s.ca (reset_in sel s.points) in
    let lx : length (X ++ P') ≡ at + 48 * held s = simp length-append (omega arith) in
    ap (λ (l : List ℕ). reset_places sel (X ++ l) at (held s + total held ss)) (append_assoc P D Y)
    ∙ reset_then sel (X ++ (P ++ (D ++ Y))) at (held s) (total held ss)
    ∙ ap (λ (l : List ℕ). reset_places sel l (at + 48 * held s) (total held ss))
    (places_image sel s.ca 0 s.points X (D ++ Y) at r1.0 e ∙ sym (append_assoc X P' (D ++ Y)))
    ∙ bodies_image sel ss (X ++ P') Y (at + 48 * held s) r1.1 lx
    ∙ append_assoc X P' (D' ++ Y)
    ∙ ap (λ (l : List ℕ). X ++ l) (sym (append_assoc P' D' Y))

every_held : (sel : Selection) (ss : List Station) → total held (map (with_points (reset_in sel)) ss) ≡ total held ss
unfolding total
every_held sel [] = refl
every_held sel (s ∷ ss) = ap₂ (λ (x y : ℕ). x + y) (same_count sel s.points) (every_held sel ss)

every_station : (sel : Selection) (ss : List Station) → length (map (with_points (reset_in sel)) ss) ≡ length ss
every_station sel [] = refl
every_station sel (s ∷ ss) = ap suc (every_station sel ss)

every_entry : (sel : Selection) (ss : List Station) → entries (map (with_points (reset_in sel)) ss) ≡ entries ss
unfolding entries
every_entry sel [] = refl
every_entry sel (s ∷ ss) = λ j. eight s.ca s.reservation s.ceiling (same_count sel s.points j) ++ every_entry sel ss j

regroup : (H B Z E R : List ℕ) → (H ++ (B ++ (Z ++ E))) ++ R ≡ H ++ (B ++ (Z ++ (E ++ R)))
regroup H B Z E R = simp append_assoc

-- Resetting all places leaves the image of the table with every station's counters reset.
pub every_image : (t : Table) (rest : List ℕ) (sel : Selection) → Good t
    → reset_places sel (image t ++ rest) 64 (total held t.stations)
    ≡ image (with_stations (map (with_points (reset_in sel)) t.stations) t) ++ rest
unfolding image
every_image t rest sel g =
    let K : ℕ = t.capacity in
    let ss : List Station = t.stations in
    let n : ℕ = total held ss in
    let H : List ℕ = head t.settings K (length ss) n in
    let Z : List ℕ = replicate (48 * (K - n)) 0 in
    let D' : List ℕ = bodies (map (with_points (reset_in sel)) ss) in
    ap (λ (l : List ℕ). reset_places sel l 64 n) (regroup H (bodies ss) Z (entries ss) rest)
    ∙ bodies_image sel ss H (Z ++ (entries ss ++ rest)) 64 g.rises refl
    ∙ sym (regroup H D' Z (entries ss) rest)
    ∙ (λ j. (head t.settings K (sym (every_station sel ss) j) (sym (every_held sel ss) j) ++ (D' ++ (replicate (48 * (K - sym (every_held sel ss) j)) 0 ++ sym (every_entry sel ss) j))) ++ rest)
