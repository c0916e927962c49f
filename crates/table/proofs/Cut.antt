-- The image of a table, cut at one of its stations: what lies before the station's places and its eight octets, and what after.
-- A change of that station alone changes these two pieces, the unused places and the number of points. Assumes nothing.
use mathlib.Core.Path.{◌≡◌, refl, sym, ap, ◌∙◌}
use mathlib.Core.List.{List, [], ◌∷◌, ◌++◌, append_assoc}
use Prim.Native.Nat.{ℕ, suc, ◌+◌, ◌*◌, ◌-◌, ◌/◌, ◌%◌}
use lib.ListN.{length, replicate, length-append}
use Rattle.limits.specs.Test.{total}
use Rattle.limits.proofs.Tests.{total_append}
use Rattle.octets.specs.Over.{over}
use Rattle.octets.specs.Number.{pair}
use Rattle.model.specs.declared.Point.{Point}
use Rattle.model.specs.Place.{place_of}
use Rattle.layout.specs.Layout.{place_size, points_offset}
use Rattle.table.specs.Change.{with_stations}
use Rattle.table.specs.Table.{Settings, Station, Table, held, places_of, bodies, eight, entries, head, image}

-- A station's first six octets, which no point changes.
unfoldable pub six : ℕ → ℕ → ℕ → List ℕ
six ca r c = ca % 256 ∷ ca / 256 ∷ r % 256 ∷ r / 256 ∷ c % 256 ∷ c / 256 ∷ []

-- The number of points written over the head.
pub head_over : (c : Settings) (k s n v : ℕ) (Y : List ℕ) → over (head c k s n ++ Y) points_offset (pair v) ≡ head c k s v ++ Y
unfolding over
head_over c k s n v Y = refl

-- The places of joined points are joined.
pub places_append : (ca : ℕ) (xs ys : List Point) → places_of ca (xs ++ ys) ≡ places_of ca xs ++ places_of ca ys
unfolding places_of
places_append ca [] ys = refl
places_append ca (p ∷ xs) ys =
    ap (λ (l : List ℕ). place_of ca p ++ l) (places_append ca xs ys) ∙ sym (append_assoc (place_of ca p) (places_of ca xs) (places_of ca ys))

-- The places of points with one among them taken by itself.
pub places_at_lem : (ca : ℕ) (below : List Point) (p : Point) (above : List Point)
    → places_of ca (below ++ (p ∷ above)) ≡ places_of ca below ++ (place_of ca p ++ places_of ca above)
unfolding places_of
places_at_lem ca below p above = places_append ca below (p ∷ above)

-- The places of all stations, cut at one of them.
pub bodies_at_lem : (before : List Station) (s : Station) (after : List Station)
    → bodies (before ++ (s ∷ after)) ≡ bodies before ++ (places_of s.ca s.points ++ bodies after)
unfolding bodies
bodies_at_lem [] s after = refl
bodies_at_lem (x ∷ before) s after =
    ap (λ (l : List ℕ). places_of x.ca x.points ++ l) (bodies_at_lem before s after)
    ∙ sym (append_assoc (places_of x.ca x.points) (bodies before) (places_of s.ca s.points ++ bodies after))

-- The stations' octets, cut at one of them.
pub entries_at : (before : List Station) (s : Station) (after : List Station)
    → entries (before ++ (s ∷ after)) ≡ entries before ++ (eight s.ca s.reservation s.ceiling (held s) ++ entries after)
unfolding entries
entries_at [] s after = refl
entries_at (x ∷ before) s after =
    ap (λ (l : List ℕ). eight x.ca x.reservation x.ceiling (held x) ++ l) (entries_at before s after)

-- A sum over the stations, cut at one of them.
pub total_at : (f : Station → ℕ) (before : List Station) (s : Station) (after : List Station)
    → total f (before ++ (s ∷ after)) ≡ total f before + (f s + total f after)
unfolding total
total_at f before s after = total_append f before (s ∷ after)

-- What all stations hold, cut at one of them.
pub held_at_lem : (before : List Station) (s : Station) (after : List Station)
    → total held (before ++ (s ∷ after)) ≡ total held before + (held s + total held after)
held_at_lem before s after = total_at held before s after

-- the seam between the table's octets and what lies after them
regroup : (H B P D Z E F G R : List ℕ)
    → (H ++ ((B ++ (P ++ D)) ++ (Z ++ (E ++ (F ++ G))))) ++ R ≡ H ++ (B ++ (P ++ (D ++ (Z ++ (E ++ (F ++ (G ++ R)))))))
regroup H B P D Z E F G R = simp append_assoc

-- The image of a table with n points, cut at station s.
pub image_at : (t : Table) (before : List Station) (s : Station) (after : List Station) (n : ℕ) (rest : List ℕ) → total held (before ++ (s ∷ after)) ≡ n
    → image (with_stations (before ++ (s ∷ after)) t) ++ rest
    ≡ head t.settings t.capacity (length before + suc (length after)) n ++ (bodies before ++ (places_of s.ca s.points ++ (bodies after
    ++ (replicate (place_size * (t.capacity - n)) 0 ++ (entries before ++ (eight s.ca s.reservation s.ceiling (held s) ++ (entries after ++ rest)))))))
unfolding image
image_at t before s after n rest e =
    let c : Settings = t.settings in
    let k : ℕ = t.capacity in
    (λ j.
    (head c k (length-append before (s ∷ after) j) (e j) ++ (bodies_at_lem before s after j ++ (replicate (48 * (k - e j)) 0 ++ entries_at before s after j)))
    ++ rest)
    ∙ regroup (head c k (length before + suc (length after)) n) (bodies before) (places_of s.ca s.points) (bodies after) (replicate (48 * (k - n)) 0)
    (entries before) (eight s.ca s.reservation s.ceiling (held s)) (entries after) rest
