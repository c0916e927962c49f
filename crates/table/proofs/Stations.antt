-- The stations: what is tested is printed, and what is printed is read back. Assumes nothing.
use mathlib.Core.Path.{◌≡◌, refl, sym, ap, ap₂, ◌∙◌, subst}
use mathlib.Core.List.{List, [], ◌∷◌}
use mathlib.Core.Bool.{Bool, true}
use Prim.Native.Nat.{ℕ, zero, suc, ◌+◌, ◌*◌, ◌-◌, ◌/◌, ◌%◌, ◌≤◌, ◌<◌}
use native.Mathlib.Omega.{arith}
use native.Mathlib.Nat.{add-zero, add_assoc}
use lib.ListN.{length, take, drop, get_or, length-append, length-drop}
use lib.Seq.{get_or-drop}
use Rattle.limits.specs.Test.{◌&◌, total}
use Rattle.octets.specs.Number.{two, Octets}
use Rattle.model.specs.Place.{places_ok}
use Rattle.limits.proofs.Tests.{both, join}
use Rattle.table.specs.Table.{Station, held, unmet, reserved, numbers_ok, plan_ok, all_rising, places_of, bodies, eight, entries}
use Rattle.table.specs.Memory.{points_at, stations_at, sum_at, unmet_at, plan_at, bodies_at}
use Rattle.layout.specs.Layout.{reservation_at, held_at}
use Rattle.octets.proofs.At.{At, at_none, at_next, at_fst, at_rest, at_take}
use Rattle.table.proofs.Points.{octets_drop, gets, gets_drop, length_places, length_points_at, points_sound, points_complete}

-- ---- what is read, as of the stations read: no condition

-- As many stations are read as are asked for.
pub length_stations_at : (m : List ℕ) (pb sb n : ℕ) → length (stations_at m pb sb n) ≡ n
unfolding stations_at
length_stations_at m pb sb zero = refl
length_stations_at m pb sb (suc n) = ap suc (length_stations_at m (pb + 48 * two m (sb + 6)) (sb + 8) n)

-- The reservations read, added up, are those of the stations read.
pub sum_reserved : (m : List ℕ) (pb sb n : ℕ) → total reserved (stations_at m pb sb n) ≡ sum_at reservation_at m sb n
unfolding stations_at total sum_at
sum_reserved m pb sb zero = refl
sum_reserved m pb sb (suc n) = ap (λ (x : ℕ). two m (sb + 2) + x) (sum_reserved m (pb + 48 * two m (sb + 6)) (sb + 8) n)

-- The same of what they hold.
pub sum_held : (m : List ℕ) (pb sb n : ℕ) → total held (stations_at m pb sb n) ≡ sum_at held_at m sb n
unfolding stations_at total sum_at
sum_held m pb sb zero = refl
sum_held m pb sb (suc n) =
    ap₂ (λ (h x : ℕ). h + x) (length_points_at m pb (two m (sb + 6))) (sum_held m (pb + 48 * two m (sb + 6)) (sb + 8) n)

-- The same of their unmet room.
pub sum_unmet : (m : List ℕ) (pb sb n : ℕ) → total unmet (stations_at m pb sb n) ≡ sum_at unmet_at m sb n
unfolding stations_at total sum_at
sum_unmet m pb sb zero = refl
sum_unmet m pb sb (suc n) =
    ap₂ (λ (h x : ℕ). two m (sb + 2) - h + x) (length_points_at m pb (two m (sb + 6))) (sum_unmet m (pb + 48 * two m (sb + 6)) (sb + 8) n)

-- The test of the plan in memory is the test of the stations read.
pub plan_is : (m : List ℕ) (k low pb sb n : ℕ) → plan_ok k low (stations_at m pb sb n) ≡ plan_at m k low sb n
unfolding stations_at plan_ok plan_at
plan_is m k low pb sb zero = refl
plan_is m k low pb sb (suc n) =
    ap₂ (λ (h : ℕ) (b : Bool). numbers_ok k low (two m sb) (two m (sb + 2)) (two m (sb + 4)) h & b)
    (length_points_at m pb (two m (sb + 6)))
    (plan_is m k (two m sb + 1) (pb + 48 * two m (sb + 6)) (sb + 8) n)

-- ---- a station's eight octets

two_drop : (m : List ℕ) (sb k : ℕ) → two m (sb + k) ≡ two (drop sb m) k
two_drop m sb k = simp (get_or-drop, add_assoc)

two_here : (m : List ℕ) (sb : ℕ) → two m sb ≡ two (drop sb m) 0
two_here m sb = simp (get_or-drop, add-zero)

-- The low octet of a number, and the number above it.
pub low_of : (a b : ℕ) → a < 256 → (a + 256 * b) % 256 ≡ a
low_of a b h = omega arith

pub high_of : (a b : ℕ) → a < 256 → (a + 256 * b) / 256 ≡ b
high_of a b h = omega arith

-- Low octet and high octet make the number.
pub whole : (v : ℕ) → v % 256 + 256 * (v / 256) ≡ v
whole v = omega arith

eight_back : (l : List ℕ) → 8 ≤ length l → Octets l → eight (two l 0) (two l 2) (two l 4) (two l 6) ≡ take 8 l
unfolding gets
eight_back l h o =
    (λ j. low_of (get_or l 0 0) (get_or l 1 0) (o 0) j ∷ high_of (get_or l 0 0) (get_or l 1 0) (o 0) j
    ∷ low_of (get_or l 2 0) (get_or l 3 0) (o 2) j ∷ high_of (get_or l 2 0) (get_or l 3 0) (o 2) j
    ∷ low_of (get_or l 4 0) (get_or l 5 0) (o 4) j ∷ high_of (get_or l 4 0) (get_or l 5 0) (o 4) j
    ∷ low_of (get_or l 6 0) (get_or l 7 0) (o 6) j ∷ high_of (get_or l 6 0) (get_or l 7 0) (o 6) j ∷ [])
    ∙ gets_drop 0 8 l h

-- Eight octets are those of the four numbers read from them.
pub eight_sound : (m : List ℕ) (sb : ℕ) → Octets m → sb + 8 ≤ length m → At m sb (eight (two m sb) (two m (sb + 2)) (two m (sb + 4)) (two m (sb + 6)))
eight_sound m sb o h =
    let l : 8 ≤ length (drop sb m) = simp length-drop (omega arith) in
    let e = eight_back (drop sb m) l (octets_drop m sb o) in
    let f : eight (two m sb) (two m (sb + 2)) (two m (sb + 4)) (two m (sb + 6)) ≡ eight (two (drop sb m) 0) (two (drop sb m) 2) (two (drop sb m) 4) (two (drop sb m) 6) =
    λ j. eight (two_here m sb j) (two_drop m sb 2 j) (two_drop m sb 4 j) (two_drop m sb 6 j) in
    at_take m (eight (two m sb) (two m (sb + 2)) (two m (sb + 4)) (two m (sb + 6))) sb (f ∙ e)

-- The four numbers of a station's eight octets.
pub record EntryRead (m : List ℕ) (sb ca r c h : ℕ) : Type 0 where
  pub is_ca : two m sb ≡ ca
  pub is_r : two m (sb + 2) ≡ r
  pub is_c : two m (sb + 4) ≡ c
  pub is_h : two m (sb + 6) ≡ h

-- A station's eight octets are read back as its numbers.
pub eight_read : (m : List ℕ) (sb ca r c h : ℕ) → At m sb (eight ca r c h) → EntryRead m sb ca r c h
eight_read m sb ca r c h a =
    record {
      is_ca = two_here m sb ∙ ap (λ (l : List ℕ). two l 0) a.is ∙ whole ca;
      is_r = two_drop m sb 2 ∙ ap (λ (l : List ℕ). two l 2) a.is ∙ whole r;
      is_c = two_drop m sb 4 ∙ ap (λ (l : List ℕ). two l 4) a.is ∙ whole c;
      is_h = two_drop m sb 6 ∙ ap (λ (l : List ℕ). two l 6) a.is ∙ whole h;
    }

-- ---- all of them

-- The places of all stations take 48 octets for each point.
pub length_bodies : (ss : List Station) → length (bodies ss) ≡ 48 * total held ss
unfolding bodies total
length_bodies [] = refl
length_bodies (s ∷ ss) =
    let a : length (places_of s.ca s.points) ≡ 48 * held s = length_places s.ca s.points in
    let ih : length (bodies ss) ≡ 48 * total held ss = length_bodies ss in
    simp length-append (omega arith)

-- The stations take eight octets each.
pub length_entries : (ss : List Station) → length (entries ss) ≡ 8 * length ss
unfolding entries
length_entries [] = refl
length_entries (s ∷ ss) = let ih : length (entries ss) ≡ 8 * length ss = length_entries ss in omega arith

-- The stations' octets are those of the stations read from them.
pub entries_sound : (m : List ℕ) (pb sb n : ℕ) → Octets m → sb + 8 * n ≤ length m → At m sb (entries (stations_at m pb sb n))
unfolding entries stations_at
entries_sound m pb sb zero o h = at_none m sb
entries_sound m pb sb (suc n) o h =
    let e : length (points_at m pb (two m (sb + 6))) ≡ two m (sb + 6) = length_points_at m pb (two m (sb + 6)) in
    let a = subst (λ (x : ℕ). At m sb (eight (two m sb) (two m (sb + 2)) (two m (sb + 4)) x)) (sym e) (eight_sound m sb o (omega arith)) in
    at_next 8 a refl (entries_sound m (pb + 48 * two m (sb + 6)) (sb + 8) n o (omega arith))

-- Places that pass the test are those of the stations read, whose points rise.
pub bodies_sound : (m : List ℕ) (pb sb n : ℕ) → Octets m → pb + 48 * sum_at held_at m sb n ≤ length m → bodies_at m pb sb n ≡ true
    → At m pb (bodies (stations_at m pb sb n)) × (all_rising (stations_at m pb sb n) ≡ true)
unfolding bodies stations_at bodies_at all_rising sum_at
bodies_sound m pb sb zero o h t = (at_none m pb, refl)
bodies_sound m pb sb (suc n) o h t =
    let t1 = both _ _ t in
    let k : ℕ = two m (sb + 6) in
    let p = points_sound m pb (two m sb) 0 k o (omega arith) t1.0 in
    let ih = bodies_sound m (pb + 48 * k) (sb + 8) n o (omega arith) t1.1 in
    let e : length (places_of (two m sb) (points_at m pb k)) ≡ 48 * k =
    length_places (two m sb) (points_at m pb k) ∙ ap (λ (x : ℕ). 48 * x) (length_points_at m pb k) in
    (at_next (48 * k) p.0 e ih.0, join p.1 ih.1)

-- The octets of stations whose points rise are read back as these stations, and pass the test.
pub stations_complete : (m : List ℕ) (pb sb : ℕ) (ss : List Station) → At m pb (bodies ss) → At m sb (entries ss) → all_rising ss ≡ true
    → (stations_at m pb sb (length ss) ≡ ss) × (bodies_at m pb sb (length ss) ≡ true)
unfolding bodies entries stations_at bodies_at all_rising
stations_complete m pb sb [] a b t = (refl, refl)
stations_complete m pb sb (s ∷ ss) a b t =
    let t1 = both _ _ t in
    let E : List ℕ = eight s.ca s.reservation s.ceiling (held s) in
    let P : List ℕ = places_of s.ca s.points in
    let r = eight_read m sb s.ca s.reservation s.ceiling (held s) (at_fst m E (entries ss) sb b) in
    let p = points_complete m pb s.ca 0 s.points (at_fst m P (bodies ss) pb a) t1.0 in
    let ih = stations_complete m (pb + 48 * held s) (sb + 8) ss
    (at_rest m P (bodies ss) pb (48 * held s) (length_places s.ca s.points) a)
    (at_rest m E (entries ss) sb 8 refl b) t1.1 in
    let h = r.is_h in
    let pe : points_at m pb (two m (sb + 6)) ≡ s.points = rw h p.0 in
    let re : stations_at m (pb + 48 * two m (sb + 6)) (sb + 8) (length ss) ≡ ss = rw h ih.0 in
    let e1 = r.is_ca in
    let e2 = r.is_r in
    let e3 = r.is_c in
    let ok : places_ok m pb (two m sb) 0 (two m (sb + 6)) ≡ true = rw (h, e1) p.1 in
    let rest : bodies_at m (pb + 48 * two m (sb + 6)) (sb + 8) (length ss) ≡ true = rw h ih.1 in
    ((λ j. record { ca = e1 j; reservation = e2 j; ceiling = e3 j; points = pe j } ∷ re j), join ok rest)
