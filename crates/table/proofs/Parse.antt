-- The two laws: what passes the test is the image of a good table, and every image of a good table passes and is read back. Assumes nothing.
use mathlib.Core.Path.{◌≡◌, refl, sym, ap, ap₂, ◌∙◌, subst}
use mathlib.Core.List.{List, [], ◌∷◌, ◌++◌, append_assoc}
use mathlib.Core.Bool.{Bool, true, false}
use mathlib.Core.Option.{none, some}
use Prim.Native.Nat.{ℕ, ◌+◌, ◌*◌, ◌-◌, ◌/◌, ◌%◌, ◌≤◌}
use native.Mathlib.Omega.{arith}
use native.Mathlib.Nat.{zero-add}
use lib.ListN.{length, take, drop, get_or, replicate, length-append, length-replicate}
use borrow.Author.Tests.{eqb-true, eq-eqb, leb-true, le-leb}
use Rattle.limits.specs.Test.{◌&◌, pick, total}
use Rattle.octets.specs.Number.{two, four, pair, zeros, Octets}
use Rattle.layout.specs.Layout.{head_size, place_size, station_size, most_places, most_stations, mark, spare_offset, spare_size, capacity_in, stations_in, points_in, after_places, stations_from, size_in, reservation_at, held_at}
use Rattle.limits.proofs.Tests.{both, join}
use Rattle.table.specs.Table.{Settings, Station, Table, held, unmet, reserved, plan_ok, shares_ok, settings_ok, all_rising, bodies, entries, settings_octets, head, image, good}
use Rattle.table.specs.Memory.{stations_at, settings_in, table_of, sum_at, unmet_at, plan_at, bodies_at, mark_at, settings_at, head_at, shares_at, well_formed, parse}
use Rattle.octets.proofs.At.{At, at_here, at_next, at_fst, at_rest, at_take, zeros_are, are_zeros}
use Rattle.table.proofs.Points.{gets, gets_drop}
use Rattle.table.proofs.Settings.{settings_sound, settings_complete}
use Rattle.table.proofs.Stations.{low_of, high_of, length_stations_at, sum_reserved, sum_held, sum_unmet, plan_is, whole, length_bodies, length_entries, entries_sound, bodies_sound, stations_complete}

-- ---- the head

-- The test of the head as facts.
pub record Head (m : List ℕ) : Type 0 where
  pub long : head_size ≤ length m
  pub mark : mark_at m ≡ true
  pub k_low : 1 ≤ capacity_in m
  pub k_high : capacity_in m ≤ most_places
  pub s_low : 1 ≤ stations_in m
  pub s_high : stations_in m ≤ most_stations
  pub room : size_in m ≤ length m
  pub settings : settings_at m ≡ true
  pub spare : zeros m spare_offset spare_size ≡ true

-- The test of the head tells the facts.
pub head_is : (m : List ℕ) → head_at m ≡ true → Head m
unfolding head_at
head_is m t =
    let t1 = both _ _ t in
    let t2 = both _ _ t1.1 in
    let t3 = both _ _ t2.1 in
    let t4 = both _ _ t3.1 in
    let t5 = both _ _ t4.1 in
    let t6 = both _ _ t5.1 in
    let t7 = both _ _ t6.1 in
    let t8 = both _ _ t7.1 in
    record {
      long = leb-true _ _ t1.0;
      mark = t2.0;
      k_low = leb-true _ _ t3.0;
      k_high = leb-true _ _ t4.0;
      s_low = leb-true _ _ t5.0;
      s_high = leb-true _ _ t6.0;
      room = leb-true _ _ t7.0;
      settings = t8.0;
      spare = t8.1;
    }

-- The facts make the test.
pub is_head : (m : List ℕ) → Head m → head_at m ≡ true
unfolding head_at
is_head m h =
    join (le-leb _ _ h.long) (join h.mark (join (le-leb _ _ h.k_low) (join (le-leb _ _ h.k_high)
    (join (le-leb _ _ h.s_low) (join (le-leb _ _ h.s_high) (join (le-leb _ _ h.room) (join h.settings h.spare)))))))

-- the head before its settings
abbrev ten : ℕ → ℕ → ℕ → List ℕ
ten k s n = mark ++ (pair k ++ (pair s ++ pair n))

head_back : (m : List ℕ) → Octets m → Head m → At m 0 (head (settings_in m) (capacity_in m) (stations_in m) (points_in m))
unfolding gets mark_at
head_back m o h =
    let f : four mark 0 ≡ four m 0 = sym (eqb-true _ _ h.mark) in
    let g : 342 ≡ get_or m 2 0 + 256 * get_or m 3 0 =
    ap (λ (x : ℕ). x / 256) (ap (λ (x : ℕ). x / 256) f ∙ high_of (get_or m 0 0) _ (o 0)) ∙ high_of (get_or m 1 0) _ (o 1) in
    let e0 : 75 ≡ get_or m 0 0 = ap (λ (x : ℕ). x % 256) f ∙ low_of (get_or m 0 0) _ (o 0) in
    let e1 : 72 ≡ get_or m 1 0 = ap (λ (x : ℕ). x % 256) (ap (λ (x : ℕ). x / 256) f ∙ high_of (get_or m 0 0) _ (o 0)) ∙ low_of (get_or m 1 0) _ (o 1) in
    let e2 : 86 ≡ get_or m 2 0 = ap (λ (x : ℕ). x % 256) g ∙ low_of (get_or m 2 0) _ (o 2) in
    let e3 : 1 ≡ get_or m 3 0 = ap (λ (x : ℕ). x / 256) g ∙ high_of (get_or m 2 0) _ (o 2) in
    let a4 = o 4 in
    let a6 = o 6 in
    let a8 = o 8 in
    let k0 : (get_or m 4 0 + 256 * get_or m 5 0) % 256 ≡ get_or m 4 0 = omega arith in
    let k1 : (get_or m 4 0 + 256 * get_or m 5 0) / 256 ≡ get_or m 5 0 = omega arith in
    let s0 : (get_or m 6 0 + 256 * get_or m 7 0) % 256 ≡ get_or m 6 0 = omega arith in
    let s1 : (get_or m 6 0 + 256 * get_or m 7 0) / 256 ≡ get_or m 7 0 = omega arith in
    let n0 : (get_or m 8 0 + 256 * get_or m 9 0) % 256 ≡ get_or m 8 0 = omega arith in
    let n1 : (get_or m 8 0 + 256 * get_or m 9 0) / 256 ≡ get_or m 9 0 = omega arith in
    let long : 64 ≤ length m = h.long in
    let e : ten (two m 4) (two m 6) (two m 8) ≡ take 10 m =
    (λ j. e0 j ∷ e1 j ∷ e2 j ∷ e3 j ∷ k0 j ∷ k1 j ∷ s0 j ∷ s1 j ∷ n0 j ∷ n1 j ∷ []) ∙ gets_drop 0 10 m (omega arith) in
    let c : At m 10 (settings_octets (settings_in m) ++ replicate 50 0) =
    at_next 4 (settings_sound m o (omega arith) h.settings).0 refl (zeros_are m 14 50 (omega arith) h.spare) in
    at_next {xs = ten (two m 4) (two m 6) (two m 8)} 10 (at_take m (ten (two m 4) (two m 6) (two m 8)) 0 e) refl c

-- ---- what passes the test is printed, and good

-- The whole test as facts.
pub record Passed (m : List ℕ) : Type 0 where
  pub top : Head m
  pub plan : plan_at m (capacity_in m) 1 (stations_from m) (stations_in m) ≡ true
  pub count : points_in m ≡ sum_at held_at m (stations_from m) (stations_in m)
  pub shares : shares_ok (capacity_in m) (sum_at reservation_at m (stations_from m) (stations_in m)) (points_in m) (sum_at unmet_at m (stations_from m) (stations_in m)) ≡ true
  pub few : points_in m ≤ capacity_in m
  pub places : bodies_at m head_size (stations_from m) (stations_in m) ≡ true
  pub unused : zeros m (head_size + place_size * points_in m) (place_size * (capacity_in m - points_in m)) ≡ true

-- At most K points are held.
pub few_of : (k r h u : ℕ) → shares_ok k r h u ≡ true → h ≤ k
unfolding shares_ok
few_of k r h u t = leb-true _ _ (both _ _ (both _ _ t).1).0

-- The test of the stations' numbers as facts.
pub record Shares (m : List ℕ) (k sb n points : ℕ) : Type 0 where
  pub plan : plan_at m k 1 sb n ≡ true
  pub count : points ≡ sum_at held_at m sb n
  pub shares : shares_ok k (sum_at reservation_at m sb n) points (sum_at unmet_at m sb n) ≡ true
  pub few : points ≤ k

-- That test tells the facts.
pub shares_is : (m : List ℕ) (k sb n points : ℕ) → shares_at m k sb n points ≡ true → Shares m k sb n points
unfolding shares_at
shares_is m k sb n points t =
    let t2 = both _ _ t in
    let t3 = both _ _ t2.1 in
    record { plan = t2.0; count = eqb-true _ _ t3.0; shares = t3.1; few = few_of _ _ _ _ t3.1 }

-- The facts make that test.
pub is_shares : (m : List ℕ) (k sb n points : ℕ) → plan_at m k 1 sb n ≡ true → points ≡ sum_at held_at m sb n
    → shares_ok k (sum_at reservation_at m sb n) points (sum_at unmet_at m sb n) ≡ true → shares_at m k sb n points ≡ true
unfolding shares_at
is_shares m k sb n points a b c = join a (join (eq-eqb _ _ b) c)

-- The whole test tells the facts.
pub passed : (m : List ℕ) → well_formed m ≡ true → Passed m
unfolding well_formed
passed m t =
    let t1 = both _ _ t in
    let t2 = both _ _ t1.1 in
    let t5 = both _ _ t2.1 in
    let s = shares_is _ _ _ _ _ t2.0 in
    record {
      top = head_is m t1.0;
      plan = s.plan;
      count = s.count;
      shares = s.shares;
      few = s.few;
      places = t5.0;
      unused = t5.1;
    }

-- The facts make the whole test.
pub passes : (m : List ℕ) → Passed m → well_formed m ≡ true
unfolding well_formed
passes m p = join (is_head m p.top) (join (is_shares _ _ _ _ _ p.plan p.count p.shares) (join p.places p.unused))

-- What passes the test is read as a good table.
pub sound_good : (m : List ℕ) → Octets m → Passed m → good (table_of m) ≡ true
unfolding good table_of
sound_good m o p =
    let k : ℕ = two m 4 in
    let sb : ℕ = 64 + 48 * k in
    let n : ℕ = two m 6 in
    let h = p.top in
    let room : 64 + 48 * two m 4 + 8 * two m 6 ≤ length m = h.room in
    let few : two m 8 ≤ two m 4 = p.few in
    let count : two m 8 ≡ sum_at held_at m sb n = p.count in
    let l : length (stations_at m 64 sb n) ≡ n = length_stations_at m 64 sb n in
    let b = bodies_sound m 64 sb n o (omega arith) p.places in
    let s : shares_ok k (total reserved (stations_at m 64 sb n)) (total held (stations_at m 64 sb n)) (total unmet (stations_at m 64 sb n)) ≡ true =
    (λ j. shares_ok k (sum_reserved m 64 sb n j) ((sum_held m 64 sb n ∙ sym count) j) (sum_unmet m 64 sb n j)) ∙ p.shares in
    join (settings_sound m o (omega arith) h.settings).1
    (join (le-leb _ _ h.k_low) (join (le-leb _ _ h.k_high)
    (join (rw l (le-leb _ _ h.s_low)) (join (rw l (le-leb _ _ h.s_high))
    (join (plan_is m k 1 64 sb n ∙ p.plan) (join s b.1))))))

-- What passes the test starts with the image of the table read.
pub sound_image : (m : List ℕ) → Octets m → Passed m → At m 0 (image (table_of m))
unfolding image table_of
sound_image m o p =
    let k : ℕ = two m 4 in
    let sb : ℕ = 64 + 48 * k in
    let n : ℕ = two m 6 in
    let c : Settings = settings_in m in
    let ss : List Station = stations_at m 64 sb n in
    let room : 64 + 48 * two m 4 + 8 * two m 6 ≤ length m = p.top.room in
    let few : two m 8 ≤ two m 4 = p.few in
    let count : two m 8 ≡ sum_at held_at m sb n = p.count in
    let b : At m 64 (bodies ss) = (bodies_sound m 64 sb n o (omega arith) p.places).0 in
    let t : total held ss ≡ two m 8 = sum_held m 64 sb n ∙ sym count in
    let l : length ss ≡ n = length_stations_at m 64 sb n in
    let lb : length (bodies ss) ≡ 48 * two m 8 = length_bodies ss ∙ ap (λ (x : ℕ). 48 * x) t in
    let z : At m (64 + 48 * two m 8) (replicate (48 * (k - two m 8)) 0) = zeros_are m (64 + 48 * two m 8) (48 * (k - two m 8)) (omega arith) p.unused in
    let e : At m sb (entries ss) = entries_sound m 64 sb n o (omega arith) in
    let q : 64 + 48 * two m 8 + 48 * (k - two m 8) ≡ sb = omega arith in
    let e' : At m (64 + 48 * two m 8 + 48 * (k - two m 8)) (entries ss) = subst (λ (x : ℕ). At m x (entries ss)) (sym q) e in
    let ze = at_next (48 * (k - two m 8)) z (length-replicate (48 * (k - two m 8)) 0) e' in
    let bze = at_next (48 * two m 8) b lb ze in
    let all = at_next 64 (head_back m o p.top) refl bze in
    subst (λ (x : ℕ). At m 0 (head c k x (total held ss) ++ (bodies ss ++ (replicate (48 * (k - total held ss)) 0 ++ entries ss)))) (sym l)
    (subst (λ (x : ℕ). At m 0 (head c k n x ++ (bodies ss ++ (replicate (48 * (k - x)) 0 ++ entries ss)))) (sym t) all)

-- ---- every image of a good table passes, and is read back

-- A good table as facts.
pub record Good (t : Table) : Type 0 where
  pub settings : settings_ok t.settings ≡ true
  pub k_low : 1 ≤ t.capacity
  pub k_high : t.capacity ≤ most_places
  pub s_low : 1 ≤ length t.stations
  pub s_high : length t.stations ≤ most_stations
  pub plan : plan_ok t.capacity 1 t.stations ≡ true
  pub shares : shares_ok t.capacity (total reserved t.stations) (total held t.stations) (total unmet t.stations) ≡ true
  pub few : total held t.stations ≤ t.capacity
  pub rises : all_rising t.stations ≡ true

-- The test `good` tells the facts.
pub good_is : (t : Table) → good t ≡ true → Good t
unfolding good
good_is t g =
    let t0 = both _ _ g in
    let t1 = both _ _ t0.1 in
    let t2 = both _ _ t1.1 in
    let t3 = both _ _ t2.1 in
    let t4 = both _ _ t3.1 in
    let t5 = both _ _ t4.1 in
    let t6 = both _ _ t5.1 in
    record {
      settings = t0.0;
      k_low = leb-true _ _ t1.0;
      k_high = leb-true _ _ t2.0;
      s_low = leb-true _ _ t3.0;
      s_high = leb-true _ _ t4.0;
      plan = t5.0;
      shares = t6.0;
      few = few_of _ _ _ _ t6.0;
      rises = t6.1;
    }

-- The facts make `good`.
pub is_good : (t : Table) → Good t → good t ≡ true
unfolding good
is_good t g =
    join g.settings (join (le-leb _ _ g.k_low) (join (le-leb _ _ g.k_high) (join (le-leb _ _ g.s_low) (join (le-leb _ _ g.s_high)
    (join g.plan (join g.shares g.rises))))))

-- the parts of an image in a memory
pub record Laid (m : List ℕ) (t : Table) : Type 0 where
  pub is_k : capacity_in m ≡ t.capacity
  pub is_s : stations_in m ≡ length t.stations
  pub is_n : points_in m ≡ total held t.stations
  pub mark : mark_at m ≡ true
  pub settings : (settings_at m ≡ true) × (settings_in m ≡ t.settings)
  pub spare : zeros m spare_offset spare_size ≡ true
  pub room : after_places t.capacity + station_size * length t.stations ≤ length m
  pub places : At m head_size (bodies t.stations)
  pub unused : At m (head_size + place_size * total held t.stations) (replicate (place_size * (t.capacity - total held t.stations)) 0)
  pub plan : At m (after_places t.capacity) (entries t.stations)

head_mark : (c : Settings) (k s n : ℕ) (Y : List ℕ) → mark_at (head c k s n ++ Y) ≡ true
unfolding mark_at
head_mark c k s n Y = refl

head_spare : (c : Settings) (k s n : ℕ) (Y : List ℕ) → zeros (head c k s n ++ Y) spare_offset spare_size ≡ true
unfolding zeros ◌&◌
head_spare c k s n Y = refl

-- A table takes 64 + 48 × K + 8 × stations octets.
pub length_image : (t : Table) → total held t.stations ≤ t.capacity → length (image t) ≡ after_places t.capacity + station_size * length t.stations
unfolding image
length_image t h =
    let n : ℕ = total held t.stations in
    let a : length (bodies t.stations) ≡ 48 * n = length_bodies t.stations in
    let b : length (entries t.stations) ≡ 8 * length t.stations = length_entries t.stations in
    simp (length-append, length-replicate) (omega arith)

-- The parts of an image lie where the reader looks.
pub laid : (t : Table) (rest : List ℕ) → Good t → Laid (image t ++ rest) t
unfolding image
laid t rest g =
    let ss : List Station = t.stations in
    let k : ℕ = t.capacity in
    let n : ℕ = total held ss in
    let H : List ℕ = head t.settings k (length ss) n in
    let Z : List ℕ = replicate (48 * (k - n)) 0 in
    let few : n ≤ k = g.few in
    let Y : List ℕ = bodies ss ++ (Z ++ entries ss) in
    let m : List ℕ = H ++ Y ++ rest in
    let R : List ℕ = Y ++ rest in
    let e : m ≡ H ++ R = append_assoc H Y rest in
    let len : length (image t) ≡ 64 + 48 * k + 8 * length ss = length_image t few in
    let a : At m 0 (H ++ Y) = at_here (H ++ Y) rest in
    let b : At m 64 Y = at_rest m H Y 0 64 refl a in
    let S : List ℕ = settings_octets t.settings in
    let s : At m 10 S = at_fst m S (replicate 50 0) 10 (at_rest m (ten k (length ss) n) (S ++ replicate 50 0) 0 10 refl (at_fst m H Y 0 a)) in
    let c : At m (64 + 48 * n) (Z ++ entries ss) = at_rest m (bodies ss) (Z ++ entries ss) 64 (48 * n) (length_bodies ss) b in
    let d : At m (64 + 48 * n + 48 * (k - n)) (entries ss) =
    at_rest m Z (entries ss) (64 + 48 * n) (48 * (k - n)) (length-replicate (48 * (k - n)) 0) c in
    let q : 64 + 48 * n + 48 * (k - n) ≡ 64 + 48 * k = omega arith in
    let la : length m ≡ length (image t) + length rest = length-append (H ++ Y) rest in
    record {
      is_k = whole k;
      is_s = whole (length ss);
      is_n = whole n;
      mark = head_mark t.settings k (length ss) n R;
      settings = settings_complete m t.settings s g.settings;
      spare = head_spare t.settings k (length ss) n R;
      room = omega arith;
      places = at_fst m (bodies ss) (Z ++ entries ss) 64 b;
      unused = at_fst m Z (entries ss) (64 + 48 * n) c;
      plan = subst (λ (x : ℕ). At m x (entries ss)) q d;
    }

-- A memory that has the parts of a good table passes the test, and that table is read.
pub complete : (m : List ℕ) (t : Table) → Good t → Laid m t → Passed m × (table_of m ≡ t)
unfolding table_of
complete m t g l =
    let ss : List Station = t.stations in
    let k : ℕ = t.capacity in
    let n : ℕ = length ss in
    let sb : ℕ = 64 + 48 * k in
    let h : ℕ = total held ss in
    let ek : two m 4 ≡ k = l.is_k in
    let es : two m 6 ≡ n = l.is_s in
    let en : two m 8 ≡ h = l.is_n in
    let c = stations_complete m 64 sb ss l.places l.plan g.rises in
    let st : stations_at m 64 sb n ≡ ss = c.0 in
    let sr : sum_at reservation_at m sb n ≡ total reserved ss = sym (sum_reserved m 64 sb n) ∙ ap (total reserved) st in
    let sh : sum_at held_at m sb n ≡ h = sym (sum_held m 64 sb n) ∙ ap (total held) st in
    let su : sum_at unmet_at m sb n ≡ total unmet ss = sym (sum_unmet m 64 sb n) ∙ ap (total unmet) st in
    let pl : plan_at m k 1 sb n ≡ true = sym (plan_is m k 1 64 sb n) ∙ ap (plan_ok k 1) st ∙ g.plan in
    let room : 64 + 48 * k + 8 * n ≤ length m = l.room in
    let z : zeros m (64 + 48 * h) (48 * (k - h)) ≡ true = are_zeros m (64 + 48 * h) (48 * (k - h)) l.unused in (
      record {
        top = record {
          long = omega arith;
          mark = l.mark;
          k_low = rw ek g.k_low;
          k_high = rw ek g.k_high;
          s_low = rw es g.s_low;
          s_high = rw es g.s_high;
          room = rw (ek, es) room;
          settings = l.settings.0;
          spare = l.spare;
        };
        plan = rw (ek, es) pl;
        count = rw (ek, es) (en ∙ sym sh);
        shares = rw (ek, es, en, sr, su) g.shares;
        few = rw (ek, en) g.few;
        places = rw (ek, es) c.1;
        unused = rw (ek, en) z;
      },
      λ j. record { settings = l.settings.1 j; capacity = ek j; stations = (ap₂ (λ (x y : ℕ). stations_at m 64 (64 + 48 * x) y) ek es ∙ st) j },
    )

-- ---- parse

-- Parse of what passes the test.
pub parse_some : (m : List ℕ) → well_formed m ≡ true → parse m ≡ some (table_of m)
unfolding parse
parse_some m w = simp w

-- Parse of what does not.
pub parse_none : (m : List ℕ) → well_formed m ≡ false → parse m ≡ none
unfolding parse
parse_none m w = simp w

-- a table read: the test was passed, and it is the one that the memory holds
pub parsed : (m : List ℕ) (t : Table) → parse m ≡ some t → (well_formed m ≡ true) × (table_of m ≡ t)
unfolding parse
parsed m t e = go (well_formed m) e
  where
    go : (b : Bool) → pick b (some (table_of m)) none ≡ some t → (b ≡ true) × (table_of m ≡ t)
    go true f = (refl, cc)
    go false f = let z : ◌≡◌ {A = ℕ} 0 1 = cc in absurd (omega arith)

-- none read: the test was not passed
pub unparsed : (m : List ℕ) → parse m ≡ none → well_formed m ≡ false
unfolding parse
unparsed m e = go (well_formed m) e
  where
    go : (b : Bool) → pick b (some (table_of m)) none ≡ none → b ≡ false
    go true f = let z : ◌≡◌ {A = ℕ} 0 1 = cc in absurd (omega arith)
    go false f = refl

-- the memory starts with the table's image
pub printed : (m : List ℕ) → Octets m → Passed m → m ≡ image (table_of m) ++ drop (length (image (table_of m))) m
printed m o p = rw zero-add at (sound_image m o p).is

-- what an entry starts from: a good table, and its parts where they lie
pub holds : (m : List ℕ) → Octets m → well_formed m ≡ true → Good (table_of m) × Laid m (table_of m)
holds m o w =
    let p : Passed m = passed m w in
    let t : Table = table_of m in
    let g : Good t = good_is t (sound_good m o p) in
    (g, subst (λ (x : List ℕ). Laid x t) (sym (printed m o p)) (laid t (drop (length (image t)) m) g))

-- Every image of a good table is read back, whatever lies after it.
pub parse_complete : (t : Table) (rest : List ℕ) → good t ≡ true → parse (image t ++ rest) ≡ some t
parse_complete t rest g =
    let h : Good t = good_is t g in
    let c = complete (image t ++ rest) t h (laid t rest h) in
    parse_some (image t ++ rest) (passes (image t ++ rest) c.0) ∙ ap some c.1

-- A table read is good, and the memory starts with its image.
pub parse_sound : (m : List ℕ) (t : Table) → Octets m → parse m ≡ some t → (good t ≡ true) × (m ≡ image t ++ drop (length (image t)) m)
parse_sound m t o e =
    let w = parsed m t e in
    let p : Passed m = passed m w.0 in
    subst (λ (x : Table). (good x ≡ true) × (m ≡ image x ++ drop (length (image x)) m)) w.1 (sound_good m o p, printed m o p)

-- A memory holds a table: the table is good, and the memory starts with its image.
pub record Holds (m : List ℕ) (t : Table) : Type 0 where
  pub is_good : good t ≡ true
  pub is_image : m ≡ image t ++ drop (length (image t)) m

-- The two laws as one: parse gives t exactly if the memory holds t.
pub parse_exactly : (m : List ℕ) (t : Table) → Octets m → (parse m ≡ some t → Holds m t) × (Holds m t → parse m ≡ some t)
parse_exactly m t o = (
  (λ e. let s = parse_sound m t o e in record { is_good = s.0; is_image = s.1 }),
  λ h. ap parse h.is_image ∙ parse_complete t (drop (length (image t)) m) h.is_good,
)
