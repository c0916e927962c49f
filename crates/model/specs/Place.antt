-- A registered point, the 48 octets of its place, and the tests of both.
-- Document 01, 'Points, stations and shares'; DESIGN.md, section 3.
use Rattle.std.specs.Prelude.{ℕ, zero, suc, ◌+◌, ◌-◌, List, ◌∷◌, ◌++◌, Bool, true, ◌||◌, length, get_or, replicate, leb, eqb}
use Rattle.limits.specs.Test.{◌&◌}
use Rattle.limits.specs.Size.{point_octets}
use Rattle.octets.specs.Number.{two, three, twelve, pair, triple, zeros}
use Rattle.layout.specs.Layout.{place_size, ca_offset, ioa_offset, group_offset, counter_offset, gap_offset, value_offset, value_size, rest_offset, rest_size}
use Rattle.model.specs.declared.Point.{Point}

-- The two types of counters: integrated totals, without and with a time tag.
abbrev pub integrated_totals : ℕ
integrated_totals = 15

abbrev pub timed_integrated_totals : ℕ
timed_integrated_totals = 37

abbrev pub is_counter : ℕ → Bool
is_counter kind = eqb kind integrated_totals || eqb kind timed_integrated_totals

-- The highest IOA, the number of interrogation groups, and that of counter groups.
abbrev pub highest_ioa : ℕ
highest_ioa = 16777215

abbrev pub groups : ℕ
groups = 16

abbrev pub counter_groups : ℕ
counter_groups = 4

-- A point with another value.
abbrev pub with_value : List ℕ → Point → Point
with_value v p = record { kind = p.kind; ioa = p.ioa; group = p.group; counter = p.counter; value = v }

-- A point as described: a point type, IOA at most 16,777,215, interrogation group at most 16 and counter group at most 4 (0: no group),
-- a counter group only on a counter, twelve octets of value of which those past the element are zero.
unfoldable pub valid : Point → Bool
valid p =
    leb 1 (point_octets p.kind) & leb p.group groups & leb p.counter counter_groups & (eqb p.counter 0 || is_counter p.kind)
    & zeros p.value (point_octets p.kind) (value_size - point_octets p.kind)

unfoldable pub point_ok : Point → Bool
point_ok p = leb p.ioa highest_ioa & eqb (length p.value) value_size & valid p

-- The 48 octets of a point of station ca: type, CA, IOA, interrogation group, counter group, 0, value, zeros.
abbrev pub place_of : ℕ → Point → List ℕ
place_of ca p =
    p.kind ∷ (pair ca ++ (triple p.ioa ++ (pair p.group ++ (p.counter ∷ 0 ∷ (twelve p.value 0 ++ replicate rest_size 0)))))

-- ---- as the code reads: nobody need believe what follows, the laws of `table` tie it to `point_ok` and `place_of`

-- the point at a place
abbrev pub point_at : List ℕ → ℕ → Point
point_at m at =
    record {
      kind = get_or m at 0;
      ioa = three m (at + ioa_offset);
      group = two m (at + group_offset);
      counter = get_or m (at + counter_offset) 0;
      value = twelve m (at + value_offset);
    }

-- the place at `at` holds a valid point of station ca, IOA not below `low`, and its spare octets are zero
unfoldable pub place_ok : List ℕ → ℕ → ℕ → ℕ → Bool
place_ok m at ca low =
    eqb (two m (at + ca_offset)) ca & leb low (three m (at + ioa_offset)) & valid (point_at m at)
    & eqb (get_or m (at + gap_offset) 0) 0 & zeros m (at + rest_offset) rest_size

-- the same of n places, IOA rising
unfoldable pub places_ok : List ℕ → ℕ → ℕ → ℕ → ℕ → Bool
places_ok m at ca low zero = true
places_ok m at ca low (suc n) = place_ok m at ca low & places_ok m (at + place_size) ca (three m (at + ioa_offset) + 1) n
