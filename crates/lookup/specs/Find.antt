-- Where a point of a station stands or would go: the plain answer of a list of points, and below the line how the code finds it by halving.
use Rattle.std.specs.Prelude.{ℕ, zero, suc, ◌+◌, ◌*◌, ◌/◌, List, eqb, ltb, Result, Ok, Err}
use Rattle.limits.specs.Test.{◌&◌, pick}
use Rattle.octets.specs.Number.{three}
use Rattle.layout.specs.Layout.{place_size, ioa_offset}
use Rattle.model.specs.declared.Point.{Point}
use Rattle.table.specs.Change.{seek_in, known}

-- The place of the point with an IOA among points whose places lie from `first`, or where it would go.
unfoldable pub spot_in : ℕ → ℕ → List Point → Result ℕ ℕ
spot_in first ioa ps = pick (known ioa ps) (Ok (first + place_size * seek_in ioa ps)) (Err (first + place_size * seek_in ioa ps))

-- ---- as the code finds it: nobody need believe what follows, `find_law` ties it to `spot_in`

-- the IOA of the place of index i from `first`
unfoldable pub ioa_at : List ℕ → ℕ → ℕ → ℕ
ioa_at m first i = three m (first + place_size * i + ioa_offset)

-- the numbers from `low` up to `high`
pub record Bounds : Type 0 where
  pub low : ℕ
  pub high : ℕ

-- one half of the numbers from `low` up to `high`
unfoldable pub narrowed : (ℕ → ℕ) → ℕ → ℕ → ℕ → Bounds
narrowed key x low high =
    pick (ltb (key ((low + high) / 2)) x) (record { low = (low + high) / 2 + 1; high = high }) (record { low = low; high = (low + high) / 2 })

-- how many of the numbers are below x, by halving, in at most `turns` turns
unfoldable pub halve : (ℕ → ℕ) → ℕ → ℕ → ℕ → ℕ → ℕ
halve key x low high zero = low
halve key x low high (suc turns) =
    pick (ltb low high) (halve key x (narrowed key x low high).low (narrowed key x low high).high turns) low

-- the answer for index j of n places
unfoldable pub spot_at : List ℕ → ℕ → ℕ → ℕ → ℕ → Result ℕ ℕ
spot_at m first n ioa j = pick (ltb j n & eqb (ioa_at m first j) ioa) (Ok (first + place_size * j)) (Err (first + place_size * j))

unfoldable pub find_at : List ℕ → ℕ → ℕ → ℕ → Result ℕ ℕ
find_at m first n ioa = spot_at m first n ioa (halve (ioa_at m first) ioa 0 n n)
