-- Document 01's gateway on paper, as a table: good, and read back from its image. Assumes nothing.
use mathlib.Core.Path.{◌≡◌, refl}
use mathlib.Core.List.{List, [], ◌∷◌, ◌++◌}
use mathlib.Core.Bool.{true}
use mathlib.Core.Option.{some}
use Prim.Native.Nat.{ℕ}
use lib.ListN.{replicate}
use Rattle.limits.specs.Test.{◌&◌, total}
use Rattle.limits.specs.Size.{point_types, point_octets, octets_in}
use Rattle.octets.specs.Number.{zeros}
use Rattle.model.specs.Place.{valid, point_ok, place_ok, places_ok}
use Rattle.table.specs.Table.{document01, Table, rising, all_rising, numbers_ok, plan_ok, shares_ok, good, image, bodies, places_of, entries}
use Rattle.table.specs.Memory.{parse, well_formed, head_at, mark_at, settings_at, shares_at, plan_at, sum_at, bodies_at}
use Rattle.table.proofs.Parse.{parse_complete}

-- octets of a value, and zeros past the element
pub val : List ℕ → ℕ → List ℕ
val v n = v ++ replicate n 0

-- the gateway on paper
pub gateway : Table
unfolding val
gateway =
    record {
      settings = document01;
      capacity = 8;
      stations =
          record {
            ca = 7;
            reservation = 2;
            ceiling = 4;
            points =
                record { kind = 1; ioa = 3; group = 0; counter = 0; value = val (0 ∷ []) 11 }
                ∷ record { kind = 15; ioa = 5; group = 0; counter = 1; value = val (42 ∷ 0 ∷ 0 ∷ 0 ∷ 3 ∷ []) 7 }
                ∷ record { kind = 1; ioa = 10; group = 1; counter = 0; value = val (1 ∷ []) 11 } ∷ [];
          } ∷ [];
    }

-- It is good.
pub gateway_good : good gateway ≡ true
unfolding gateway val good ◌&◌ plan_ok numbers_ok shares_ok total all_rising rising point_ok valid zeros point_types point_octets octets_in
gateway_good = refl

-- It is read back from its image, whatever lies after.
pub gateway_read : (rest : List ℕ) → parse (image gateway ++ rest) ≡ some gateway
gateway_read rest = parse_complete gateway rest gateway_good

-- Its octets pass the test, computed on the octets themselves.
pub gateway_tested : well_formed (image gateway) ≡ true
unfolding gateway val ◌&◌ zeros point_types point_octets octets_in valid place_ok places_ok image bodies places_of entries total well_formed head_at mark_at settings_at shares_at plan_at numbers_ok shares_ok sum_at bodies_at
gateway_tested = refl
