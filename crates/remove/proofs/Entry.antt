-- The laws as an entry has them, over a well-formed memory: where the seat and the place were found, the bounds that the code asks, the table
-- that the memory holds afterwards, and that it is good. Assumes nothing.
use Rattle.std.specs.Prelude.{Ok}
use mathlib.Core.Path.{◌≡◌, sym, ap, ◌∙◌}
use mathlib.Core.List.{List, ◌++◌}
use mathlib.Core.Bool.{true}
use mathlib.Core.Option.{some}
use Prim.Native.Nat.{ℕ, ◌+◌, ◌*◌, ◌≤◌}
use lib.ListN.{length, drop}
use Rattle.limits.specs.Test.{total}
use Rattle.octets.specs.Number.{Octets}
use Rattle.layout.specs.Layout.{capacity_in, points_in, size_in}
use Rattle.model.specs.declared.Point.{Point}
use Rattle.table.specs.Table.{Station, Table, held, rising, image}
use Rattle.table.specs.Memory.{points_at, table_of, well_formed}
use Rattle.table.specs.Change.{station_of, seek_in, known, removed, emptied}
use Rattle.table.proofs.Parse.{holds, parse_some}
use Rattle.lookup.specs.Seats.{here, seat_at}
use Rattle.lookup.specs.Find.{find_at}
use Rattle.lookup.proofs.Laws.{Seated, Seen, seat_law, Standing, standing}
use Rattle.lookup.proofs.Halving.{HeldAt, held_law}
use Rattle.remove.specs.Remove.{taken_out, all_taken_out, Removable}
use Rattle.remove.proofs.Removed.{take_out_bounds, taken_out_parsed}
use Rattle.remove.proofs.Emptied.{take_all_out_bounds, all_taken_out_parsed}

-- A point found at `at` in the station of index i, which holds h points, and what taking it out does.
pub record TakenOut (m : List ℕ) (ca ioa i h at : ℕ) : Type 0 where
  pub station : Station
  pub is_station : station_of ca (table_of m).stations ≡ some station
  pub is_known : known ioa station.points ≡ true
  pub bounds : Removable m i h at
  pub memory : taken_out m i h at ≡ image (removed (table_of m) ca ioa) ++ drop (length (image (table_of m))) m

pub take_out_law : (m : List ℕ) (ca ioa i first h at : ℕ) → Octets m → well_formed m ≡ true → seat_at m ca ≡ here i first h → find_at m first h ioa ≡ Ok at
    → TakenOut m ca ioa i h at
take_out_law m ca ioa i first h at o w es ef =
    let t : Table = table_of m in
    let gl = holds m o w in
    let seen : Seen m ca i first h = seat_law m ca i first h o w es in
    let d : Seated t.stations ca 0 64 i first h = seen.seat in
    let s : Station = d.s in
    let same : points_at m first h ≡ s.points = seen.points in
    let spot : HeldAt m first h ioa at (points_at m first h) = held_law m first h ioa at (ap (rising 0) same ∙ seen.rises) ef in
    let k : known ioa s.points ≡ true = ap (known ioa) (sym same) ∙ spot.is_known in
    let place : at ≡ first + 48 * seek_in ioa s.points = spot.place ∙ ap (λ (ps : List Point). first + 48 * seek_in ioa ps) same in
    let z : Standing t.stations ca ioa s d.found i h at = standing t.stations ca ioa i first h at d place in
    record {
      station = s;
      is_station = d.is_station;
      is_known = k;
      bounds = take_out_bounds t m ca ioa s d.found i h at gl.0 gl.1 k z;
      memory = taken_out_parsed m t ca ioa s d.found i h at o (parse_some m w) k z;
    }

-- What taking all points out does.
pub record AllTakenOut (m : List ℕ) : Type 0 where
  pub bounds : (size_in m ≤ length m) × (points_in m ≤ capacity_in m)
  pub count : points_in m ≡ total held (table_of m).stations
  pub memory : all_taken_out m ≡ image (emptied (table_of m)) ++ drop (length (image (table_of m))) m

pub take_all_out_law : (m : List ℕ) → Octets m → well_formed m ≡ true → AllTakenOut m
take_all_out_law m o w =
    let t : Table = table_of m in
    let gl = holds m o w in
    let a = all_taken_out_parsed m t o (parse_some m w) in
    record { bounds = take_all_out_bounds t m gl.0 gl.1; count = a.0; memory = a.1 }
