-- The loop over the records: what is left is the recursion of `room_run`. Assumes nothing.
use mathlib.Core.Path.{◌≡◌}
use Prim.Native.Nat.{◌*◌, ◌-◌, ◌≤◌}
use lib.ListN.{length}
use Rattle.model.specs.Request.{requests_at}
use Rattle.batch_records.specs.Records.{requests_in}
use Rattle.batch_room.specs.Room.{room_run, taken_run}
use Rattle.batch_room.proofs.turns.Given as goal

abbrev pub invariant-loop-i : goal.invariant-loop-i
invariant-loop-i l =
    (room_run l.m l.initial.taken l.fn.first 0 (requests_in l.records) ≡ room_run l.m l.taken l.now l.i-counter (requests_at l.records (24 * l.i-counter) (l.i-end - l.i-counter)))
    × (taken_run l.m l.initial.taken l.fn.first (requests_in l.records) ≡ taken_run l.m l.taken l.now (requests_at l.records (24 * l.i-counter) (l.i-end - l.i-counter)))
    × (24 * l.i-end ≤ length l.records)
