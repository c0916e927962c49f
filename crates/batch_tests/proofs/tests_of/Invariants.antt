-- The loop over the records: what is left to test is the recursion of `own_tests`, the records passed being the earlier ones, with their flags set.
-- Assumes nothing.
use mathlib.Core.Path.{◌≡◌}
use mathlib.Core.List.{[]}
use Prim.Native.Nat.{◌*◌, ◌-◌, ◌≤◌}
use lib.ListN.{length}
use Rattle.model.specs.Request.{requests_at}
use Rattle.table.specs.Memory.{table_of}
use Rattle.registry.specs.Registry.{own_tests}
use Rattle.batch_records.specs.Records.{requests_in, earlier_at}
use Rattle.batch_tests.proofs.Flags.{Marked}
use Rattle.batch_tests.proofs.tests_of.Given as goal

abbrev pub invariant-loop-i : goal.invariant-loop-i
invariant-loop-i l =
    (own_tests (table_of l.m) [] 0 (requests_in l.records) ≡ own_tests (table_of l.m) (earlier_at l.records l.i-counter) l.i-counter (requests_at l.records (24 * l.i-counter) (l.n - l.i-counter)))
    × Marked l.flags l.records l.i-counter × (24 * l.n ≤ length l.records)
