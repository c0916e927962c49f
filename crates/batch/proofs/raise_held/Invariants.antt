-- The loop over the stations, as the recursion of `raised` goes. Assumes nothing.
use mathlib.Core.Path.{◌≡◌}
use Prim.Native.Nat.{◌+◌, ◌*◌, ◌-◌}
use lib.ListN.{length}
use Rattle.batch.specs.Raise.{raised, Raisable}
use Rattle.batch.proofs.raise_held.Given as goal

abbrev pub invariant-loop-i : goal.invariant-loop-i
invariant-loop-i l =
    (raised l.initial.m l.taken 0 l.at l.n ≡ raised l.m l.taken l.i (l.at + 8 * l.i) (l.n - l.i)) × Raisable l.m l.taken l.i (l.at + 8 * l.i) (l.n - l.i) × (length l.m ≡ length l.initial.m)
