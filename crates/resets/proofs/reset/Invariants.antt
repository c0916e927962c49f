-- What is left to reset makes the same memory at each turn.
use mathlib.Core.Path.{◌≡◌}
use Prim.Native.Nat.{◌+◌, ◌*◌, ◌-◌}
use lib.ListN.{length}
use Rattle.resets.specs.Resets.{reset_places}
use Rattle.resets.proofs.reset.Given as goal

abbrev pub invariant-loop-i : goal.invariant-loop-i
invariant-loop-i l =
    (reset_places l.selection l.initial.m l.first l.n ≡ reset_places l.selection l.m (l.first + 48 * l.i) (l.n - l.i)) × (length l.m ≡ length l.initial.m)
