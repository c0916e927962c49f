-- What is left to clear makes the same memory at each turn.
use mathlib.Core.Path.{◌≡◌}
use Prim.Native.Nat.{◌+◌, ◌*◌, ◌-◌}
use lib.ListN.{length}
use Rattle.remove.specs.Remove.{none_held}
use Rattle.remove.proofs.none_held.Given as goal

abbrev pub invariant-loop-i : goal.invariant-loop-i
invariant-loop-i l =
    (none_held l.initial.m l.at l.n ≡ none_held l.m (l.at + 8 * l.i) (l.n - l.i)) × (length l.m ≡ length l.initial.m)
