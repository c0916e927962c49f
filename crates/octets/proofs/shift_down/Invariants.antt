-- A turn lays one octet more of what lies `by` higher over the memory; what is still to be read is as it was.
use mathlib.Core.Path.{◌≡◌}
use Prim.Native.Nat.{◌+◌}
use lib.ListN.{drop}
use lib.Seq.{paste}
use Rattle.octets.proofs.shift_down.Given as goal

abbrev pub invariant-loop-j : goal.invariant-loop-j
invariant-loop-j l = l.m ≡ paste l.initial.m l.from (drop (l.from + l.by) l.initial.m) l.j
