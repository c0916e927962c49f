-- A turn lays one octet more of `src` over `dst`.
use mathlib.Core.Path.{◌≡◌}
use lib.Seq.{paste}
use Rattle.octets.proofs.copy_in.Given as goal

abbrev pub invariant-loop-i : goal.invariant-loop-i
invariant-loop-i l = l.dst ≡ paste l.initial.dst l.at l.src l.i
