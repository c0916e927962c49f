use Prim.Native.Nat.{◌-◌, ◌≤◌}
use mathlib.Core.Path.{◌≡◌}
use Rattle.lookup.specs.Find.{ioa_at, halve}
use Rattle.lookup.proofs.seek.Given as goal

abbrev pub invariant-loop-low : goal.invariant-loop-low
invariant-loop-low l = (halve (ioa_at l.m l.first) l.ioa 0 l.n l.n ≡ halve (ioa_at l.m l.first) l.ioa l.low l.high l.n) × (l.low ≤ l.high) × (l.high ≤ l.n)

abbrev pub decreases-loop-low : goal.decreases-loop-low
decreases-loop-low l = l.high - l.low
