-- What is left of the plan, above the running lower bound, is what is still to be tested.
use Rattle.table.specs.Memory.{plan_at}
use Prim.Native.Nat.{◌+◌, ◌*◌, ◌-◌}
use mathlib.Core.Path.{◌≡◌}
use Rattle.wellformed.proofs.plan_ok.Given as goal

abbrev pub invariant-loop-i : goal.invariant-loop-i
invariant-loop-i l = plan_at l.m l.k 1 l.at l.n ≡ plan_at l.m l.k l.low (l.at + 8 * l.i) (l.n - l.i)
