-- The three writes, one after another, are the image.
use mathlib.Core.Path.{◌∙◌}
use Prim.Native.Nat.{◌+◌, ◌*◌, ◌-◌, ◌/◌}
use lib.ListN.{length, replicate}
use Rattle.octets.specs.Over.{over}
use Rattle.table.specs.Table.{entries}
use Rattle.registry.specs.Opening.{planned}
use Rattle.opening.proofs.Plan.{length_planned}
use Rattle.opening.proofs.Fresh.{written}
use native.Mathlib.Omega.{arith}
use Rattle.opening.proofs.put_fresh.Goals as goal

pub returns : goal.returns
returns c =
    let a = c.args in
    let plan = a.plan.now in
    let b = 64 + 48 * a.k in
    let head = c.head_start-start.ensures in
    let first = c.copy_in.ensures ∙ (λ j. over a.table.now 0 (head j)) in
    let second = c.clear.ensures ∙ (λ j. over (first j) 14 (replicate (b - 14) 0)) in
    c.put_stations.ensures
    ∙ (λ j. over (second j) b (entries (planned plan)))
    ∙ written a.table.now a.k (length plan / 3) plan (length_planned plan) (omega arith)
