use mathlib.Core.Path.{◌∙◌}
use Prim.Native.Nat.{◌+◌, ◌*◌}
use Rattle.octets.specs.Over.{over}
use Rattle.table.specs.Table.{eight}
use Rattle.opening.proofs.Plan.{put_on, put_end}
use native.Mathlib.Omega.{arith}
use Rattle.opening.proofs.put_stations.Goals as goal

pub loop-i-preserved : goal.loop-i-preserved
loop-i-preserved c =
    let a = c.args in
    let l = c.loop-i in
    let s = c.at-station.ensures in
    let o = c.octets.ensures ∙ (λ j. eight (s j).ca (s j).reservation (s j).ceiling 0) in
    put_on a.plan.now l.i _ _ l.table _ a.at (omega arith) (omega arith) l.invariant (c.copy_in.ensures ∙ (λ j. over l.table (a.at + 8 * l.i) (o j)))

pub returns : goal.returns
returns c = put_end c.args.plan.now c.loop-i.i _ _ _ c.args.at (omega arith) c.loop-i.invariant (omega arith)
