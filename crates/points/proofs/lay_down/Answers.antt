-- A turn lays one record more down. Assumes nothing.
use Rattle.std.proofs.Common.{◌*◌, ◌+◌, ◌∙◌, refl, ap, take, List, ℕ, arith}
use Rattle.octets.specs.Over.{over}
use Rattle.points.specs.Points.{flat_records}
use Rattle.points.proofs.Records.{laid_more}
use Rattle.points.proofs.lay_down.Goals as goal

pub loop-i-init : goal.loop-i-init
unfolding flat_records
loop-i-init c = refl

pub loop-i-preserved : goal.loop-i-preserved
loop-i-preserved c =
    let l = c.loop-i in
    ap (λ (m : List ℕ). take (24 * (l.i + 1)) m) (c.copy_in.ensures ∙ ap (λ (r : List ℕ). over l.records (24 * l.i) r) c.record_of.ensures)
    ∙ laid_more l.records c.args.points.now l.i _ (omega arith) (omega arith) l.invariant
