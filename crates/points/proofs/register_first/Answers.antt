-- What is laid down in the memory that is kept for the records is the batch of all that decide. Assumes nothing.
use Rattle.std.proofs.Common.{ℕ, List, take, ◌/◌, ap, ◌∙◌}
use lib.ListN.{length-replicate}
use Rattle.model.specs.declared.Request.{Request}
use Rattle.registry.specs.Effect.{reply_on, memory_on}
use Rattle.registry.specs.Registry.{registering_all}
use Rattle.points.specs.Points.{deciding_octets, flat_records}
use Rattle.points.proofs.Records.{laid_batch}
use Rattle.points.proofs.register_first.Goals as goal

pub returns : goal.returns
returns c =
    let ps = c.args.points.now in
    let ts = c.args.table.now in
    let room = ap (λ (n : ℕ). flat_records (take (n / 24) ps)) (length-replicate {A = ℕ} deciding_octets 0) in
    let batch = laid_batch _ deciding_octets ps (c.lay_down-count.ensures.laid ∙ room) in
    let r = c.register_points in
    (r.ensures.0 ∙ ap (λ (qs : List Request). reply_on (registering_all qs) ts) batch, r.ensures.1 ∙ ap (λ (qs : List Request). memory_on (registering_all qs) ts) batch)
