-- The request is the one in the record; then what the entry gives back, in plain numbers, and the memory as the entry leaves it. Assumes nothing.
use mathlib.Core.Path.{ap, ◌∙◌}
use Rattle.model.specs.declared.Request.{Request}
use Rattle.registry.specs.Effect.{reply_on, memory_on}
use Rattle.registry.specs.Registry.{registering}
use Rattle.khuvelter.specs.Interface.{place_reply}
use Rattle.khuvelter.specs.Calls.{table_alone}
use Rattle.khuvelter.proofs.khuvelter_register_point.Goals as goal

pub returns : goal.returns
returns c =
    let a = c.args in
    let m = a.table.now in
    let q = c.request_at-request.ensures in
    let e = c.register_point.ensures in
    record {
      answered = c.plain_reply.ensures ∙ ap place_reply (e.0 ∙ ap (λ (x : Request). reply_on (registering x) m) q);
      left = ap table_alone (e.1 ∙ ap (λ (x : Request). memory_on (registering x) m) q);
    }
