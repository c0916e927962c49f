-- The entry over a slice of points and the flat entry over their records are one: the same definition, so the same reply and the same memory, whatever the length. Assumes nothing.
use mathlib.Core.Path.{◌≡◌, sym, ap, ◌∙◌}
use mathlib.Core.List.{List, map}
use Prim.Native.Nat.{ℕ}
use Rattle.model.specs.declared.Request.{Request}
use Rattle.table.specs.Table.{Table}
use Rattle.registry.specs.Effect.{Reply}
use Rattle.registry.specs.Effect.{Effect, reply_on, memory_on}
use Rattle.replies.specs.Replies.{Replies}
use Rattle.registry.specs.Registry.{registering_all}
use Rattle.batch_records.specs.Records.{requests_in}
use Rattle.points.specs.Points.{flat_records, whole}
use Rattle.points.proofs.Records.{records_law}

-- The batch of a slice of points is the batch of their records.
pub same_batch : (ps : List Request) → registering_all (map whole ps) ≡ registering_all (requests_in (flat_records ps))
same_batch ps = ap registering_all (sym (records_law ps))

-- What meets the one contract meets the other: a slice of points is answered as its flat records are.
pub slice_as_flat : (ps : List Request) (m : List ℕ) (x y : Reply) (m' m'' : List ℕ)
    → Replies (registering_all (map whole ps)) m x m' → Replies (registering_all (requests_in (flat_records ps))) m y m'' → (x ≡ y) × (m' ≡ m'')
slice_as_flat ps m x y m' m'' a b =
    (a.0 ∙ ap (λ (f : Table → Effect). reply_on f m) (same_batch ps) ∙ sym b.0, a.1 ∙ ap (λ (f : Table → Effect). memory_on f m) (same_batch ps) ∙ sym b.1)
