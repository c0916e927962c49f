-- The record of one point is read back as the list of that point. Assumes nothing.
use mathlib.Core.Path.{◌≡◌, sym, ap, ◌∙◌}
use mathlib.Core.List.{List, [], ◌∷◌, append-nil}
use Prim.Native.Nat.{ℕ}
use Rattle.model.specs.declared.Request.{Request}
use Rattle.batch_records.specs.Records.{requests_in}
use Rattle.points.specs.Points.{flat_record, flat_records, whole}
use Rattle.points.proofs.Records.{records_law}

pub alone_law : (q : Request) → requests_in (flat_record q) ≡ whole q ∷ []
unfolding flat_records
alone_law q = ap (λ (l : List ℕ). requests_in l) (sym (append-nil (flat_record q))) ∙ records_law (q ∷ [])
