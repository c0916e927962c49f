-- The pieces in their places; whether a group is given is 0 or 1. Assumes nothing.
use Rattle.std.proofs.Common.{◌≡◌, ℕ, [], ◌∷◌, ◌/◌, ◌%◌, refl, sym, ap, ◌∙◌, arith}
use Rattle.std.specs.Prelude.{Option, Some, None, is_some}
use mir.Val.{bool_byte}
use Rattle.points.specs.Points.{flat_record, has_of}
use Rattle.points.proofs.Records.{twelve_is}
use Rattle.points.proofs.record_of.Goals as goal

given : (g : Option ℕ) → bool_byte (is_some g) ≡ has_of g
given None = refl
given (Some g) = refl

pub returns : goal.returns
unfolding flat_record
returns c =
    let q = c.args.q in
    let high : q.ca / 256 % 256 ≡ q.ca / 256 = omega arith in
    let highest : q.ioa / 16777216 % 256 ≡ q.ioa / 16777216 = omega arith in
    let ca = c.copy_from_slice.ensures.after ∙ c.to_le_bytes.ensures ∙ ap (λ (n : ℕ). q.ca % 256 ∷ n ∷ []) high in
    let ioa = c.copy_from_slice-2.ensures.after ∙ c.to_le_bytes-2.ensures ∙ ap (λ (n : ℕ). q.ioa % 256 ∷ q.ioa / 256 % 256 ∷ q.ioa / 65536 % 256 ∷ n ∷ []) highest in
    let group = c.from.ensures ∙ ap bool_byte c.is_some.ensures ∙ given q.group in
    let counter = c.from-2.ensures ∙ ap bool_byte c.is_some-2.ensures ∙ given q.counter in
    let value = c.copy_from_slice-3.ensures.after ∙ sym (twelve_is q.value (omega arith)) in
    rw (ca, ioa, group, c.unwrap_or.ensures, counter, c.unwrap_or-2.ensures, value) refl
