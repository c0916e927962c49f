-- One point in an ASDU of its own, as the code writes it. Assumes nothing.
use mathlib.Core.Path.{◌≡◌, refl, sym, ap, ◌∙◌}
use mathlib.Core.List.{List, ◌++◌}
use Prim.Native.Nat.{ℕ, ◌+◌, ◌≤◌}
use native.Mathlib.Omega.{arith}
use lib.ListN.{length, get_or}
use Rattle.limits.specs.Size.{point_octets}
use Rattle.limits.proofs.Sizes.{point_at_most}
use Rattle.octets.specs.Over.{over}
use Rattle.octets.specs.Number.{Octets}
use Rattle.octets.proofs.Laws.{over_over}
use Rattle.asdu.specs.Header.{Object, header, object_octets, asdu_octets}
use Rattle.asdu.proofs.Joined.{joined_one}
use Rattle.asdu.proofs.Laws.{length_header}
use Rattle.model.specs.Place.{point_at}
use Rattle.report.specs.Report.{data_header, object_of}
use Rattle.report.specs.Single.{single}
use Rattle.report.proofs.Single.{length_single}
use Rattle.chains.specs.Follow.{place_object}
use Rattle.chains.proofs.Follow.{length_object_at}
use Rattle.chains.proofs.Meaning.{object_read}

-- the header and then the object are the ASDU
pub single_over : (m out : List ℕ) (at cause ca e o : ℕ) → Octets m → at + 48 ≤ length m → e ≡ point_octets (get_or m at 0)
    → o ≡ length (header (data_header (get_or m at 0) 1 cause ca)) → length (asdu_octets (single cause ca (point_at m at))) ≤ length out
    → over (over out 0 (header (data_header (get_or m at 0) 1 cause ca))) o (place_object e m at) ≡ over out 0 (asdu_octets (single cause ca (point_at m at)))
unfolding single asdu_octets
single_over m out at cause ca e o oc fits ee eo room =
    let H : List ℕ = header (data_header (get_or m at 0) 1 cause ca) in
    let x : Object = object_of (point_at m at) in
    let r : place_object e m at ≡ object_octets x = ap (λ (k : ℕ). place_object k m at) ee ∙ object_read m at oc fits in
    let l : length (asdu_octets (single cause ca (point_at m at))) ≡ 9 + point_octets (get_or m at 0) = length_single cause ca (point_at m at) refl in
    let n : length H ≡ 6 = length_header (data_header (get_or m at 0) 1 cause ca) in
    let k : length (place_object e m at) ≡ 3 + e = length_object_at e m at fits (omega (arith, point_at_most (get_or m at 0))) in
    over_over out H (place_object e m at) 0 o (omega arith) (omega arith)
    ∙ ap (λ (y : List ℕ). over out 0 (H ++ y)) (r ∙ sym (joined_one object_octets x))

pub single_long : (m : List ℕ) (at cause ca : ℕ) → length (asdu_octets (single cause ca (point_at m at))) ≡ 9 + point_octets (get_or m at 0)
single_long m at cause ca = length_single cause ca (point_at m at) refl
