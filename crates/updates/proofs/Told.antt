-- The element of a value, read out of an update's record, and how many octets an update tells. Assumes nothing.
use mathlib.Core.Path.{◌≡◌, sym, ap, ◌∙◌}
use mathlib.Core.List.{List}
use mathlib.Core.Option.{some}
use Prim.Native.Nat.{ℕ, ◌+◌, ◌≤◌}
use native.Mathlib.Omega.{arith}
use native.Mathlib.Nat.{add-zero}
use lib.ListN.{length, take, drop, length-drop}
use lib.Seq.{get_or-drop, take-take}
use Rattle.limits.specs.Size.{point_octets}
use Rattle.limits.proofs.Sizes.{point_at_most}
use Rattle.octets.specs.Number.{twelve}
use Rattle.model.specs.declared.Point.{Point}
use Rattle.model.proofs.Requests.{length_element}
use Rattle.table.proofs.Points.{gets, gets_drop}
use Rattle.asdu.specs.Cause.{spontaneous}
use Rattle.asdu.proofs.Laws.{wire_one}
use Rattle.report.proofs.Single.{length_single}
use Rattle.answers.specs.Said.{size}
use Rattle.answers.specs.Process.{Update, told_of, revalued}

-- twelve octets spelt out are a part
twelve_part : (m : List ℕ) (at : ℕ) → at + 12 ≤ length m → twelve m at ≡ take 12 (drop at m)
unfolding gets
twelve_part m at h =
    let l : 12 ≤ length (drop at m) = simp length-drop (omega arith) in
    let e : twelve m at ≡ twelve (drop at m) 0 = simp (get_or-drop, add-zero) in
    e ∙ gets_drop 0 12 (drop at m) l

-- an element of a value is the same part of the memory
pub element_part : (m : List ℕ) (at e : ℕ) → at + 12 ≤ length m → e ≤ 12 → take e (drop at m) ≡ take e (twelve m at)
element_part m at e h k = sym (take-take e 12 (drop at m) k) ∙ ap (take e) (sym (twelve_part m at h))

-- An update that is not skipped tells nine octets and the element.
pub length_told : (u : Update) (q : Point) → length u.value ≡ 12 → size (told_of u (some (revalued q u.value))) ≡ 9 + point_octets q.kind
unfolding told_of
length_told u q l = ap length (wire_one _) ∙ length_single spontaneous u.ca (revalued q u.value) (length_element u.value (point_octets q.kind) l (point_at_most q.kind))
