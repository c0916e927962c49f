-- The OR of four numbers, which cover the 26 octets, is zero exactly if these are.
use mathlib.Core.Path.{◌∙◌}
use Prim.Native.Nat.{◌+◌}
use lib.Dec.{eqb}
use lib.Bits.{bit_or}
use Rattle.octets.proofs.Bytes.{eight_is}
use Rattle.model.proofs.Within.{spare_is}
use Rattle.model.proofs.places.spare_zero.Goals as goal

pub returns : goal.returns
returns c =
    let a = c.args in
    let e = c.number_at.ensures.0 ∙ eight_is a.m.now a.at in
    let f = c.number_at-2.ensures.0 ∙ eight_is a.m.now (a.at + 8) in
    let g = c.number_at-3.ensures.0 ∙ eight_is a.m.now (a.at + 16) in
    let h = c.number_at-4.ensures.0 ∙ eight_is a.m.now (a.at + 18) in
    (λ j. eqb (bit_or (bit_or (e j) (f j)) (bit_or (g j) (h j))) 0) ∙ spare_is a.m.now a.at
