-- The number's octets as the library writes them, copied in.
use mathlib.Core.Path.{ap, ◌∙◌}
use lib.ListN.{take}
use Rattle.octets.specs.Over.{over}
use Rattle.octets.proofs.Bytes.{written}
use Rattle.octets.proofs.put.Goals as goal

pub returns : goal.returns
returns g c =
    let a = c.args in
    let n = g.row.N in
    let part = ap (take n) c.to_le_bytes.ensures ∙ written n a.v c.requires.0 c.requires.2 in
    c.copy_in.ensures ∙ ap (over a.m.now a.at) part
