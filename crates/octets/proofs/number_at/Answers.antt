-- The octets, with zeros up to eight, as the library reads them.
use mathlib.Core.Path.{◌≡◌, ap, ◌∙◌}
use Prim.Native.Nat.{◌+◌, ◌-◌}
use lib.ListN.{take, drop}
use Rattle.octets.proofs.Bytes.{read_part, zeros_left}
use native.Mathlib.Omega.{arith}
use Rattle.octets.proofs.number_at.Goals as goal

pub returns : goal.returns
returns g c =
    let a = c.args in
    let n = g.row.N in
    let e : a.at + n - a.at ≡ n = omega arith in
    let part = c.copy_from_slice.ensures.after ∙ ap (λ k. take k (drop a.at a.m.now)) e in
    read_part a.m.now (λ i. omega (arith, c.type_inv.m i)) a.at n _ _ _ c.requires.0 c.requires.1 part (zeros_left n c.requires.0) c.from_le_bytes.ensures
