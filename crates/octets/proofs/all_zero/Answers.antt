-- The OR of the octets is zero exactly if each is.
use Prim.Native.Nat.{◌+◌, ◌-◌}
use Rattle.std.proofs.Common.{rules}
use native.Mathlib.Omega.{arith}
use Rattle.octets.proofs.Zero.{any_zero}
use Rattle.octets.proofs.all_zero.Goals as goal

pub returns : goal.returns
returns c = let a = c.args in any_zero a.m.now c.fold.result a.at a.n (a.at + a.n - a.at) (omega arith) (omega arith) (search rules)
