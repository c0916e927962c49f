-- Each return computes `length_ok` by the tests that led there.
use mathlib.Core.Path.{◌≡◌}
use mathlib.Core.Bool.{false}
use Prim.Native.Nat.{◌-◌}
use lib.Dec.{leb}
use borrow.Author.Tests.{lt-leb, le-leb}
use Rattle.limits.specs.Test.{◌&◌}
use native.Mathlib.Omega.{arith}
use Rattle.asdu.proofs.command.is_length.Goals as goal

pub returns-then-n-lt-HEADER_OCTETS : goal.returns-then-n-lt-HEADER_OCTETS
unfolding ◌&◌
returns-then-n-lt-HEADER_OCTETS c = simp (lt-leb _ _ c.if-n-lt-HEADER_OCTETS.true)

pub returns-then-limit-lt-CONTROL_OCTETS : goal.returns-then-limit-lt-CONTROL_OCTETS
unfolding ◌&◌
returns-then-limit-lt-CONTROL_OCTETS c =
    let a = c.args in
    let few : leb a.n (a.limit - 4) ≡ false = lt-leb a.n (a.limit - 4) (omega arith) in
    simp (le-leb _ _ c.if-n-lt-HEADER_OCTETS.false, few)

pub returns : goal.returns
unfolding ◌&◌
returns c = simp (le-leb _ _ c.if-n-lt-HEADER_OCTETS.false)
