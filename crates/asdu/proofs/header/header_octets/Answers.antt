-- The octets are those of `header`: a flag is 0 or 1 times its worth.
use mathlib.Core.Path.{◌≡◌, refl}
use mathlib.Core.Bool.{Bool, true, false}
use Prim.Native.Nat.{ℕ, ◌*◌, ◌/◌, ◌%◌}
use mir.Val.{bool_byte}
use native.Mathlib.Omega.{arith}
use Rattle.limits.specs.Test.{pick}
use Rattle.asdu.specs.Header.{header}
use Rattle.asdu.proofs.header.header_octets.Goals as goal

flag_is : (set : Bool) (worth : ℕ) → worth * bool_byte set ≡ pick set worth 0
flag_is true worth = omega arith
flag_is false worth = omega arith

pub returns : goal.returns
unfolding header
returns c =
    let h = c.args.h in
    let high : h.ca / 256 % 256 ≡ h.ca / 256 = omega arith in
    rw (c.to_le_bytes.ensures, c.from.ensures, c.from-2.ensures, flag_is h.negative 64, flag_is h.test 128, high) refl
