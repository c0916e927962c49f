-- The flag is tested first; then the length is compared with what count and element say.
use Prim.Native.Nat.{ℕ, ◌+◌, ◌*◌, ◌≤◌, ◌<◌}
use native.Mathlib.Nat.{mul-le-mul}
use mathlib.Core.Path.{◌≡◌}
use mathlib.Core.Bool.{true, false}
use lib.Dec.{leb, eqb}
use lib.ListN.{length, get_or}
use borrow.Author.Tests.{lt-leb, le-leb}
use Rattle.limits.specs.Test.{◌&◌}
use native.Mathlib.Omega.{arith}
use Rattle.asdu.proofs.command.has_whole_objects.Goals as goal

-- at most 255 objects of at most 15 octets
small : (n w : ℕ) → n < 256 → w ≤ 15 → n * w ≤ 256 * 15
small n w a b = mul-le-mul {n₁ = n} {m₁ = w} {n₂ = 256} {m₂ = 15} (omega arith) (omega arith)

pub returns-then-asdu-ge128 : goal.returns-then-asdu-ge128
unfolding ◌&◌
returns-then-asdu-ge128 c =
    let m = c.args.asdu.now in
    let flag : leb 128 (get_or m 1 0) ≡ true = le-leb 128 (get_or m 1 0) (omega arith) in
    simp flag

pub overflow_mul-result : goal.overflow_mul-result
overflow_mul-result c =
    let s = small c.from-count.result (3 + c.element_octets-element.result) (omega arith) (omega arith) in
    omega arith

pub overflow_add-result-2 : goal.overflow_add-result-2
overflow_add-result-2 c =
    let s = small c.from-count.result (3 + c.element_octets-element.result) (omega arith) (omega arith) in
    omega arith

pub returns : goal.returns
unfolding ◌&◌
returns c =
    let m = c.args.asdu.now in
    let w = c.from-count.ensures in
    let e = c.element_octets-element.ensures.0 in
    let flag : leb 128 (get_or m 1 0) ≡ false = lt-leb 128 (get_or m 1 0) (omega arith) in
    rw flag (λ j. eqb (length m) (6 + w j * (3 + e j)))
