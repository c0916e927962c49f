-- At least one object fits, so there is a number of ASDUs; the products fit, by their bounds.
use mathlib.Core.Path.{ap}
use Prim.Native.Nat.{ℕ, ◌+◌, ◌*◌, ◌-◌, ◌/◌}
use borrow.Author.Rules.{rules}
use native.Mathlib.Omega.{arith}
use native.Mathlib.Nat.{div-le_self, mul-le-mul}
use Rattle.limits.proofs.Sizes.{one_object}
use Rattle.limits.proofs.size.run_octets.Goals as goal

pub most_objects-most-requires : goal.most_objects-most-requires
most_objects-most-requires c = search rules

pub overflow_sub-asdus : goal.overflow_sub-asdus
overflow_sub-asdus c = omega (arith, one_object c.args.limit c.args.element (omega arith))

pub overflow_add-asdus : goal.overflow_add-asdus
overflow_add-asdus c = search rules

pub nonzero_div-asdus : goal.nonzero_div-asdus
nonzero_div-asdus c = omega (arith, one_object c.args.limit c.args.element (omega arith))

pub overflow_mul-result : goal.overflow_mul-result
overflow_mul-result c =
    let m = c.most_objects-most.result in
    omega (arith, div-le_self (c.args.n + (m - 1)) m)

pub overflow_add-result : goal.overflow_add-result
overflow_add-result c = search rules

pub overflow_mul-result-2 : goal.overflow_mul-result-2
overflow_mul-result-2 c =
    let a = c.args in
    omega (arith, mul-le-mul {n₁ = a.n} {m₁ = 3 + a.element} {n₂ = 65536} {m₂ = 243} (omega arith) (omega arith))

pub overflow_add-result-2 : goal.overflow_add-result-2
overflow_add-result-2 c =
    let a = c.args in
    let m = c.most_objects-most.result in
    omega
    (arith, div-le_self (a.n + (m - 1)) m, mul-le-mul {n₁ = a.n} {m₁ = 3 + a.element} {n₂ = 65536} {m₂ = 243} (omega arith) (omega arith))

pub returns : goal.returns
returns c =
    let a = c.args in
    ap (λ (m : ℕ). 6 * ((a.n + (m - 1)) / m) + a.n * (3 + a.element)) c.most_objects-most.ensures.0
