-- The table read at a type's number is the type's element octets; past the table no type is named.
use mathlib.Core.Path.{sym, ◌∙◌}
use native.Mathlib.Omega.{arith}
use Rattle.limits.specs.Size.{values_from, element_octets, octets_in, named_types, point_types, system_types, process_types, end_types}
use Rattle.limits.proofs.Sizes.{elements_at, element_at_most, element_beyond}
use Rattle.limits.proofs.size.element_octets.Goals as goal

pub returns-then-kind-ge-KINDS_END : goal.returns-then-kind-ge-KINDS_END
returns-then-kind-ge-KINDS_END c = let e = element_beyond c.args.kind (omega arith) in (sym e, omega arith)

pub returns : goal.returns
unfolding values_from element_octets octets_in named_types point_types system_types process_types end_types
returns c =
    let e = c.from.ensures ∙ rw c.from-kind.ensures (elements_at c.args.kind (omega arith)) in
    (e, omega (arith, element_at_most c.args.kind))
