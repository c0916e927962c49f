-- Count 0 has no first object; otherwise the objects reach past octet 9.
use borrow.Author.Tests.{eq-eqb, ne_eqb}
use Rattle.std.specs.Prelude.{Some}
use Rattle.asdu.proofs.asked.Asked.first_object.Goals as goal

pub returns-then-self-eq0 : goal.returns-then-self-eq0
returns-then-self-eq0 c = simp (eq-eqb _ _ c.if-self-eq0.true)

pub returns : goal.returns
returns c =
    let e = c.number_at.ensures.0 in
    rw (ne_eqb _ _ c.if-self-eq0.false) (λ j. Some (e j, 9))
