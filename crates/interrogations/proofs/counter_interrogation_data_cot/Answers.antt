-- All, or a group. Assumes nothing.
use mathlib.Core.Path.{sym, ap, ◌∙◌}
use Prim.Native.Nat.{ℕ, ◌+◌}
use borrow.Author.Tests.{eq-eqb, ne_eqb}
use Rattle.interrogations.proofs.counter_interrogation_data_cot.Goals as goal

pub returns-then-choice-eq5 : goal.returns-then-choice-eq5
returns-then-choice-eq5 c = sym (simp (eq-eqb _ _ (sym c.choice_of-choice.ensures ∙ c.if-choice-eq5.true)))

pub returns : goal.returns
returns c =
    let e = c.choice_of-choice.ensures in
    sym (simp (ne_eqb _ _ (λ q. c.if-choice-eq5.false (e ∙ q))) (ap (λ (g : ℕ). 37 + g) (sym e)))
