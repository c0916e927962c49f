-- Each choice. Assumes nothing.
use mathlib.Core.Path.{sym, ap, ◌∙◌}
use Prim.Native.Nat.{ℕ}
use Rattle.report.specs.declared.Selection.TheVariants.{CounterGroup}
use Rattle.std.specs.Prelude.{Some}
use Rattle.interrogations.proofs.Laws.{chooses_all, chooses_none_below, chooses_none_above, chooses_group}
use native.Mathlib.Omega.{arith}
use Rattle.interrogations.proofs.chosen.Goals as goal

pub returns-then-choice-eq5 : goal.returns-then-choice-eq5
returns-then-choice-eq5 c = sym (chooses_all _ (sym c.choice_of-choice.ensures ∙ c.if-choice-eq5.true))

pub returns-then-choice-lt1 : goal.returns-then-choice-lt1
returns-then-choice-lt1 c = let e = c.choice_of-choice.ensures in sym (chooses_none_below _ (λ q. c.if-choice-eq5.false (e ∙ q)) (omega arith))

pub returns-then-choice-gt4 : goal.returns-then-choice-gt4
returns-then-choice-gt4 c = let e = c.choice_of-choice.ensures in sym (chooses_none_above _ (λ q. c.if-choice-eq5.false (e ∙ q)) (omega arith) (omega arith))

pub returns : goal.returns
returns c =
    let e = c.choice_of-choice.ensures in
    ap (λ (g : ℕ). Some (CounterGroup g)) e ∙ sym (chooses_group _ (λ q. c.if-choice-eq5.false (e ∙ q)) (omega arith) (omega arith))
