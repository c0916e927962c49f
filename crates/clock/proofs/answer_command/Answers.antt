-- The flat entry on the octets of the clock, and what comes back read as a clock. Assumes nothing.
use mathlib.Core.Path.{◌≡◌, sym, ap, subst, ◌∙◌}
use mathlib.Core.List.{List, [], ◌∷◌}
use lib.ListN.{length, length-append}
use Prim.Native.Nat.{ℕ, ◌+◌}
use Rattle.clock.proofs.Laws.{Flagged, flagged_clock, flagged_after, same_octets}
use Rattle.answers.specs.Said.{Lent, lent, answered, as_it_is, Leaves}
use Rattle.answers.specs.System.{system_said}
use Rattle.clock.specs.Clock.{octets_of, flag_of}
use native.Mathlib.Omega.{arith}
use Rattle.clock.proofs.answer_command.Goals as goal

pub returns : goal.returns
returns c =
    let a = c.args in
    let flat = c.octets_of-flat.result in
    let said = c.system_command-answered in
    let left = said.new.clock in
    let k = c.octets_of-flat.ensures.0 in
    let n : length a.clock.octets + 1 ≡ 8 = sym (length-append a.clock.octets (flag_of a.clock.known ∷ [])) ∙ ap length (sym k) ∙ c.octets_of-flat.ensures.1 in
    let seven : length a.clock.octets ≡ 7 = omega arith in
    let w = flagged_clock a.clock.octets a.clock.known seven in
    let e = said.ensures in
    let flagged = subst Flagged (sym (ap (λ (z : Lent). z.clock) e.leaves)) (flagged_after a.asdu.now (lent a.table.now flat a.answer.now []) (subst Flagged (sym k) w)) in
    let back : octets_of c.clock_of.result ≡ left = ap octets_of c.clock_of.ensures.0 ∙ same_octets left c.clock_of.ensures.1 flagged in
    subst (λ (x : List ℕ). Leaves as_it_is (system_said x a.asdu.now) (lent a.table.now x a.answer.now []) (answered said.result) (lent said.new.table (octets_of c.clock_of.result) said.new.answer [])) k
    (record { answers = e.answers; leaves = (λ j. lent said.new.table (back j) said.new.answer []) ∙ e.leaves })
