-- Each type leads to its answer. Assumes nothing.
use mathlib.Core.Path.{◌≡◌, refl, sym, ap, ◌∙◌}
use mathlib.Core.Bool.{false}
use lib.Dec.{eqb}
use borrow.Author.Tests.{eqb-false}
use mathlib.Core.List.{List, []}
use Prim.Native.Nat.{ℕ, ◌+◌, ◌≤◌}
use lib.ListN.{length}
use Rattle.limits.specs.Test.{pick}
use Rattle.limits.specs.Outcome.{is_done}
use Rattle.octets.specs.Number.{Octets}
use Rattle.table.specs.Table.{Table}
use Rattle.table.specs.Memory.{table_of}
use Rattle.table.specs.Settings.{limit_of}
use Rattle.asdu.proofs.Reading.{first_there}
use Rattle.registry.specs.Effect.{holding}
use Rattle.answers.specs.Said.{Said, answered, lent}
use Rattle.answers.specs.System.{command_said, clock_from, after_counters, qualifier_of}
use Rattle.answers.proofs.Ends.{ends_sent, ends_says, done_given}
use Rattle.system_command_handler.proofs.Ways.{sizes_of, element_is, one_octet, said_interrogation, said_counters, said_read, said_clock, said_echo, same_clock}
use native.Mathlib.Omega.{arith}
use Rattle.system_command_handler.proofs.dispatch_rtu_system_handler.Goals as goal
use Rattle.system_command_handler.proofs.dispatch_rtu_system_handler.Goals.{Start}

-- the first object is there
first_in : (s : Start) → (s.args.asked.command.element ≤ 12) × (9 + s.args.asked.command.element ≤ length s.args.asked.asdu.now)
first_in s =
    let q = s.args.asked in
    ((sizes_of (limit_of (table_of s.args.table.now)) q.asdu.now q.command s.requires.1).small, first_there q.command.element q.command.count q.asdu.now (omega (arith, q.whole)) s.requires.2)

pub invariant_of-first : goal.invariant_of-first
invariant_of-first c =
    let f = first_in (goal.at.invariant_of-first c).Start in
    record { octets = c.args.asked.octets; small = f.0; inside = f.1 }

pub invariant_of-first-in-101 : goal.invariant_of-first-in-101
invariant_of-first-in-101 c =
    let f = first_in (goal.at.invariant_of-first-in-101 c).Start in
    record { octets = c.args.asked.octets; small = f.0; inside = f.1 }

-- what is one type is no other
other : {k b : ℕ} (a : ℕ) → k ≡ b → (eqb a b ≡ false) → k ≡ a → ⊥
other a e d q = eqb-false _ _ d (sym q ∙ e)

pub handle_interrogation-requires : goal.handle_interrogation-requires
handle_interrogation-requires c =
    let there = c.requires.2 in
    let y = element_is 100 1 one_octet.0 c.args.asked.command c.args.asked.asdu.now (sizes_of (limit_of (table_of c.args.table.now)) c.args.asked.asdu.now c.args.asked.command c.requires.1) c.in-100.is in
    let e = y.0 in
    let l = y.1 in
    (c.requires.0, omega arith)

pub returns-in-100 : goal.returns-in-100
returns-in-100 c =
    let a = c.args in
    let o : Octets a.table.now = λ i. omega (arith, c.slice_known-1.given i) in
    let S = said_interrogation a.clock.now a.asked.asdu.now a.asked.command (table_of a.table.now) c.in-100.is in
    (ends_says (command_said c.args.clock.now c.args.asked.asdu.now c.args.asked.command) (lent c.args.table.now c.args.clock.now c.args.answer.now []) c.requires.0 o _ a.clock.now S _ _ _ c.handle_interrogation.ensures (same_clock (is_done (answered c.handle_interrogation.result).outcome) a.clock.now))

pub handle_counter_interrogation-requires : goal.handle_counter_interrogation-requires
handle_counter_interrogation-requires c =
    let there = c.requires.2 in
    let y = element_is 101 1 one_octet.1 c.args.asked.command c.args.asked.asdu.now (sizes_of (limit_of (table_of c.args.table.now)) c.args.asked.asdu.now c.args.asked.command c.requires.1) c.in-101.is in
    let e = y.0 in
    let l = y.1 in
    (c.requires.0, omega arith)

pub returns-in-101 : goal.returns-in-101
returns-in-101 c =
    let a = c.args in
    let S = said_counters a.clock.now a.asked.asdu.now a.asked.command (table_of a.table.now) (other 100 c.in-101.is refl) c.in-101.is in
    let e = c.handle_counter_interrogation.ensures in
    let d = done_given c.handle_counter_interrogation.result in
    let b = is_done (answered c.handle_counter_interrogation.result).outcome in
    let t = a.table.now in
    (ends_sent (command_said c.args.clock.now c.args.asked.asdu.now c.args.asked.command) (lent c.args.table.now c.args.clock.now c.args.answer.now []) c.requires.0 _ (ap (λ (s : Said). s.outcome) S) (ap (λ (s : Said). s.told) S) (ap (λ (s : Said). s.answer) S) _ _ _ _ e.sends
    (e.table_after ∙ (λ j. pick (sym d j) (holding t (table_of t) (after_counters (table_of t) a.asked.command.ca (qualifier_of a.asked.asdu.now))) t) ∙ ap (λ (u : Table). pick b (holding t (table_of t) u) t) (sym (ap (λ (s : Said). s.after) S)))
    (same_clock b a.clock.now ∙ ap (λ (k : List ℕ). pick b k a.clock.now) (sym (ap (λ (s : Said). s.clock) S))))

pub returns-in-102 : goal.returns-in-102
returns-in-102 c =
    let a = c.args in
    let o : Octets a.table.now = λ i. omega (arith, c.slice_known-1.given i) in
    let S = said_read a.clock.now a.asked.asdu.now a.asked.command (table_of a.table.now) (other 100 c.in-102.is refl) (other 101 c.in-102.is refl) c.in-102.is in
    (ends_says (command_said c.args.clock.now c.args.asked.asdu.now c.args.asked.command) (lent c.args.table.now c.args.clock.now c.args.answer.now []) c.requires.0 o _ a.clock.now S _ _ _ c.handle_read.ensures (same_clock (is_done (answered c.handle_read.result).outcome) a.clock.now))

pub handle_clock_sync-requires : goal.handle_clock_sync-requires
handle_clock_sync-requires c =
    let there = c.requires.2 in
    let y = element_is 103 7 one_octet.3 c.args.asked.command c.args.asked.asdu.now (sizes_of (limit_of (table_of c.args.table.now)) c.args.asked.asdu.now c.args.asked.command c.requires.1) c.in-103.is in
    omega (arith, y.1)

pub returns-in-103 : goal.returns-in-103
returns-in-103 c =
    let a = c.args in
    let o : Octets a.table.now = λ i. omega (arith, c.slice_known-1.given i) in
    let S = said_clock a.clock.now a.asked.asdu.now a.asked.command (table_of a.table.now) (other 100 c.in-103.is refl) (other 101 c.in-103.is refl) (other 102 c.in-103.is refl) c.in-103.is in
    let e = c.handle_clock_sync.ensures in
    ends_says (command_said c.args.clock.now c.args.asked.asdu.now c.args.asked.command) (lent c.args.table.now c.args.clock.now c.args.answer.now []) c.requires.0 o _ _ S _ _ _ e.sends (e.clock_value ∙ (λ j. pick (sym (done_given c.handle_clock_sync.result) j) (clock_from a.asked.asdu.now) a.clock.now))

pub returns-in_default : goal.returns-in_default
returns-in_default c =
    let a = c.args in
    let n0 : c.args.asked.command.kind ≡ 100 → ⊥ = λ q. omega arith in
    let n1 : c.args.asked.command.kind ≡ 101 → ⊥ = λ q. omega arith in
    let n2 : c.args.asked.command.kind ≡ 102 → ⊥ = λ q. omega arith in
    let n3 : c.args.asked.command.kind ≡ 103 → ⊥ = λ q. omega arith in
    let o : Octets a.table.now = λ i. omega (arith, c.slice_known-1.given i) in
    let S = said_echo a.clock.now a.asked.asdu.now a.asked.command (table_of a.table.now) n0 n1 n2 n3 in
    (ends_says (command_said c.args.clock.now c.args.asked.asdu.now c.args.asked.command) (lent c.args.table.now c.args.clock.now c.args.answer.now []) c.requires.0 o _ a.clock.now S _ _ _ c.echo.ensures (same_clock (is_done (answered c.echo.result).outcome) a.clock.now))
