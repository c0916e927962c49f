-- Each return is the first test that fails, those before it having passed.
use mathlib.Core.Path.{◌≡◌, sym, ap, ◌∙◌}
use mathlib.Core.Bool.{Bool}
use Prim.Native.Nat.{◌≤◌, ◌<◌}
use borrow.Author.Tests.{le-leb, lt-leb, not-true, not-false}
use Rattle.limits.specs.Test.{◌&◌, pick}
use Rattle.std.specs.Prelude.{Err}
use Rattle.limits.specs.Outcome.{done}
use Rattle.limits.specs.declared.outcome.Refusal.TheVariants.{NotCounter}
use Rattle.limits.specs.Size.{point_octets}
use Rattle.model.specs.Request.{own_fault, counter_ok}
use native.Mathlib.Omega.{arith}
use Rattle.model.proofs.registration.own_fault.Goals as goal
use Rattle.model.proofs.registration.own_fault.Goals.{Else-not-group_ok-2}

-- every test but the last passed
but_counter : (c : Else-not-group_ok-2) →
    let q = c.args.q in
    own_fault c.args.planned q ≡ pick (counter_ok q.kind q.counter) done (Err NotCounter)
unfolding own_fault ◌&◌
but_counter c =
    let q = c.args.q in
    let k : 1 ≤ point_octets q.kind = omega arith in
    let a : q.ioa ≤ 16777215 = omega arith in
    simp (le-leb _ _ k, le-leb _ _ a, not-false c.args.planned c.if-not-planned.false-raw, sym c.group_ok.ensures ∙ c.if-not-group_ok.false, sym c.group_ok-2.ensures ∙ c.if-not-group_ok-2.false)

pub returns-then-point_octets-lt1 : goal.returns-then-point_octets-lt1
unfolding own_fault ◌&◌
returns-then-point_octets-lt1 c =
    let q = c.args.q in
    let k : point_octets q.kind < 1 = omega arith in
    simp (lt-leb _ _ k)

pub returns-then-q-gt-HIGHEST_IOA : goal.returns-then-q-gt-HIGHEST_IOA
unfolding own_fault ◌&◌
returns-then-q-gt-HIGHEST_IOA c =
    let q = c.args.q in
    let k : 1 ≤ point_octets q.kind = omega arith in
    let a : 16777215 < q.ioa = omega arith in
    simp (le-leb _ _ k, lt-leb _ _ a)

pub returns-then-not-planned : goal.returns-then-not-planned
unfolding own_fault ◌&◌
returns-then-not-planned c =
    let q = c.args.q in
    let k : 1 ≤ point_octets q.kind = omega arith in
    let a : q.ioa ≤ 16777215 = omega arith in
    simp (le-leb _ _ k, le-leb _ _ a, not-true c.args.planned c.if-not-planned.true-raw)

pub returns-then-not-group_ok : goal.returns-then-not-group_ok
unfolding own_fault ◌&◌
returns-then-not-group_ok c =
    let q = c.args.q in
    let k : 1 ≤ point_octets q.kind = omega arith in
    let a : q.ioa ≤ 16777215 = omega arith in
    simp (le-leb _ _ k, le-leb _ _ a, not-false c.args.planned c.if-not-planned.false-raw, sym c.group_ok.ensures ∙ c.if-not-group_ok.true)

pub returns-then-not-group_ok-2 : goal.returns-then-not-group_ok-2
unfolding own_fault ◌&◌
returns-then-not-group_ok-2 c =
    let q = c.args.q in
    let k : 1 ≤ point_octets q.kind = omega arith in
    let a : q.ioa ≤ 16777215 = omega arith in
    simp (le-leb _ _ k, le-leb _ _ a, not-false c.args.planned c.if-not-planned.false-raw, sym c.group_ok.ensures ∙ c.if-not-group_ok.false, sym c.group_ok-2.ensures ∙ c.if-not-group_ok-2.true)

pub returns-then-not-counter_ok : goal.returns-then-not-counter_ok
returns-then-not-counter_ok c = sym (but_counter (goal.at.returns-then-not-counter_ok c).Else-not-group_ok-2 ∙ ap (λ (b : Bool). pick b done (Err NotCounter)) (sym c.counter_ok.ensures ∙ c.if-not-counter_ok.true))

pub returns : goal.returns
returns c = sym (but_counter (goal.at.returns c).Else-not-group_ok-2 ∙ ap (λ (b : Bool). pick b done (Err NotCounter)) (sym c.counter_ok.ensures ∙ c.if-not-counter_ok.false))
