-- One record's tests: the seat says which station it is, and each way out is one case of `batch_fault`. Assumes nothing.
use Rattle.std.proofs.lemmas.Result.{err_from_is_err_and}
use native.Mathlib.Omega.{arith}
use mathlib.Core.Path.{sym, ◌∙◌}
use Rattle.batch_tests.proofs.Laws.{fault_absent, fault_own, fault_twice, fault_known, fault_none}
use Rattle.batch_tests.proofs.fault_at.Goals as goal

pub returns-in_default : goal.returns-in_default
returns-in_default c = c.own_fault.ensures ∙ fault_absent _ _ _ _ _ c.request_at-request.ensures c.from-ca.ensures (sym c.seat_at.ensures ∙ c.in_default.is)

pub returns-in_err-own_fault : goal.returns-in_err-own_fault
returns-in_err-own_fault c =
    let r = err_from_is_err_and c.from_residual.result c.from_residual.ensures.1 in
    rw (r.1, r.2) (fault_own _ _ _ _ _ c.request_at-request.ensures c.from-ca.ensures _ (λ k. omega (arith, c.shared_slice_known-1.given k)) c.requires.0 (sym c.seat_at.ensures ∙ c.in-Some.is) _ (sym c.own_fault-2.ensures ∙ c.in_err-own_fault.was))

pub returns-then-stands_flagged : goal.returns-then-stands_flagged
returns-then-stands_flagged c =
    fault_twice _ _ _ _ _ c.request_at-request.ensures c.from-ca.ensures _ (λ k. omega (arith, c.shared_slice_known-1.given k)) c.requires.0 (sym c.seat_at.ensures ∙ c.in-Some.is) (sym c.own_fault-2.ensures ∙ c.in_ok-own_fault.was)
    (sym c.stands_flagged.ensures ∙ c.if-stands_flagged.true)

pub returns-then-is_held : goal.returns-then-is_held
returns-then-is_held c =
    fault_known _ _ _ _ _ c.request_at-request.ensures c.from-ca.ensures _ (λ k. omega (arith, c.shared_slice_known-1.given k)) c.requires.0 (sym c.seat_at.ensures ∙ c.in-Some.is) (sym c.own_fault-2.ensures ∙ c.in_ok-own_fault.was)
    (sym c.stands_flagged.ensures ∙ c.if-stands_flagged.false) (sym c.is_held.ensures ∙ c.if-is_held.true)

pub returns : goal.returns
returns c =
    fault_none _ _ _ _ _ c.request_at-request.ensures c.from-ca.ensures _ (λ k. omega (arith, c.shared_slice_known-1.given k)) c.requires.0 (sym c.seat_at.ensures ∙ c.in-Some.is) (sym c.own_fault-2.ensures ∙ c.in_ok-own_fault.was)
    (sym c.stands_flagged.ensures ∙ c.if-stands_flagged.false) (sym c.is_held.ensures ∙ c.if-is_held.false)
