-- The entry's four ways out are the four cases of the effect of a batch. Assumes nothing.
use native.Mathlib.Omega.{arith}
use mathlib.Core.Path.{◌≡◌, refl, sym, ap, ◌∙◌}
use mathlib.Core.List.{[]}
use mathlib.Core.Bool.{true}
use Rattle.std.specs.Prelude.{Result, Ok}
use Rattle.std.proofs.lemmas.Result.{err_from_is_err_and}
use Rattle.limits.specs.Outcome.{is_done}
use Rattle.limits.proofs.Outcomes.{done_is}
use Rattle.table.specs.Memory.{well_formed, table_of}
use Rattle.table.proofs.Parse.{passed}
use Rattle.registry.specs.declared.Fault.{Fault}
use Rattle.registry.specs.Effect.{Reply}
use Rattle.registry.specs.Registry.{own_tests}
use Rattle.batch_records.specs.Records.{requests_in}
use Rattle.replies.specs.Replies.{placed}
use Rattle.replies.proofs.Ways.{no_table}
use Rattle.batch.proofs.Entry.{own_refusal, room_refusal, has_room, stored_all}
use Rattle.batch.proofs.register_points.Goals as goal
use Rattle.batch.proofs.register_points.Goals.{Else-not-well_formed, In_ok-own_tests}

-- the table is there
there : (c : Else-not-well_formed) → well_formed c.args.table.now ≡ true
there c = sym c.well_formed-2.ensures ∙ c.if-not-well_formed.false

-- every point passes its own tests
own_passed : (c : In_ok-own_tests) → is_done (own_tests (table_of c.args.table.now) [] 0 (requests_in c.args.records.now)).outcome ≡ true
own_passed c = ap (λ (y : Reply). is_done y.outcome) (sym c.own_tests.ensures ∙ ap placed c.in_ok-own_tests.was)

pub returns-then-not-well_formed : goal.returns-then-not-well_formed
returns-then-not-well_formed c = no_table _ _ (sym c.well_formed-2.ensures ∙ c.if-not-well_formed.true)

pub order-apart-requires : goal.order-apart-requires
order-apart-requires c = omega arith

pub own_tests-requires : goal.own_tests-requires
own_tests-requires c = (there (goal.at.own_tests-requires c).Else-not-well_formed, c.order-apart.ensures.1)

pub returns-in_err-own_tests : goal.returns-in_err-own_tests
returns-in_err-own_tests c =
    let r = err_from_is_err_and c.from_residual.result c.from_residual.ensures.1 in
    rw (r.1, r.2)
    (own_refusal c.args.table.now (there (goal.at.returns-in_err-own_tests c).Else-not-well_formed) (requests_in c.args.records.now) _ (sym (ap placed c.in_err-own_tests.was) ∙ c.own_tests.ensures) refl)

pub room_tests-requires : goal.room_tests-requires
room_tests-requires c =
    let t = (passed c.args.table.now (there (goal.at.room_tests-requires c).Else-not-well_formed)).top in
    (t.s_high, t.room, refl)

pub returns-in_err-room_tests : goal.returns-in_err-room_tests
returns-in_err-room_tests c =
    let p = goal.at.returns-in_err-room_tests c in
    let r = err_from_is_err_and c.from_residual-in_err-room_tests.result c.from_residual-in_err-room_tests.ensures.1 in
    rw (r.1, r.2)
    (room_refusal c.args.table.now (there p.Else-not-well_formed) (requests_in c.args.records.now) (own_passed p.In_ok-own_tests) _ (sym (ap placed c.in_err-room_tests.was) ∙ c.room_tests.ensures.0) refl)

pub store_all-requires : goal.store_all-requires
store_all-requires c =
    let p = goal.at.store_all-requires c in
    let w = there p.Else-not-well_formed in
    let d = own_passed p.In_ok-own_tests in
    let e = sym (ap placed c.in_ok-room_tests.was) ∙ c.room_tests.ensures.0 in
    ((w, done_is _ d, has_room c.args.table.now w (requests_in c.args.records.now) d _ e refl), c.room_tests.ensures.1, omega (arith, c.order-apart.auto), c.order-apart.ensures.0)

pub returns : goal.returns
returns c =
    let p = goal.at.returns c in
    stored_all c.args.table.now (there p.Else-not-well_formed) (requests_in c.args.records.now) (own_passed p.In_ok-own_tests) _ (sym (ap placed c.in_ok-room_tests.was) ∙ c.room_tests.ensures.0) refl _ c.store_all.ensures
