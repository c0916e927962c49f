-- The data are written if the whole fits, then what stands before and after them. Assumes nothing.
use mathlib.Core.Path.{◌≡◌, sym, ap, ◌∙◌}
use mathlib.Core.Bool.{false}
use mathlib.Core.List.{List}
use Prim.Native.Nat.{ℕ, ◌+◌, ◌≤◌}
use lib.ListN.{length}
use Rattle.octets.specs.Number.{Octets}
use Rattle.table.specs.Memory.{table_of}
use Rattle.table.specs.Settings.{limit_of}
use Rattle.table.proofs.Parse.{passed}
use Rattle.asdu.proofs.Lengths.{length_confirmation}
use Rattle.asdu.specs.Header.{wire}
use Rattle.asdu.specs.Command.{first_element}
use Rattle.report.specs.declared.Reach.{Reach}
use Rattle.report.specs.declared.Selection.{Selection}
use Rattle.report.specs.Packing.{selected}
use Rattle.report.specs.Selection.{selects}
use Rattle.report.specs.Report.{report}
use Rattle.report.specs.Order.{points_for}
use Rattle.output.specs.Data.{data_of, wrote, written}
use Rattle.output.proofs.Reached.{reached}
use Rattle.confirming.proofs.Laws.{data_is, no_room, has_room, all_written}
use native.Mathlib.Omega.{arith}
use Rattle.confirming.proofs.report.Goals as goal
use Rattle.confirming.proofs.report.Goals.{After-put_data, In-Some}

-- what stands between confirmation and termination
abbrev data_in : (t types : List ℕ) (cause ca : ℕ) → Selection → List ℕ
data_in t types cause ca s = wire (report (limit_of (table_of t)) types cause ca (selected (selects s) (points_for ca (table_of t).stations)))

-- the data that are written are those
same_data : (c : After-put_data) → (c.put_data.result ≡ wrote (length c.args.answer.now) (first_element + c.args.first.command.element) (first_element + c.args.first.command.element) (data_in c.args.table.now c.args.types.now c.args.cause c.args.first.command.ca c.args.selection))
    × (c.put_data.new.out ≡ written c.args.answer.now (first_element + c.args.first.command.element) (first_element + c.args.first.command.element) (data_in c.args.table.now c.args.types.now c.args.cause c.args.first.command.ca c.args.selection))
same_data c =
    let a = c.args in
    let t = a.table.now in
    let o : Octets t = λ k. omega (arith, c.shared_slice_known-1.given k) in
    let r = c.reach_of-reach in
    let n = c.limit_of-limit.ensures.0 in
    let d =
    ap wire
    ((λ j. data_of (record { limit = n j; cause = a.cause; ca = a.first.command.ca }) a.types.now a.selection t r.result)
    ∙ data_is (record { limit = limit_of (table_of t); cause = a.cause; ca = a.first.command.ca }) a.types.now a.selection t a.first.command.ca r.result r.ensures o c.requires.0) in
    let e = c.put_data.ensures in
    let out = a.answer.now in
    (e.0 ∙ ap (wrote (length out) (first_element + c.args.first.command.element) (first_element + c.args.first.command.element)) d, e.1 ∙ ap (written out (first_element + c.args.first.command.element) (first_element + c.args.first.command.element)) d)

-- the whole fits
room : (c : In-Some)
    → c.put_data.result ≡ wrote (length c.args.answer.now) (first_element + c.args.first.command.element) (first_element + c.args.first.command.element) (data_in c.args.table.now c.args.types.now c.args.cause c.args.first.command.ca c.args.selection)
    → (first_element + c.args.first.command.element) + (c.in-Some.octets + (first_element + c.args.first.command.element)) ≤ length c.args.answer.now
room c d =
    let a = c.args in
    has_room (table_of a.table.now) a.first.command a.first.asdu.now a.types.now a.cause a.selection a.answer.now c.args.first.inside _
    (sym d ∙ c.in-Some.is)

pub reach_of-reach-requires : goal.reach_of-reach-requires
reach_of-reach-requires c =
    let p = (passed c.args.table.now c.requires.0).top in
    (p.s_high, p.room)

pub put_data-requires : goal.put_data-requires
put_data-requires c =
    let t = c.args.table.now in
    let o : Octets t = λ k. omega (arith, c.shared_slice_known-1.given k) in
    let e = c.reach_of-reach.ensures in
    let eb = ap (λ (x : Reach). x.base) e in
    let en = ap (λ (x : Reach). x.n) e in
    let z = reached t c.args.first.command.ca o c.requires.0 in
    let lies = z.lies in
    let few = z.few in
    let l = c.limit_of-limit.ensures in
    let p = c.requires in
    (omega arith, omega arith, (omega arith, omega arith), p.1, ((l.1, l.2), p.2))

pub returns-in_default : goal.returns-in_default
returns-in_default c =
    let d = same_data (goal.at.returns-in_default c).After-put_data in
    let a = c.args in
    (no_room (table_of a.table.now) a.first.command a.first.asdu.now a.types.now a.cause a.selection a.answer.now c.args.first.inside (sym d.0 ∙ c.in_default.is) _ d.1)

pub put_confirmation-requires : goal.put_confirmation-requires
put_confirmation-requires c =
    let fits = room (goal.at.put_confirmation-requires c).In-Some (same_data (goal.at.put_confirmation-requires c).After-put_data).0 in
    let l = length_confirmation c.args.first.command c.args.first.asdu.now 7 false c.args.first.inside in
    (omega arith, omega arith)

pub overflow_add-before-3 : goal.overflow_add-before-3
overflow_add-before-3 c =
    let fits = room (goal.at.overflow_add-before-3 c).In-Some (same_data (goal.at.overflow_add-before-3 c).After-put_data).0 in
    omega arith

pub put_termination-requires : goal.put_termination-requires
put_termination-requires c =
    let fits = room (goal.at.put_termination-requires c).In-Some (same_data (goal.at.put_termination-requires c).After-put_data).0 in
    omega arith

pub overflow_add-octets : goal.overflow_add-octets
overflow_add-octets c =
    let fits = room (goal.at.overflow_add-octets c).In-Some (same_data (goal.at.overflow_add-octets c).After-put_data).0 in
    omega arith

pub overflow_add-before-4 : goal.overflow_add-before-4
overflow_add-before-4 c =
    let fits = room (goal.at.overflow_add-before-4 c).In-Some (same_data (goal.at.overflow_add-before-4 c).After-put_data).0 in
    omega arith

pub returns : goal.returns
returns c =
    let d = same_data (goal.at.returns c).After-put_data in
    let a = c.args in
    rw c.given.ensures
    (all_written (table_of a.table.now) a.first.command a.first.asdu.now a.types.now a.cause a.selection a.answer.now c.args.first.inside _ (sym d.0 ∙ c.in-Some.is) _ _ _ d.1 c.put_confirmation.ensures.1 c.put_termination.ensures)
