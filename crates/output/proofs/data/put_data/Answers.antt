-- The chains of the places in order give the size and the octets of the report; the test of the room decides.
use native.Mathlib.Omega.{arith}
use mathlib.Core.Path.{◌≡◌, ap, ◌∙◌}
use Prim.Native.Nat.{ℕ}
use lib.ListN.{length, replicate, length-replicate}
use Rattle.octets.specs.Over.{over}
use Rattle.octets.specs.Number.{Octets}
use Rattle.octets.proofs.Laws.{lent_over}
use Rattle.asdu.specs.Header.{wire}
use Rattle.chains.specs.Chain.{slot_on}
use Rattle.chains.specs.Follow.{report_on}
use Rattle.chains.proofs.Chains.{length_heads, length_nexts, length_counts}
use Rattle.output.specs.Order.{places_in}
use Rattle.output.specs.Data.{data_of}
use Rattle.output.proofs.Answer.{Ready, ready, short_wrote, short_written, full_wrote, full_written}
use Rattle.output.proofs.data.put_data.Goals as goal
use Rattle.output.proofs.data.put_data.Goals.{After-size_report-octets}

-- what the writer may rely on
go : (c : After-size_report-octets)
    → let a = c.args in
    let z = c.size_report-octets in
    Ready a.s a.m.now a.reach a.terms a.types.now c.size_report-octets.new.heads c.size_report-octets.new.next c.size_report-octets.new.counts
go c =
    let a = c.args in
    let z = c.size_report-octets in
    let o : Octets a.m.now = λ i. omega (arith, c.shared_slice_known-1.given i) in
    let few = c.requires.2.1 in
    let hl = length-replicate {A = ℕ} 64 0 in
    let xl = length-replicate {A = ℕ} 4096 0 in
    ready a.s a.m.now a.reach a.terms a.types.now (replicate 64 0) (replicate 4096 0) c.size_report-octets.new.heads c.size_report-octets.new.next c.size_report-octets.new.counts
    o c.requires.2 (omega arith) (omega arith) c.requires.4.0.0 c.requires.3.1 z.ensures.0

-- its size is that of the data
size_in : (c : After-size_report-octets) →
    let a = c.args in
    c.size_report-octets.result ≡ length (wire (data_of a.terms a.types.now a.s a.m.now a.reach))
size_in c = c.size_report-octets.ensures.1 ∙ (go c).size

pub returns-then-out-before : goal.returns-then-out-before
returns-then-out-before c =
    let a = c.args in
    let n = c.size_report-octets.result in
    let xs = wire (data_of a.terms a.types.now a.s a.m.now a.reach) in
    let k = size_in (goal.at.returns-then-out-before c).After-size_report-octets in
    (short_wrote (length a.out.now) a.before a.after n xs k (omega arith), short_written a.out.now a.before a.after n xs k (omega arith))

pub put_report-requires : goal.put_report-requires
put_report-requires c =
    let a = c.args in
    let z = c.size_report-octets in
    let t = go (goal.at.put_report-requires c).After-size_report-octets in
    let slot = slot_on a.s a.m.now a.reach.base in
    let js = places_in a.reach.every a.m.now a.reach.base a.reach.n in
    let h = ap length z.ensures.0.0 ∙ length_heads slot js (replicate 64 0) ∙ length-replicate {A = ℕ} 64 0 in
    let x = ap length z.ensures.0.1 ∙ length_nexts slot js (replicate 64 0) (replicate 4096 0) ∙ length-replicate {A = ℕ} 4096 0 in
    let n = ap length z.ensures.0.2 ∙ length_counts slot js in
    let few = c.requires.2.1 in
    let k = size_in (goal.at.put_report-requires c).After-size_report-octets in
    let e = ap length t.octets in
    let room = c.if-out-before.false in
    (c.requires.4, (c.requires.2, omega (arith, h), omega (arith, x), omega (arith, n), t.chains), omega (arith, k, e, room))

pub returns : goal.returns
returns c =
    let a = c.args in
    let z = c.size_report-octets in
    let t = go (goal.at.returns c).After-size_report-octets in
    let xs = wire (data_of a.terms a.types.now a.s a.m.now a.reach) in
    let k = size_in (goal.at.returns c).After-size_report-octets in
    let e = ap length t.octets in
    let room = c.if-out-before.false in
    let X = report_on a.terms a.types.now a.m.now a.reach c.size_report-octets.new.heads c.size_report-octets.new.next c.size_report-octets.new.counts in (
      full_wrote (length a.out.now) a.before a.after z.result xs k (omega (arith, room)),
      rw c.put_report.ensures.1
          (lent_over a.out.now X a.before (omega (arith, k, e, room)) ∙ ap (over a.out.now a.before) t.octets
          ∙ full_written a.out.now a.before a.after z.result xs k (omega (arith, room))),
    )
