-- Each way out is one of the laws; the head of a well-formed table bounds the reads. Assumes nothing.
use native.Mathlib.Omega.{arith}
use mathlib.Core.Path.{◌≡◌, sym, ◌∙◌}
use mathlib.Core.List.{[]}
use Rattle.octets.specs.Number.{Octets}
use Rattle.layout.specs.Layout.{stations_in, stations_from}
use Rattle.table.proofs.Parse.{passed}
use Rattle.report.proofs.Single.{length_end}
use Rattle.answers.specs.Said.{lent}
use Rattle.answers.specs.Start.{start_said}
use Rattle.answers.proofs.Ends.{ends_no_table}
use Rattle.connection_start.specs.Starting.{common_address_at}
use Rattle.connection_start.proofs.Laws.{start_short, start_done}
use Rattle.connection_start.proofs.connection_started.Goals as goal

pub returns-then-not-well_formed : goal.returns-then-not-well_formed
returns-then-not-well_formed c =
    let a = c.args in
    ends_no_table (start_said []) (lent a.table.now [] a.answer.now []) (sym c.well_formed-2.ensures ∙ c.if-not-well_formed.true)

pub returns-then-answer-lt-END_OF_INITIALIZATION_OCTETS : goal.returns-then-answer-lt-END_OF_INITIALIZATION_OCTETS
returns-then-answer-lt-END_OF_INITIALIZATION_OCTETS c =
    let a = c.args in
    let o : Octets a.table.now = λ j. omega (arith, c.shared_slice_known-1.given j) in
    start_short a.table.now a.answer.now o (sym c.well_formed-2.ensures ∙ c.if-not-well_formed.false) (omega arith)

pub station_at-first-requires : goal.station_at-first-requires
station_at-first-requires c =
    let t = (passed _ (sym c.well_formed-2.ensures ∙ c.if-not-well_formed.false)).top in
    (omega arith, omega arith)

pub stations_of-requires : goal.stations_of-requires
stations_of-requires c =
    let t = (passed _ (sym c.well_formed-2.ensures ∙ c.if-not-well_formed.false)).top in
    omega arith

pub station_common_address-ca-requires : goal.station_common_address-ca-requires
station_common_address-ca-requires c =
    let t = (passed _ (sym c.well_formed-2.ensures ∙ c.if-not-well_formed.false)).top in
    omega arith

pub end_of_initialization_asdu-requires : goal.end_of_initialization_asdu-requires
end_of_initialization_asdu-requires c =
    let n = length_end c.station_common_address-ca.result in
    (omega arith, omega arith)

pub returns : goal.returns
returns c =
    let n = c.end_of_initialization_asdu.result in
    let a = c.args in
    let m = a.table.now in
    let o : Octets m = λ j. omega (arith, c.shared_slice_known-1.given j) in
    let w = sym c.well_formed-2.ensures ∙ c.if-not-well_formed.false in
    let first : c.station_at-first.result ≡ stations_from m = omega arith in
    let count : c.stations_of.result ≡ stations_in m = c.stations_of.ensures.0 in
    let ca = c.station_common_address-ca.ensures.0 ∙ (λ j. common_address_at m (first j) (count j)) in
    let e = start_done m a.answer.now o w (omega arith) _ n _ ca c.end_of_initialization_asdu.ensures in
    record { answers = c.given.ensures ∙ e.answers; leaves = e.leaves }
