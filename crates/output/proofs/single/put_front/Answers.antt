-- The header and then the object are the ASDU.
use native.Mathlib.Omega.{arith}
use mathlib.Core.Path.{◌≡◌, ap, ◌∙◌}
use mathlib.Core.List.{List}
use Prim.Native.Nat.{ℕ}
use lib.ListN.{length, get_or}
use Rattle.octets.specs.Over.{over}
use Rattle.octets.specs.Number.{Octets}
use Rattle.asdu.specs.declared.header.Header.{Header}
use Rattle.asdu.specs.Header.{header}
use Rattle.asdu.proofs.Laws.{length_header}
use Rattle.report.specs.Report.{data_header}
use Rattle.chains.specs.Follow.{place_object}
use Rattle.output.proofs.Alone.{single_over, single_long}
use Rattle.output.proofs.single.put_front.Goals as goal

pub put_header-o-requires : goal.put_header-o-requires
put_header-o-requires c =
    let a = c.args in
    let d = c.data_header-h in
    let e : d.result.cause ≡ a.cause = ap (λ (x : Header). x.cause) d.ensures in
    let l = length_header d.result in
    let s = single_long a.m.now a.at a.cause a.ca in
    (omega arith, omega arith)

pub put_object-requires : goal.put_object-requires
put_object-requires c =
    let a = c.args in
    let p = c.put_header-o.ensures.0 in
    let l = length_header c.data_header-h.result in
    let e = c.point_octets-e.ensures in
    let s = single_long a.m.now a.at a.cause a.ca in
    (omega arith, e.1, omega (arith, e.0))

pub overflow_add-result-2 : goal.overflow_add-result-2
overflow_add-result-2 c =
    let p = c.put_header-o.ensures.0 in
    let l = length_header c.data_header-h.result in
    let e = c.point_octets-e.ensures.1 in
    omega arith

pub returns : goal.returns
returns c =
    let a = c.args in
    let g = c.put_header-o in
    let d = c.data_header-h in
    let p = c.point_octets-e in
    let l = length_header d.result in
    let s = single_long a.m.now a.at a.cause a.ca in
    let eo : g.result ≡ length (header (data_header (get_or a.m.now a.at 0) 1 a.cause a.ca)) = g.ensures.0 ∙ ap (λ (x : Header). length (header x)) d.ensures in
    let w : c.put_header-o.new.out ≡ over a.out.now 0 (header (data_header (get_or a.m.now a.at 0) 1 a.cause a.ca)) = g.ensures.1 ∙ ap (λ (x : Header). over a.out.now 0 (header x)) d.ensures in
    let o : Octets a.m.now = λ i. omega (arith, c.shared_slice_known-1.given i) in (
      omega (arith, g.ensures.0, p.ensures.0),
      c.put_object.ensures ∙ ap (λ (x : List ℕ). over x g.result (place_object p.result a.m.now a.at)) w
          ∙ single_over a.m.now a.out.now a.at a.cause a.ca p.result g.result o (omega arith) p.ensures.0 eo (omega arith),
    )
