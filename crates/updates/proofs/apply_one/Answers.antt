-- The element is stored at its place, and the point that then stands there is told. Assumes nothing.
use native.Mathlib.Omega.{arith}
use mathlib.Core.Path.{sym, ap, ◌∙◌}
use mathlib.Core.List.{List}
use Prim.Native.Nat.{ℕ, ◌+◌}
use lib.ListN.{length}
use Rattle.octets.specs.Over.{over}
use Rattle.asdu.specs.Cause.{spontaneous}
use Rattle.asdu.specs.Header.{asdu_octets}
use Rattle.model.specs.Place.{point_at}
use Rattle.report.specs.Single.{single}
use Rattle.updates.proofs.Turns.{place_told, place_left}
use Rattle.updates.proofs.apply_one.Goals as goal

pub returns : goal.returns
returns c =
    let a = c.args in
    let e = sym c.can_apply_update.ensures ∙ c.in-Some.is in
    let t =
    (λ j. asdu_octets (single spontaneous (c.number_at-ca.ensures.0 j) (point_at (c.store.ensures j) c.in-Some.place)))
    ∙ place_told a.m.now a.updates.now a.at (λ j. omega (arith, c.slice_known-1.given j)) c.requires.0.0 c.in-Some.place e c.requires.0.1 in
    let p = c.put_single.ensures in
    record {
      memory = c.store.ensures ∙ place_left a.m.now a.updates.now a.at (λ j. omega (arith, c.slice_known-1.given j)) c.requires.0.0 c.in-Some.place e c.requires.0.1;
      output = (p.0 ∙ ap (λ (x : List ℕ). a.o + length x) t, p.1 ∙ ap (over a.out.now a.o) t);
    }
