-- Every report of a station's selected points is faithful, and so are the answers of a good table to one of its stations. Assumes nothing.
use Prim.Native.Nat.{ℕ, ◌+◌, ◌≤◌}
use mathlib.Core.Path.{◌≡◌, refl, sym, subst}
use mathlib.Core.List.{List, [], ◌∷◌, map}
use mathlib.Core.Bool.{Bool, true}
use native.Mathlib.Omega.{arith}
use lib.Dec.{eqb}
use borrow.Author.Tests.{eqb-true}
use Rattle.limits.specs.Size.{standard_limit}
use Rattle.limits.proofs.Tests.{both}
use Rattle.asdu.specs.Header.{asdu_octets, wire}
use Rattle.model.specs.declared.Point.{Point}
use Rattle.model.specs.Place.{point_ok}
use Rattle.table.specs.Table.{Station, rising}
use Rattle.report.specs.declared.Selection.{Selection}
use Rattle.report.specs.Packing.{selected, joined, Each, counted}
use Rattle.report.specs.Selection.{selects, among, StrictlyAscending, interrogation_types, counter_types}
use Rattle.report.specs.Report.{object_of, of_kind, ordered, run, report}
use Rattle.report.specs.Order.{Climbing}
use Rattle.report.proofs.Each.{each_selected, each_both, selected_pass}
use Rattle.report.proofs.Report.{Whole, report_headers, report_objects, run_full, report_fits}
use Rattle.report.proofs.Ordering.{ordered_each, ordered_among, ordered_in_order, rising_climbs, climbing_selected, each_once}
use Rattle.report.proofs.Cases.{interrogation_ascending, counter_ascending}
use Rattle.faithful.specs.Faithful.{Faithful}

-- a station's points have twelve octets each
pub rising_whole : (low : ℕ) (ps : List Point) → rising low ps ≡ true → Each Whole ps
unfolding rising Each point_ok
rising_whole low [] e = tt
rising_whole low (p ∷ ps) e =
    let t = both _ _ (both _ _ e).1 in
    (eqb-true _ _ (both _ _ (both _ _ t.0).1).0, rising_whole (p.ioa + 1) ps t.1)

by_octets : (limit : ℕ) (types : List ℕ) (cause ca : ℕ) (ps : List Point) → wire (report limit types cause ca ps) ≡ joined asdu_octets (report limit types cause ca ps)
unfolding wire
by_octets limit types cause ca ps = refl

by_runs : (limit : ℕ) (types : List ℕ) (cause ca : ℕ) (ps : List Point)
    → report limit types cause ca ps ≡ joined (λ kind. run limit cause ca kind (map object_of (of_kind kind ps))) types
unfolding report
by_runs limit types cause ca ps = refl

-- FAITHFUL: for every limit from 25 on, every ascending set of types, every cause, CA and selection, and every station's points
pub faithful : (limit : ℕ) → 25 ≤ limit → (types : List ℕ) → StrictlyAscending types → (cause ca : ℕ) (test : Point → Bool) (ps : List Point) → rising 0 ps ≡ true
    → Faithful limit types cause ca test ps
faithful limit high types up cause ca test ps r =
    let c : Climbing ps = rising_climbs 0 ps r in
    let w : Each Whole (selected test ps) = each_selected Whole test ps (rising_whole 0 ps r) in
    record {
      octets = by_octets limit types cause ca (selected test ps);
      headers = report_headers limit high types cause ca (selected test ps);
      objects = report_objects limit high types cause ca (selected test ps);
      order = ordered_in_order types up (selected test ps) (climbing_selected test ps c);
      once = λ before after p e t a.
          subst (λ (l : List Point). counted (λ (q : Point). eqb q.ioa p.ioa) (ordered types (selected test l)) ≡ 1) (sym e)
          (each_once test types up before after p (subst Climbing e c) t a);
      only =
          each_both (λ p. test p ≡ true) (λ p. among types p.kind ≡ true) (ordered types (selected test ps))
          (ordered_each (λ p. test p ≡ true) types (selected test ps) (selected_pass test ps))
          (ordered_among types (selected test ps));
      runs = by_runs limit types cause ca (selected test ps);
      full = λ kind. run_full limit high cause ca kind (map object_of (of_kind kind (selected test ps)));
      short = report_fits limit high types cause ca (selected test ps) w;
    }

-- a global or group interrogation of a station, by the standard's length limit
pub interrogation_faithful : (cause ca : ℕ) (sel : Selection) (s : Station) → rising 0 s.points ≡ true
    → Faithful standard_limit interrogation_types cause ca (selects sel) s.points
interrogation_faithful cause ca sel s r = faithful standard_limit (omega arith) interrogation_types interrogation_ascending cause ca (selects sel) s.points r

-- a counter interrogation of a station, by the standard's length limit
pub counters_faithful : (cause ca : ℕ) (sel : Selection) (s : Station) → rising 0 s.points ≡ true
    → Faithful standard_limit counter_types cause ca (selects sel) s.points
counters_faithful cause ca sel s r = faithful standard_limit (omega arith) counter_types counter_ascending cause ca (selects sel) s.points r
