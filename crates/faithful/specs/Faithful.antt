-- What demand 2 asks of the report of a station's selected points.
-- Document 01, 'What each command says' and 'Octets of an ASDU'.
use Rattle.std.specs.Prelude.{ℕ, ◌-◌, ◌<◌, ◌≤◌, ◌≡◌, List, ◌∷◌, ◌++◌, map, Bool, true, length, eqb}
use Rattle.limits.specs.Size.{point_octets, most_objects, control_octets}
use Rattle.asdu.specs.Header.{asdu_octets, wire}
use Rattle.model.specs.declared.Point.{Point}
use Rattle.report.specs.Packing.{selected, joined, Full, Each, counted}
use Rattle.report.specs.Selection.{among}
use Rattle.report.specs.Report.{data_header, object_of, of_kind, ordered, run, report}
use Rattle.report.specs.Order.{InOrder}

-- The report of those of the points `ps` that pass the test, under a length limit and with a set of types:
pub record Faithful (limit : ℕ) (types : List ℕ) (cause ca : ℕ) (test : Point → Bool) (ps : List Point) : Type 0 where
  -- on the wire it is the octets of its ASDUs, one after another;
  pub octets : wire (report limit types cause ca (selected test ps)) ≡ joined asdu_octets (report limit types cause ca (selected test ps))
  -- the header of each says its type, how many objects it has, the cause and the CA;
  pub headers : Each (λ a. a.header ≡ data_header a.header.kind (length a.objects) cause ca) (report limit types cause ca (selected test ps))
  -- their objects, read in order, are those of the points in the order of the answer;
  pub objects : joined (λ a. a.objects) (report limit types cause ca (selected test ps)) ≡ map object_of (ordered types (selected test ps))
  -- that order is by ascending type, and within a type by ascending address;
  pub order : InOrder (ordered types (selected test ps))
  -- every selected point whose type is in the set is there exactly once;
  pub once : (before after : List Point) (p : Point) → ps ≡ before ++ (p ∷ after) → test p ≡ true → among types p.kind ≡ true
      → counted (λ q. eqb q.ioa p.ioa) (ordered types (selected test ps)) ≡ 1
  -- nothing else is there;
  pub only : Each (λ p. (test p ≡ true) × (among types p.kind ≡ true)) (ordered types (selected test ps))
  -- it is the runs of its types, one after another;
  pub runs : report limit types cause ca (selected test ps) ≡ joined (λ kind. run limit cause ca kind (map object_of (of_kind kind (selected test ps)))) types
  -- every ASDU of a run is as full as allowed but for the last, and none is empty;
  pub full : (kind : ℕ) → Full (most_objects limit (point_octets kind)) (map (λ a. a.objects) (run limit cause ca kind (map object_of (of_kind kind (selected test ps)))))
  -- and none is longer than the limit less the four control octets.
  pub short : Each (λ a. (0 < length a.objects) × (length (asdu_octets a) ≤ limit - control_octets)) (report limit types cause ca (selected test ps))
