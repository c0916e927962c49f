-- ASDUs of one object: their lengths, and that the end of initialisation has the smallest CA with a point. Assumes nothing.
use mathlib.Core.Path.{◌≡◌, refl, ap, ◌∙◌}
use mathlib.Core.List.{List, [], ◌∷◌, ◌++◌}
use mathlib.Core.Bool.{Bool, true, false}
use Prim.Native.Nat.{ℕ, ◌+◌, ◌≤◌, ◌<◌}
use native.Mathlib.Omega.{arith}
use lib.ListN.{length}
use lib.Dec.{eqb}
use borrow.Author.Tests.{eqb-true, leb-true}
use Rattle.limits.specs.Test.{pick}
use Rattle.limits.specs.Size.{point_octets}
use Rattle.limits.proofs.Tests.{both}
use Rattle.asdu.specs.Header.{header, object_octets, asdu_octets}
use Rattle.asdu.proofs.Joined.{joined_one}
use Rattle.asdu.proofs.Laws.{length_asdu}
use Rattle.model.specs.declared.Point.{Point}
use Rattle.table.specs.Table.{Station, held, plan_ok, numbers_ok}
use Rattle.report.specs.Packing.{joined, Each}
use Rattle.report.specs.Report.{object_of, data_header, data_asdu}
use Rattle.report.specs.Single.{single, end_of_initialization_asdu, station_common_address}
use Rattle.report.proofs.Each.{each_so}
use Rattle.report.proofs.Report.{Whole, length_object}

-- one point in an ASDU of its own takes nine octets and its element
pub length_single : (cause ca : ℕ) (p : Point) → Whole p → length (asdu_octets (single cause ca p)) ≡ 9 + point_octets p.kind
unfolding single
length_single cause ca p w =
    let a : length (asdu_octets (data_asdu p.kind cause ca (object_of p ∷ []))) ≡ 6 + length (joined object_octets (object_of p ∷ [])) =
    length_asdu (data_asdu p.kind cause ca (object_of p ∷ [])) in
    let b : length (joined object_octets (object_of p ∷ [])) ≡ length (object_octets (object_of p)) = ap length (joined_one object_octets (object_of p)) in
    let c : length (object_octets (object_of p)) ≡ 3 + point_octets p.kind = length_object p w in
    omega arith

-- the octets of the end of initialisation: its header, IOA 0, octet 0
pub end_octets : (ca : ℕ) → asdu_octets (end_of_initialization_asdu ca) ≡ header (data_header 70 1 4 ca) ++ (0 ∷ 0 ∷ 0 ∷ 0 ∷ [])
unfolding end_of_initialization_asdu asdu_octets object_octets joined
end_octets ca = refl

-- the end of initialisation takes ten octets
pub length_end : (ca : ℕ) → length (asdu_octets (end_of_initialization_asdu ca)) ≡ 10
unfolding end_of_initialization_asdu asdu_octets header object_octets joined
length_end ca = refl

-- ---- the smallest CA with a point

-- CAs of a plan ascend from a lower bound
plan_above : (k low : ℕ) (ss : List Station) → plan_ok k low ss ≡ true → Each (λ s. low ≤ s.ca) ss
unfolding plan_ok numbers_ok Each
plan_above k low [] e = tt
plan_above k low (s ∷ ss) e =
    let a = both _ _ e in
    let l : low ≤ s.ca = leb-true low s.ca (both _ _ a.0).0 in
    (l, each_so (λ x. s.ca + 1 ≤ x.ca) (λ x. low ≤ x.ca) (λ x h. omega arith) ss (plan_above k (s.ca + 1) ss a.1))

-- no station with a point has a smaller CA
pub smallest : (k low : ℕ) (ss : List Station) → plan_ok k low ss ≡ true → Each (λ s. 0 < held s → station_common_address ss ≤ s.ca) ss
unfolding plan_ok Each station_common_address
smallest k low [] e = tt
smallest k low (s ∷ ss) e = go (eqb (held s) 0) refl (smallest k (s.ca + 1) ss (both _ _ e).1) (plan_above k (s.ca + 1) ss (both _ _ e).1)
  where
    go : (b : Bool) → eqb (held s) 0 ≡ b → Each (λ x. 0 < held x → station_common_address ss ≤ x.ca) ss → Each (λ x. s.ca + 1 ≤ x.ca) ss
        → (0 < held s → pick b (station_common_address ss) s.ca ≤ s.ca) × Each (λ x. 0 < held x → pick b (station_common_address ss) s.ca ≤ x.ca) ss
    go true q r a = ((λ h. let z : held s ≡ 0 = eqb-true (held s) 0 q in absurd (omega arith)), r)
    go false q r a = ((λ h. omega arith), each_so (λ x. s.ca + 1 ≤ x.ca) (λ x. 0 < held x → s.ca ≤ x.ca) (λ x h w. omega arith) ss a)

-- without a point it is 0
pub without_points : (ss : List Station) → Each (λ s. held s ≡ 0) ss → station_common_address ss ≡ 0
unfolding Each station_common_address
without_points [] e = refl
without_points (s ∷ ss) e = ap (λ (n : ℕ). pick (eqb n 0) (station_common_address ss) s.ca) e.0 ∙ without_points ss e.1
