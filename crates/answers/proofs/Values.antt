-- New values for points: a counter set to 0 and an updated point are points as described, at their addresses. Assumes nothing.
use mathlib.Core.Path.{◌≡◌, refl, sym, ap, ◌∙◌}
use mathlib.Core.List.{List, [], ◌∷◌, ◌++◌}
use mathlib.Core.Bool.{Bool, true, false}
use mathlib.Core.Option.{none, some}
use Prim.Native.Nat.{ℕ, zero, suc, ◌+◌}
use native.Mathlib.Omega.{arith}
use lib.ListN.{length, drop, get_or, replicate, length-drop}
use lib.Seq.{get_or-drop}
use lib.Dec.{eqb}
use borrow.Author.Tests.{eqb-true, eq-eqb}
use Rattle.limits.specs.Test.{◌&◌, pick}
use Rattle.limits.specs.Size.{point_octets}
use Rattle.limits.proofs.Tests.{both, join}
use Rattle.limits.proofs.Sizes.{point_at_most}
use Rattle.octets.specs.Number.{zeros}
use Rattle.model.specs.declared.Point.{Point}
use Rattle.model.specs.Place.{with_value, valid, point_ok, is_counter}
use Rattle.model.specs.Request.{element}
use Rattle.model.proofs.Requests.{length_element, element_zeros}
use Rattle.table.specs.Table.{rising}
use Rattle.table.specs.Change.{point_in}
use Rattle.report.specs.declared.Selection.{Selection}
use Rattle.report.specs.Selection.{selects}
use Rattle.registry.proofs.Gentle.{SamePoint, Gentle, map_gentle}
use Rattle.answers.specs.System.{zeroed, reset_in}
use Rattle.answers.specs.Process.{Update, updated, replace_in}

-- ---- a counter set to 0

-- a place that was zero is zero after four zeros were put at the front
zero_there : (v : List ℕ) (i : ℕ) → eqb (get_or v i 0) 0 ≡ true → eqb (get_or (replicate 4 0 ++ drop 4 v) i 0) 0 ≡ true
zero_there v zero e = refl
zero_there v (suc zero) e = refl
zero_there v (suc (suc zero)) e = refl
zero_there v (suc (suc (suc zero))) e = refl
zero_there v (suc (suc (suc (suc i)))) e =
    let n : 4 + i ≡ suc (suc (suc (suc i))) = omega arith in
    ap (λ (x : ℕ). eqb x 0) (get_or-drop 4 v i 0 ∙ ap (λ (k : ℕ). get_or v k 0) n) ∙ e

zeros_there : (v : List ℕ) (at n : ℕ) → zeros v at n ≡ true → zeros (replicate 4 0 ++ drop 4 v) at n ≡ true
unfolding zeros
zeros_there v at zero z = refl
zeros_there v at (suc n) z = let z1 = both _ _ z in join (zero_there v at z1.0) (zeros_there v (at + 1) n z1.1)

-- A counter set to 0 is a point as described.
pub zeroed_ok : (p : Point) → point_ok p ≡ true → point_ok (zeroed p) ≡ true
unfolding point_ok valid
zeroed_ok p o =
    let o1 = both _ _ o in
    let o2 = both _ _ o1.1 in
    let l : length p.value ≡ 12 = eqb-true _ _ o2.0 in
    let n : length (replicate 4 0 ++ drop 4 p.value) ≡ 12 = simp length-drop (omega arith) in
    let v1 = both _ _ o2.1 in
    let v2 = both _ _ v1.1 in
    let v3 = both _ _ v2.1 in
    let v4 = both _ _ v3.1 in
    join o1.0 (join (eq-eqb _ _ n) (join v1.0 (join v2.0 (join v3.0 (join v4.0 (zeros_there p.value _ _ v4.1))))))

-- The reset of selected counters is gentle.
pub reset_gentle : (sel : Selection) → Gentle (reset_in sel)
unfolding reset_in
reset_gentle sel = map_gentle (λ p. pick (is_counter p.kind & selects sel p) (zeroed p) p) (λ p. by_test p (is_counter p.kind & selects sel p))
  where
    by_test : (p : Point) (b : Bool) → SamePoint p (pick b (zeroed p) p)
    by_test p true = record { ioa = refl; still_ok = zeroed_ok p }
    by_test p false = record { ioa = refl; still_ok = λ o. o }

-- ---- an updated point

-- A point that is found is as described, at its address.
pub point_in_lem : (low ioa : ℕ) (ps : List Point) (p : Point) → rising low ps ≡ true → point_in ioa ps ≡ some p → (point_ok p ≡ true) × (p.ioa ≡ ioa)
unfolding rising point_in
point_in_lem low ioa [] p r e = let z : ◌≡◌ {A = ℕ} 0 1 = cc in absurd (omega arith)
point_in_lem low ioa (q ∷ qs) p r e = by_test (λ f. point_in_lem (q.ioa + 1) ioa qs p (both _ _ (both _ _ r).1).1 f) (eqb q.ioa ioa) refl e
  where
    by_test : (point_in ioa qs ≡ some p → (point_ok p ≡ true) × (p.ioa ≡ ioa)) → (b : Bool) → eqb q.ioa ioa ≡ b
        → pick b (some q) (point_in ioa qs) ≡ some p → (point_ok p ≡ true) × (p.ioa ≡ ioa)
    by_test ih true t f =
        let s : q ≡ p = cc in
        (ap point_ok (sym s) ∙ (both _ _ (both _ _ r).1).0, ap (λ (x : Point). x.ioa) (sym s) ∙ eqb-true _ _ t)
    by_test ih false t f = ih f

-- An updated point is as described, at the address of the point it was.
pub updated_ok : (u : Update) (q p : Point) → length u.value ≡ 12 → point_ok q ≡ true → updated u (some q) ≡ some p
    → (point_ok p ≡ true) × (p.ioa ≡ q.ioa)
unfolding updated point_ok valid
updated_ok u q p w o e = by_test (eqb q.kind u.kind) e
  where
    new_ok : point_ok (with_value (element (point_octets q.kind) u.value) q) ≡ true
    new_ok =
        let o1 = both _ _ o in
        let o2 = both _ _ o1.1 in
        let v1 = both _ _ o2.1 in
        let v2 = both _ _ v1.1 in
        let v3 = both _ _ v2.1 in
        let v4 = both _ _ v3.1 in
        join o1.0 (join (eq-eqb _ _ (length_element u.value (point_octets q.kind) w (point_at_most q.kind)))
        (join v1.0 (join v2.0 (join v3.0 (join v4.0 (element_zeros u.value (point_octets q.kind) w (point_at_most q.kind)))))))

    by_test : (b : Bool)
        → pick b (some (with_value (element (point_octets q.kind) u.value) q)) none ≡ some p
        → (point_ok p ≡ true) × (p.ioa ≡ q.ioa)
    by_test true f =
        let s : (with_value (element (point_octets q.kind) u.value) q) ≡ p = cc in
        (ap point_ok (sym s) ∙ new_ok, ap (λ (x : Point). x.ioa) (sym s))
    by_test false f = let z : ◌≡◌ {A = ℕ} 0 1 = cc in absurd (omega arith)

-- A point put in place of the one at its address is a gentle change.
pub replace_gentle : (p : Point) → point_ok p ≡ true → Gentle (replace_in p)
unfolding replace_in
replace_gentle p o = map_gentle (λ q. pick (eqb q.ioa p.ioa) p q) (λ q. by_test q (eqb q.ioa p.ioa) refl)
  where
    by_test : (q : Point) (b : Bool) → eqb q.ioa p.ioa ≡ b → SamePoint q (pick b p q)
    by_test q true e = record { ioa = sym (eqb-true _ _ e); still_ok = λ x. o }
    by_test q false e = record { ioa = refl; still_ok = λ x. x }
