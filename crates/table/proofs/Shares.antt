-- A table's shares: what the share rule of `limits` says of them, and what that says of the table. Assumes nothing.
use mathlib.Core.Path.{◌≡◌, refl, ap, ap₂}
use mathlib.Core.List.{List, [], ◌∷◌, ◌++◌, map}
use mathlib.Core.Bool.{Bool, true, false}
use Prim.Native.Nat.{ℕ, ◌+◌, ◌-◌, ◌≤◌}
use native.Mathlib.Omega.{arith}
use lib.Dec.{leb, ltb}
use borrow.Author.Tests.{ltb-false, leb-true, le-leb}
use Rattle.limits.specs.Test.{◌&◌, pick, total}
use Rattle.limits.specs.Share.{held_of, unmet_of, WithinCeilings, Sound}
use Rattle.limits.proofs.Tests.{both, join}
use Rattle.table.specs.Table.{Station, Table, highest_ca, held, share_of, unmet, reserved, numbers_ok, plan_ok, shares_ok}
use Rattle.table.proofs.Parse.{Good}

-- A station's unmet room is that of its share.
pub unmet_share : (s : Station) → unmet_of (share_of s) ≡ unmet s
unmet_share s = by_test (ltb (held s) s.reservation) refl
  where
    by_test : (b : Bool) → ltb (held s) s.reservation ≡ b → pick b (s.reservation - held s) 0 ≡ s.reservation - held s
    by_test true e = refl
    by_test false e = let h : s.reservation ≤ held s = ltb-false _ _ e in omega arith

-- What the shares hold, added up, is what the stations hold.
pub total_held : (ss : List Station) → total held_of (map share_of ss) ≡ total held ss
unfolding total
total_held [] = refl
total_held (s ∷ ss) = ap (λ (x : ℕ). held s + x) (total_held ss)

-- The same of unmet room.
pub total_unmet : (ss : List Station) → total unmet_of (map share_of ss) ≡ total unmet ss
unfolding total
total_unmet [] = refl
total_unmet (s ∷ ss) = ap₂ (λ (x y : ℕ). x + y) (unmet_share s) (total_unmet ss)

-- The shares of joined stations are joined.
pub map_append : (xs ys : List Station) → map share_of (xs ++ ys) ≡ map share_of xs ++ map share_of ys
map_append [] ys = refl
map_append (x ∷ xs) ys = ap (λ (l : _). share_of x ∷ l) (map_append xs ys)

-- the plan alone, which no point changes: CA strictly ascending from `low`, r ≤ c ≤ K
unfoldable pub planned : ℕ → ℕ → List Station → Bool
planned k low [] = true
planned k low (s ∷ ss) = leb low s.ca & leb s.ca highest_ca & leb s.reservation s.ceiling & leb s.ceiling k & planned k (s.ca + 1) ss

-- The test of the plan tells the plan alone, and that no share is above its ceiling.
pub plan_of : (k low : ℕ) (ss : List Station) → plan_ok k low ss ≡ true → (planned k low ss ≡ true) × WithinCeilings (map share_of ss)
unfolding plan_ok numbers_ok planned WithinCeilings
plan_of k low [] t = (refl, tt)
plan_of k low (s ∷ ss) t =
    let t1 = both _ _ t in
    let n1 = both _ _ t1.0 in
    let n2 = both _ _ n1.1 in
    let n3 = both _ _ n2.1 in
    let n4 = both _ _ n3.1 in
    let ih = plan_of k (s.ca + 1) ss t1.1 in
    (join n1.0 (join n2.0 (join n3.0 (join n4.0 ih.0))), (leb-true _ _ n4.1, ih.1))

-- The other way round.
pub plan_from : (k low : ℕ) (ss : List Station) → planned k low ss ≡ true → WithinCeilings (map share_of ss) → plan_ok k low ss ≡ true
unfolding plan_ok numbers_ok planned WithinCeilings
plan_from k low [] t w = refl
plan_from k low (s ∷ ss) t w =
    let t1 = both _ _ t in
    let t2 = both _ _ t1.1 in
    let t3 = both _ _ t2.1 in
    let t4 = both _ _ t3.1 in
    join (join t1.0 (join t2.0 (join t3.0 (join t4.0 (le-leb _ _ w.0))))) (plan_from k (s.ca + 1) ss t4.1 w.1)

-- The test of the sums tells the facts.
pub shares_of : (k r h u : ℕ) → shares_ok k r h u ≡ true → (r ≤ k) × (h ≤ k) × (u ≤ k - h)
unfolding shares_ok
shares_of k r h u t = let t1 = both _ _ t in let t2 = both _ _ t1.1 in (leb-true _ _ t1.0, leb-true _ _ t2.0, leb-true _ _ t2.1)

-- The facts make the test of the sums.
pub shares_from : (k r h u : ℕ) → r ≤ k → h ≤ k → u ≤ k - h → shares_ok k r h u ≡ true
unfolding shares_ok
shares_from k r h u a b c = join (le-leb _ _ a) (join (le-leb _ _ b) (le-leb _ _ c))

-- The shares of a good table are sound.
pub good_sound : (t : Table) → Good t → Sound t.capacity (map share_of t.stations)
good_sound t g =
    let h : total held_of (map share_of t.stations) ≡ total held t.stations = total_held t.stations in
    let u : total unmet_of (map share_of t.stations) ≡ total unmet t.stations = total_unmet t.stations in
    let s = shares_of _ _ _ _ g.shares in
    let fits = s.1 in
    let room = s.2 in
    record { fits = omega arith; ceilings = (plan_of _ _ _ g.plan).1; room = omega arith }

-- Sound shares, a valid plan and reservations that fit make the numbers of a good table.
pub sound_numbers : (k low : ℕ) (ss : List Station) → planned k low ss ≡ true → total reserved ss ≤ k → Sound k (map share_of ss)
    → (plan_ok k low ss ≡ true) × (shares_ok k (total reserved ss) (total held ss) (total unmet ss) ≡ true)
sound_numbers k low ss p r s =
    let h : total held_of (map share_of ss) ≡ total held ss = total_held ss in
    let u : total unmet_of (map share_of ss) ≡ total unmet ss = total_unmet ss in
    let fits = s.fits in
    let room = s.room in
    (plan_from k low ss p s.ceilings, shares_from _ _ _ _ r (omega arith) (omega arith))
