-- Gentle changes: those of points' values, which leave every station as many points in their order. A good table stays good and every holding
-- stays, at one station or at all of them; so commands are quiet calls. Assumes nothing.
use mathlib.Core.Path.{◌≡◌, refl, sym, ap, ap₂, ◌∙◌}
use mathlib.Core.List.{List, [], ◌∷◌, map}
use mathlib.Core.Bool.{Bool, true, false}
use Prim.Native.Nat.{ℕ, suc, ◌+◌, ◌-◌, ◌≤◌}
use native.Mathlib.Omega.{arith}
use lib.ListN.{length}
use lib.Dec.{leb, eqb}
use Rattle.limits.specs.Test.{◌&◌, pick, total}
use Rattle.limits.proofs.Tests.{both, join}
use Rattle.model.specs.declared.Point.{Point}
use Rattle.model.specs.Place.{point_ok}
use Rattle.table.specs.Table.{Station, Table, held, unmet, reserved, rising, all_rising, numbers_ok, plan_ok, shares_ok}
use Rattle.table.specs.Change.{in_station, with_points, with_stations, changed}
use Rattle.table.proofs.Parse.{Good}
use Rattle.registry.specs.History.{Holding, holding_of}

-- ---- a good table's numbers are those of its holdings

plan_from : ℕ → ℕ → List Holding → Bool
plan_from k low [] = true
plan_from k low (h ∷ hs) = numbers_ok k low h.ca h.reservation h.ceiling h.held & plan_from k (h.ca + 1) hs

plan_is : (k low : ℕ) (ss : List Station) → plan_ok k low ss ≡ plan_from k low (map holding_of ss)
unfolding plan_ok plan_from
plan_is k low [] = refl
plan_is k low (s ∷ ss) = ap (λ (b : Bool). numbers_ok k low s.ca s.reservation s.ceiling (held s) & b) (plan_is k (s.ca + 1) ss)

total_is : (f : Station → ℕ) (g : Holding → ℕ) → ((s : Station) → f s ≡ g (holding_of s)) → (ss : List Station) → total f ss ≡ total g (map holding_of ss)
unfolding total
total_is f g e [] = refl
total_is f g e (s ∷ ss) = ap₂ (λ (x y : ℕ). x + y) (e s) (total_is f g e ss)

length_is : (ss : List Station) → length ss ≡ length (map holding_of ss)
length_is [] = refl
length_is (s ∷ ss) = ap suc (length_is ss)

-- A table with the holdings of a good one, whose points rise, is good.
pub good_like : (t : Table) (ss : List Station) → Good t → map holding_of ss ≡ map holding_of t.stations → all_rising ss ≡ true
    → Good (with_stations ss t)
good_like t ss g e r =
    let k : ℕ = t.capacity in
    let h : total held ss ≡ total held t.stations =
    total_is held (λ x. x.held) (λ s. refl) ss ∙ ap (total (λ (x : Holding). x.held)) e ∙ sym (total_is held (λ x. x.held) (λ s. refl) t.stations) in
    let u : total unmet ss ≡ total unmet t.stations =
    total_is unmet (λ x. x.reservation - x.held) (λ s. refl) ss ∙ ap (total (λ (x : Holding). x.reservation - x.held)) e
    ∙ sym (total_is unmet (λ x. x.reservation - x.held) (λ s. refl) t.stations) in
    let v : total reserved ss ≡ total reserved t.stations =
    total_is reserved (λ x. x.reservation) (λ s. refl) ss ∙ ap (total (λ (x : Holding). x.reservation)) e
    ∙ sym (total_is reserved (λ x. x.reservation) (λ s. refl) t.stations) in
    let n : length ss ≡ length t.stations = length_is ss ∙ ap length e ∙ sym (length_is t.stations) in
    let p : plan_ok k 1 ss ≡ true = plan_is k 1 ss ∙ ap (plan_from k 1) e ∙ sym (plan_is k 1 t.stations) ∙ g.plan in
    let low : 1 ≤ length t.stations = g.s_low in
    let high : length t.stations ≤ 64 = g.s_high in
    let few : total held t.stations ≤ k = g.few in
    record {
      settings = g.settings;
      k_low = g.k_low;
      k_high = g.k_high;
      s_low = omega arith;
      s_high = omega arith;
      plan = p;
      shares = (λ j. shares_ok k (v j) (h j) (u j)) ∙ g.shares;
      few = omega arith;
      rises = r;
    }

-- ---- gentle changes

-- As many points, and in order wherever they were.
pub record Gentle (f : List Point → List Point) : Type 0 where
  pub same_length : (ps : List Point) → length (f ps) ≡ length ps
  pub still_rising : (ps : List Point) → rising 0 ps ≡ true → rising 0 (f ps) ≡ true

module _ (f : List Point → List Point) (w : Gentle f) where
  holding_same : (s : Station) → holding_of (with_points f s) ≡ holding_of s
  holding_same s = λ j. record { ca = s.ca; reservation = s.reservation; ceiling = s.ceiling; held = w.same_length s.points j }

  holdings_in : (ca : ℕ) (ss : List Station) → map holding_of (in_station ca (with_points f) ss) ≡ map holding_of ss
  unfolding in_station
  holdings_in ca [] = refl
  holdings_in ca (s ∷ ss) = by_test (holdings_in ca ss) (eqb s.ca ca)
    where
      by_test : map holding_of (in_station ca (with_points f) ss) ≡ map holding_of ss → (b : Bool)
          → map holding_of (pick b (with_points f s ∷ ss) (s ∷ in_station ca (with_points f) ss)) ≡ holding_of s ∷ map holding_of ss
      by_test ih true = ap (λ (h : Holding). h ∷ map holding_of ss) (holding_same s)
      by_test ih false = ap (λ (l : List Holding). holding_of s ∷ l) ih

  rises_in : (ca : ℕ) (ss : List Station) → all_rising ss ≡ true → all_rising (in_station ca (with_points f) ss) ≡ true
  unfolding in_station all_rising
  rises_in ca [] r = refl
  rises_in ca (s ∷ ss) r = by_test (rises_in ca ss (both _ _ r).1) (eqb s.ca ca)
    where
      by_test : all_rising (in_station ca (with_points f) ss) ≡ true → (b : Bool)
          → all_rising (pick b (with_points f s ∷ ss) (s ∷ in_station ca (with_points f) ss)) ≡ true
      by_test ih true = join (w.still_rising s.points (both _ _ r).0) (both _ _ r).1
      by_test ih false = join (both _ _ r).0 ih

  holdings_all : (ss : List Station) → map holding_of (map (with_points f) ss) ≡ map holding_of ss
  holdings_all [] = refl
  holdings_all (s ∷ ss) = ap₂ (λ (h : Holding) (l : List Holding). h ∷ l) (holding_same s) (holdings_all ss)

  rises_all : (ss : List Station) → all_rising ss ≡ true → all_rising (map (with_points f) ss) ≡ true
  unfolding all_rising
  rises_all [] r = refl
  rises_all (s ∷ ss) r = join (w.still_rising s.points (both _ _ r).0) (rises_all ss (both _ _ r).1)

  -- At one station.
  pub gentle_here : (t : Table) (ca : ℕ) → Good t → Good (changed t ca f) × (map holding_of (changed t ca f).stations ≡ map holding_of t.stations)
  unfolding changed
  gentle_here t ca g =
      (good_like t (in_station ca (with_points f) t.stations) g (holdings_in ca t.stations) (rises_in ca t.stations g.rises), holdings_in ca t.stations)

  -- At every station.
  pub gentle_everywhere : (t : Table) → Good t
      → Good (with_stations (map (with_points f) t.stations) t) × (map holding_of (map (with_points f) t.stations) ≡ map holding_of t.stations)
  gentle_everywhere t g =
      (good_like t (map (with_points f) t.stations) g (holdings_all t.stations) (rises_all t.stations g.rises), holdings_all t.stations)

-- ---- a change point by point

-- A point changed in its value only.
pub record SamePoint (p q : Point) : Type 0 where
  pub ioa : q.ioa ≡ p.ioa
  pub still_ok : point_ok p ≡ true → point_ok q ≡ true

map_length : (f : Point → Point) (ps : List Point) → length (map f ps) ≡ length ps
map_length f [] = refl
map_length f (p ∷ ps) = ap suc (map_length f ps)

map_rising : (f : Point → Point) → ((p : Point) → SamePoint p (f p)) → (low : ℕ) (ps : List Point) → rising low ps ≡ true → rising low (map f ps) ≡ true
unfolding rising
map_rising f e low [] r = refl
map_rising f e low (p ∷ ps) r =
    let r1 = both _ _ r in
    let r2 = both _ _ r1.1 in
    let i : (f p).ioa ≡ p.ioa = (e p).ioa in
    join (ap (leb low) i ∙ r1.0) (join ((e p).still_ok r2.0) (ap (λ (n : ℕ). rising (n + 1) (map f ps)) i ∙ map_rising f e (p.ioa + 1) ps r2.1))

-- Such a change of every point is gentle.
pub map_gentle : (f : Point → Point) → ((p : Point) → SamePoint p (f p)) → Gentle (λ (ps : List Point). map f ps)
map_gentle f e = record { same_length = map_length f; still_rising = map_rising f e 0 }
