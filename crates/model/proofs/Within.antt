-- The test of a place by limits is the test of the point that it holds, and the turns of the loop over a station's places. Assumes nothing.
use mathlib.Core.Path.{◌≡◌, refl, sym, ap, ◌∙◌}
use mathlib.Core.List.{List}
use mathlib.Core.Bool.{true, false, ◌||◌}
use Prim.Native.Nat.{ℕ, suc, ◌+◌, ◌*◌, ◌-◌, ◌≤◌, ◌<◌}
use native.Mathlib.Decide.{dec_le}
use native.Mathlib.Omega.{arith}
use lib.ListN.{get_or}
use lib.Dec.{leb, ltb, eqb}
use lib.Bits.{bit_or}
use borrow.Author.Tests.{leb-true, le-leb, ltb-true, lt-ltb, eqb-true, eq-eqb}
use Rattle.limits.specs.Test.{◌&◌}
use Rattle.limits.specs.Size.{point_octets}
use Rattle.limits.proofs.Tests.{both, join}
use Rattle.limits.proofs.Sizes.{point_beyond}
use Rattle.octets.specs.Number.{Octets, two, three, four, eight, twelve, zeros}
use Rattle.octets.proofs.Zero.{or_zero, zeros_split}
use Rattle.octets.proofs.Limit.{number_zero, eight_number}
use Rattle.model.specs.Place.{is_counter, valid, place_ok, places_ok}
use Rattle.model.specs.Limits.{first_limit, last_limit, counter_limit}
use Rattle.model.proofs.Limits.{same, element_limit, counter_limit_lem}

-- ---- the spare octets, by four numbers of which the last two overlap

module _ (m : List ℕ) where
  eight_zero : (at : ℕ) → eqb (eight m at) 0 ≡ zeros m at 8
  eight_zero at = ap (λ (x : ℕ). eqb x 0) (eight_number m at) ∙ number_zero m at 8

  -- zeros cut after n octets
  cut : (at n k x t : ℕ) → at + n ≡ x → n + k ≡ t → zeros m at t ≡ (zeros m at n & zeros m x k)
  cut at n k x t e f = ap (zeros m at) (sym f) ∙ zeros_split m at n k ∙ ap (λ (i : ℕ). zeros m at n & zeros m i k) e

  pub spare_is : (at : ℕ) → eqb (bit_or (bit_or (eight m at) (eight m (at + 8))) (bit_or (eight m (at + 16)) (eight m (at + 18)))) 0 ≡ zeros m at 26
  spare_is at =
      let a = eight m at in
      let b = eight m (at + 8) in
      let c = eight m (at + 16) in
      let d = eight m (at + 18) in
      or_zero (bit_or a b) (bit_or c d)
      ∙ (λ j. or_zero a b j & or_zero c d j)
      ∙ (λ j. (eight_zero at j & eight_zero (at + 8) j) & (eight_zero (at + 16) j & eight_zero (at + 18) j))
      ∙ same ((zeros m at 8 & zeros m (at + 8) 8) & (zeros m (at + 16) 8 & zeros m (at + 18) 8)) (zeros m at 26) to from
    where
      first : zeros m at 26 ≡ (zeros m at 8 & zeros m (at + 8) 18)
      first = cut at 8 18 (at + 8) 26 refl refl

      second : zeros m (at + 8) 18 ≡ (zeros m (at + 8) 8 & zeros m (at + 16) 10)
      second = cut (at + 8) 8 10 (at + 16) 18 (omega arith) refl

      third : zeros m (at + 16) 10 ≡ (zeros m (at + 16) 8 & zeros m (at + 24) 2)
      third = cut (at + 16) 8 2 (at + 24) 10 (omega arith) refl

      other : zeros m (at + 16) 10 ≡ (zeros m (at + 16) 2 & zeros m (at + 18) 8)
      other = cut (at + 16) 2 8 (at + 18) 10 (omega arith) refl

      last : zeros m (at + 18) 8 ≡ (zeros m (at + 18) 6 & zeros m (at + 24) 2)
      last = cut (at + 18) 6 2 (at + 24) 8 (omega arith) refl

      to : ((zeros m at 8 & zeros m (at + 8) 8) & (zeros m (at + 16) 8 & zeros m (at + 18) 8)) ≡ true → zeros m at 26 ≡ true
      to t =
          let t1 = both _ _ t in
          let p = both _ _ t1.0 in
          let q = both _ _ t1.1 in
          let r = both _ _ (sym last ∙ q.1) in
          first ∙ join p.0 (second ∙ join p.1 (third ∙ join q.0 r.1))

      from : zeros m at 26 ≡ true → ((zeros m at 8 & zeros m (at + 8) 8) & (zeros m (at + 16) 8 & zeros m (at + 18) 8)) ≡ true
      from t =
          let p = both _ _ (sym first ∙ t) in
          let q = both _ _ (sym second ∙ p.1) in
          let r = both _ _ (sym third ∙ q.1) in
          let s = both _ _ (sym other ∙ q.1) in
          join (join p.0 q.0) (join r.0 s.1)

-- ---- one place

-- what the code compares
pub record Within (m : List ℕ) (at ca low : ℕ) : Type 0 where
  pub kind : get_or m at 0 < 41
  pub station : two m (at + 1) ≡ ca
  pub order : low ≤ three m (at + 3)
  pub group : two m (at + 6) ≤ 16
  pub counter : two m (at + 8) ≤ counter_limit (get_or m at 0)
  pub first : eight m (at + 10) ≤ first_limit (get_or m at 0)
  pub last : four m (at + 18) < last_limit (get_or m at 0)

-- a point's type is below 41
known_below : (kind : ℕ) → leb 1 (point_octets kind) ≡ true → kind < 41
known_below kind t = go (dec_le 41 kind)
  where
    go : Dec (41 ≤ kind) → kind < 41
    go (yes h) = let z : point_octets kind ≡ 0 = point_beyond kind h in let w : 1 ≤ point_octets kind = leb-true _ _ t in absurd (omega arith)
    go (no h) = omega arith

module _ (m : List ℕ) (o : Octets m) (at ca low : ℕ) where
  element : (leb (eight m (at + 10)) (first_limit (get_or m at 0)) & ltb (four m (at + 18)) (last_limit (get_or m at 0)))
      ≡ (leb 1 (point_octets (get_or m at 0)) & zeros (twelve m (at + 10)) (point_octets (get_or m at 0)) (12 - point_octets (get_or m at 0)))
  element =
      let i : at + 18 ≡ at + 10 + 8 = omega arith in
      ap (λ (x : ℕ). leb (eight m (at + 10)) (first_limit (get_or m at 0)) & ltb (four m x) (last_limit (get_or m at 0))) i ∙ element_limit m o (at + 10) (get_or m at 0)

  counted : leb (two m (at + 8)) (counter_limit (get_or m at 0)) ≡ (leb (get_or m (at + 8) 0) 4 & (eqb (get_or m (at + 8) 0) 0 || is_counter (get_or m at 0)) & eqb (get_or m (at + 9) 0) 0)
  counted =
      let i : at + 8 + 1 ≡ at + 9 = omega arith in
      counter_limit_lem (get_or m (at + 8) 0) (get_or m (at + 8 + 1) 0) (get_or m at 0)
      ∙ ap (λ (x : ℕ). leb (get_or m (at + 8) 0) 4 & (eqb (get_or m (at + 8) 0) 0 || is_counter (get_or m at 0)) & eqb (get_or m x 0) 0) i

  within : place_ok m at ca low ≡ true → Within m at ca low
  unfolding place_ok valid
  within t =
      let t1 = both _ _ t in
      let t2 = both _ _ t1.1 in
      let t3 = both _ _ t2.1 in
      let t4 = both _ _ t3.1 in
      let v1 = both _ _ t3.0 in
      let v2 = both _ _ v1.1 in
      let v3 = both _ _ v2.1 in
      let v4 = both _ _ v3.1 in
      let e = both _ _ (element ∙ join v1.0 v4.1) in
      record {
        kind = known_below (get_or m at 0) v1.0;
        station = eqb-true _ _ t1.0;
        order = leb-true _ _ t2.0;
        group = leb-true _ _ v2.0;
        counter = leb-true _ _ (counted ∙ join v3.0 (join v4.0 t4.0));
        first = leb-true _ _ e.0;
        last = ltb-true _ _ e.1;
      }

  pub refused : (Within m at ca low → ⊥) → false ≡ place_ok m at ca low
  refused f = same false (place_ok m at ca low) (λ t. absurd (let z : ◌≡◌ {A = ℕ} 0 1 = cc in omega arith)) (λ t. absurd (f (within t)))

  pub accepted : Within m at ca low → zeros m (at + 22) 26 ≡ place_ok m at ca low
  unfolding place_ok valid
  accepted w = same (zeros m (at + 22) 26) (place_ok m at ca low)
      (λ t.
      let e = both _ _ (sym element ∙ join (le-leb _ _ w.first) (lt-ltb _ _ w.last)) in
      let c1 = both _ _ (sym counted ∙ le-leb _ _ w.counter) in
      let c2 = both _ _ c1.1 in
      join (eq-eqb _ _ w.station)
      (join (le-leb _ _ w.order) (join (join e.0 (join (le-leb _ _ w.group) (join c1.0 (join c2.0 e.1)))) (join c2.1 t))))
      (λ t. (both _ _ (both _ _ (both _ _ (both _ _ t).1).1).1).1)

-- ---- the loop over n places

-- A turn at the place of index i.
module _ (m : List ℕ) (at n i : ℕ) (h : i < n) (ca low : ℕ) where
  abbrev place : ℕ
  place = at + 48 * i

  one_more : n - i ≡ suc (n - (i + 1))
  one_more = omega arith

  next : place + 48 ≡ at + 48 * (i + 1)
  next = omega arith

  pub places_on : place_ok m place ca low ≡ true
      → places_ok m place ca low (n - i) ≡ places_ok m (at + 48 * (i + 1)) ca (three m (place + 3) + 1) (n - (i + 1))
  unfolding places_ok ◌&◌
  places_on e = ap (places_ok m place ca low) one_more ∙ simp e (ap (λ (x : ℕ). places_ok m x ca (three m (place + 3) + 1) (n - (i + 1))) next)

  pub places_off : place_ok m place ca low ≡ false → places_ok m place ca low (n - i) ≡ false
  unfolding places_ok ◌&◌
  places_off e = ap (places_ok m place ca low) one_more ∙ simp e

pub places_end : (m : List ℕ) (at ca low n i : ℕ) → n ≤ i → places_ok m at ca low (n - i) ≡ true
unfolding places_ok
places_end m at ca low n i h = let e : n - i ≡ 0 = omega arith in ap (places_ok m at ca low) e
