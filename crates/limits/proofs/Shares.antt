-- The laws of shares: demand 3 in numbers. First one share, over all numbers; then a gateway's shares under a capacity, which stay sound.
-- A step at one station changes one summand of each sum, so each law of the list is the law of one share and linear arithmetic. Assumes nothing.
use mathlib.Core.Path.{◌≡◌, refl, subst}
use mathlib.Core.List.{List, [], ◌∷◌, ◌++◌}
use mathlib.Core.Bool.{Bool, true, false}
use mathlib.Core.Logic.{◌⊎◌, inl, inr, ⊎_elim}
use Prim.Native.Nat.{ℕ, ◌+◌, ◌-◌, ◌≤◌, ◌<◌}
use native.Mathlib.Omega.{arith}
use lib.Dec.{ltb}
use borrow.Author.Tests.{lt-ltb, le-ltb, ltb-true, ltb-false}
use Rattle.limits.specs.Test.{total}
use Rattle.limits.specs.Share.{held_of, unmet_of, taken_in, let_go, admission_of, admission_in, free_of, WithinCeilings, Sound}
use Rattle.limits.specs.declared.share.Share.{Share}
use Rattle.std.specs.Prelude.{Err}
use Rattle.limits.specs.Outcome.{Outcome, done}
use Rattle.limits.specs.declared.outcome.Refusal.TheVariants.{CeilingReached, NotAdmitted}
use Rattle.limits.proofs.Tests.{total_append}

-- ---- one share, whatever its numbers

-- unmet room is the difference, stopping at zero
pub unmet_is : (s : Share) → unmet_of s ≡ s.reservation - s.held
unmet_is s = by_test (ltb s.held s.reservation) refl
  where
    by_test : (b : Bool) → ltb s.held s.reservation ≡ b → unmet_of s ≡ s.reservation - s.held
    by_test true e = simp e
    by_test false e = let h : s.reservation ≤ s.held = ltb-false _ _ e in simp e (omega arith)

pub unmet_at_most_reservation : (s : Share) → unmet_of s ≤ s.reservation
unmet_at_most_reservation s = omega (arith, unmet_is s)

pub unmet_from_reservation_on : (s : Share) → s.reservation ≤ s.held → unmet_of s ≡ 0
unmet_from_reservation_on s h = simp (le-ltb _ _ h)

pub let_go_undoes_take_in : (s : Share) → s.held < s.ceiling → let_go (taken_in s) ≡ s
let_go_undoes_take_in s h =
    let z : 0 < s.held + 1 = omega arith in
    let e : s.held + 1 - 1 ≡ s.held = omega arith in
    simp (lt-ltb _ _ h, lt-ltb _ _ z, e)

pub take_in_undoes_let_go : (s : Share) → 0 < s.held → s.held ≤ s.ceiling → taken_in (let_go s) ≡ s
take_in_undoes_let_go s h k =
    let z : s.held - 1 < s.ceiling = omega arith in
    let e : s.held - 1 + 1 ≡ s.held = omega arith in
    simp (lt-ltb _ _ h, lt-ltb _ _ z, e)

-- One step changes held by at most one, and in its own direction.
pub take_in_by_one : (s : Share) → (s.held ≤ (taken_in s).held) × ((taken_in s).held ≤ s.held + 1)
take_in_by_one s = by_test (ltb s.held s.ceiling) refl
  where
    by_test : (b : Bool) → ltb s.held s.ceiling ≡ b → (s.held ≤ (taken_in s).held) × ((taken_in s).held ≤ s.held + 1)
    by_test true e = simp e (omega arith)
    by_test false e = simp e (omega arith)

pub let_go_by_one : (s : Share) → ((let_go s).held ≤ s.held) × (s.held ≤ (let_go s).held + 1)
let_go_by_one s = by_test (ltb 0 s.held) refl
  where
    by_test : (b : Bool) → ltb 0 s.held ≡ b → ((let_go s).held ≤ s.held) × (s.held ≤ (let_go s).held + 1)
    by_test true e = simp e (omega arith)
    by_test false e = simp e (omega arith)

-- ---- the rule, exactly

-- done: held < c, and held < r or free > unmet.
pub record HasRoom (s : Share) (free unmet : ℕ) : Type 0 where
  pub below_ceiling : s.held < s.ceiling
  pub some_room : (s.held < s.reservation) ⊎ (unmet < free)

-- Not admitted below the ceiling: the reservation is met, and what is free is kept for others.
pub record HasNoRoom (s : Share) (free unmet : ℕ) : Type 0 where
  pub below_ceiling : s.held < s.ceiling
  pub met : s.reservation ≤ s.held
  pub kept : free ≤ unmet

module _ (s : Share) (free unmet : ℕ) where
  -- each answer, by the tests that lead to it
  admits_reserved : s.held < s.ceiling → s.held < s.reservation → admission_of s free unmet ≡ done
  admits_reserved p q = simp (lt-ltb _ _ p, lt-ltb _ _ q)

  admits_free : s.held < s.ceiling → s.reservation ≤ s.held → unmet < free → admission_of s free unmet ≡ done
  admits_free p q r = simp (lt-ltb _ _ p, le-ltb _ _ q, lt-ltb _ _ r)

  pub no_room : HasNoRoom s free unmet → admission_of s free unmet ≡ Err NotAdmitted
  no_room h = simp (lt-ltb _ _ h.below_ceiling, le-ltb _ _ h.met, le-ltb _ _ h.kept)

  pub at_ceiling : s.ceiling ≤ s.held → admission_of s free unmet ≡ Err CeilingReached
  at_ceiling p = simp (le-ltb _ _ p)

  pub admitted : HasRoom s free unmet → admission_of s free unmet ≡ done
  admitted h = ⊎_elim (admits_reserved h.below_ceiling) (λ r. by_test r (ltb s.held s.reservation) refl) h.some_room
    where
      by_test : unmet < free → (b : Bool) → ltb s.held s.reservation ≡ b → admission_of s free unmet ≡ done
      by_test r true e = admits_reserved h.below_ceiling (ltb-true _ _ e)
      by_test r false e = admits_free h.below_ceiling (ltb-false _ _ e) r

  -- what holds of the numbers, and the answer that goes with it
  data Answered : Outcome → Type 0 where
    is_admitted : HasRoom s free unmet → Answered done
    is_full : s.ceiling ≤ s.held → Answered (Err CeilingReached)
    is_kept : HasNoRoom s free unmet → Answered (Err NotAdmitted)

  answered : Answered (admission_of s free unmet)
  answered = by_tests (ltb s.held s.ceiling) refl (ltb s.held s.reservation) refl (ltb unmet free) refl
    where
      by_tests : (b : Bool) → ltb s.held s.ceiling ≡ b → (d : Bool) → ltb s.held s.reservation ≡ d → (e : Bool) → ltb unmet free ≡ e
          → Answered (admission_of s free unmet)
      by_tests true p true q e r = simp (p, q) (is_admitted (record { below_ceiling = ltb-true _ _ p; some_room = inl (ltb-true _ _ q) }))
      by_tests true p false q true r = simp (p, q, r) (is_admitted (record { below_ceiling = ltb-true _ _ p; some_room = inr (ltb-true _ _ r) }))
      by_tests true p false q false r =
          simp (p, q, r) (is_kept (record { below_ceiling = ltb-true _ _ p; met = ltb-false _ _ q; kept = ltb-false _ _ r }))
      by_tests false p d q e r = simp p (is_full (ltb-false _ _ p))

  -- the other direction: the answer tells the numbers
  pub admitted_only : admission_of s free unmet ≡ done → HasRoom s free unmet
  admitted_only e = told (subst Answered e answered)
    where
      told : Answered done → HasRoom s free unmet
      told (is_admitted h) = h

  pub at_ceiling_only : admission_of s free unmet ≡ Err CeilingReached → s.ceiling ≤ s.held
  at_ceiling_only e = told (subst Answered e answered)
    where
      told : Answered (Err CeilingReached) → s.ceiling ≤ s.held
      told (is_full h) = h

  pub no_room_only : admission_of s free unmet ≡ Err NotAdmitted → HasNoRoom s free unmet
  no_room_only e = told (subst Answered e answered)
    where
      told : Answered (Err NotAdmitted) → HasNoRoom s free unmet
      told (is_kept h) = h

-- ---- a gateway's shares

-- the sums, with one share taken out of the list
sum_at_lem : (f : Share → ℕ) (before : List Share) (s : Share) (after : List Share)
    → total f (before ++ (s ∷ after)) ≡ f s + (total f before + total f after)
unfolding total
sum_at_lem f before s after =
    let e : total f (before ++ (s ∷ after)) ≡ total f before + total f (s ∷ after) = total_append f before (s ∷ after) in omega arith

ceilings_at : (before : List Share) (s : Share) (after : List Share) → WithinCeilings (before ++ (s ∷ after)) → s.held ≤ s.ceiling
unfolding WithinCeilings
ceilings_at [] s after c = c.0
ceilings_at (x ∷ before) s after c = ceilings_at before s after c.1

ceilings_with : (before : List Share) (s t : Share) (after : List Share)
    → WithinCeilings (before ++ (s ∷ after)) → t.held ≤ t.ceiling → WithinCeilings (before ++ (t ∷ after))
unfolding WithinCeilings
ceilings_with [] s t after c h = (h, c.1)
ceilings_with (x ∷ before) s t after c h = (c.0, ceilings_with before s t after c.1 h)

-- what changes with one share: held and unmet room move by at most one, in opposite directions
module _ (k : ℕ) (before : List Share) (s : Share) (after : List Share) (sound : Sound k (before ++ (s ∷ after))) where
  -- A station holding less than its reservation is admitted, and there is a place for it.
  pub below_reservation_admitted : s.reservation ≤ s.ceiling → s.held < s.reservation
      → admission_in k (before ++ (s ∷ after)) s ≡ done
  below_reservation_admitted plan h =
      admitted s (free_of k (before ++ (s ∷ after))) (total unmet_of (before ++ (s ∷ after))) (record { below_ceiling = omega arith; some_room = inl h })

  -- Whoever is admitted finds a free place.
  pub admitted_has_place : admission_in k (before ++ (s ∷ after)) s ≡ done
      → total held_of (before ++ (s ∷ after)) < k
  admitted_has_place e =
      let u = sum_at_lem unmet_of before s after in
      let r = sound.room in
      let v = unmet_is s in
      ⊎_elim (λ (h : s.held < s.reservation). omega arith)
      (λ (h : total unmet_of (before ++ (s ∷ after)) < free_of k (before ++ (s ∷ after))). omega arith)
      (admitted_only s (free_of k (before ++ (s ∷ after))) (total unmet_of (before ++ (s ∷ after))) e).some_room

  -- Taking in a point of an admitted station keeps the shares sound.
  pub take_in_keeps_sound : admission_in k (before ++ (s ∷ after)) s ≡ done
      → Sound k (before ++ (taken_in s ∷ after))
  take_in_keeps_sound e =
      let room = admitted_only s (free_of k (before ++ (s ∷ after))) (total unmet_of (before ++ (s ∷ after))) e in
      let below : s.held < s.ceiling = room.below_ceiling in
      let place = admitted_has_place e in
      let held_is : (taken_in s).held ≡ s.held + 1 = simp (lt-ltb _ _ below) in
      let h = sum_at_lem held_of before s after in
      let h' = sum_at_lem held_of before (taken_in s) after in
      let u = sum_at_lem unmet_of before s after in
      let u' = sum_at_lem unmet_of before (taken_in s) after in
      let v = unmet_is s in
      let v' = unmet_is (taken_in s) in
      let r = sound.room in
      record {
        fits = omega arith;
        ceilings = ceilings_with before s (taken_in s) after sound.ceilings (omega arith);
        room =
            ⊎_elim (λ (q : s.held < s.reservation). omega arith)
            (λ (q : total unmet_of (before ++ (s ∷ after)) < free_of k (before ++ (s ∷ after))). omega arith)
            room.some_room;
      }

  -- Letting a point go keeps the shares sound.
  pub let_go_keeps_sound : Sound k (before ++ (let_go s ∷ after))
  let_go_keeps_sound =
      let by = let_go_by_one s in
      let c : s.held ≤ s.ceiling = ceilings_at before s after sound.ceilings in
      let f = sound.fits in
      let h = sum_at_lem held_of before s after in
      let h' = sum_at_lem held_of before (let_go s) after in
      let u = sum_at_lem unmet_of before s after in
      let u' = sum_at_lem unmet_of before (let_go s) after in
      let v = unmet_is s in
      let v' = unmet_is (let_go s) in
      let r = sound.room in
      record {
        fits = omega arith;
        ceilings = ceilings_with before s (let_go s) after sound.ceilings (omega arith);
        room = omega arith;
      }

-- ---- a fresh plan

-- nothing held anywhere
unfoldable pub NothingHeld : List Share → Type 0
NothingHeld [] = Unit
NothingHeld (s ∷ ss) = (s.held ≡ 0) × NothingHeld ss

abbrev pub reservation_of : Share → ℕ
reservation_of s = s.reservation

fresh_sums : (ss : List Share) → NothingHeld ss → (total held_of ss ≡ 0) × (total unmet_of ss ≡ total reservation_of ss)
unfolding NothingHeld total
fresh_sums [] n = (refl, refl)
fresh_sums (s ∷ ss) n = let ih = fresh_sums ss n.1 in let z = n.0 in let u = unmet_is s in (omega arith, omega arith)

fresh_ceilings : (ss : List Share) → NothingHeld ss → WithinCeilings ss
unfolding NothingHeld WithinCeilings
fresh_ceilings [] n = tt
fresh_ceilings (s ∷ ss) n = let z = n.0 in (omega arith, fresh_ceilings ss n.1)

-- A fresh plan whose reservations add up to at most K is sound.
pub fresh_plan_sound : (k : ℕ) (ss : List Share) → NothingHeld ss → total reservation_of ss ≤ k → Sound k ss
fresh_plan_sound k ss n h =
    let e = fresh_sums ss n in
    record { fits = omega arith; ceilings = fresh_ceilings ss n; room = omega arith }
