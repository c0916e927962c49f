-- The tests of a plan and of the memory, answered at the first that fails, or at the last. Assumes nothing.
use mathlib.Core.Path.{◌≡◌, ap}
use mathlib.Core.Bool.{true, false}
use mathlib.Core.List.{List}
use Prim.Native.Nat.{ℕ, ◌+◌, ◌*◌, ◌/◌, ◌%◌, ◌≤◌, ◌<◌}
use native.Mathlib.Omega.{arith}
use lib.Dec.{leb}
use lib.ListN.{length}
use borrow.Author.Tests.{lt-leb, le-leb, eq-eqb, ne_eqb}
use Rattle.limits.specs.Test.{◌&◌, total}
use Rattle.table.specs.Table.{plan_ok, reserved}
use Rattle.registry.specs.Opening.{planned, valid_plan, opens}
use Rattle.opening.proofs.Plan.{length_planned, valid_bounds}

module _ (k : ℕ) (plan : List ℕ) where
  pub k_zero : k < 1 → valid_plan k (planned plan) ≡ false
  unfolding valid_plan ◌&◌
  k_zero a = simp (lt-leb _ _ a)

  pub k_high : 1 ≤ k → 4096 < k → valid_plan k (planned plan) ≡ false
  unfolding valid_plan ◌&◌
  k_high a b = simp (le-leb _ _ a, lt-leb _ _ b)

  pub no_station : 1 ≤ k → k ≤ 4096 → length plan / 3 < 1 → valid_plan k (planned plan) ≡ false
  unfolding valid_plan ◌&◌
  no_station a b c =
      let e = length_planned plan in
      let d : length (planned plan) < 1 = omega arith in
      simp (le-leb _ _ a, le-leb _ _ b, lt-leb _ _ d)

  pub many_stations : 1 ≤ k → k ≤ 4096 → 64 < length plan / 3 → valid_plan k (planned plan) ≡ false
  unfolding valid_plan ◌&◌
  many_stations a b c =
      let e = length_planned plan in
      let d : 1 ≤ length (planned plan) = omega arith in
      let f : 64 < length (planned plan) = omega arith in
      simp (le-leb _ _ a, le-leb _ _ b, le-leb _ _ d, lt-leb _ _ f)

  module _ (a : 1 ≤ k) (b : k ≤ 4096) (c : 1 ≤ length plan / 3) (d : length plan / 3 ≤ 64) where
    some_stations : 1 ≤ length (planned plan)
    some_stations = let e = length_planned plan in omega arith

    few_stations : length (planned plan) ≤ 64
    few_stations = let e = length_planned plan in omega arith

    pub plan_bad : plan_ok k 1 (planned plan) ≡ false → valid_plan k (planned plan) ≡ false
    unfolding valid_plan ◌&◌
    plan_bad e = simp (le-leb _ _ a, le-leb _ _ b, le-leb _ _ some_stations, le-leb _ _ few_stations, e)

    pub reserved_test : plan_ok k 1 (planned plan) ≡ true → valid_plan k (planned plan) ≡ leb (total reserved (planned plan)) k
    unfolding valid_plan ◌&◌
    reserved_test e = simp (le-leb _ _ a, le-leb _ _ b, le-leb _ _ some_stations, le-leb _ _ few_stations, e)

  pub part_left : (length plan % 3 ≡ 0 → ⊥) → (octets : ℕ) → opens k plan octets ≡ false
  unfolding opens ◌&◌
  part_left a octets = simp (ne_eqb _ _ a)

  module _ (a : length plan % 3 ≡ 0) where
    pub plan_refused : valid_plan k (planned plan) ≡ false → (octets : ℕ) → opens k plan octets ≡ false
    unfolding opens ◌&◌
    plan_refused b octets = simp (eq-eqb _ _ a, b)

    pub room_test : valid_plan k (planned plan) ≡ true → (octets : ℕ) → opens k plan octets ≡ leb (48 * k + 8 * (length plan / 3) + 64) octets
    unfolding opens ◌&◌
    room_test b octets = simp (eq-eqb _ _ a, b) (ap (λ (x : ℕ). leb (48 * k + 8 * x + 64) octets) (length_planned plan))

  pub k_few : valid_plan k (planned plan) ≡ true → k ≤ 4096
  k_few v = (valid_bounds k (planned plan) v).0

  pub stations_few : valid_plan k (planned plan) ≡ true → length plan / 3 ≤ 64
  stations_few v =
      let e = length_planned plan in
      let b = valid_bounds k (planned plan) v in
      omega arith
