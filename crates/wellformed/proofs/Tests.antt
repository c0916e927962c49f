-- The tests of a station's numbers, of the shares and of both over all stations, answered at the first that fails, or at the last. Assumes nothing.
use mathlib.Core.Path.{◌≡◌}
use mathlib.Core.List.{List}
use mathlib.Core.Bool.{true, false}
use Prim.Native.Nat.{ℕ, ◌-◌, ◌≤◌, ◌<◌}
use lib.Dec.{leb}
use borrow.Author.Tests.{le-leb, lt-leb, eq-eqb, ne_eqb}
use Rattle.limits.specs.Test.{◌&◌}
use Rattle.layout.specs.Layout.{reservation_at, held_at}
use Rattle.table.specs.Table.{numbers_ok, shares_ok}
use Rattle.table.specs.Memory.{sum_at, unmet_at, plan_at, shares_at}

module _ (k low ca r c h : ℕ) where
  pub ca_low : ca < low → numbers_ok k low ca r c h ≡ false
  unfolding numbers_ok ◌&◌
  ca_low a = simp (lt-leb _ _ a)

  pub ca_high : low ≤ ca → 65534 < ca → numbers_ok k low ca r c h ≡ false
  unfolding numbers_ok ◌&◌
  ca_high a b = simp (le-leb _ _ a, lt-leb _ _ b)

  pub ceiling_low : low ≤ ca → ca ≤ 65534 → c < r → numbers_ok k low ca r c h ≡ false
  unfolding numbers_ok ◌&◌
  ceiling_low a b d = simp (le-leb _ _ a, le-leb _ _ b, lt-leb _ _ d)

  pub ceiling_high : low ≤ ca → ca ≤ 65534 → r ≤ c → k < c → numbers_ok k low ca r c h ≡ false
  unfolding numbers_ok ◌&◌
  ceiling_high a b d e = simp (le-leb _ _ a, le-leb _ _ b, le-leb _ _ d, lt-leb _ _ e)

  pub held_test : low ≤ ca → ca ≤ 65534 → r ≤ c → c ≤ k → numbers_ok k low ca r c h ≡ leb h c
  unfolding numbers_ok ◌&◌
  held_test a b d e = simp (le-leb _ _ a, le-leb _ _ b, le-leb _ _ d, le-leb _ _ e)

module _ (k r h u : ℕ) where
  pub reserved_high : k < r → shares_ok k r h u ≡ false
  unfolding shares_ok ◌&◌
  reserved_high a = simp (lt-leb _ _ a)

  pub held_high : r ≤ k → k < h → shares_ok k r h u ≡ false
  unfolding shares_ok ◌&◌
  held_high a b = simp (le-leb _ _ a, lt-leb _ _ b)

  pub unmet_test : r ≤ k → h ≤ k → shares_ok k r h u ≡ leb u (k - h)
  unfolding shares_ok ◌&◌
  unmet_test a b = simp (le-leb _ _ a, le-leb _ _ b)

module _ (m : List ℕ) (k at n points : ℕ) where
  pub plan_bad : plan_at m k 1 at n ≡ false → shares_at m k at n points ≡ false
  unfolding shares_at ◌&◌
  plan_bad a = simp a

  pub points_differ : plan_at m k 1 at n ≡ true → (points ≡ sum_at held_at m at n → ⊥) → shares_at m k at n points ≡ false
  unfolding shares_at ◌&◌
  points_differ a b = simp (a, ne_eqb _ _ b)

  pub shares_test : plan_at m k 1 at n ≡ true → points ≡ sum_at held_at m at n
      → shares_at m k at n points ≡ shares_ok k (sum_at reservation_at m at n) points (sum_at unmet_at m at n)
  unfolding shares_at ◌&◌
  shares_test a b = simp (a, eq-eqb _ _ b)
