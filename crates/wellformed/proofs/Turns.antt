-- The turns of the loops over the stations. Assumes nothing.
use mathlib.Core.Path.{◌≡◌, refl, ap, ◌∙◌}
use mathlib.Core.List.{List}
use mathlib.Core.Bool.{true, false}
use Prim.Native.Nat.{ℕ, zero, suc, ◌+◌, ◌*◌, ◌-◌, ◌≤◌, ◌<◌}
use native.Mathlib.Omega.{arith}
use Rattle.limits.specs.Test.{◌&◌}
use Rattle.layout.specs.Layout.{ca_at, held_at}
use Rattle.model.specs.Place.{places_ok}
use Rattle.table.specs.Memory.{sum_at, numbers_at, plan_at, bodies_at}

-- The sum over no station, and over one more.
pub sum_none : (f : List ℕ → ℕ → ℕ) (m : List ℕ) (at : ℕ) → sum_at f m at 0 ≡ 0
unfolding sum_at
sum_none f m at = refl

pub sum_more : (f : List ℕ → ℕ → ℕ) (m : List ℕ) (at i : ℕ) → sum_at f m at (i + 1) ≡ sum_at f m at i + f m (at + 8 * i)
unfolding sum_at
sum_more f m at zero =
    let e : at + 8 * zero ≡ at = omega arith in
    rw e (omega arith)
sum_more f m at (suc i) =
    let e : suc i + 1 ≡ suc (i + 1) = omega arith in
    let g : at + 8 + 8 * i ≡ at + 8 * suc i = omega arith in
    let ih : sum_at f m (at + 8) (i + 1) ≡ sum_at f m (at + 8) i + f m (at + 8 * suc i) = sum_more f m (at + 8) i ∙ ap (λ (x : ℕ). sum_at f m (at + 8) i + f m x) g in
    ap (sum_at f m at) e ∙ (omega arith)

-- A turn of the loops over the n stations from `at`, at the one of index i.
module _ (m : List ℕ) (at n i : ℕ) (h : i < n) where
  abbrev station : ℕ
  station = at + 8 * i

  one_more : n - i ≡ suc (n - (i + 1))
  one_more = omega arith

  next : station + 8 ≡ at + 8 * (i + 1)
  next = omega arith

  pub sum_on : (f : List ℕ → ℕ → ℕ) → sum_at f m station (n - i) ≡ f m station + sum_at f m (at + 8 * (i + 1)) (n - (i + 1))
  unfolding sum_at
  sum_on f = ap (sum_at f m station) one_more ∙ ap (λ (x : ℕ). f m station + sum_at f m x (n - (i + 1))) next

  module _ (k low : ℕ) where
    pub plan_on : numbers_at m k low station ≡ true
        → plan_at m k low station (n - i) ≡ plan_at m k (ca_at m station + 1) (at + 8 * (i + 1)) (n - (i + 1))
    unfolding plan_at ◌&◌
    plan_on e = ap (plan_at m k low station) one_more ∙ simp e (ap (λ (x : ℕ). plan_at m k (ca_at m station + 1) x (n - (i + 1))) next)

    pub plan_off : numbers_at m k low station ≡ false → plan_at m k low station (n - i) ≡ false
    unfolding plan_at ◌&◌
    plan_off e = ap (plan_at m k low station) one_more ∙ simp e

  module _ (pb : ℕ) where
    pub bodies_on : places_ok m pb (ca_at m station) 0 (held_at m station) ≡ true
        → bodies_at m pb station (n - i) ≡ bodies_at m (pb + 48 * held_at m station) (at + 8 * (i + 1)) (n - (i + 1))
    unfolding bodies_at ◌&◌
    bodies_on e = ap (bodies_at m pb station) one_more ∙ simp e (ap (λ (x : ℕ). bodies_at m (pb + 48 * held_at m station) x (n - (i + 1))) next)

    pub bodies_off : places_ok m pb (ca_at m station) 0 (held_at m station) ≡ false → bodies_at m pb station (n - i) ≡ false
    unfolding bodies_at ◌&◌
    bodies_off e = ap (bodies_at m pb station) one_more ∙ simp e

pub plan_end : (m : List ℕ) (k low at n i : ℕ) → n ≤ i → plan_at m k low at (n - i) ≡ true
unfolding plan_at
plan_end m k low at n i h = let e : n - i ≡ 0 = omega arith in ap (plan_at m k low at) e

pub bodies_end : (m : List ℕ) (pb at n i : ℕ) → n ≤ i → bodies_at m pb at (n - i) ≡ true
unfolding bodies_at
bodies_end m pb at n i h = let e : n - i ≡ 0 = omega arith in ap (bodies_at m pb at) e
