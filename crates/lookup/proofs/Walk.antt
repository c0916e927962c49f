-- The turns of the two loops: over the stations, and halving. Assumes nothing.
use mathlib.Core.Path.{◌≡◌, refl, ap, ◌∙◌}
use mathlib.Core.List.{List}
use mathlib.Core.Bool.{Bool, true, false}
use Prim.Native.Nat.{ℕ, zero, suc, ◌+◌, ◌*◌, ◌-◌, ◌/◌, ◌≤◌, ◌<◌}
use native.Mathlib.Omega.{arith}
use lib.Dec.{ltb}
use borrow.Author.Tests.{eq-eqb, ne_eqb, lt-ltb, le-ltb, ltb-true}
use Rattle.std.specs.Prelude.{None, Ok, Err}
use Rattle.limits.specs.Test.{◌&◌, pick}
use Rattle.octets.specs.Number.{two}
use Rattle.lookup.specs.Seats.{here, seat_in}
use Rattle.lookup.specs.Find.{Bounds, narrowed, halve, ioa_at, spot_at}

one_more : (n : ℕ) → 0 < n → n ≡ suc (n - 1)
one_more n h = omega arith

module _ (m : List ℕ) (ca i pb sb n : ℕ) (h : 0 < n) where
  pub seat_hit : two m sb ≡ ca → seat_in m ca i pb sb n ≡ here i pb (two m (sb + 6))
  unfolding seat_in
  seat_hit e = ap (seat_in m ca i pb sb) (one_more n h) ∙ simp (eq-eqb _ _ e)

  pub seat_on : (two m sb ≡ ca → ⊥) → seat_in m ca i pb sb n ≡ seat_in m ca (i + 1) (pb + 48 * two m (sb + 6)) (sb + 8) (n - 1)
  unfolding seat_in
  seat_on e = ap (seat_in m ca i pb sb) (one_more n h) ∙ simp (ne_eqb _ _ e)

pub seat_end : (m : List ℕ) (ca i pb sb n : ℕ) → n ≤ 0 → seat_in m ca i pb sb n ≡ None
unfolding seat_in
seat_end m ca i pb sb n h = let e : n ≡ 0 = omega arith in ap (seat_in m ca i pb sb) e

-- ---- halving

-- the bounds stay in order, inside the ones before, and come nearer
pub record Nearer (low high : ℕ) (b : Bounds) : Type 0 where
  pub from : low ≤ b.low
  pub to : b.high ≤ high
  pub order : b.low ≤ b.high
  pub less : b.high - b.low < high - low

pub nearer : (key : ℕ → ℕ) (x low high : ℕ) → low < high → Nearer low high (narrowed key x low high)
unfolding narrowed
nearer key x low high h = by_test (ltb (key ((low + high) / 2)) x)
  where
    by_test : (b : Bool) → Nearer low high (pick b (record { low = (low + high) / 2 + 1; high = high }) (record { low = low; high = (low + high) / 2 }))
    by_test true = record { from = omega arith; to = omega arith; order = omega arith; less = omega arith }
    by_test false = record { from = omega arith; to = omega arith; order = omega arith; less = omega arith }

-- more turns than places between the bounds change nothing
pub halve_turns : (key : ℕ → ℕ) (x low high f g : ℕ) → high - low ≤ f → high - low ≤ g → halve key x low high f ≡ halve key x low high g
unfolding halve
halve_turns key x low high zero zero a b = refl
halve_turns key x low high zero (suc g) a b = let h : high ≤ low = omega arith in simp (le-ltb _ _ h)
halve_turns key x low high (suc f) zero a b = let h : high ≤ low = omega arith in simp (le-ltb _ _ h)
halve_turns key x low high (suc f) (suc g) a b =
    by_test (ltb low high) refl (λ h. let n = nearer key x low high h in halve_turns key x (narrowed key x low high).low (narrowed key x low high).high f g (let l = n.less in omega arith) (let l = n.less in omega arith))
  where
    by_test : (t : Bool) → ltb low high ≡ t
        → (low < high → halve key x (narrowed key x low high).low (narrowed key x low high).high f ≡ halve key x (narrowed key x low high).low (narrowed key x low high).high g)
        → pick t (halve key x (narrowed key x low high).low (narrowed key x low high).high f) low ≡ pick t (halve key x (narrowed key x low high).low (narrowed key x low high).high g) low
    by_test true e again = again (ltb-true _ _ e)
    by_test false e again = refl

module _ (key : ℕ → ℕ) (x low high n : ℕ) (h : low < high) (k : high - low ≤ n) where
  halve_on : halve key x low high n ≡ halve key x (narrowed key x low high).low (narrowed key x low high).high n
  unfolding halve
  halve_on =
      let l = (nearer key x low high h).less in
      ap (halve key x low high) (one_more n (omega arith))
      ∙ simp (lt-ltb _ _ h) (halve_turns key x (narrowed key x low high).low (narrowed key x low high).high (n - 1) n (omega arith) (omega arith))

  -- The middle number is below x: on with those above it.
  pub halve_up : key ((low + high) / 2) < x → halve key x low high n ≡ halve key x ((low + high) / 2 + 1) high n
  unfolding narrowed
  halve_up e = halve_on ∙ simp (lt-ltb _ _ e)

  -- It is not: on with those before it.
  pub halve_down : x ≤ key ((low + high) / 2) → halve key x low high n ≡ halve key x low ((low + high) / 2) n
  unfolding narrowed
  halve_down e = halve_on ∙ simp (le-ltb _ _ e)

pub halve_end : (key : ℕ → ℕ) (x low high n : ℕ) → high ≤ low → halve key x low high n ≡ low
unfolding halve
halve_end key x low high zero h = refl
halve_end key x low high (suc n) h = simp (le-ltb _ _ h)

-- ---- the answer for index j

module _ (m : List ℕ) (first n ioa j : ℕ) where
  pub missing_end : n ≤ j → Err (first + 48 * j) ≡ spot_at m first n ioa j
  unfolding spot_at ◌&◌
  missing_end h = simp (le-ltb _ _ h)

  pub held_at_lem : j < n → ioa_at m first j ≡ ioa → Ok (first + 48 * j) ≡ spot_at m first n ioa j
  unfolding spot_at ◌&◌
  held_at_lem h e = simp (lt-ltb _ _ h, eq-eqb _ _ e)

  pub missing_at : j < n → (ioa_at m first j ≡ ioa → ⊥) → Err (first + 48 * j) ≡ spot_at m first n ioa j
  unfolding spot_at ◌&◌
  missing_at h e = simp (lt-ltb _ _ h, ne_eqb _ _ e)
