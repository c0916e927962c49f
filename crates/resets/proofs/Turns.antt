-- The turns of the loop over the places, and what one place's reset leaves. Assumes nothing.
use mathlib.Core.Path.{◌≡◌, refl, ap, ◌∙◌}
use mathlib.Core.List.{List}
use mathlib.Core.Bool.{Bool, true, false}
use Prim.Native.Nat.{ℕ, zero, suc, ◌+◌, ◌*◌, ◌-◌, ◌≤◌, ◌<◌}
use native.Mathlib.Omega.{arith}
use lib.ListN.{length, get_or, replicate}
use Rattle.limits.specs.Test.{◌&◌, pick}
use Rattle.octets.specs.Over.{over}
use Rattle.octets.proofs.Laws.{length_over}
use Rattle.model.specs.Place.{is_counter, point_at}
use Rattle.report.specs.declared.Selection.{Selection}
use Rattle.report.specs.Selection.{selects}
use Rattle.resets.specs.Resets.{takes_at, reset_place, reset_places}

module _ (sel : Selection) (m : List ℕ) (at : ℕ) where
  -- what is no counter is not taken
  pub not_taken : is_counter (get_or m at 0) ≡ false → takes_at sel m at ≡ false
  unfolding takes_at ◌&◌
  not_taken e = simp e

  -- of a counter the selection says
  pub is_taken : is_counter (get_or m at 0) ≡ true → takes_at sel m at ≡ selects sel (point_at m at)
  unfolding takes_at ◌&◌
  is_taken e = simp e

  pub place_reset : takes_at sel m at ≡ true → over m (at + 10) (replicate 4 0) ≡ reset_place sel m at
  unfolding reset_place
  place_reset e = rw e

  pub place_kept : takes_at sel m at ≡ false → m ≡ reset_place sel m at
  unfolding reset_place
  place_kept e = rw e

  pub length_place : at + 48 ≤ length m → length (reset_place sel m at) ≡ length m
  unfolding reset_place
  length_place h = go (takes_at sel m at)
    where
      go : (b : Bool) → length (pick b (over m (at + 10) (replicate 4 0)) m) ≡ length m
      go true = length_over m (replicate 4 0) (at + 10) (omega arith)
      go false = refl

pub reset_on : (sel : Selection) (m : List ℕ) (at n i : ℕ) → i < n
    → reset_places sel m (at + 48 * i) (n - i) ≡ reset_places sel (reset_place sel m (at + 48 * i)) (at + 48 * (i + 1)) (n - (i + 1))
unfolding reset_places
reset_on sel m at n i h =
    let e : n - i ≡ suc (n - (i + 1)) = omega arith in
    let f : at + 48 * i + 48 ≡ at + 48 * (i + 1) = omega arith in
    ap (reset_places sel m (at + 48 * i)) e ∙ ap (λ (x : ℕ). reset_places sel (reset_place sel m (at + 48 * i)) x (n - (i + 1))) f

pub reset_end : (sel : Selection) (m : List ℕ) (at n : ℕ) → n ≤ 0 → reset_places sel m at n ≡ m
unfolding reset_places
reset_end sel m at n h = let e : n ≡ zero = omega arith in ap (reset_places sel m at) e

-- Some places, and then the places after them.
pub reset_then : (sel : Selection) (m : List ℕ) (at n k : ℕ) → reset_places sel m at (n + k) ≡ reset_places sel (reset_places sel m at n) (at + 48 * n) k
unfolding reset_places
reset_then sel m at zero k =
    let e : zero + k ≡ k = omega arith in
    let f : at + 48 * zero ≡ at = omega arith in
    rw (e, f)
reset_then sel m at (suc n) k =
    let e : suc n + k ≡ suc (n + k) = omega arith in
    let f : at + 48 + 48 * n ≡ at + 48 * suc n = omega arith in
    ap (reset_places sel m at) e
    ∙ reset_then sel (reset_place sel m at) (at + 48) n k
    ∙ ap (λ (x : ℕ). reset_places sel (reset_places sel (reset_place sel m at) (at + 48) n) x k) f
