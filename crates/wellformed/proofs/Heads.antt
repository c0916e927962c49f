-- A head that lacks one of its facts does not pass the test, and one that has them all has room for its table. Assumes nothing.
use mathlib.Core.Path.{◌≡◌, refl, sym, ◌∙◌}
use mathlib.Core.List.{List}
use mathlib.Core.Bool.{Bool, true, false}
use Prim.Native.Nat.{ℕ, ◌≤◌, ◌<◌}
use native.Mathlib.Omega.{arith}
use lib.ListN.{length}
use borrow.Author.Tests.{le-leb}
use Rattle.limits.specs.Test.{◌&◌}
use Rattle.limits.proofs.Outcomes.{not_both}
use Rattle.octets.specs.Number.{zeros}
use Rattle.layout.specs.Layout.{head_size, most_places, most_stations, spare_offset, spare_size, capacity_in, stations_in, size_in}
use Rattle.table.specs.Memory.{mark_at, settings_at, head_at}
use Rattle.table.proofs.Parse.{Head, head_is}

module _ (m : List ℕ) where
  no_head : (Head m → ⊥) → head_at m ≡ false
  no_head f = by_test (head_at m) refl
    where
      by_test : (b : Bool) → head_at m ≡ b → b ≡ false
      by_test true e = absurd (f (head_is m e))
      by_test false e = refl

  pub short : length m < head_size → head_at m ≡ false
  short h = no_head (λ w. omega arith)

  pub no_mark : mark_at m ≡ false → head_at m ≡ false
  no_mark h = no_head (λ w. not_both (sym h ∙ w.mark))

  pub no_capacity : capacity_in m < 1 → head_at m ≡ false
  no_capacity h = no_head (λ w. omega arith)

  pub much_capacity : most_places < capacity_in m → head_at m ≡ false
  much_capacity h = no_head (λ w. omega arith)

  pub no_station : stations_in m < 1 → head_at m ≡ false
  no_station h = no_head (λ w. omega arith)

  pub many_stations : most_stations < stations_in m → head_at m ≡ false
  many_stations h = no_head (λ w. omega arith)

  pub no_room : length m < size_in m → head_at m ≡ false
  no_room h = no_head (λ w. omega arith)

  pub no_settings : settings_at m ≡ false → head_at m ≡ false
  no_settings h = no_head (λ w. not_both (sym h ∙ w.settings))

  -- past all of these the spare octets decide
  pub spare_test : head_size ≤ length m → mark_at m ≡ true → 1 ≤ capacity_in m → capacity_in m ≤ most_places → 1 ≤ stations_in m
      → stations_in m ≤ most_stations → size_in m ≤ length m → settings_at m ≡ true → head_at m ≡ zeros m spare_offset spare_size
  unfolding head_at ◌&◌
  spare_test a b c d e f g h = simp (le-leb _ _ a, b, le-leb _ _ c, le-leb _ _ d, le-leb _ _ e, le-leb _ _ f, le-leb _ _ g, h)

  -- a good head has room for what it counts
  module _ (h : head_at m ≡ true) where
    pub head_long : head_size ≤ length m
    head_long = (head_is m h).long

    pub head_room : size_in m ≤ length m
    head_room = (head_is m h).room

    pub head_few : stations_in m ≤ most_stations
    head_few = (head_is m h).s_high
