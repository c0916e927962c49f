-- The settings in the head: what is tested is printed, and what is printed is read back; and the bounds of what a good table's settings say.
-- A new setting changes this file and nothing else among the table's laws. Assumes nothing.
use mathlib.Core.Path.{◌≡◌, refl}
use mathlib.Core.List.{List}
use mathlib.Core.Bool.{true}
use Prim.Native.Nat.{ℕ, ◌+◌, ◌≤◌}
use native.Mathlib.Omega.{arith}
use lib.ListN.{length}
use Rattle.limits.specs.Size.{standard_limit}
use Rattle.octets.specs.Number.{Octets}
use Rattle.octets.proofs.At.{At, zeros_are, are_zeros}
use Rattle.layout.specs.Layout.{settings_offset, settings_size}
use Rattle.table.specs.Table.{Settings, Table, settings_ok, settings_octets, good}
use Rattle.table.specs.Memory.{settings_in, settings_at}
use Rattle.table.specs.Settings.{limit_of}

-- Octets that pass the test are those of the settings read from them, which are within their ranges.
pub settings_sound : (m : List ℕ) → Octets m → settings_offset + settings_size ≤ length m → settings_at m ≡ true
    → At m settings_offset (settings_octets (settings_in m)) × (settings_ok (settings_in m) ≡ true)
unfolding settings_at
settings_sound m o h t = (zeros_are m settings_offset settings_size h t, refl)

-- The octets of settings within their ranges pass the test and are read back as these settings.
pub settings_complete : (m : List ℕ) (c : Settings) → At m settings_offset (settings_octets c) → settings_ok c ≡ true
    → (settings_at m ≡ true) × (settings_in m ≡ c)
unfolding settings_at
settings_complete m c a k = (are_zeros m settings_offset settings_size a, refl)

-- The length limit is never below 25, so that one object of every point type fits.
pub limit_least : (t : Table) → good t ≡ true → 25 ≤ limit_of t
unfolding limit_of
limit_least t g = omega arith

-- And never above the standard's.
pub limit_most : (t : Table) → good t ≡ true → limit_of t ≤ standard_limit
unfolding limit_of
limit_most t g = omega arith
