-- The shares that the code reads are the shares of the table that the memory holds: no condition. Assumes nothing.
use mathlib.Core.Path.{◌≡◌, sym, ap, ◌∙◌}
use mathlib.Core.List.{List, [], ◌∷◌, ◌++◌, map}
use Prim.Native.Nat.{ℕ, zero, suc, ◌+◌, ◌*◌, ◌-◌}
use native.Mathlib.Omega.{arith}
use lib.ListN.{length}
use Rattle.limits.specs.Test.{total}
use Rattle.limits.specs.Share.{held_of, unmet_of, admission_of, admission_in}
use Rattle.octets.specs.Number.{two}
use Rattle.table.specs.Table.{Station, share_of}
use Rattle.layout.specs.Layout.{held_at}
use Rattle.table.specs.Memory.{points_at, stations_at, table_of, sum_at, unmet_at}
use Rattle.table.proofs.Points.{length_points_at}
use Rattle.table.proofs.Stations.{sum_held, sum_unmet}
use Rattle.table.proofs.Shares.{total_held, total_unmet}
use Rattle.table.proofs.Change.{Found}
use Rattle.wellformed.specs.Station.{share_at}

share_split : (m : List ℕ) (pb sb n : ℕ) (before : List Station) (s : Station) (after : List Station) → stations_at m pb sb n ≡ before ++ (s ∷ after)
    → share_at m (sb + 8 * length before) ≡ share_of s
unfolding stations_at
share_split m pb sb zero [] s after e = let z : ◌≡◌ {A = ℕ} 0 1 = cc in absurd (omega arith)
share_split m pb sb zero (x ∷ before) s after e = let z : ◌≡◌ {A = ℕ} 0 1 = cc in absurd (omega arith)
share_split m pb sb (suc n) [] s after e =
    let z : sb + 8 * 0 ≡ sb = omega arith in
    let h : two m (sb + 6) ≡ length (points_at m pb (two m (sb + 6))) = sym (length_points_at m pb (two m (sb + 6))) in
    let here : Station = record { ca = two m sb; reservation = two m (sb + 2); ceiling = two m (sb + 4); points = points_at m pb (two m (sb + 6)) } in
    let q : here ≡ s = cc in
    ap (share_at m) z ∙ (λ j. record { held = h j; reservation = two m (sb + 2); ceiling = two m (sb + 4) }) ∙ ap share_of q
share_split m pb sb (suc n) (x ∷ before) s after e =
    let z : sb + 8 * suc (length before) ≡ sb + 8 + 8 * length before = omega arith in
    let q : stations_at m (pb + 48 * two m (sb + 6)) (sb + 8) n ≡ before ++ (s ∷ after) = cc in
    ap (share_at m) z ∙ share_split m (pb + 48 * two m (sb + 6)) (sb + 8) n before s after q

-- The share read at a station's index is the station's.
pub share_law : (m : List ℕ) (ca : ℕ) (s : Station) (w : Found ca (table_of m).stations s) → share_at m (64 + 48 * two m 4 + 8 * length w.before) ≡ share_of s
unfolding table_of
share_law m ca s w = share_split m 64 (64 + 48 * two m 4) (two m 6) w.before s w.after w.split

-- The sums read are the sums of the table's shares.
pub sums_law : (m : List ℕ) → (sum_at held_at m (64 + 48 * two m 4) (two m 6) ≡ total held_of (map share_of (table_of m).stations))
    × (sum_at unmet_at m (64 + 48 * two m 4) (two m 6) ≡ total unmet_of (map share_of (table_of m).stations))
unfolding table_of
sums_law m = (
  sym (total_held (stations_at m 64 (64 + 48 * two m 4) (two m 6)) ∙ sum_held m 64 (64 + 48 * two m 4) (two m 6)),
  sym (total_unmet (stations_at m 64 (64 + 48 * two m 4) (two m 6)) ∙ sum_unmet m 64 (64 + 48 * two m 4) (two m 6)),
)

-- The share rule asked with what was read is the share rule asked of the table.
pub admission_law : (m : List ℕ) (ca : ℕ) (s : Station) (w : Found ca (table_of m).stations s)
    → admission_of (share_at m (64 + 48 * two m 4 + 8 * length w.before)) (two m 4 - sum_at held_at m (64 + 48 * two m 4) (two m 6)) (sum_at unmet_at m (64 + 48 * two m 4) (two m 6))
    ≡ admission_in (table_of m).capacity (map share_of (table_of m).stations) (share_of s)
unfolding table_of
admission_law m ca s w =
    let u = sums_law m in
    let share = share_law m ca s w in
    λ j. admission_of (share j) (two m 4 - u.0 j) (u.1 j)
