-- What updates tell is known before the first is stored: neither type nor address of a point changes by an update, so that which updates apply
-- and how many octets they tell depend on the table at entry alone. Assumes nothing.
use mathlib.Core.Path.{◌≡◌, refl, sym, ap, ap₂, ◌∙◌}
use mathlib.Core.List.{List, [], ◌∷◌}
use mathlib.Core.Bool.{Bool, true, false}
use mathlib.Core.Option.{Option, none, some}
use Prim.Native.Nat.{ℕ, ◌+◌}
use lib.ListN.{length, length-append}
use lib.Dec.{eqb}
use Rattle.limits.specs.Test.{pick, total}
use Rattle.limits.specs.Size.{point_octets}
use Rattle.model.specs.declared.Point.{Point}
use Rattle.table.specs.Table.{Table}
use Rattle.asdu.specs.Header.{wire}
use Rattle.asdu.proofs.Laws.{wire_none, wire_append}
use Rattle.answers.specs.Said.{size}
use Rattle.answers.specs.Process.{Update, updated, update_of, table_with, told_of, told_by, addressed, revalued}
use Rattle.answers.proofs.Quiet.{AllWhole}
use Rattle.updates.specs.Values.{renewed_by, each}
use Rattle.updates.proofs.Values.{one_keeps, update_point}
use Rattle.updates.proofs.Told.{length_told}

-- The octets that updates tell, each of them asked of one table.
unfoldable pub octets_told : Table → List Update → ℕ
octets_told t us = total (λ u. size (told_of u (update_of t u))) us

-- ---- the type at an address stays

type_of : Option Point → Option ℕ
type_of none = none
type_of (some p) = some p.kind

type_stays : (u : Update) (ca : ℕ) (o : Option Point) → type_of (each (renewed_by u ca) o) ≡ type_of o
unfolding type_of each
type_stays u ca none = refl
type_stays u ca (some p) = ap some (one_keeps u ca p).kind

-- ---- the octets that an update tells go by the type alone

size_by : Update → Option ℕ → ℕ
size_by u none = 0
size_by u (some kind) = pick (eqb kind u.kind) (9 + point_octets kind) 0

size_by_lem : (u : Update) (o : Option Point) → length u.value ≡ 12 → size (told_of u (updated u o)) ≡ size_by u (type_of o)
unfolding updated told_of type_of size_by
size_by_lem u none l = ap length wire_none
size_by_lem u (some q) l = by_test (eqb q.kind u.kind)
  where
    by_test : (b : Bool) → size (told_of u (pick b (some (revalued q u.value)) none)) ≡ pick b (9 + point_octets q.kind) 0
    by_test true = length_told u q l
    by_test false = ap length wire_none

size_stays : (t : Table) (u v : Update) → length v.value ≡ 12
    → size (told_of v (update_of (table_with t u (update_of t u)) v)) ≡ size (told_of v (update_of t v))
size_stays t u v l =
    size_by_lem v (addressed (table_with t u (update_of t u)) v.ca v.ioa) l
    ∙ ap (λ (o : Option Point). size_by v (type_of o)) (update_point t u v.ca v.ioa)
    ∙ ap (size_by v) (type_stays u v.ca (addressed t v.ca v.ioa))
    ∙ sym (size_by_lem v (addressed t v.ca v.ioa) l)

sizes_stay : (t : Table) (u : Update) (us : List Update) → AllWhole us → octets_told (table_with t u (update_of t u)) us ≡ octets_told t us
unfolding octets_told total AllWhole
sizes_stay t u [] w = refl
sizes_stay t u (v ∷ vs) w = ap₂ (λ (x y : ℕ). x + y) (size_stays t u v w.0) (sizes_stay t u vs w.1)

-- WHAT UPDATES TELL has as many octets as they tell, one by one, of the table at entry.
pub length_told_by : (t : Table) (us : List Update) → AllWhole us → size (told_by t us) ≡ octets_told t us
unfolding told_by octets_told total AllWhole
length_told_by t [] w = ap length wire_none
length_told_by t (u ∷ us) w =
    ap length (wire_append (told_of u (update_of t u)) (told_by (table_with t u (update_of t u)) us))
    ∙ length-append (wire (told_of u (update_of t u))) (wire (told_by (table_with t u (update_of t u)) us))
    ∙ ap (λ (n : ℕ). size (told_of u (update_of t u)) + n) (length_told_by (table_with t u (update_of t u)) us w.1 ∙ sizes_stay t u us w.1)
