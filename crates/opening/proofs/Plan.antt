-- A plan read three numbers at a time: how many stations it has, its next station, and the turns of the loops over it. Assumes nothing.
use mathlib.Core.Path.{◌≡◌, refl, sym, ap, ◌∙◌, subst}
use mathlib.Core.List.{List, [], ◌∷◌, ◌++◌}
use mathlib.Core.Bool.{true, false}
use Prim.Native.Nat.{ℕ, suc, ◌+◌, ◌*◌, ◌-◌, ◌/◌, ◌≤◌, ◌<◌}
use native.Mathlib.Omega.{arith}
use lib.ListN.{length, drop, get_or, length-drop}
use lib.Seq.{drop-cons}
use borrow.Author.Tests.{leb-true}
use Rattle.limits.specs.Test.{◌&◌, total}
use Rattle.limits.proofs.Tests.{both}
use Rattle.table.specs.Table.{Station, numbers_ok, plan_ok, reserved, eight, entries}
use Rattle.registry.specs.Opening.{planned, valid_plan}
use Rattle.octets.specs.Over.{over}
use Rattle.octets.proofs.Log.{Log, log_step, log_end}

-- A plan has a third as many stations as numbers.
pub length_planned : (plan : List ℕ) → length (planned plan) ≡ length plan / 3
unfolding planned
length_planned [] = omega arith
length_planned (a ∷ []) = omega arith
length_planned (a ∷ (b ∷ [])) = omega arith
length_planned (a ∷ (b ∷ (c ∷ rest))) = let ih = length_planned rest in omega arith

-- A valid plan keeps to the bounds on K and on stations.
pub valid_bounds : (k : ℕ) (ss : List Station) → valid_plan k ss ≡ true → (k ≤ 4096) × (length ss ≤ 64)
unfolding valid_plan
valid_bounds k ss t =
    let t1 = both _ _ t in
    let t2 = both _ _ t1.1 in
    let t3 = both _ _ t2.1 in
    let t4 = both _ _ t3.1 in
    (leb-true _ _ t2.0, leb-true _ _ t4.0)

-- a station of three numbers, with no points
abbrev pub station_of : ℕ → ℕ → ℕ → Station
station_of ca r c = record { ca = ca; reservation = r; ceiling = c; points = [] }

-- fewer than three numbers are no station
part_left : (plan : List ℕ) → length plan < 3 → planned plan ≡ []
unfolding planned
part_left [] h = refl
part_left (a ∷ []) h = refl
part_left (a ∷ (b ∷ [])) h = refl
part_left (a ∷ (b ∷ (c ∷ rest))) h = absurd (omega arith)

-- The station of index i and the others, as the loops over the plan take them.
module _ (plan : List ℕ) (i : ℕ) where
  abbrev at : ℕ
  at = 3 * i

  abbrev ca : ℕ
  ca = get_or plan at 0

  abbrev r : ℕ
  r = get_or plan (at + 1) 0

  abbrev c : ℕ
  c = get_or plan (at + 2) 0

  abbrev rest : List Station
  rest = planned (drop (3 * (i + 1)) plan)

  -- the next station, and the others
  planned_on : at + 3 ≤ length plan → planned (drop at plan) ≡ station_of ca r c ∷ rest
  unfolding planned
  planned_on h =
      let n1 : suc at ≡ at + 1 = omega arith in
      let n2 : suc (at + 1) ≡ at + 2 = omega arith in
      let n3 : suc (at + 2) ≡ 3 * (i + 1) = omega arith in
      let e0 : drop at plan ≡ ca ∷ drop (at + 1) plan = drop-cons plan at 0 (omega arith) ∙ ap (λ (k : ℕ). ca ∷ drop k plan) n1 in
      let e1 : drop (at + 1) plan ≡ r ∷ drop (at + 2) plan = drop-cons plan (at + 1) 0 (omega arith) ∙ ap (λ (k : ℕ). r ∷ drop k plan) n2 in
      let e2 : drop (at + 2) plan ≡ c ∷ drop (3 * (i + 1)) plan = drop-cons plan (at + 2) 0 (omega arith) ∙ ap (λ (k : ℕ). c ∷ drop k plan) n3 in
      ap planned (e0 ∙ ap (λ (l : List ℕ). ca ∷ l) e1 ∙ ap (λ (l : List ℕ). ca ∷ (r ∷ l)) e2)

  pub plan_on : (k low : ℕ) → at + 3 ≤ length plan → numbers_ok k low ca r c 0 ≡ true → plan_ok k low (planned (drop at plan)) ≡ plan_ok k (ca + 1) rest
  unfolding plan_ok ◌&◌
  plan_on k low h e = ap (plan_ok k low) (planned_on h) ∙ simp e

  pub plan_off : (k low : ℕ) → at + 3 ≤ length plan → numbers_ok k low ca r c 0 ≡ false → plan_ok k low (planned (drop at plan)) ≡ false
  unfolding plan_ok ◌&◌
  plan_off k low h e = ap (plan_ok k low) (planned_on h) ∙ simp e

  pub reserved_on : at + 3 ≤ length plan → total reserved (planned (drop at plan)) ≡ r + total reserved rest
  unfolding total
  reserved_on h = ap (total reserved) (planned_on h)

  entries_on : at + 3 ≤ length plan → entries (planned (drop at plan)) ≡ eight ca r c 0 ++ entries rest
  unfolding entries
  entries_on h = ap entries (planned_on h)

  -- no whole station is left
  planned_end : length plan / 3 ≤ i → planned (drop at plan) ≡ []
  planned_end h =
      let e : length (drop at plan) ≡ length plan - at = length-drop at plan in
      part_left (drop at plan) (omega arith)

  pub plan_end : (k low : ℕ) → length plan / 3 ≤ i → plan_ok k low (planned (drop at plan)) ≡ true
  unfolding plan_ok
  plan_end k low h = ap (plan_ok k low) (planned_end h)

  pub reserved_end : length plan / 3 ≤ i → total reserved (planned (drop at plan)) ≡ 0
  unfolding total
  reserved_end h = ap (total reserved) (planned_end h)

  entries_end : length plan / 3 ≤ i → entries (planned (drop at plan)) ≡ []
  unfolding entries
  entries_end h = ap entries (planned_end h)

  -- a turn of the writer: the next station's eight octets are written
  pub put_on : (m₀ whole m m' : List ℕ) (start : ℕ) → at + 3 ≤ length plan → start + 8 * i + 8 ≤ length m
      → Log m₀ start whole m (start + 8 * i) (entries (planned (drop at plan))) → m' ≡ over m (start + 8 * i) (eight ca r c 0)
      → Log m₀ start whole m' (start + 8 * (i + 1)) (entries rest)
  put_on m₀ whole m m' start h k l e =
      let o : ℕ = start + 8 * i in
      let n : o + 8 ≡ start + 8 * (i + 1) = omega arith in
      subst (λ (x : ℕ). Log m₀ start whole m' x (entries rest)) n
      (subst (λ (x : List ℕ). Log m₀ start whole x (o + 8) (entries rest)) (sym e)
      (log_step m₀ whole m (eight ca r c 0) (entries rest) start o (subst (λ (x : List ℕ). Log m₀ start whole m o x) (entries_on h) l) k))

  -- at the end the entries of the whole plan are written
  pub put_end : (m₀ whole m : List ℕ) (start : ℕ) → length plan / 3 ≤ i → Log m₀ start whole m (start + 8 * i) (entries (planned (drop at plan))) → start ≤ length m₀
      → m ≡ over m₀ start whole
  put_end m₀ whole m start h l s = (log_end m₀ whole m start (start + 8 * i) (subst (λ (x : List ℕ). Log m₀ start whole m (start + 8 * i) x) (entries_end h) l) s).1
