-- What updates leave of the point at every address of a table: `renewed`; and what that keeps, changes and leaves alone. Assumes nothing.
use mathlib.Core.Path.{◌≡◌, refl, sym, ap, ◌∙◌, subst}
use mathlib.Core.List.{List, [], ◌∷◌, ◌++◌}
use mathlib.Core.Bool.{Bool, true, false}
use mathlib.Core.Option.{Option, none, some}
use Prim.Native.Nat.{ℕ}
use native.Mathlib.Omega.{arith}
use lib.Dec.{eqb}
use borrow.Author.Tests.{eqb-true, eqb-false, eq-eqb, ne_eqb}
use Rattle.limits.specs.Test.{◌&◌, pick}
use Rattle.limits.specs.Size.{point_octets}
use Rattle.model.specs.declared.Point.{Point}
use Rattle.model.specs.Request.{element}
use Rattle.table.specs.Table.{Station, Table}
use Rattle.table.specs.Change.{station_of, changed, point_in}
use Rattle.table.proofs.Change.{changed_station, other_station}
use Rattle.report.specs.Packing.{Each}
use Rattle.report.specs.Order.{points_of}
use Rattle.answers.specs.Process.{Update, updated, replace_in, update_of, table_with, table_after, addressed, revalued}
use Rattle.updates.specs.Values.{means, renewed_by, renewed, each}

-- ---- points found after one was replaced

-- another address: as before
other_point : (p : Point) (ioa : ℕ) (ps : List Point) → (p.ioa ≡ ioa → ⊥) → point_in ioa (replace_in p ps) ≡ point_in ioa ps
unfolding point_in replace_in
other_point p ioa [] n = refl
other_point p ioa (x ∷ xs) n = by_test (other_point p ioa xs n) (eqb x.ioa p.ioa) refl
  where
    by_test : point_in ioa (replace_in p xs) ≡ point_in ioa xs → (b : Bool) → eqb x.ioa p.ioa ≡ b
        → point_in ioa (pick b p x ∷ replace_in p xs) ≡ pick (eqb x.ioa ioa) (some x) (point_in ioa xs)
    by_test ih true e =
        let i : x.ioa ≡ p.ioa = eqb-true _ _ e in
        let n' : x.ioa ≡ ioa → ⊥ = λ k. n (sym i ∙ k) in
        simp (ne_eqb _ _ n, ne_eqb _ _ n') ih
    by_test ih false e = ap (λ (r : Option Point). pick (eqb x.ioa ioa) (some x) r) ih

-- its own address: the point that was put there
same_point : (p q : Point) (ps : List Point) → point_in p.ioa ps ≡ some q → point_in p.ioa (replace_in p ps) ≡ some p
unfolding point_in replace_in
same_point p q [] e = let z : ◌≡◌ {A = ℕ} 0 1 = cc in absurd (omega arith)
same_point p q (x ∷ xs) e = by_test (eqb x.ioa p.ioa) refl e (λ f. same_point p q xs f)
  where
    by_test : (b : Bool) → eqb x.ioa p.ioa ≡ b → pick b (some x) (point_in p.ioa xs) ≡ some q
        → (point_in p.ioa xs ≡ some q → point_in p.ioa (replace_in p xs) ≡ some p) → point_in p.ioa (pick b p x ∷ replace_in p xs) ≡ some p
    by_test true t f again = simp (eq-eqb p.ioa p.ioa refl)
    by_test false t f again = simp t (again f)

-- a point found has the address
found_ioa : (ioa : ℕ) (ps : List Point) (q : Point) → point_in ioa ps ≡ some q → q.ioa ≡ ioa
unfolding point_in
found_ioa ioa [] q e = let z : ◌≡◌ {A = ℕ} 0 1 = cc in absurd (omega arith)
found_ioa ioa (x ∷ xs) q e = by_test (eqb x.ioa ioa) refl e (λ f. found_ioa ioa xs q f)
  where
    by_test : (b : Bool) → eqb x.ioa ioa ≡ b → pick b (some x) (point_in ioa xs) ≡ some q → (point_in ioa xs ≡ some q → q.ioa ≡ ioa) → q.ioa ≡ ioa
    by_test true t f again = let s : x ≡ q = cc in ap (λ (y : Point). y.ioa) (sym s) ∙ eqb-true _ _ t
    by_test false t f again = again f

-- ---- one update

-- a station or an address that is not the update's: the point is as it was
kept_by : (u : Update) (ca : ℕ) (p : Point) → means u ca p ≡ false → renewed_by u ca p ≡ p
unfolding renewed_by
kept_by u ca p e = simp e

not_station : (u : Update) (ca : ℕ) (p : Point) → (u.ca ≡ ca → ⊥) → means u ca p ≡ false
unfolding ◌&◌
not_station u ca p n = simp (ne_eqb _ _ n)

and_false : (a b : Bool) → (a & (false & b)) ≡ false
unfolding ◌&◌
and_false true b = refl
and_false false b = refl

not_address : (u : Update) (ca : ℕ) (p : Point) → (p.ioa ≡ u.ioa → ⊥) → means u ca p ≡ false
not_address u ca p n = simp (ne_eqb _ _ n) (and_false (eqb u.ca ca) (eqb p.kind u.kind))

all_kept : (u : Update) (ca : ℕ) (o : Option Point) → ((p : Point) → o ≡ some p → means u ca p ≡ false) → each (renewed_by u ca) o ≡ o
unfolding each
all_kept u ca none n = refl
all_kept u ca (some p) n = ap some (kept_by u ca p (n p refl))

module _ (t : Table) (u : Update) where
  -- its own address
  own_address : addressed (table_with t u (update_of t u)) u.ca u.ioa ≡ each (renewed_by u u.ca) (addressed t u.ca u.ioa)
  unfolding table_with changed updated point_in each renewed_by ◌&◌
  own_address = of_station (station_of u.ca t.stations) refl
    where
      of_kind_lem : (s : Station) → station_of u.ca t.stations ≡ some s → (q : Point) → point_in u.ioa s.points ≡ some q → (b : Bool)
          → addressed (table_with t u (pick b (some (revalued q u.value)) none)) u.ca u.ioa
          ≡ some (pick (eqb u.ca u.ca & eqb q.ioa u.ioa & b) (revalued q u.value) q)
      of_kind_lem s is q f true =
          let i : q.ioa ≡ u.ioa = found_ioa u.ioa s.points q f in
          let p : Point = revalued q u.value in
          let g : point_in q.ioa s.points ≡ some q = ap (λ (x : ℕ). point_in x s.points) i ∙ f in
          let h : point_in u.ioa (replace_in p s.points) ≡ some p = ap (λ (x : ℕ). point_in x (replace_in p s.points)) (sym i) ∙ same_point p q s.points g in
          ap (λ (x : Option Station). point_in u.ioa (points_of x)) (changed_station u.ca (replace_in p) t.stations s is)
          ∙ h
          ∙ simp (eq-eqb u.ca u.ca refl, eq-eqb q.ioa u.ioa i)
      of_kind_lem s is q f false =
          let i : q.ioa ≡ u.ioa = found_ioa u.ioa s.points q f in
          ap (λ (x : Option Station). point_in u.ioa (points_of x)) is ∙ f ∙ simp (eq-eqb u.ca u.ca refl, eq-eqb q.ioa u.ioa i)

      of_point : (s : Station) → station_of u.ca t.stations ≡ some s → (x : Option Point) → point_in u.ioa s.points ≡ x
          → addressed (table_with t u (updated u x)) u.ca u.ioa ≡ each (renewed_by u u.ca) x
      of_point s is none f = ap (λ (x : Option Station). point_in u.ioa (points_of x)) is ∙ f
      of_point s is (some q) f = of_kind_lem s is q f (eqb q.kind u.kind)

      of_station : (x : Option Station) → station_of u.ca t.stations ≡ x
          → addressed (table_with t u (updated u (point_in u.ioa (points_of x)))) u.ca u.ioa ≡ each (renewed_by u u.ca) (point_in u.ioa (points_of x))
      of_station none is = ap (λ (x : Option Station). point_in u.ioa (points_of x)) is
      of_station (some s) is = of_point s is (point_in u.ioa s.points) refl

  -- another address of its station
  other_address : (ioa : ℕ) → (u.ioa ≡ ioa → ⊥) → addressed (table_with t u (update_of t u)) u.ca ioa ≡ addressed t u.ca ioa
  unfolding table_with changed updated point_in
  other_address ioa n = of_station (station_of u.ca t.stations) refl
    where
      of_kind_lem : (s : Station) → station_of u.ca t.stations ≡ some s → (q : Point) → point_in u.ioa s.points ≡ some q → (b : Bool)
          → addressed (table_with t u (pick b (some (revalued q u.value)) none)) u.ca ioa ≡ addressed t u.ca ioa
      of_kind_lem s is q f true =
          let i : q.ioa ≡ u.ioa = found_ioa u.ioa s.points q f in
          let p : Point = revalued q u.value in
          ap (λ (x : Option Station). point_in ioa (points_of x)) (changed_station u.ca (replace_in p) t.stations s is)
          ∙ other_point p ioa s.points (λ k. n (sym i ∙ k))
          ∙ sym (ap (λ (x : Option Station). point_in ioa (points_of x)) is)
      of_kind_lem s is q f false = refl

      of_point : (s : Station) → station_of u.ca t.stations ≡ some s → (x : Option Point) → point_in u.ioa s.points ≡ x
          → addressed (table_with t u (updated u x)) u.ca ioa ≡ addressed t u.ca ioa
      of_point s is none f = refl
      of_point s is (some q) f = of_kind_lem s is q f (eqb q.kind u.kind)

      of_station : (x : Option Station) → station_of u.ca t.stations ≡ x
          → addressed (table_with t u (updated u (point_in u.ioa (points_of x)))) u.ca ioa ≡ addressed t u.ca ioa
      of_station none is = refl
      of_station (some s) is = of_point s is (point_in u.ioa s.points) refl

  -- another station
  other_ca : (ca ioa : ℕ) → (u.ca ≡ ca → ⊥) → addressed (table_with t u (update_of t u)) ca ioa ≡ addressed t ca ioa
  unfolding table_with changed
  other_ca ca ioa n = of_update (update_of t u)
    where
      of_update : (o : Option Point) → addressed (table_with t u o) ca ioa ≡ addressed t ca ioa
      of_update none = refl
      of_update (some p) = ap (λ (x : Option Station). point_in ioa (points_of x)) (other_station u.ca ca (replace_in p) t.stations n)

  -- ONE UPDATE leaves at every address the point after it.
  pub update_point : (ca ioa : ℕ) → addressed (table_with t u (update_of t u)) ca ioa ≡ each (renewed_by u ca) (addressed t ca ioa)
  update_point ca ioa = by_station (eqb u.ca ca) refl
    where
      by_address_lem : (b : Bool) → eqb u.ioa ioa ≡ b → addressed (table_with t u (update_of t u)) u.ca ioa ≡ each (renewed_by u u.ca) (addressed t u.ca ioa)
      by_address_lem true e =
          subst (λ (x : ℕ). addressed (table_with t u (update_of t u)) u.ca x ≡ each (renewed_by u u.ca) (addressed t u.ca x)) (eqb-true _ _ e) own_address
      by_address_lem false e =
          other_address ioa (eqb-false _ _ e)
          ∙ sym (all_kept u u.ca (addressed t u.ca ioa)
          (λ p f. not_address u u.ca p (λ k. eqb-false _ _ e (sym k ∙ found_ioa ioa (points_of (station_of u.ca t.stations)) p f))))

      by_station : (b : Bool) → eqb u.ca ca ≡ b → addressed (table_with t u (update_of t u)) ca ioa ≡ each (renewed_by u ca) (addressed t ca ioa)
      by_station true e =
          subst (λ (x : ℕ). addressed (table_with t u (update_of t u)) x ioa ≡ each (renewed_by u x) (addressed t x ioa)) (eqb-true _ _ e)
          (by_address_lem (eqb u.ioa ioa) refl)
      by_station false e = other_ca ca ioa (eqb-false _ _ e) ∙ sym (all_kept u ca (addressed t ca ioa) (λ p f. not_station u ca p (eqb-false _ _ e)))

-- ---- all updates

each_each : (f g : Point → Point) (o : Option Point) → each f (each g o) ≡ each (λ p. f (g p)) o
unfolding each
each_each f g none = refl
each_each f g (some p) = refl

each_same : (o : Option Point) (ca : ℕ) → o ≡ each (renewed [] ca) o
unfolding each renewed
each_same none ca = refl
each_same (some p) ca = refl

-- UPDATES leave at every address the point that was there, renewed by those that mean it; where there was none there is none.
pub updates_points : (t : Table) (us : List Update) (ca ioa : ℕ) → addressed (table_after t us) ca ioa ≡ each (renewed us ca) (addressed t ca ioa)
unfolding table_after renewed
updates_points t [] ca ioa = each_same (addressed t ca ioa) ca
updates_points t (u ∷ us) ca ioa =
    updates_points (table_with t u (update_of t u)) us ca ioa
    ∙ ap (each (renewed us ca)) (update_point t u ca ioa)
    ∙ each_each (renewed us ca) (renewed_by u ca) (addressed t ca ioa)

-- ---- what a renewed point keeps

-- Type, address and groups.
pub record Kept (p q : Point) : Type 0 where
  pub kind : q.kind ≡ p.kind
  pub ioa : q.ioa ≡ p.ioa
  pub group : q.group ≡ p.group
  pub counter : q.counter ≡ p.counter

pub one_keeps : (u : Update) (ca : ℕ) (p : Point) → Kept p (renewed_by u ca p)
unfolding renewed_by
one_keeps u ca p = by_test (means u ca p)
  where
    by_test : (b : Bool) → Kept p (pick b (revalued p u.value) p)
    by_test true = record { kind = refl; ioa = refl; group = refl; counter = refl }
    by_test false = record { kind = refl; ioa = refl; group = refl; counter = refl }

pub renewed_keeps : (us : List Update) (ca : ℕ) (p : Point) → Kept p (renewed us ca p)
unfolding renewed
renewed_keeps [] ca p = record { kind = refl; ioa = refl; group = refl; counter = refl }
renewed_keeps (u ∷ us) ca p =
    let a = one_keeps u ca p in
    let b = renewed_keeps us ca (renewed_by u ca p) in
    record { kind = b.kind ∙ a.kind; ioa = b.ioa ∙ a.ioa; group = b.group ∙ a.group; counter = b.counter ∙ a.counter }

-- A point that no update means is as it was.
pub unmeant_same : (us : List Update) (ca : ℕ) (p : Point) → Each (λ u. means u ca p ≡ false) us → renewed us ca p ≡ p
unfolding renewed Each
unmeant_same [] ca p n = refl
unmeant_same (u ∷ us) ca p n = ap (renewed us ca) (kept_by u ca p n.0) ∙ unmeant_same us ca p n.1

-- which updates mean a point goes by its address and type
means_kept : (u : Update) (ca : ℕ) (p q : Point) → Kept p q → means u ca q ≡ means u ca p
means_kept u ca p q k = λ j. eqb u.ca ca & eqb (k.ioa j) u.ioa & eqb (k.kind j) u.kind

each_kept : (us : List Update) (ca : ℕ) (p q : Point) → Kept p q → Each (λ u. means u ca p ≡ false) us → Each (λ u. means u ca q ≡ false) us
unfolding Each
each_kept [] ca p q k n = tt
each_kept (u ∷ us) ca p q k n = (means_kept u ca p q k ∙ n.0, each_kept us ca p q k n.1)

-- The last update that means a point gives it its value.
pub last_value : (us : List Update) (u : Update) (vs : List Update) (ca : ℕ) (p : Point) → means u ca p ≡ true → Each (λ v. means v ca p ≡ false) vs
    → (renewed (us ++ (u ∷ vs)) ca p).value ≡ element (point_octets p.kind) u.value
unfolding renewed renewed_by
last_value [] u vs ca p m n =
    let q : Point = revalued p u.value in
    let e : renewed_by u ca p ≡ q = simp m in
    ap (λ (x : Point). (renewed vs ca x).value) e
    ∙ ap (λ (x : Point). x.value) (unmeant_same vs ca q (each_kept vs ca p q (record { kind = refl; ioa = refl; group = refl; counter = refl }) n))
last_value (x ∷ us) u vs ca p m n =
    let k = one_keeps x ca p in
    last_value us u vs ca (renewed_by x ca p) (means_kept u ca p (renewed_by x ca p) k ∙ m) (each_kept vs ca p (renewed_by x ca p) k n)
    ∙ ap (λ (y : ℕ). element (point_octets y) u.value) k.kind
