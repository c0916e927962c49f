-- What the stations hold at a turn of a batch: the octets of the table with what each took in, station by station. Assumes nothing.
use Rattle.std.specs.Prelude.{None}
use mathlib.Core.Path.{◌≡◌, refl, sym, ap, ◌∙◌, subst}
use mathlib.Core.List.{List, [], ◌∷◌, map}
use mathlib.Core.Bool.{Bool, true, false}
use mathlib.Core.Option.{none, some}
use Prim.Native.Nat.{ℕ, zero, suc, ◌+◌, ◌*◌, ◌≤◌, ◌<◌}
use native.Mathlib.Omega.{arith}
use lib.ListN.{length, get_or, set}
use lib.Seq.{get_or-set_same, get_or-set_other}
use lib.Dec.{eqb}
use borrow.Author.Tests.{eqb-true, eqb-false, eq-eqb, ne_eqb}
use Rattle.limits.specs.Test.{pick}
use Rattle.octets.specs.Number.{two}
use Rattle.model.specs.declared.Point.{Point}
use Rattle.table.specs.Table.{Station, share_of}
use Rattle.table.specs.Memory.{points_at, stations_at}
use Rattle.table.specs.Change.{station_of, in_station, with_points}
use Rattle.table.proofs.Points.{length_points_at}
use Rattle.lookup.specs.Seats.{here, seat_in}
use Rattle.lookup.proofs.Laws.{same_numbers}
use Rattle.registry.specs.History.{Holding, holding_of}
use Rattle.batch_room.specs.Room.{share_with}

-- one station's line: what it holds is what the table says and what it took in
abbrev pub line_with : List ℕ → ℕ → ℕ → Holding
line_with m sb taken = record { ca = two m sb; reservation = two m (sb + 2); ceiling = two m (sb + 4); held = two m (sb + 6) + taken }

-- the lines of n stations from `sb`, the first of which has index i
unfoldable pub lines_at : List ℕ → List ℕ → ℕ → ℕ → ℕ → List Holding
lines_at m taken i sb zero = []
lines_at m taken i sb (suc n) = line_with m sb (get_or taken i 0) ∷ lines_at m taken (i + 1) (sb + 8) n

-- Where nothing was taken in they are the table's own.
pub lines_start : (m taken : List ℕ) (i pb sb n : ℕ) → ((j : ℕ) → get_or taken j 0 ≡ 0) → map holding_of (stations_at m pb sb n) ≡ lines_at m taken i sb n
unfolding lines_at stations_at
lines_start m taken i pb sb zero z = refl
lines_start m taken i pb sb (suc n) z =
    let a : length (points_at m pb (two m (sb + 6))) ≡ two m (sb + 6) = length_points_at m pb (two m (sb + 6)) in
    let b : get_or taken i 0 ≡ 0 = z i in
    let h : length (points_at m pb (two m (sb + 6))) ≡ two m (sb + 6) + get_or taken i 0 = omega arith in
    let ih = lines_start m taken (i + 1) (pb + 48 * two m (sb + 6)) (sb + 8) n z in
    λ j. record { ca = two m sb; reservation = two m (sb + 2); ceiling = two m (sb + 4); held = h j } ∷ ih j

-- a station before them took one in
lines_past : (m taken : List ℕ) (j v i sb n : ℕ) → j < i → lines_at m (set taken j v) i sb n ≡ lines_at m taken i sb n
unfolding lines_at
lines_past m taken j v i sb zero h = refl
lines_past m taken j v i sb (suc n) h =
    let d : i ≡ j → ⊥ = omega arith in
    let e : get_or (set taken j v) i 0 ≡ get_or taken i 0 = get_or-set_other taken j i v 0 d in
    let ih = lines_past m taken j v (i + 1) (sb + 8) n (omega arith) in
    λ x. line_with m sb (e x) ∷ ih x

-- What a seat says of stations that hold what the lines say.
pub record Asked (m taken : List ℕ) (base ca j i sb n : ℕ) (ss : List Station) : Type 0 where
  pub s : Station
  pub is_station : station_of ca ss ≡ some s
  pub share : share_of s ≡ share_with m (base + 8 * j) (get_or taken j 0)
  pub inside : (i ≤ j) × (j < i + n)
  pub one_more : (f : List Point → List Point) → length (f s.points) ≡ length s.points + 1 → j < length taken
      → map holding_of (in_station ca (with_points f) ss) ≡ lines_at m (set taken j (get_or taken j 0 + 1)) i sb n

-- the lines of a station and of those after it
lines_cons : (m taken : List ℕ) (i sb n : ℕ) (s : Station) (ss : List Station) → map holding_of (s ∷ ss) ≡ lines_at m taken i sb (suc n)
    → (holding_of s ≡ line_with m sb (get_or taken i 0)) × (map holding_of ss ≡ lines_at m taken (i + 1) (sb + 8) n)
unfolding lines_at
lines_cons m taken i sb n s ss e = (cc, cc)

-- the station of the first line
asked_here : (m taken : List ℕ) (base ca i sb n : ℕ) (s : Station) (ss : List Station) → two m sb ≡ ca → sb ≡ base + 8 * i
    → holding_of s ≡ line_with m sb (get_or taken i 0) → map holding_of ss ≡ lines_at m taken (i + 1) (sb + 8) n
    → Asked m taken base ca i i sb (suc n) (s ∷ ss)
unfolding lines_at station_of in_station share_with
asked_here m taken base ca i sb n s ss t b l r =
    let c : s.ca ≡ ca = ap (λ (x : Holding). x.ca) l ∙ t in
    let h : length s.points ≡ two m (sb + 6) + get_or taken i 0 = ap (λ (x : Holding). x.held) l in
    record {
      s = s;
      is_station = simp (eq-eqb _ _ c);
      share = ap (λ (x : Holding). record { held = x.held; reservation = x.reservation; ceiling = x.ceiling }) l ∙ ap (λ (x : ℕ). share_with m x (get_or taken i 0)) b;
      inside = (omega arith, omega arith);
      one_more = λ f e k.
          let v : get_or (set taken i (get_or taken i 0 + 1)) i 0 ≡ get_or taken i 0 + 1 = get_or-set_same taken i (get_or taken i 0 + 1) 0 k in
          let x : length (f s.points) ≡ two m (sb + 6) + get_or (set taken i (get_or taken i 0 + 1)) i 0 = omega arith in
          let y : holding_of (with_points f s) ≡ line_with m sb (get_or (set taken i (get_or taken i 0 + 1)) i 0) =
          λ z. record { ca = (l z).ca; reservation = (l z).reservation; ceiling = (l z).ceiling; held = x z } in
          let w : map holding_of ss ≡ lines_at m (set taken i (get_or taken i 0 + 1)) (i + 1) (sb + 8) n =
          r ∙ sym (lines_past m taken i (get_or taken i 0 + 1) (i + 1) (sb + 8) n (omega arith)) in
          simp (eq-eqb _ _ c) (λ z. y z ∷ w z);
    }

-- the station of a later line
asked_later : (m taken : List ℕ) (base ca j i sb n : ℕ) (s : Station) (ss : List Station) → (two m sb ≡ ca → ⊥)
    → holding_of s ≡ line_with m sb (get_or taken i 0) → Asked m taken base ca j (i + 1) (sb + 8) n ss
    → Asked m taken base ca j i sb (suc n) (s ∷ ss)
unfolding lines_at station_of in_station
asked_later m taken base ca j i sb n s ss t l q =
    let c : s.ca ≡ ca → ⊥ = λ e. t (sym (ap (λ (x : Holding). x.ca) l) ∙ e) in
    let low : i + 1 ≤ j = q.inside.0 in
    let high : j < i + 1 + n = q.inside.1 in
    record {
      s = q.s;
      is_station = simp (ne_eqb _ _ c) q.is_station;
      share = q.share;
      inside = (omega arith, omega arith);
      one_more = λ f e k.
          let d : i ≡ j → ⊥ = omega arith in
          let v : get_or taken i 0 ≡ get_or (set taken j (get_or taken j 0 + 1)) i 0 = sym (get_or-set_other taken j i (get_or taken j 0 + 1) 0 d) in
          let y : holding_of s ≡ line_with m sb (get_or (set taken j (get_or taken j 0 + 1)) i 0) = l ∙ ap (line_with m sb) v in
          let w = q.one_more f e k in
          simp (ne_eqb _ _ c) (λ z. y z ∷ w z);
    }

-- no lines for a station, no station for a line
no_lines : (m taken : List ℕ) (i sb n : ℕ) → map holding_of [] ≡ lines_at m taken i sb (suc n) → ◌≡◌ {A = ℕ} 0 1
unfolding lines_at
no_lines m taken i sb n e = cc

no_stations : (m taken : List ℕ) (i sb : ℕ) (s : Station) (ss : List Station) → map holding_of (s ∷ ss) ≡ lines_at m taken i sb zero → ◌≡◌ {A = ℕ} 0 1
unfolding lines_at
no_stations m taken i sb s ss e = cc

-- A seat found.
pub asked : (m taken : List ℕ) (base ca j first h i pb sb n : ℕ) (ss : List Station) → sb ≡ base + 8 * i → seat_in m ca i pb sb n ≡ here j first h
    → map holding_of ss ≡ lines_at m taken i sb n → Asked m taken base ca j i sb n ss
unfolding seat_in
asked m taken base ca j first h i pb sb zero ss b e l = let z : ◌≡◌ {A = ℕ} 0 1 = cc in absurd (omega arith)
asked m taken base ca j first h i pb sb (suc n) [] b e l = let z : ◌≡◌ {A = ℕ} 0 1 = no_lines m taken i sb n l in absurd (omega arith)
asked m taken base ca j first h i pb sb (suc n) (s ∷ ss) b e l =
    let q = lines_cons m taken i sb n s ss l in
    by_test (eqb (two m sb) ca) refl e q.0 q.1 (λ x. asked m taken base ca j first h (i + 1) (pb + 48 * two m (sb + 6)) (sb + 8) n ss (omega arith) x q.1)
  where
    by_test : (t : Bool) → eqb (two m sb) ca ≡ t
        → pick t (here i pb (two m (sb + 6))) (seat_in m ca (i + 1) (pb + 48 * two m (sb + 6)) (sb + 8) n) ≡ here j first h
        → holding_of s ≡ line_with m sb (get_or taken i 0) → map holding_of ss ≡ lines_at m taken (i + 1) (sb + 8) n
        → (seat_in m ca (i + 1) (pb + 48 * two m (sb + 6)) (sb + 8) n ≡ here j first h → Asked m taken base ca j (i + 1) (sb + 8) n ss)
        → Asked m taken base ca j i sb (suc n) (s ∷ ss)
    by_test true t f x y again =
        let d = (same_numbers f).0 in
        subst (λ (z : ℕ). Asked m taken base ca z i sb (suc n) (s ∷ ss)) d (asked_here m taken base ca i sb n s ss (eqb-true _ _ t) b x y)
    by_test false t f x y again = asked_later m taken base ca j i sb n s ss (eqb-false _ _ t) x (again f)

-- None found.
pub not_asked : (m taken : List ℕ) (ca i pb sb n : ℕ) (ss : List Station) → seat_in m ca i pb sb n ≡ None
    → map holding_of ss ≡ lines_at m taken i sb n → station_of ca ss ≡ none
unfolding seat_in station_of
not_asked m taken ca i pb sb n [] e l = refl
not_asked m taken ca i pb sb zero (s ∷ ss) e l = let z : ◌≡◌ {A = ℕ} 0 1 = no_stations m taken i sb s ss l in absurd (omega arith)
not_asked m taken ca i pb sb (suc n) (s ∷ ss) e l =
    let q = lines_cons m taken i sb n s ss l in
    by_test (eqb (two m sb) ca) refl e q.0 (λ x. not_asked m taken ca (i + 1) (pb + 48 * two m (sb + 6)) (sb + 8) n ss x q.1)
  where
    by_test : (t : Bool) → eqb (two m sb) ca ≡ t
        → pick t (here i pb (two m (sb + 6))) (seat_in m ca (i + 1) (pb + 48 * two m (sb + 6)) (sb + 8) n) ≡ None
        → holding_of s ≡ line_with m sb (get_or taken i 0)
        → (seat_in m ca (i + 1) (pb + 48 * two m (sb + 6)) (sb + 8) n ≡ None → station_of ca ss ≡ none)
        → pick (eqb s.ca ca) (some s) (station_of ca ss) ≡ none
    by_test true t f x again = let z : ◌≡◌ {A = ℕ} 0 1 = cc in absurd (omega arith)
    by_test false t f x again =
        let c : s.ca ≡ ca → ⊥ = λ w. eqb-false _ _ t (sym (ap (λ (y : Holding). y.ca) x) ∙ w) in
        simp (ne_eqb _ _ c) (again f)
