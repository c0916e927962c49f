-- The common address that the code finds is the table's, and the ways out of the entry. Assumes nothing.
use mathlib.Core.Path.{◌≡◌, refl, ap, ◌∙◌}
use mathlib.Core.List.{List, [], ◌∷◌}
use mathlib.Core.Bool.{true}
use Prim.Native.Nat.{ℕ, zero, suc, ◌+◌, ◌*◌, ◌-◌, ◌≤◌, ◌<◌}
use native.Mathlib.Omega.{arith}
use lib.ListN.{length}
use lib.Dec.{eqb}
use borrow.Author.Tests.{eq-eqb, ne_eqb}
use Rattle.limits.specs.Test.{pick}
use Rattle.octets.specs.Number.{Octets}
use Rattle.octets.specs.Over.{over}
use Rattle.layout.specs.Layout.{head_size, place_size, station_size, stations_in, stations_from, ca_at, held_at}
use Rattle.table.specs.Memory.{points_at, stations_at, table_of, well_formed}
use Rattle.table.proofs.Points.{length_points_at}
use Rattle.asdu.specs.Header.{Asdu, asdu_octets}
use Rattle.asdu.specs.Puts.{Puts}
use Rattle.report.specs.Single.{end_of_initialization_asdu, station_common_address}
use Rattle.report.proofs.Single.{length_end}
use Rattle.std.specs.Prelude.{Err}
use Rattle.limits.specs.declared.outcome.Refusal.TheVariants.{AnswerShort}
use Rattle.answers.specs.Said.{lent, Leaves, as_it_is, nothing, given}
use Rattle.answers.specs.Start.{start_said}
use Rattle.answers.proofs.Ends.{one_nothing, one_all, ends_says}
use Rattle.connection_start.specs.Starting.{common_address_at}

-- ---- the turns of the loop over the stations

module _ (m : List ℕ) (at n i : ℕ) (h : i < n) where
  one_more : n - i ≡ suc (n - (i + 1))
  one_more = omega arith

  pub address_here : (held_at m (at + station_size * i) ≡ 0 → ⊥) → common_address_at m (at + station_size * i) (n - i) ≡ ca_at m (at + station_size * i)
  unfolding common_address_at
  address_here e = ap (common_address_at m (at + station_size * i)) one_more ∙ simp (ne_eqb _ _ e)

  pub address_on : held_at m (at + station_size * i) ≡ 0
      → common_address_at m (at + station_size * i) (n - i) ≡ common_address_at m (at + station_size * (i + 1)) (n - (i + 1))
  unfolding common_address_at
  address_on e =
      let f : at + station_size * i + station_size ≡ at + station_size * (i + 1) = omega arith in
      ap (common_address_at m (at + station_size * i)) one_more ∙ simp (eq-eqb _ _ e) (ap (λ (x : ℕ). common_address_at m x (n - (i + 1))) f)

pub address_end : (m : List ℕ) (at n i : ℕ) → n ≤ i → common_address_at m at (n - i) ≡ 0
unfolding common_address_at
address_end m at n i h = let e : n - i ≡ 0 = omega arith in ap (common_address_at m at) e

-- ---- the table's

address_is : (m : List ℕ) (pb at n : ℕ) → common_address_at m at n ≡ station_common_address (stations_at m pb at n)
unfolding common_address_at station_common_address stations_at
address_is m pb at zero = refl
address_is m pb at (suc n) =
    let e : length (points_at m pb (held_at m at)) ≡ held_at m at = length_points_at m pb (held_at m at) in
    rw e (ap (λ (a : ℕ). pick (eqb (held_at m at) 0) a (ca_at m at)) (address_is m (pb + place_size * held_at m at) (at + station_size) n))

-- The common address that the code finds is the one of the table that the memory holds.
pub common_address_law : (m : List ℕ) → common_address_at m (stations_from m) (stations_in m) ≡ station_common_address (table_of m).stations
unfolding table_of
common_address_law m = address_is m head_size (stations_from m) (stations_in m)

-- ---- the ways out

module _ (t a : List ℕ) (o : Octets t) (w : well_formed t ≡ true) where
  abbrev end : Asdu
  end = end_of_initialization_asdu (station_common_address (table_of t).stations)

  -- Fewer than ten octets of room: 4.
  pub start_short : length a < 10 → Leaves as_it_is (start_said []) (lent t [] a []) (nothing (Err AnswerShort)) (lent t [] a [])
  start_short h =
      let n = length_end (station_common_address (table_of t).stations) in
      ends_says (start_said []) (lent t [] a []) w o (end ∷ []) [] refl (nothing (Err AnswerShort)) [] a (one_nothing end a (omega arith)) refl

  -- Ten octets at the front.
  pub start_done : 10 ≤ length a → (ca n : ℕ) (a' : List ℕ) → ca ≡ common_address_at t (stations_from t) (stations_in t)
      → Puts (asdu_octets (end_of_initialization_asdu ca)) a n a' → Leaves as_it_is (start_said []) (lent t [] a []) (given n) (lent t [] a' [])
  start_done h ca n a' c p =
      let x = ap (λ (y : ℕ). asdu_octets (end_of_initialization_asdu y)) (c ∙ common_address_law t) in
      let l = length_end (station_common_address (table_of t).stations) in
      ends_says (start_said []) (lent t [] a []) w o (end ∷ []) [] refl (given n) [] a'
      (one_all end a n a' (omega arith) (p.0 ∙ ap length x) (p.1 ∙ ap (over a 0) x)) refl
