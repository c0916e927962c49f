-- The tests 11 to 17 of one record, case by case, and the turns of a batch's own tests. Assumes nothing.
use Rattle.std.specs.Prelude.{Some, None, Ok, Err, is_ok}
use mathlib.Core.Path.{◌≡◌, refl, sym, ap, ◌∙◌}
use mathlib.Core.List.{List, []}
use mathlib.Core.Bool.{Bool, true, false}
use mathlib.Core.Option.{Option}
use Prim.Native.Nat.{ℕ, ◌+◌, ◌*◌, ◌-◌, ◌/◌, ◌≤◌, ◌<◌}
use native.Mathlib.Omega.{arith}
use lib.ListN.{length}
use Rattle.limits.specs.Test.{pick}
use Rattle.limits.specs.Outcome.{Outcome, done, is_done}
use Rattle.limits.specs.declared.outcome.Refusal.{Refusal}
use Rattle.limits.specs.declared.outcome.Refusal.TheVariants.{AddressTwice, AlreadyRegistered}
use Rattle.octets.specs.Number.{Octets}
use Rattle.model.specs.declared.Request.{Request}
use Rattle.model.specs.Request.{own_fault, request_at, requests_at}
use Rattle.model.proofs.Requests.{Unplanned, unplanned}
use Rattle.model.proofs.Requests.Unplanned.{unknown, station}
use Rattle.table.specs.Table.{Station, Table, rising}
use Rattle.table.specs.Memory.{points_at, table_of, well_formed}
use Rattle.table.specs.Change.{known, seek_in}
use Rattle.lookup.specs.Find.{spot_in, find_at}
use Rattle.lookup.specs.declared.Seat.{Seat}
use Rattle.lookup.specs.Seats.{seat_at}
use Rattle.lookup.proofs.Laws.{Seen, seat_law, absent_law}
use Rattle.lookup.proofs.Halving.{find_law}
use Rattle.registry.specs.Effect.{first_fault}
use Rattle.registry.specs.Registry.{is_planned, is_registered, registered_fault, stands_in, batch_fault, own_tests}
use Rattle.batch_records.specs.Records.{requests_in, earlier_at, stands_before}
use Rattle.batch_records.proofs.Laws.{requests_on, requests_end, earlier_on, stands_law}

-- ---- one record

-- the tests with the station already looked up
fault_with : Option Station → List Request → Request → Outcome
fault_with s earlier q =
    first_fault (own_fault (is_planned s) q) (first_fault (pick (stands_in q earlier) (Err AddressTwice) done) (registered_fault q s))

never_done : (o : Outcome) → Unplanned o → is_done o ≡ false
never_done o (unknown e) = ap is_done e
never_done o (station e) = ap is_done e

-- What is found at a seat is what the station knows.
held_known : (m : List ℕ) (ca i first h ioa : ℕ) (w : Seen m ca i first h) → known ioa w.seat.s.points ≡ is_ok (find_at m first h ioa)
unfolding spot_in
held_known m ca i first h ioa w =
    let ps = points_at m first h in
    sym (ap is_ok (find_law m first h ioa (ap (rising 0) w.points ∙ w.rises)) ∙ by_test (known ioa ps) (seek_in ioa ps) ∙ ap (known ioa) w.points)
  where
    by_test : (b : Bool) (j : ℕ) → is_ok (pick b (Ok (first + 48 * j)) (Err (first + 48 * j))) ≡ b
    by_test true j = refl
    by_test false j = refl

module _ (m r : List ℕ) (i ca : ℕ) (q : Request) (is : q ≡ request_at r (24 * i)) (its : ca ≡ q.ca) where
  -- No station: 11 or 12, whatever else.
  pub fault_absent : seat_at m ca ≡ None → own_fault false q ≡ batch_fault (table_of m) (earlier_at r i) (request_at r (24 * i))
  unfolding batch_fault is_planned fault_with
  fault_absent e =
      sym (ap (λ (s : Option Station). fault_with s (earlier_at r i) q) (absent_law m q.ca (ap (seat_at m) (sym its) ∙ e)) ∙ simp (never_done (own_fault false q) (unplanned q)))
      ∙ ap (batch_fault (table_of m) (earlier_at r i)) is

  module _ (seat : Seat) (o : Octets m) (w : well_formed m ≡ true) (e : seat_at m ca ≡ Some seat) where
    fault_seated : batch_fault (table_of m) (earlier_at r i) (request_at r (24 * i))
        ≡ first_fault (own_fault true q)
        (first_fault (pick (stands_before r ca q.ioa i) (Err AddressTwice) done)
        (pick (is_ok (find_at m seat.first seat.held q.ioa)) (Err AlreadyRegistered) done))
    unfolding batch_fault is_planned is_registered fault_with
    fault_seated =
        let z = seat_law m q.ca _ _ _ o w (ap (seat_at m) (sym its) ∙ e) in
        ap (batch_fault (table_of m) (earlier_at r i)) (sym is)
        ∙ ap (λ (s : Option Station). fault_with s (earlier_at r i) q) z.seat.is_station
        ∙ (λ j. first_fault (own_fault true q)
        (first_fault (pick ((stands_law r q i ∙ ap (λ (x : ℕ). stands_before r x q.ioa i) (sym its)) j) (Err AddressTwice) done) (pick (held_known m _ _ _ _ q.ioa z j) (Err AlreadyRegistered) done)))

    -- 11 to 15.
    pub fault_own : (f : Refusal) → own_fault true q ≡ Err f → Err f ≡ batch_fault (table_of m) (earlier_at r i) (request_at r (24 * i))
    fault_own f d = sym (fault_seated ∙ simp d)

    module _ (d : own_fault true q ≡ done) where
      -- 16.
      pub fault_twice : stands_before r ca q.ioa i ≡ true → Err AddressTwice ≡ batch_fault (table_of m) (earlier_at r i) (request_at r (24 * i))
      fault_twice t = sym (fault_seated ∙ simp (d, t))

      -- 17, or none.
      pub fault_known : stands_before r ca q.ioa i ≡ false → is_ok (find_at m seat.first seat.held q.ioa) ≡ true
          → Err AlreadyRegistered ≡ batch_fault (table_of m) (earlier_at r i) (request_at r (24 * i))
      fault_known t k = sym (fault_seated ∙ simp (d, t, k))

      pub fault_none : stands_before r ca q.ioa i ≡ false → is_ok (find_at m seat.first seat.held q.ioa) ≡ false
          → done ≡ batch_fault (table_of m) (earlier_at r i) (request_at r (24 * i))
      fault_none t k = sym (fault_seated ∙ simp (d, t, k))

-- ---- the turns

module _ (t : Table) (m : List ℕ) (i n : ℕ) where
  -- The record of place i passes.
  pub own_on : i < n → batch_fault t (earlier_at m i) (request_at m (24 * i)) ≡ done
      → own_tests t (earlier_at m i) i (requests_at m (24 * i) (n - i)) ≡ own_tests t (earlier_at m (i + 1)) (i + 1) (requests_at m (24 * (i + 1)) (n - (i + 1)))
  unfolding own_tests
  own_on h d =
      ap (own_tests t (earlier_at m i) i) (requests_on m i n h) ∙ (simp d)
      ∙ ap (λ (e : List Request). own_tests t e (i + 1) (requests_at m (24 * (i + 1)) (n - (i + 1)))) (sym (earlier_on m i))

  -- It does not.
  pub own_stop : i < n → (f : Refusal) → batch_fault t (earlier_at m i) (request_at m (24 * i)) ≡ Err f
      → own_tests t (earlier_at m i) i (requests_at m (24 * i) (n - i)) ≡ record { outcome = Err f; place = i }
  unfolding own_tests
  own_stop h f d = ap (own_tests t (earlier_at m i) i) (requests_on m i n h) ∙ simp d

  -- None is left.
  pub own_end : n ≤ i → own_tests t (earlier_at m i) i (requests_at m (24 * i) (n - i)) ≡ record { outcome = done; place = 0 }
  unfolding own_tests
  own_end h = ap (own_tests t (earlier_at m i) i) (requests_end m i n h)

-- At the start none stands earlier.
pub own_start : (t : Table) (m : List ℕ) → own_tests t [] 0 (requests_in m) ≡ own_tests t (earlier_at m 0) 0 (requests_at m (24 * 0) (length m / 24 - 0))
unfolding earlier_at
own_start t m = let e : length m / 24 ≡ length m / 24 - 0 = omega arith in ap (λ (x : ℕ). own_tests t [] 0 (requests_at m 0 x)) e
