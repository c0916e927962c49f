-- Demand 3's last sentence: room is refused exactly by the share rule, of a point registered alone and at every turn of a batch. Assumes nothing.
use mathlib.Core.Path.{◌≡◌, refl, sym, ap, ◌∙◌, subst}
use mathlib.Core.List.{List, [], ◌∷◌, map}
use mathlib.Core.Bool.{Bool, true, false}
use mathlib.Core.Option.{some}
use Prim.Native.Nat.{ℕ, suc, ◌+◌}
use native.Mathlib.Omega.{arith}
use Rattle.limits.specs.Test.{pick, total}
use Rattle.std.specs.Prelude.{Ok, Err}
use Rattle.limits.specs.Outcome.{Outcome, done, is_done, number_of}
use Rattle.limits.specs.declared.outcome.Refusal.TheVariants.{AddressTwice, AlreadyRegistered, CeilingReached, NotAdmitted}
use Rattle.limits.specs.Share.{held_of, unmet_of, free_of, admission_in}
use Rattle.limits.proofs.Outcomes.{not_both, done_is}
use Rattle.limits.proofs.Shares.{no_room, no_room_only, at_ceiling, at_ceiling_only}
use Rattle.model.specs.declared.Request.{Request}
use Rattle.model.specs.Request.{own_fault}
use Rattle.model.proofs.Requests.{faultless}
use Rattle.table.specs.Table.{Station, Table, held, unmet, share_of}
use Rattle.table.specs.Change.{station_of}
use Rattle.table.proofs.Parse.{Good}
use Rattle.table.proofs.Shares.{total_held, total_unmet}
use Rattle.registry.specs.Effect.{Effect, refused, first_fault}
use Rattle.registry.specs.Opening.{planned}
use Rattle.registry.specs.Registry.{is_planned, is_registered, room_fault, registered_fault, request_outcome, with_request, stands_in, batch_fault, own_tests, room_tests, registering_all}
use Rattle.registry.specs.History.{AllTwelve}
use Rattle.registry.proofs.Batches.{own_tests_ready, turn_good}
use Rattle.registry.proofs.Batches as batches
use Rattle.registry.proofs.Requests.{planned_is, unregistered_is}
use Rattle.registry.proofs.Histories.{station_numbers}
use Rattle.report.specs.Selection.{among}
use Rattle.promises.specs.Shares.{AtCeiling, NotAdmittedIn, Alone, Turn, AtTurn, Exactly}
use Rattle.promises.proofs.Numbers.{own_gives}
use Rattle.promises.specs.Shares.Turn.{turn_now, turn_later}

-- ---- the share rule of a station of a good table

module _ (t : Table) (ca : ℕ) (s : Station) (g : Good t) (f : station_of ca t.stations ≡ some s) where
  abbrev free_in_lem : ℕ
  free_in_lem = free_of t.capacity (map share_of t.stations)

  abbrev unmet_in_lem : ℕ
  unmet_in_lem = total unmet_of (map share_of t.stations)

  ceiling_rule : Exactly (room_fault t (some s) ≡ Err CeilingReached) (AtCeiling t s)
  unfolding room_fault
  ceiling_rule =
      let h = (station_numbers t ca s g f).held_within in
      record {
        only = λ e. let c = at_ceiling_only (share_of s) free_in_lem unmet_in_lem e in omega arith;
        always = λ e. (at_ceiling (share_of s) free_in_lem unmet_in_lem (omega arith));
      }

  room_rule : Exactly (room_fault t (some s) ≡ Err NotAdmitted) (NotAdmittedIn t s)
  unfolding room_fault
  room_rule =
      let h : total held_of (map share_of t.stations) ≡ total held t.stations = total_held t.stations in
      let u : total unmet_of (map share_of t.stations) ≡ total unmet t.stations = total_unmet t.stations in
      record {
        only = λ e.
            let n = no_room_only (share_of s) free_in_lem unmet_in_lem e in
            let k = n.kept in
            record { below_ceiling = n.below_ceiling; reservation_met = n.met; free_is_kept = omega arith };
        always = λ n.
            let k = n.free_is_kept in
            (no_room (share_of s) free_in_lem unmet_in_lem (record { below_ceiling = n.below_ceiling; met = n.reservation_met; kept = omega arith }));
      }

-- A rule: an outcome of the room test other than Done, and what it says of a table and a station.
pub record Rule (o : Outcome) (P : Table → Station → Type 0) : Type 0 where
  pub is_refusal : is_done o ≡ false
  pub exactly : (t : Table) (ca : ℕ) (s : Station) → Good t → station_of ca t.stations ≡ some s → Exactly (room_fault t (some s) ≡ o) (P t s)
  -- no other test gives it
  pub not_own : (planned : Bool) (q : Request) → own_fault planned q ≡ o → ⊥
  pub not_registered : (Err AlreadyRegistered) ≡ o → ⊥
  pub not_twice : (Err AddressTwice) ≡ o → ⊥

-- the tests 11 to 15 give 0 or 11 to 15
own_number : (planned : Bool) (q : Request) → among (0 ∷ 11 ∷ 12 ∷ 13 ∷ 14 ∷ 15 ∷ []) (number_of (own_fault planned q)) ≡ true
unfolding among
own_number planned q =
    (own_gives (0 ∷ 11 ∷ 12 ∷ 13 ∷ 14 ∷ 15 ∷ []) (record { is_one = refl }) (record { is_one = refl }) (record { is_one = refl }) (record { is_one = refl })
    (record { is_one = refl }) (record { is_one = refl }) planned q).is_one

pub nineteen : Rule (Err CeilingReached) AtCeiling
unfolding among
nineteen =
    record {
      is_refusal = refl;
      exactly = ceiling_rule;
      not_own = λ planned q e. not_both (sym (ap (λ (x : Outcome). among (0 ∷ 11 ∷ 12 ∷ 13 ∷ 14 ∷ 15 ∷ []) (number_of x)) e) ∙ own_number planned q);
      not_registered = λ e. let z : ◌≡◌ {A = ℕ} 17 19 = ap number_of e in absurd (omega arith);
      not_twice = λ e. let z : ◌≡◌ {A = ℕ} 16 19 = ap number_of e in absurd (omega arith);
    }

pub twenty : Rule (Err NotAdmitted) NotAdmittedIn
unfolding among
twenty =
    record {
      is_refusal = refl;
      exactly = room_rule;
      not_own = λ planned q e. not_both (sym (ap (λ (x : Outcome). among (0 ∷ 11 ∷ 12 ∷ 13 ∷ 14 ∷ 15 ∷ []) (number_of x)) e) ∙ own_number planned q);
      not_registered = λ e. let z : ◌≡◌ {A = ℕ} 17 20 = ap number_of e in absurd (omega arith);
      not_twice = λ e. let z : ◌≡◌ {A = ℕ} 16 20 = ap number_of e in absurd (omega arith);
    }

-- ---- a point alone

-- a first fault that is not the first of two is the second
second_fault : (a b o : Outcome) → first_fault a b ≡ o → (a ≡ o → ⊥) → (a ≡ done) × (b ≡ o)
second_fault a b o e n = by_test (is_done a) refl e
  where
    by_test : (t : Bool) → is_done a ≡ t → pick t b a ≡ o → (a ≡ done) × (b ≡ o)
    by_test true d e' = (done_is a d, e')
    by_test false d e' = absurd (n e')

-- a test that gives its fault or Done
not_this : (fault o : Outcome) → is_done o ≡ false → (fault ≡ o → ⊥) → (b : Bool) → pick b fault done ≡ o → ⊥
not_this fault o r n true e = n e
not_this fault o r n false e = not_both (sym r ∙ ap is_done (sym e))

-- ---- the turns of a batch

-- a turn, its number left out, is registry's
pub turn_of : {t u : Table} {qs : List Request} {i : ℕ} {r : Request} → Turn t qs i u r → batches.Turn t qs u r
turn_of turn_now = batches.Turn.turn_now
turn_of (turn_later d l) = batches.Turn.turn_later d (turn_of l)

-- Each number has one turn.
pub one_turn : {t u v : Table} {qs : List Request} {i : ℕ} {r s : Request} → Turn t qs i u r → Turn t qs i v s → (u ≡ v) × (r ≡ s)
one_turn turn_now turn_now = (refl, refl)
one_turn (turn_later d l) (turn_later e k) = one_turn l k

-- A refusal for room is that of a turn, and names it, counted from j.
record RefusedAt (t : Table) (qs : List Request) (o : Outcome) (j place : ℕ) : Type 0 where
  index : ℕ
  at : Table
  asks : Request
  turn : Turn t qs index at asks
  fault : room_fault at (station_of asks.ca at.stations) ≡ o
  named : place ≡ j + index

refused_at : (t : Table) (j : ℕ) (qs : List Request) (o : Outcome) → is_done o ≡ false → (room_tests t j qs).outcome ≡ o → RefusedAt t qs o j (room_tests t j qs).place
unfolding room_tests
refused_at t j [] o n e = not_both (sym n ∙ ap is_done (sym e))
refused_at t j (q ∷ qs) o n e = by_test (refused_at (with_request t q) (j + 1) qs o n) (is_done (room_fault t (station_of q.ca t.stations))) refl e
  where
    by_test : ((room_tests (with_request t q) (j + 1) qs).outcome ≡ o → RefusedAt (with_request t q) qs o (j + 1) (room_tests (with_request t q) (j + 1) qs).place)
        → (b : Bool) → is_done (room_fault t (station_of q.ca t.stations)) ≡ b
        → (pick b (room_tests (with_request t q) (j + 1) qs) (refused (room_fault t (station_of q.ca t.stations)) j t)).outcome ≡ o
        → RefusedAt t (q ∷ qs) o j (pick b (room_tests (with_request t q) (j + 1) qs) (refused (room_fault t (station_of q.ca t.stations)) j t)).place
    by_test ih true d e' =
        let z = ih e' in
        let k = z.named in
        record { index = suc z.index; at = z.at; asks = z.asks; turn = turn_later (done_is _ d) z.turn; fault = z.fault; named = omega arith }
    by_test ih false d e' = record { index = 0; at = t; asks = q; turn = turn_now; fault = e'; named = omega arith }

-- The fault of a turn is what the batch is refused for.
fault_at : {t u : Table} {qs : List Request} {i : ℕ} {r : Request} (j : ℕ) (o : Outcome) → Turn t qs i u r → is_done o ≡ false
    → room_fault u (station_of r.ca u.stations) ≡ o → ((room_tests t j qs).outcome ≡ o) × ((room_tests t j qs).place ≡ j + i)
unfolding room_tests
fault_at j o (turn_now {t = t} {q = q}) n e =
    let d : is_done (room_fault t (station_of q.ca t.stations)) ≡ false = ap is_done e ∙ n in
    (simp d e, simp d (omega arith))
fault_at j o (turn_later {t = t} {q = q} {qs = qs} {i = i} f l) n e =
    let d : is_done (room_fault t (station_of q.ca t.stations)) ≡ true = ap is_done f in
    let ih = fault_at (j + 1) o l n e in
    let k : (room_tests (with_request t q) (j + 1) qs).place ≡ j + suc i = let p = ih.1 in omega arith in
    (simp d ih.0, simp d k)

module _ (o : Outcome) (P : Table → Station → Type 0) (rule : Rule o P) where
  pub alone_exactly : (t : Table) (q : Request) → Good t → Exactly (request_outcome t q (station_of q.ca t.stations) ≡ o) (Alone t q P)
  unfolding request_outcome
  alone_exactly t q g =
      let st = station_of q.ca t.stations in
      record {
        only = λ e.
            let one = second_fault (own_fault (is_planned st) q) (first_fault (registered_fault q st) (room_fault t st)) o e (rule.not_own (is_planned st) q) in
            let two = second_fault (registered_fault q st) (room_fault t st) o one.1 (not_this (Err AlreadyRegistered) o rule.is_refusal rule.not_registered (is_registered q.ioa st)) in
            let s = planned_is st (faultless (is_planned st) q one.0).is_planned_lem in
            record {
              station = s.0;
              registrable = record { described = one.0; unregistered = unregistered_is q st two.0; of_station = s.1 };
              so = (rule.exactly t q.ca s.0 g s.1).only (sym (ap (room_fault t) s.1) ∙ two.1);
            };
        always = λ z.
            let d = z.registrable.described in
            let n = z.registrable.unregistered in
            let r : room_fault t st ≡ o = ap (room_fault t) z.registrable.of_station ∙ (rule.exactly t q.ca z.station g z.registrable.of_station).always z.so in
            simp (d, n, r);
      }

  -- no point's own tests give it
  own_tests_not : (t : Table) (earlier : List Request) (i : ℕ) (qs : List Request) → (own_tests t earlier i qs).outcome ≡ o → ⊥
  unfolding own_tests batch_fault
  own_tests_not t earlier i [] e = not_both (sym rule.is_refusal ∙ ap is_done (sym e))
  own_tests_not t earlier i (q ∷ qs) e = by_test (own_tests_not t (q ∷ earlier) (i + 1) qs) (is_done (batch_fault t earlier q)) e
    where
      fault_not : first_fault (own_fault (is_planned (station_of q.ca t.stations)) q) (first_fault (pick (stands_in q earlier) (Err AddressTwice) done) (registered_fault q (station_of q.ca t.stations))) ≡ o → ⊥
      fault_not f =
          let one = second_fault _ (first_fault (pick (stands_in q earlier) (Err AddressTwice) done) (registered_fault q (station_of q.ca t.stations))) o f (rule.not_own (is_planned (station_of q.ca t.stations)) q) in
          let two = second_fault (pick (stands_in q earlier) (Err AddressTwice) done) (registered_fault q (station_of q.ca t.stations)) o one.1 (not_this (Err AddressTwice) o rule.is_refusal rule.not_twice (stands_in q earlier)) in
          not_this (Err AlreadyRegistered) o rule.is_refusal rule.not_registered (is_registered q.ioa (station_of q.ca t.stations)) two.1

      by_test : ((own_tests t (q ∷ earlier) (i + 1) qs).outcome ≡ o → ⊥) → (b : Bool)
          → (pick b (own_tests t (q ∷ earlier) (i + 1) qs) (record { outcome = batch_fault t earlier q; place = i })).outcome ≡ o → ⊥
      by_test ih true e' = ih e'
      by_test ih false e' = fault_not e'

  -- the fault at such a turn
  pub turn_fault : (t : Table) (qs : List Request) (i : ℕ) → Good t → AllTwelve qs → (z : AtTurn t qs i P) → room_fault z.table (station_of z.asks.ca z.table.stations) ≡ o
  turn_fault t qs i g w z =
      let good = turn_good t qs z.table z.asks g (own_tests_ready t [] 0 qs z.own_tests_passed).0 w (turn_of z.turn) in
      ap (room_fault z.table) z.of_station ∙ (rule.exactly z.table z.asks.ca z.station good.0 z.of_station).always z.so

  -- what a batch that is refused so says, and the other way round
  pub batch_exactly : (t : Table) (qs : List Request) (i : ℕ) → Good t → AllTwelve qs
      → Exactly (((registering_all qs t).outcome ≡ o) × ((registering_all qs t).place ≡ i)) (AtTurn t qs i P)
  unfolding registering_all
  batch_exactly t qs i g w = record { only = λ e. by_test (is_done (own_tests t [] 0 qs).outcome) refl e; always = so_refused }
    where
      refusal : Effect
      refusal = record { outcome = (own_tests t [] 0 qs).outcome; place = (own_tests t [] 0 qs).place; after = t }

      by_turn : (own_tests t [] 0 qs).outcome ≡ done → (room_tests t 0 qs).place ≡ i → RefusedAt t qs o 0 (room_tests t 0 qs).place → AtTurn t qs i P
      by_turn own p z =
          let good = turn_good t qs z.at z.asks g (own_tests_ready t [] 0 qs own).0 w (turn_of z.turn) in
          let s = planned_is (station_of z.asks.ca z.at.stations) (faultless (is_planned (station_of z.asks.ca z.at.stations)) z.asks good.1.own).is_planned_lem in
          let k : z.index ≡ i = let n = z.named in omega arith in
          record {
            own_tests_passed = own;
            table = z.at;
            asks = z.asks;
            turn = subst (λ (x : ℕ). Turn t qs x z.at z.asks) k z.turn;
            station = s.0;
            of_station = s.1;
            so = (rule.exactly z.at z.asks.ca s.0 good.0 s.1).only (sym (ap (room_fault z.at) s.1) ∙ z.fault);
          }

      by_test : (b : Bool) → is_done (own_tests t [] 0 qs).outcome ≡ b → ((pick b (room_tests t 0 qs) refusal).outcome ≡ o) × ((pick b (room_tests t 0 qs) refusal).place ≡ i) → AtTurn t qs i P
      by_test true d e = by_turn (done_is _ d) e.1 (refused_at t 0 qs o rule.is_refusal e.0)
      by_test false d e = absurd (own_tests_not t [] 0 qs e.0)

      so_refused : AtTurn t qs i P → ((pick (is_done (own_tests t [] 0 qs).outcome) (room_tests t 0 qs) refusal).outcome ≡ o) × ((pick (is_done (own_tests t [] 0 qs).outcome) (room_tests t 0 qs) refusal).place ≡ i)
      so_refused z =
          let f = fault_at 0 o z.turn rule.is_refusal (turn_fault t qs i g w z) in
          let d : is_done (own_tests t [] 0 qs).outcome ≡ true = ap is_done z.own_tests_passed in
          let k : (room_tests t 0 qs).place ≡ i = let p = f.1 in omega arith in
          (simp d f.0, simp d k)
