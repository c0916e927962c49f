-- A batch cut in two: the own tests go on where those of the first part end, and a first part without room refuses the whole. Of more than 4,096 points
-- one has no room. Assumes nothing.
use mathlib.Core.Path.{◌≡◌, refl, sym, ap, ◌∙◌}
use mathlib.Core.List.{List, [], ◌∷◌, ◌++◌, map, reverse, reverse_aux}
use mathlib.Core.Bool.{Bool, true, false}
use mathlib.Core.Option.{Option, some}
use Prim.Native.Nat.{ℕ, suc, ◌+◌, ◌≤◌, ◌<◌}
use native.Mathlib.Omega.{arith}
use lib.ListN.{length}
use lib.Dec.{ltb, leb}
use borrow.Author.Tests.{ltb-true}
use Rattle.limits.specs.Test.{◌&◌, pick, total}
use Rattle.limits.specs.Size.{point_octets}
use Rattle.std.specs.Prelude.{Err}
use Rattle.limits.specs.Outcome.{Outcome, done, is_done, number_of}
use Rattle.limits.specs.declared.outcome.Refusal.TheVariants.{UnknownTypeOrAddress, StationNotPlanned, GroupOutOfRange, CounterGroupOutOfRange, NotCounter, AddressTwice, AlreadyRegistered, CeilingReached, NotAdmitted}
use Rattle.limits.specs.Share.{admission_in}
use Rattle.limits.proofs.Outcomes.{not_both, done_is}
use Rattle.model.specs.declared.Request.{Request}
use Rattle.model.specs.Request.{own_fault, point_of, group_ok, counter_ok}
use Rattle.model.proofs.Requests.{faultless}
use Rattle.table.specs.Table.{Station, Table, held, share_of}
use Rattle.table.specs.Change.{station_of, with_points, insert_in, added}
use Rattle.table.proofs.Parse.{Good}
use Rattle.table.proofs.Change.{station_found, stations_split, insert_length}
use Rattle.table.proofs.Cut.{total_at}
use Rattle.registry.specs.Effect.{Reply}
use Rattle.registry.specs.Effect.{Effect, refused, first_fault}
use Rattle.registry.specs.History.{AllTwelve}
use Rattle.registry.specs.Registry.{is_planned, room_fault, is_registered, with_request, stands_in, batch_fault, own_tests, room_tests, registering_all}
use Rattle.registry.proofs.Requests.{accepted_good, planned_is}
use Rattle.registry.proofs.Batches.{Ready, ready_more, ready_after, passes_accepted}

-- ---- own tests

-- The own tests of a list in two parts: the first part's fault, or the second part's tests with the first before it.
pub own_append : (t : Table) (e : List Request) (i : ℕ) (a b : List Request)
    → own_tests t e i (a ++ b) ≡ pick (is_done (own_tests t e i a).outcome) (own_tests t (reverse_aux a e) (i + length a) b) (own_tests t e i a)
unfolding own_tests
own_append t e i [] b = ap (λ (n : ℕ). own_tests t e n b) (let z : i ≡ i + 0 = omega arith in z)
own_append t e i (q ∷ a) b = by_test (own_append t (q ∷ e) (i + 1) a b) (is_done (batch_fault t e q)) refl
  where
    on : Reply
    on = own_tests t (q ∷ e) (i + 1) a

    stop : Reply
    stop = record { outcome = batch_fault t e q; place = i }

    by_test : own_tests t (q ∷ e) (i + 1) (a ++ b) ≡ pick (is_done on.outcome) (own_tests t (reverse_aux a (q ∷ e)) (i + 1 + length a) b) on
        → (d : Bool) → is_done (batch_fault t e q) ≡ d
        → pick d (own_tests t (q ∷ e) (i + 1) (a ++ b)) stop
        ≡ pick (is_done (pick d on stop).outcome) (own_tests t (reverse_aux a (q ∷ e)) (i + suc (length a)) b) (pick d on stop)
    by_test ih true z =
        let n : i + 1 + length a ≡ i + suc (length a) = omega arith in
        ih ∙ ap (λ (k : ℕ). pick (is_done on.outcome) (own_tests t (reverse_aux a (q ∷ e)) k b) on) n
    by_test ih false z = sym (ap (λ (d : Bool). pick d (own_tests t (reverse_aux a (q ∷ e)) (i + suc (length a)) b) stop) z)

-- ---- the numbers of own tests are below 19

five : (a p g c k : Bool)
    → ltb (number_of (pick a (pick p (pick g (pick c (pick k done (Err NotCounter)) (Err CounterGroupOutOfRange)) (Err GroupOutOfRange)) (Err StationNotPlanned)) (Err UnknownTypeOrAddress))) 16 ≡ true
five true true true true true = refl
five true true true true false = refl
five true true true false k = refl
five true true false c k = refl
five true false g c k = refl
five false p g c k = refl

-- The tests 11 to 15 give no number above 15.
pub own_low : (planned : Bool) (q : Request) → number_of (own_fault planned q) < 16
unfolding own_fault
own_low planned q = ltb-true _ _ (five (leb 1 (point_octets q.kind) & leb q.ioa 16777215) planned (group_ok 16 q.group) (group_ok 4 q.counter) (counter_ok q.kind q.counter))

first_low : (a b : Outcome) → number_of a < 19 → number_of b < 19 → number_of (first_fault a b) < 19
first_low a b x y = by_test (is_done a)
  where
    by_test : (d : Bool) → number_of (pick d b a) < 19
    by_test true = y
    by_test false = x

twice_low : (b : Bool) → number_of (pick b (Err AddressTwice) done) < 19
twice_low true = ltb-true 16 19 refl
twice_low false = ltb-true 0 19 refl

known_low : (b : Bool) → number_of (pick b (Err AlreadyRegistered) done) < 19
known_low true = ltb-true 17 19 refl
known_low false = ltb-true 0 19 refl

batch_low : (t : Table) (e : List Request) (q : Request) → number_of (batch_fault t e q) < 19
unfolding batch_fault
batch_low t e q =
    let s : Option Station = station_of q.ca t.stations in
    let own : Outcome = own_fault (is_planned s) q in
    let twice : Outcome = pick (stands_in q e) (Err AddressTwice) done in
    let known : Outcome = pick (is_registered q.ioa s) (Err AlreadyRegistered) done in
    let o : number_of own < 16 = own_low (is_planned s) q in
    let o' : number_of own < 19 = omega arith in
    first_low own (first_fault twice known) o' (first_low twice known (twice_low (stands_in q e)) (known_low (is_registered q.ioa s)))

-- The own tests of a list give no number above 17.
pub tests_low : (t : Table) (e : List Request) (i : ℕ) (qs : List Request) → number_of (own_tests t e i qs).outcome < 19
unfolding own_tests
tests_low t e i [] = ltb-true 0 19 refl
tests_low t e i (q ∷ qs) = by_test (is_done (batch_fault t e q)) (tests_low t (q ∷ e) (i + 1) qs)
  where
    by_test : (d : Bool) → number_of (own_tests t (q ∷ e) (i + 1) qs).outcome < 19
        → number_of (pick d (own_tests t (q ∷ e) (i + 1) qs) (record { outcome = batch_fault t e q; place = i })).outcome < 19
    by_test true ih = ih
    by_test false ih = batch_low t e q

-- ---- room

-- A first part that is refused for room refuses the whole, at the same place.
pub room_append : (t : Table) (i : ℕ) (a b : List Request) → is_done (room_tests t i a).outcome ≡ false → room_tests t i (a ++ b) ≡ room_tests t i a
unfolding room_tests
room_append t i [] b d = not_both (sym d)
room_append t i (q ∷ a) b d = by_test (λ h. room_append (with_request t q) (i + 1) a b h) (is_done (room_fault t (station_of q.ca t.stations))) d
  where
    stop : Effect
    stop = refused (room_fault t (station_of q.ca t.stations)) i t

    by_test : (is_done (room_tests (with_request t q) (i + 1) a).outcome ≡ false → room_tests (with_request t q) (i + 1) (a ++ b) ≡ room_tests (with_request t q) (i + 1) a)
        → (r : Bool) → is_done (pick r (room_tests (with_request t q) (i + 1) a) stop).outcome ≡ false
        → pick r (room_tests (with_request t q) (i + 1) (a ++ b)) stop ≡ pick r (room_tests (with_request t q) (i + 1) a) stop
    by_test ih true h = ih h
    by_test ih false h = refl

-- one point more is held
held_more : (t : Table) (q : Request) (s : Station) → station_of q.ca t.stations ≡ some s → total held (with_request t q).stations ≡ total held t.stations + 1
unfolding added
held_more t q s e =
    let w = station_found q.ca t.stations s e in
    let f = insert_in (point_of q) in
    let h : total held t.stations ≡ total held w.before + (held s + total held w.after) = ap (total held) w.split ∙ total_at held w.before s w.after in
    let h' : total held (with_request t q).stations ≡ total held w.before + (length (f s.points) + total held w.after) =
    ap (total held) (stations_split t q.ca f s w) ∙ total_at held w.before (with_points f s) w.after in
    let l : length (f s.points) ≡ length s.points + 1 = insert_length (point_of q) s.points in
    omega arith

-- Where all have room, they are no more than a table can hold.
pub room_fits : (t : Table) (i : ℕ) (qs : List Request) → Good t → Ready t qs → AllTwelve qs → (room_tests t i qs).outcome ≡ done → total held t.stations + length qs ≤ 4096
unfolding AllTwelve room_tests
room_fits t i [] g r w e = let f = g.few in let k = g.k_high in omega arith
room_fits t i (q ∷ qs) g (ready_more p x y) w e =
    by_test (λ d f.
    let a = passes_accepted t q w.0 p d in
    let ih = room_fits (with_request t q) (i + 1) qs (accepted_good t q g a) (ready_after t q a.station qs a.found x y) w.1 f in
    let h = held_more t q a.station a.found in
    omega arith)
    (is_done (room_fault t (station_of q.ca t.stations))) refl e
  where
    by_test : (room_fault t (station_of q.ca t.stations) ≡ done → (room_tests (with_request t q) (i + 1) qs).outcome ≡ done → total held t.stations + suc (length qs) ≤ 4096)
        → (b : Bool) → is_done (room_fault t (station_of q.ca t.stations)) ≡ b
        → (pick b (room_tests (with_request t q) (i + 1) qs) (refused (room_fault t (station_of q.ca t.stations)) i t)).outcome ≡ done
        → total held t.stations + suc (length qs) ≤ 4096
    by_test ih true d e' = ih (done_is _ d) e'
    by_test ih false d e' = not_both (sym d ∙ ap is_done e')

-- the share rule refuses by 19 or 20
admission_high : (below room : Bool) → is_done (pick below (pick room done (Err NotAdmitted)) (Err CeilingReached)) ≡ false
    → ltb (number_of (pick below (pick room done (Err NotAdmitted)) (Err CeilingReached))) 19 ≡ false
admission_high true true d = not_both (sym d)
admission_high true false d = refl
admission_high false room d = refl

fault_high : (t : Table) (o : Option Station) (s : Station) → o ≡ some s → is_done (room_fault t o) ≡ false → ltb (number_of (room_fault t o)) 19 ≡ false
unfolding room_fault
fault_high t o s e d =
    let a : Outcome = admission_in t.capacity (map share_of t.stations) (share_of s) in
    let f : room_fault t o ≡ a = ap (room_fault t) e in
    ap (λ (x : Outcome). ltb (number_of x) 19) f ∙ admission_high _ _ (ap is_done (sym f) ∙ d)

-- A refusal for room has number 19 or 20.
pub room_high : (t : Table) (i : ℕ) (qs : List Request) → Ready t qs → is_done (room_tests t i qs).outcome ≡ false → ltb (number_of (room_tests t i qs).outcome) 19 ≡ false
unfolding room_tests
room_high t i [] r d = not_both (sym d)
room_high t i (q ∷ qs) (ready_more p x y) d =
    let s = planned_is (station_of q.ca t.stations) (faultless _ q p.own).is_planned_lem in
    by_test s (λ h. room_high (with_request t q) (i + 1) qs (ready_after t q s.0 qs s.1 x y) h) (is_done (room_fault t (station_of q.ca t.stations))) refl d
  where
    stop : Effect
    stop = refused (room_fault t (station_of q.ca t.stations)) i t

    by_test : (s : Station) × (station_of q.ca t.stations ≡ some s)
        → (is_done (room_tests (with_request t q) (i + 1) qs).outcome ≡ false → ltb (number_of (room_tests (with_request t q) (i + 1) qs).outcome) 19 ≡ false)
        → (b : Bool) → is_done (room_fault t (station_of q.ca t.stations)) ≡ b
        → is_done (pick b (room_tests (with_request t q) (i + 1) qs) stop).outcome ≡ false
        → ltb (number_of (pick b (room_tests (with_request t q) (i + 1) qs) stop).outcome) 19 ≡ false
    by_test s ih true z h = ih h
    by_test s ih false z h = fault_high t _ s.0 s.1 z

-- ---- the whole batch

module _ (t : Table) (a b : List Request) where
  -- the own tests of the second part, with the first before it
  abbrev pub after : Reply
  after = own_tests t (reverse a) (length a) b

  own_both : own_tests t [] 0 (a ++ b) ≡ pick (is_done (own_tests t [] 0 a).outcome) after (own_tests t [] 0 a)
  own_both =
      let z : 0 + length a ≡ length a = omega arith in
      own_append t [] 0 a b ∙ ap (λ (n : ℕ). pick (is_done (own_tests t [] 0 a).outcome) (own_tests t (reverse a) n b) (own_tests t [] 0 a)) z

  by_reply : Reply → Effect
  by_reply r = pick (is_done r.outcome) (room_tests t 0 (a ++ b)) (refused r.outcome r.place t)

  -- A fault in the first part is the answer to the whole.
  pub fault_first : is_done (own_tests t [] 0 a).outcome ≡ false → registering_all (a ++ b) t ≡ registering_all a t
  unfolding registering_all by_reply
  fault_first d =
      let o : own_tests t [] 0 (a ++ b) ≡ own_tests t [] 0 a = own_both ∙ simp d in
      ap by_reply o ∙ simp d

  -- Else a fault in the second part is.
  pub fault_after : is_done (own_tests t [] 0 a).outcome ≡ true → is_done after.outcome ≡ false → registering_all (a ++ b) t ≡ refused after.outcome after.place t
  unfolding registering_all by_reply
  fault_after d f =
      let o : own_tests t [] 0 (a ++ b) ≡ after = own_both ∙ simp d in
      ap by_reply o ∙ simp f

  -- Else a first part without room is.
  pub no_fault : is_done (own_tests t [] 0 a).outcome ≡ true → is_done after.outcome ≡ true → is_done (room_tests t 0 a).outcome ≡ false → registering_all (a ++ b) t ≡ registering_all a t
  unfolding registering_all by_reply
  no_fault d f r =
      let o : own_tests t [] 0 (a ++ b) ≡ after = own_both ∙ simp d in
      ap by_reply o ∙ simp (f, d) (room_append t 0 a b r)
