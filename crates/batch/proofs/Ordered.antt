-- A batch that passed every test, as places in order: its records fit, their addresses differ, and the places of the table with their points are
-- the table's places with theirs put in. Assumes nothing.
use mathlib.Core.Path.{◌≡◌, refl, sym, ap, ◌∙◌, subst}
use mathlib.Core.List.{List, ◌∷◌}
use mathlib.Core.Bool.{Bool, true, false}
use mathlib.Core.Option.{some}
use Prim.Native.Nat.{ℕ, zero, suc, ◌+◌, ◌*◌, ◌/◌, ◌%◌, ◌≤◌, ◌<◌}
use native.Mathlib.Omega.{arith}
use lib.ListN.{length}
use lib.Dec.{eqb}
use borrow.Author.Tests.{leb-true, eq-eqb}
use Rattle.limits.specs.Test.{◌&◌, total}
use Rattle.limits.specs.Outcome.{done}
use Rattle.limits.proofs.Tests.{both, join}
use Rattle.limits.proofs.Outcomes.{not_both}
use Rattle.octets.specs.Number.{two, four}
use Rattle.model.specs.declared.Request.{Request}
use Rattle.model.specs.Place.{point_ok}
use Rattle.model.specs.Request.{point_of, request_at, requests_at}
use Rattle.model.proofs.Requests.{faultless}
use Rattle.table.specs.Table.{Station, Table, held}
use Rattle.table.specs.Change.{station_of, with_points, insert_in, changed, added}
use Rattle.table.proofs.Parse.{Good}
use Rattle.table.proofs.Shares.{plan_of}
use Rattle.table.proofs.Cut.{held_at_lem}
use Rattle.table.proofs.Change.{station_found, stations_split, insert_length}
use Rattle.registry.specs.Effect.{Effect}
use Rattle.registry.specs.Registry.{with_request, room_tests}
use Rattle.registry.proofs.Requests.{Accepted, accepted_good}
use Rattle.registry.proofs.Batches.{Apart, AllApart, Passes, Ready, ready_after, passes_accepted}
use Rattle.registry.proofs.Batches.AllApart.{apart_more}
use Rattle.registry.proofs.Batches.Ready.{ready_more}
use Rattle.batch_room.proofs.Laws.{room_first}
use Rattle.sorting.specs.Sorted.{All}
use Rattle.merging.specs.Merge.{Placed, with_place, with_places, number_at, numbers_from, record_place, placed_of, Fits}
use Rattle.merging.proofs.Joined.{Other, join_push}
use Rattle.merging.proofs.Joined as places
use Rattle.batch.proofs.Flat.{placed_point, flat, flat_added}

-- ---- the number of a record

-- its address is in front
number_address : (r : List ℕ) (i at : ℕ) → at ≡ 24 * i → i < 4096 → number_at r i / 4096 ≡ 16777216 * two r at + four r (at + 2)
unfolding number_at
number_address r i at e h = rw e (quotient (16777216 * two r (24 * i) + four r (24 * i + 2)) h)
  where
    quotient : (a : ℕ) → i < 4096 → (4096 * a + i) / 4096 ≡ a
    quotient a h = omega arith

-- its place in the list is behind
number_index : (r : List ℕ) (i : ℕ) → i < 4096 → number_at r i % 4096 ≡ i
unfolding number_at
number_index r i h = remainder (16777216 * two r (24 * i) + four r (24 * i + 2)) h
  where
    remainder : (a : ℕ) → i < 4096 → (4096 * a + i) % 4096 ≡ i
    remainder a h = omega arith

-- The place of a record's number is that of its point.
number_placed : (r : List ℕ) (i at : ℕ) → at ≡ 24 * i → i < 4096 → placed_of r (number_at r i) ≡ placed_point (two r at) (point_of (request_at r at))
unfolding record_place point_of
number_placed r i at e h =
    let a = number_address r i at e h in
    let x : 24 * (number_at r i % 4096) ≡ at = ap (λ (n : ℕ). 24 * n) (number_index r i h) ∙ sym e in
    λ j. record { address = a j; octets = record_place r (x j) }

-- ---- what readiness says

-- of the first request, and of the others
ready_first : (t : Table) (q : Request) (qs : List Request) → Ready t (q ∷ qs) → Passes t q × AllApart q qs × Ready t qs
ready_first t q qs (ready_more p a y) = (p, a, y)

-- whom the first is apart from
apart_first : (a q : Request) (qs : List Request) → AllApart a (q ∷ qs) → Apart a q × AllApart a qs
apart_first a q qs (apart_more x y) = (x, y)

-- a request that passed has an IOA that a place can keep
address_small : (t : Table) (q : Request) → Passes t q → q.ioa ≤ 16777215
address_small t q p = (faultless _ q p.own).address

-- Every record is there, with an address that a place can keep.
pub fits_all : (r : List ℕ) (t : Table) (i at n : ℕ) → at ≡ 24 * i → i + n ≤ 4096 → 24 * (i + n) ≤ length r → Ready t (requests_at r at n) → All (Fits r) (numbers_from r i n)
unfolding All numbers_from requests_at
fits_all r t i at zero e few room y = tt
fits_all r t i at (suc n) e few room y =
    let f = ready_first t (request_at r at) (requests_at r (at + 24) n) y in
    let x : number_at r i % 4096 ≡ i = number_index r i (omega arith) in
    let b : four r (at + 2) ≤ 16777215 = address_small t (request_at r at) f.0 in
    let b' : four r (at + 2) < 16777216 = omega arith in
    let z : at ≡ 24 * (number_at r i % 4096) = e ∙ ap (λ (k : ℕ). 24 * k) (sym x) in
    ((omega arith, subst (λ (k : ℕ). four r (k + 2) < 16777216) z b'), fits_all r t (i + 1) (at + 24) n (omega arith) (omega arith) (omega arith) f.2)

-- two addresses that differ are two numbers
differ : (a b c d : ℕ) → b ≤ 16777215 → d ≤ 16777215 → (eqb a c & eqb b d) ≡ false → 16777216 * c + d ≡ 16777216 * a + b → ⊥
differ a b c d hb hd n e =
    let x : a ≡ c = omega arith in
    let y : b ≡ d = omega arith in
    let z : ◌≡◌ {A = Bool} false true = sym n ∙ join (eq-eqb _ _ x) (eq-eqb _ _ y) in
    not_both z

-- no record of the others has the address of a request apart from them
others : (r : List ℕ) (t : Table) (q : Request) (i at n : ℕ) → at ≡ 24 * i → i + n ≤ 4096 → q.ioa ≤ 16777215 → AllApart q (requests_at r at n)
    → Ready t (requests_at r at n) → All (Other (placed_of r) (16777216 * q.ca + q.ioa)) (numbers_from r i n)
unfolding All numbers_from requests_at
others r t q i at zero e few h a y = tt
others r t q i at (suc n) e few h a y =
    let f = ready_first t (request_at r at) (requests_at r (at + 24) n) y in
    let g = apart_first q (request_at r at) (requests_at r (at + 24) n) a in (
      λ s. differ q.ca q.ioa (two r at) (four r (at + 2)) h (address_small t (request_at r at) f.0) g.0 (sym (number_address r i at e (omega arith)) ∙ s),
      others r t q (i + 1) (at + 24) n (omega arith) (omega arith) h g.1 f.2,
    )

-- No two records have one address.
pub apart_all : (r : List ℕ) (t : Table) (i at n : ℕ) → at ≡ 24 * i → i + n ≤ 4096 → Ready t (requests_at r at n) → places.Apart (placed_of r) (numbers_from r i n)
unfolding places.Apart numbers_from requests_at
apart_all r t i at zero e few y = tt
apart_all r t i at (suc n) e few y =
    let f = ready_first t (request_at r at) (requests_at r (at + 24) n) y in
    let o = others r t (request_at r at) (i + 1) (at + 24) n (omega arith) (omega arith) (address_small t (request_at r at) f.0) f.1 f.2 in (
      subst (λ (k : ℕ). All (Other (placed_of r) k) (numbers_from r (i + 1) n)) (sym (number_address r i at e (omega arith))) o,
      apart_all r t (i + 1) (at + 24) n (omega arith) (omega arith) f.2,
    )

-- ---- the turns

-- What the first turn of an accepted batch says, and that the others go on from the table with its point.
record First (t : Table) (i : ℕ) (q : Request) (qs : List Request) : Type 0 where
  accepted : Accepted t q
  on : room_tests t i (q ∷ qs) ≡ room_tests (with_request t q) (i + 1) qs
  good : Good (with_request t q)
  ready : Ready (with_request t q) qs
  room : (room_tests (with_request t q) (i + 1) qs).outcome ≡ done

-- the first turn
first_turn : (t : Table) (i : ℕ) (q : Request) (qs : List Request) → length q.value ≡ 12 → Good t → Ready t (q ∷ qs) → (room_tests t i (q ∷ qs)).outcome ≡ done → First t i q qs
first_turn t i q qs w g y e =
    let p = ready_first t q qs y in
    let d = room_first t i q qs e in
    let a = passes_accepted t q w p.0 d.0 in
    record {
      accepted = a;
      on = d.1;
      good = accepted_good t q g a;
      ready = ready_after t q a.station qs a.found p.1 p.2;
      room = ap (λ (f : Effect). f.outcome) (sym d.1) ∙ e;
    }

-- one point more is held
held_one : (t : Table) (q : Request) (s : Station) → station_of q.ca t.stations ≡ some s → total held (with_request t q).stations ≡ total held t.stations + 1
unfolding added
held_one t q s e =
    let w = station_found q.ca t.stations s e in
    let c = stations_split t q.ca (insert_in (point_of q)) s w in
    let h : total held t.stations ≡ total held w.before + (held s + total held w.after) = ap (total held) w.split ∙ held_at_lem w.before s w.after in
    let h' : total held (changed t q.ca (insert_in (point_of q))).stations ≡ total held w.before + (length (insert_in (point_of q) s.points) + total held w.after) =
    ap (total held) c ∙ held_at_lem w.before (with_points (insert_in (point_of q)) s) w.after in
    let l = insert_length (point_of q) s.points in
    omega arith

-- the capacity stays
same_capacity : (t : Table) (q : Request) → (with_request t q).capacity ≡ t.capacity
unfolding added changed
same_capacity t q = refl

-- The table after an accepted batch is good, of the same capacity, and holds a point more for each record.
pub batch_numbers : (r : List ℕ) (t : Table) (i at n : ℕ) → Good t → Ready t (requests_at r at n) → (room_tests t i (requests_at r at n)).outcome ≡ done
    → Good (room_tests t i (requests_at r at n)).after × ((room_tests t i (requests_at r at n)).after.capacity ≡ t.capacity)
    × (total held (room_tests t i (requests_at r at n)).after.stations ≡ total held t.stations + n)
unfolding requests_at room_tests
batch_numbers r t i at zero g y e = (g, refl, omega arith)
batch_numbers r t i at (suc n) g y e =
    let q : Request = request_at r at in
    let qs : List Request = requests_at r (at + 24) n in
    let f = first_turn t i q qs refl g y e in
    let ih = batch_numbers r (with_request t q) (i + 1) (at + 24) n f.good f.ready f.room in
    let h = held_one t q f.accepted.station f.accepted.found in
    subst (λ (x : Effect). Good x.after × (x.after.capacity ≡ t.capacity) × (total held x.after.stations ≡ total held t.stations + suc n)) (sym f.on)
    (ih.0, ih.1 ∙ same_capacity t q, omega (arith, ih.2))

-- a point taken into a good table, as its places
one_more : (t : Table) (q : Request) → Good t → Accepted t q → flat (with_request t q).stations ≡ with_place (placed_point q.ca (point_of q)) (flat t.stations)
unfolding added changed point_ok
one_more t q g a =
    let i : (point_of q).ioa ≤ 16777215 = leb-true _ _ (both _ _ a.described).0 in
    flat_added t.capacity 1 q.ca (point_of q) t.stations a.station (plan_of _ _ _ g.plan).0 g.rises i a.found

-- The places of the table after an accepted batch are those before it with the batch's put in.
pub batch_places : (r : List ℕ) (t : Table) (i at n : ℕ) → at ≡ 24 * i → i + n ≤ 4096 → Good t → Ready t (requests_at r at n)
    → (room_tests t i (requests_at r at n)).outcome ≡ done → places.Apart (placed_of r) (numbers_from r i n)
    → flat (room_tests t i (requests_at r at n)).after.stations ≡ with_places (placed_of r) (flat t.stations) (numbers_from r i n)
unfolding requests_at room_tests numbers_from with_places places.Apart
batch_places r t i at zero h few g y e a = refl
batch_places r t i at (suc n) h few g y e a =
    let q : Request = request_at r at in
    let qs : List Request = requests_at r (at + 24) n in
    let f = first_turn t i q qs refl g y e in
    let x : placed_of r (number_at r i) ≡ placed_point (two r at) (point_of q) = number_placed r i at h (omega arith) in
    let ih = batch_places r (with_request t q) (i + 1) (at + 24) n (omega arith) (omega arith) f.good f.ready f.room a.1 in
    ap (λ (z : Effect). flat z.after.stations) f.on ∙ ih
    ∙ ap (λ (l : List Placed). with_places (placed_of r) l (numbers_from r (i + 1) n)) (one_more t q g f.accepted ∙ ap (λ (z : Placed). with_place z (flat t.stations)) (sym x))
    ∙ join_push (placed_of r) (placed_of r (number_at r i)) (flat t.stations) (numbers_from r (i + 1) n) a.0
