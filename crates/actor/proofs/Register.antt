-- Registration of one point, as the code goes: each way out gives the number and the memory that the effect on the table says. Assumes nothing.
use Rattle.std.specs.Prelude.{Some, None, Result, Ok, Err}
use mathlib.Core.Path.{◌≡◌, refl, sym, ap, ap₂, ◌∙◌}
use mathlib.Core.List.{List}
use mathlib.Core.Bool.{true, false}
use mathlib.Core.Option.{none, some}
use Prim.Native.Nat.{ℕ, ◌+◌, ◌*◌, ◌≤◌, ◌<◌}
use native.Mathlib.Omega.{arith}
use Rattle.limits.specs.Test.{total}
use Rattle.limits.specs.declared.outcome.Refusal.{Refusal}
use Rattle.limits.specs.declared.outcome.Refusal.TheVariants.{AlreadyRegistered}
use Rattle.limits.specs.Outcome.{Outcome, done, is_done}
use Rattle.octets.specs.Number.{Octets}
use Rattle.model.specs.declared.Request.{Request}
use Rattle.model.specs.Request.{own_fault, point_of}
use Rattle.model.proofs.Requests.{Unplanned, unplanned, faultless, point_address}
use Rattle.model.proofs.Requests.Unplanned.{unknown, station}
use Rattle.table.specs.Table.{held}
use Rattle.table.specs.Memory.{table_of, well_formed}
use Rattle.table.specs.Change.{station_of, seek_in, known}
use Rattle.table.proofs.Parse.{holds, parse_some}
use Rattle.lookup.specs.declared.Seat.{Seat}
use Rattle.lookup.specs.Seats.{seat_at}
use Rattle.lookup.specs.Find.{find_at}
use Rattle.lookup.proofs.Laws.{seat_law, absent_law, Standing, standing}
use Rattle.lookup.proofs.Halving.{held_law, missing_law}
use Rattle.insert.specs.Insert.{placed, HasRoom}
use Rattle.insert.proofs.Laws.{insert_parsed, insert_bounds}
use Rattle.insert.proofs.Entry.{admitted_room}
use Rattle.registry.specs.Effect.{first_fault}
use Rattle.registry.specs.Registry.{is_planned, is_registered, room_fault, registered_fault, request_outcome, registering}
use Rattle.replies.specs.Replies.{Replies, placeless}
use Rattle.replies.proofs.Ways.{refused_by, done_by}
use Rattle.actor.specs.Actor.{room_at}
use Rattle.actor.proofs.Rooms.{room_law}

-- ---- registration

-- 17 where a point stands at the address
abbrev spot_fault : Result ℕ ℕ → Outcome
spot_fault (Ok at) = Err AlreadyRegistered
spot_fault (Err at) = done

not_done : (o : Outcome) → Unplanned o → is_done o ≡ false
not_done o (unknown e) = ap is_done e
not_done o (station e) = ap is_done e

module _ (m : List ℕ) (o : Octets m) (w : well_formed m ≡ true) (q : Request) where
  -- The plan has no such station: 11 or 12.
  pub register_absent : seat_at m q.ca ≡ None → Replies (registering q) m (placeless (own_fault false q)) m
  unfolding registering request_outcome is_planned
  register_absent e =
      let s : station_of q.ca (table_of m).stations ≡ none = absent_law m q.ca e in
      let d : is_done (own_fault false q) ≡ false = not_done _ (unplanned q) in
      refused_by (registering q) m w (own_fault false q) (ap (request_outcome (table_of m) q) s ∙ simp d) refl d

  module _ (seat : Seat) (e : seat_at m q.ca ≡ Some seat) where
    -- 17 as the code finds it
    spot_law : spot_fault (find_at m seat.first seat.held q.ioa) ≡ registered_fault q (some (seat_law m q.ca seat.index seat.first seat.held o w e).seat.s)
    unfolding is_registered
    spot_law = by_spot (find_at m seat.first seat.held q.ioa) refl
      where
        by_spot : (x : Result ℕ ℕ) → find_at m seat.first seat.held q.ioa ≡ x → spot_fault x ≡ registered_fault q (some (seat_law m q.ca seat.index seat.first seat.held o w e).seat.s)
        by_spot (Ok at) p =
            let z = seat_law m q.ca seat.index seat.first seat.held o w e in
            let k : known q.ioa z.seat.s.points ≡ true =
            ap (known q.ioa) (sym z.points) ∙ (held_law m seat.first seat.held q.ioa at (rw z.points z.rises) p).is_known in
            simp k
        by_spot (Err at) p =
            let z = seat_law m q.ca seat.index seat.first seat.held o w e in
            let k : known q.ioa z.seat.s.points ≡ false =
            ap (known q.ioa) (sym z.points) ∙ (missing_law m seat.first seat.held q.ioa at (rw z.points z.rises) p).not_known in
            simp k

    -- the outcome, as the code puts it together
    outcome_law : request_outcome (table_of m) q (station_of q.ca (table_of m).stations)
        ≡ first_fault (own_fault true q) (first_fault (spot_fault (find_at m seat.first seat.held q.ioa)) (room_at m seat.index))
    unfolding request_outcome is_planned
    outcome_law =
        let z = seat_law m q.ca seat.index seat.first seat.held o w e in
        let s : station_of q.ca (table_of m).stations ≡ some z.seat.s = z.seat.is_station in
        let r : room_at m seat.index ≡ room_fault (table_of m) (some z.seat.s) = room_law m o w q.ca seat.index seat.first seat.held e ∙ ap (room_fault (table_of m)) s in
        ap (request_outcome (table_of m) q) s ∙ (λ j. first_fault (own_fault true q) (first_fault (sym spot_law j) (sym r j)))

    -- Refused by its own tests: 11, 13 to 15.
    pub register_own : (r : Refusal) → own_fault true q ≡ Err r → Replies (registering q) m (placeless (Err r)) m
    unfolding registering
    register_own r d = refused_by (registering q) m w (Err r) (outcome_law ∙ simp d) refl refl

    module _ (own : own_fault true q ≡ done) (at : ℕ) where
      -- Its address has a point: 17.
      pub register_known : find_at m seat.first seat.held q.ioa ≡ Ok at → Replies (registering q) m (placeless (Err AlreadyRegistered)) m
      unfolding registering
      register_known p = refused_by (registering q) m w (Err AlreadyRegistered) (outcome_law ∙ simp (own, p)) refl refl

      module _ (p : find_at m seat.first seat.held q.ioa ≡ Err at) where
        -- Refused for room: 19, 20.
        pub register_room : (r : Refusal) → room_at m seat.index ≡ Err r → Replies (registering q) m (placeless (Err r)) m
        unfolding registering
        register_room r x = refused_by (registering q) m w (Err r) (outcome_law ∙ simp (own, p, x)) refl refl

        module _ (x : room_at m seat.index ≡ done) where
          -- whoever has room finds a free place
          room_place : total held (table_of m).stations < (table_of m).capacity
          unfolding room_fault
          room_place =
              let z = seat_law m q.ca seat.index seat.first seat.held o w e in
              admitted_room (table_of m) q.ca z.seat.s (holds m o w).0 z.seat.found
              (ap (room_fault (table_of m)) (sym z.seat.is_station) ∙ sym (room_law m o w q.ca seat.index seat.first seat.held e) ∙ x)

          -- where the point goes
          goes : Standing (table_of m).stations q.ca (point_of q).ioa (seat_law m q.ca seat.index seat.first seat.held o w e).seat.s (seat_law m q.ca seat.index seat.first seat.held o w e).seat.found seat.index seat.held at
          goes =
              let z = seat_law m q.ca seat.index seat.first seat.held o w e in
              let k = (missing_law m seat.first seat.held q.ioa at (rw z.points z.rises) p).place in
              standing (table_of m).stations q.ca (point_of q).ioa seat.index seat.first seat.held at z.seat
              (k ∙ ap₂ (λ (l : _) (y : ℕ). seat.first + 48 * seek_in y l) z.points (sym (point_address q)))

          -- What `insert` asks of the numbers.
          pub register_bounds : ((point_of q).ioa < 16777216) × HasRoom m seat.index seat.held at
          register_bounds =
              let z = seat_law m q.ca seat.index seat.first seat.held o w e in
              let gl = holds m o w in
              let b = insert_bounds (table_of m) m q.ca (point_of q).ioa z.seat.s z.seat.found seat.index seat.held at gl.0 gl.1 room_place goes in
              let a : q.ioa ≤ 16777215 = (faultless true q own).address in
              let k = point_address q in
              (omega arith, b)

          -- Done: the point is in its place.
          pub register_done : Replies (registering q) m (placeless done) (placed m q.ca (point_of q) seat.index seat.held at)
          unfolding registering
          register_done =
              let z = seat_law m q.ca seat.index seat.first seat.held o w e in
              done_by (registering q) m w 0 _ (outcome_law ∙ simp (own, p, x)) refl
              (insert_parsed m (table_of m) q.ca (point_of q) z.seat.s z.seat.found seat.index seat.held at o (parse_some m w) room_place goes)
