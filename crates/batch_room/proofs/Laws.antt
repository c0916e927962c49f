-- The turns of a batch in memory are the turns of `room_tests`: what the stations hold, what is free and what is unmet go along. Assumes nothing.
use Rattle.std.specs.Prelude.{Option, Some, None, Result, Ok, Err}
use mathlib.Core.Path.{◌≡◌, refl, sym, ap, ◌∙◌}
use mathlib.Core.List.{List, [], ◌∷◌, map}
use mathlib.Core.Bool.{Bool, true, false}
use mathlib.Core.Option.{none, some}
use Prim.Native.Nat.{ℕ, zero, suc, ◌+◌, ◌*◌, ◌-◌, ◌≤◌, ◌<◌}
use native.Mathlib.Omega.{arith}
use lib.ListN.{length, get_or, set, replicate, length-set, length-replicate}
use borrow.Author.Tests.{lt-ltb}
use Rattle.limits.specs.Test.{pick, total}
use Rattle.limits.specs.Outcome.{Outcome, done, is_done}
use Rattle.limits.specs.Share.{held_of, unmet_of, taken_in, admission_of}
use Rattle.limits.specs.declared.outcome.Refusal.{Refusal}
use Rattle.limits.specs.declared.share.Share.{Share}
use Rattle.limits.proofs.Outcomes.{done_is, not_both}
use Rattle.limits.proofs.Shares.{unmet_is, admitted_only}
use Rattle.octets.specs.Number.{two}
use Rattle.model.specs.declared.Point.{Point}
use Rattle.model.specs.declared.Request.{Request}
use Rattle.model.specs.Request.{point_of, requests_at}
use Rattle.table.specs.Table.{Station, Table, held, unmet, share_of}
use Rattle.table.specs.Memory.{points_at, stations_at, table_of, sum_at, unmet_at}
use Rattle.layout.specs.Layout.{held_at}
use Rattle.table.specs.Change.{station_of, in_station, with_points, changed, insert_in, added}
use Rattle.table.proofs.Points.{length_points_at}
use Rattle.table.proofs.Stations.{sum_held, sum_unmet}
use Rattle.table.proofs.Shares.{total_held, total_unmet}
use Rattle.table.proofs.Change.{station_found, stations_split, insert_length}
use Rattle.table.proofs.Cut.{total_at}
use Rattle.lookup.specs.declared.Seat.{Seat}
use Rattle.lookup.specs.Seats.{seat_at}
use Rattle.registry.specs.Effect.{Reply}
use Rattle.registry.specs.Effect.{Effect, refused}
use Rattle.registry.specs.Registry.{room_fault, with_request, room_tests}
use Rattle.registry.specs.History.{Holding, holding_of}
use Rattle.batch_records.proofs.Laws.{requests_on, requests_end}
use Rattle.batch_room.specs.declared.Standing.{Standing}
use Rattle.batch_room.specs.Room.{room_reply, share_with, one_more, admitting, standing_of, station_at, standing_at, taken_at, going_on, room_run, taken_run, holding_with, TookIn}
use Rattle.batch_room.proofs.Lines.{lines_at, lines_start, Asked, asked, not_asked}

-- ---- one turn in memory

-- who is admitted is below the ceiling, and what stands after is the rule's
pub admitted_is : (s : Share) (now after : Standing) → standing_of s now ≡ Ok after → (s.held < s.ceiling) × (after ≡ one_more s now)
unfolding standing_of
admitted_is s now after e = by_case (admission_of s now.free now.unmet) refl e
  where
    by_case : (o : Outcome) → admission_of s now.free now.unmet ≡ o → admitting o (one_more s now) ≡ Ok after → (s.held < s.ceiling) × (after ≡ one_more s now)
    by_case (Ok u) f g = ((admitted_only s now.free now.unmet f).below_ceiling, cc)
    by_case (Err r) f g = let z : ◌≡◌ {A = ℕ} 0 1 = cc in absurd (omega arith)

-- what the rule answers, without what stands after
outcome_of : Result Standing Refusal → Outcome
outcome_of (Ok after) = done
outcome_of (Err r) = Err r

rule_answers : (o : Outcome) (after : Standing) → outcome_of (admitting o after) ≡ o
unfolding outcome_of
rule_answers (Ok u) after = refl
rule_answers (Err r) after = refl

-- ---- the turns of the loop

module _ (m taken r : List ℕ) (now : Standing) (i n : ℕ) where
  pub run_start : room_run m taken now 0 (requests_at r 0 n) ≡ room_run m taken now 0 (requests_at r (24 * 0) (n - 0))
  run_start = let e : n ≡ n - 0 = omega arith in ap (λ (x : ℕ). room_run m taken now 0 (requests_at r 0 x)) e

  pub taken_start : taken_run m taken now (requests_at r 0 n) ≡ taken_run m taken now (requests_at r (24 * 0) (n - 0))
  taken_start = let e : n ≡ n - 0 = omega arith in ap (λ (x : ℕ). taken_run m taken now (requests_at r 0 x)) e

  module _ (h : i < n) where
    pub run_on_lem : (after : Standing) → standing_at m taken (seat_at m (two r (24 * i))) now ≡ Ok after
        → room_run m taken now i (requests_at r (24 * i) (n - i))
        ≡ room_run m (taken_at m taken (seat_at m (two r (24 * i))) now) after (i + 1) (requests_at r (24 * (i + 1)) (n - (i + 1)))
    unfolding room_run
    run_on_lem after e = ap (room_run m taken now i) (requests_on r i n h) ∙ simp e

    pub run_stop : (f : Refusal) → standing_at m taken (seat_at m (two r (24 * i))) now ≡ Err f
        → room_run m taken now i (requests_at r (24 * i) (n - i)) ≡ record { outcome = Err f; place = i }
    unfolding room_run
    run_stop f e = ap (room_run m taken now i) (requests_on r i n h) ∙ simp e

    -- the same of what was taken in
    pub taken_on : (after : Standing) → standing_at m taken (seat_at m (two r (24 * i))) now ≡ Ok after
        → taken_run m taken now (requests_at r (24 * i) (n - i))
        ≡ taken_run m (taken_at m taken (seat_at m (two r (24 * i))) now) after (requests_at r (24 * (i + 1)) (n - (i + 1)))
    unfolding taken_run
    taken_on after e = ap (taken_run m taken now) (requests_on r i n h) ∙ simp e

    pub taken_stop : (f : Refusal) → standing_at m taken (seat_at m (two r (24 * i))) now ≡ Err f
        → taken_run m taken now (requests_at r (24 * i) (n - i)) ≡ taken_at m taken (seat_at m (two r (24 * i))) now
    unfolding taken_run
    taken_stop f e = ap (taken_run m taken now) (requests_on r i n h) ∙ simp e

  pub run_end : n ≤ i → room_run m taken now i (requests_at r (24 * i) (n - i)) ≡ record { outcome = done; place = 0 }
  unfolding room_run
  run_end h = ap (room_run m taken now i) (requests_end r i n h)

  pub taken_end : n ≤ i → taken_run m taken now (requests_at r (24 * i) (n - i)) ≡ taken
  unfolding taken_run
  taken_end h = ap (taken_run m taken now) (requests_end r i n h)

-- ---- what goes along

-- At a turn: the stations hold what the lines say, and free and unmet are the table's.
pub record Along (m taken : List ℕ) (now : Standing) (t : Table) : Type 0 where
  pub lines : map holding_of t.stations ≡ lines_at m taken 0 (64 + 48 * two m 4) (two m 6)
  pub is_free : now.free ≡ t.capacity - total held t.stations
  pub is_unmet : now.unmet ≡ total unmet t.stations
  pub room : two m 6 ≤ length taken

asked_at_lem : (m taken : List ℕ) (now : Standing) (t : Table) (ca : ℕ) (s : Seat) → Along m taken now t → seat_at m ca ≡ Some s
    → Asked m taken (64 + 48 * two m 4) ca s.index 0 (64 + 48 * two m 4) (two m 6) t.stations
unfolding seat_at
asked_at_lem m taken now t ca s a e =
    asked m taken (64 + 48 * two m 4) ca s.index s.first s.held 0 64 (64 + 48 * two m 4) (two m 6) t.stations (omega arith) e a.lines

unplanned_at : (m taken : List ℕ) (now : Standing) (t : Table) (ca : ℕ) → Along m taken now t → seat_at m ca ≡ None
    → station_of ca t.stations ≡ none
unfolding seat_at
unplanned_at m taken now t ca a e = not_asked m taken ca 0 64 (64 + 48 * two m 4) (two m 6) t.stations e a.lines

-- The answer in memory is the table's.
same_fault : (m taken : List ℕ) (now : Standing) (t : Table) (ca : ℕ) (s : Option Seat) → Along m taken now t → seat_at m ca ≡ s
    → outcome_of (standing_at m taken s now) ≡ room_fault t (station_of ca t.stations)
unfolding standing_at standing_of room_fault outcome_of
same_fault m taken now t ca (Some s) a e =
    let q = asked_at_lem m taken now t ca s a e in
    let f : now.free ≡ t.capacity - total held_of (map share_of t.stations) = a.is_free ∙ ap (λ (x : ℕ). t.capacity - x) (sym (total_held t.stations)) in
    let u : now.unmet ≡ total unmet_of (map share_of t.stations) = a.is_unmet ∙ sym (total_unmet t.stations) in
    rule_answers _ _ ∙ (λ k. admission_of (sym q.share k) (f k) (u k)) ∙ sym (ap (room_fault t) q.is_station)
same_fault m taken now t ca None a e = sym (ap (room_fault t) (unplanned_at m taken now t ca a e))

-- the sums with one point more at a station
sums_more : (t : Table) (ca : ℕ) (f : List Point → List Point) (s : Station) → station_of ca t.stations ≡ some s → length (f s.points) ≡ length s.points + 1
    → (total held (changed t ca f).stations ≡ total held t.stations + 1)
    × (total unmet (changed t ca f).stations + (s.reservation - length s.points) ≡ total unmet t.stations + (s.reservation - (length s.points + 1)))
sums_more t ca f s e l =
    let w = station_found ca t.stations s e in
    let c = stations_split t ca f s w in
    let h : total held t.stations ≡ total held w.before + (held s + total held w.after) = ap (total held) w.split ∙ total_at held w.before s w.after in
    let h' : total held (changed t ca f).stations ≡ total held w.before + (length (f s.points) + total held w.after) =
    ap (total held) c ∙ total_at held w.before (with_points f s) w.after in
    let u : total unmet t.stations ≡ total unmet w.before + (unmet s + total unmet w.after) = ap (total unmet) w.split ∙ total_at unmet w.before s w.after in
    let u' : total unmet (changed t ca f).stations ≡ total unmet w.before + (s.reservation - length (f s.points) + total unmet w.after) =
    ap (total unmet) c ∙ total_at unmet w.before (with_points f s) w.after in
    (omega arith, omega arith)

-- what a share that takes one in loses of its unmet room
unmet_lost : (s : Share) → s.held < s.ceiling → unmet_of s - unmet_of (taken_in s) ≡ (s.reservation - s.held) - (s.reservation - (s.held + 1))
unmet_lost s h =
    let a : unmet_of s ≡ s.reservation - s.held = unmet_is s in
    let b : unmet_of (taken_in s) ≡ s.reservation - (taken_in s).held = unmet_is (taken_in s) in
    let c : (taken_in s).held ≡ s.held + 1 = simp (lt-ltb _ _ h) in
    let d : unmet_of (taken_in s) ≡ s.reservation - (s.held + 1) = b ∙ ap (λ (x : ℕ). s.reservation - x) c in
    (λ k. a k - d k)

-- After the turn all of it goes along with the table that has the point.
along_on : (m taken : List ℕ) (now after : Standing) (t : Table) (q : Request) (s : Option Seat) → Along m taken now t → seat_at m q.ca ≡ s
    → standing_at m taken s now ≡ Ok after → Along m (taken_at m taken s now) after (with_request t q)
unfolding standing_at taken_at added changed
along_on m taken now after t q (Some seat) a e d =
    let j : ℕ = seat.index in
    let k = asked_at_lem m taken now t q.ca seat a e in
    let s : Station = k.s in
    let f : List Point → List Point = insert_in (point_of q) in
    let l : length (f s.points) ≡ length s.points + 1 = insert_length (point_of q) s.points in
    let z = sums_more t q.ca f s k.is_station l in
    let more : total held (in_station q.ca (with_points f) t.stations) ≡ total held t.stations + 1 = z.0 in
    let less : total unmet (in_station q.ca (with_points f) t.stations) + (s.reservation - length s.points) ≡ total unmet t.stations + (s.reservation - (length s.points + 1)) = z.1 in
    let S : Share = share_with m (station_at m j) (get_or taken j 0) in
    let admitted = admitted_is S now after d in
    let free : after.free ≡ now.free - 1 = ap (λ (x : Standing). x.free) admitted.1 in
    let unmet' : after.unmet ≡ now.unmet - (unmet_of S - unmet_of (taken_in S)) = ap (λ (x : Standing). x.unmet) admitted.1 in
    let lost : unmet_of S - unmet_of (taken_in S) ≡ (s.reservation - length s.points) - (s.reservation - (length s.points + 1)) =
    unmet_lost S admitted.0 ∙ ap (λ (x : Share). (x.reservation - x.held) - (x.reservation - (x.held + 1))) (sym k.share) in
    let is_free : now.free ≡ t.capacity - total held t.stations = a.is_free in
    let is_unmet : now.unmet ≡ total unmet t.stations = a.is_unmet in
    let room : two m 6 ≤ length taken = a.room in
    let inside : j < 0 + two m 6 = k.inside.1 in
    let len : length (set taken j (get_or taken j 0 + 1)) ≡ length taken = length-set taken j (get_or taken j 0 + 1) in
    rw d (record {
      lines = k.one_more f l (omega arith);
      is_free = omega arith;
      is_unmet = omega arith;
      room = omega arith;
    })
along_on m taken now after t q None a e d = let z : ◌≡◌ {A = ℕ} 0 1 = cc in absurd (omega arith)

-- ---- the whole

reply_of : Effect → Reply
reply_of e = record { outcome = e.outcome; place = e.place }

-- one turn: refused alike, or on with the rest
one_turn : (x : Result Standing Refusal) (o : Outcome) (i : ℕ) (t : Table) (rest : Standing → Reply) (y : Effect) → outcome_of x ≡ o
    → ((after : Standing) → x ≡ Ok after → rest after ≡ reply_of y)
    → going_on x rest (λ r. record { outcome = Err r; place = i }) ≡ reply_of (pick (is_done o) y (refused o i t))
unfolding reply_of outcome_of
one_turn (Ok after) o i t rest y e again = again after refl ∙ ap (λ (z : Outcome). reply_of (pick (is_done z) y (refused z i t))) e
one_turn (Err r) o i t rest y e again = ap (λ (z : Outcome). reply_of (pick (is_done z) y (refused z i t))) e

none_left : (i : ℕ) (t : Table) → record { outcome = done; place = 0 } ≡ reply_of (room_tests t i [])
unfolding room_tests reply_of
none_left i t = refl

-- no request is left
none_more : (m taken : List ℕ) (t : Table) (i : ℕ) → map holding_of t.stations ≡ lines_at m taken 0 (64 + 48 * two m 4) (two m 6)
    → map holding_of (room_tests t i []).after.stations ≡ lines_at m taken 0 (64 + 48 * two m 4) (two m 6)
unfolding room_tests
none_more m taken t i e = e

-- The turns in memory give the answer of the table.
run_law : (m : List ℕ) (qs : List Request) (taken : List ℕ) (now : Standing) (i : ℕ) (t : Table) → Along m taken now t
    → room_run m taken now i qs ≡ reply_of (room_tests t i qs)
unfolding room_run room_tests
run_law m [] taken now i t a = none_left i t
run_law m (q ∷ qs) taken now i t a =
    one_turn _ _ i t _ _ (same_fault m taken now t q.ca (seat_at m q.ca) a refl)
    (λ after d. run_law m qs _ after (i + 1) (with_request t q) (along_on m taken now after t q (seat_at m q.ca) a refl d))

-- ---- what each station took in

-- the first request of those that have room has room, and the others go on from the table with its point
pub room_first : (t : Table) (i : ℕ) (q : Request) (qs : List Request) → (room_tests t i (q ∷ qs)).outcome ≡ done
    → (room_fault t (station_of q.ca t.stations) ≡ done) × (room_tests t i (q ∷ qs) ≡ room_tests (with_request t q) (i + 1) qs)
unfolding room_tests
room_first t i q qs e = by_test (is_done (room_fault t (station_of q.ca t.stations))) refl e
  where
    by_test : (b : Bool) → is_done (room_fault t (station_of q.ca t.stations)) ≡ b
        → (pick b (room_tests (with_request t q) (i + 1) qs) (refused (room_fault t (station_of q.ca t.stations)) i t)).outcome ≡ done
        → (room_fault t (station_of q.ca t.stations) ≡ done)
        × (pick b (room_tests (with_request t q) (i + 1) qs) (refused (room_fault t (station_of q.ca t.stations)) i t) ≡ room_tests (with_request t q) (i + 1) qs)
    by_test true d f = (done_is _ d, refl)
    by_test false d f = not_both (sym d ∙ ap is_done f)

-- a turn that has room goes on with the rest
turn_taken : (m : List ℕ) (x : Result Standing Refusal) (goal : List Holding) (rest : Standing → List ℕ) (end : Refusal → List ℕ) → outcome_of x ≡ done
    → ((after : Standing) → x ≡ Ok after → goal ≡ lines_at m (rest after) 0 (64 + 48 * two m 4) (two m 6))
    → goal ≡ lines_at m (going_on x rest end) 0 (64 + 48 * two m 4) (two m 6)
unfolding outcome_of
turn_taken m (Ok after) goal rest end e again = again after refl
turn_taken m (Err r) goal rest end e again = not_both (ap is_done e)

-- What was taken in after the turns is what the stations of the table hold more.
run_taken : (m : List ℕ) (qs : List Request) (taken : List ℕ) (now : Standing) (i : ℕ) (t : Table) → Along m taken now t → (room_tests t i qs).outcome ≡ done
    → map holding_of (room_tests t i qs).after.stations ≡ lines_at m (taken_run m taken now qs) 0 (64 + 48 * two m 4) (two m 6)
unfolding taken_run
run_taken m [] taken now i t a d = none_more m taken t i a.lines
run_taken m (q ∷ qs) taken now i t a d =
    let f = room_first t i q qs d in
    turn_taken m _ (map holding_of (room_tests t i (q ∷ qs)).after.stations) _ _ (same_fault m taken now t q.ca (seat_at m q.ca) a refl ∙ f.0)
    (λ after x. ap (λ (x : Effect). map holding_of x.after.stations) f.1
    ∙ run_taken m qs _ after (i + 1) (with_request t q) (along_on m taken now after t q (seat_at m q.ca) a refl x) (ap (λ (x : Effect). x.outcome) (sym f.1) ∙ d))

-- Before the first turn all of it goes along with the table that the memory holds.
room_along : (m taken : List ℕ) (now : Standing) → ((j : ℕ) → get_or taken j 0 ≡ 0) → two m 6 ≤ length taken
    → now.free ≡ two m 4 - sum_at held_at m (64 + 48 * two m 4) (two m 6) → now.unmet ≡ sum_at unmet_at m (64 + 48 * two m 4) (two m 6)
    → Along m taken now (table_of m)
unfolding table_of
room_along m taken now z l f u =
    record {
      lines = lines_start m taken 0 64 (64 + 48 * two m 4) (two m 6) z;
      is_free = f ∙ ap (λ (x : ℕ). two m 4 - x) (sym (sum_held m 64 (64 + 48 * two m 4) (two m 6)));
      is_unmet = u ∙ sym (sum_unmet m 64 (64 + 48 * two m 4) (two m 6));
      room = l;
    }

-- the lines in memory are those of the stations read
lines_are : (m taken : List ℕ) (i pb sb n : ℕ) → lines_at m taken i sb n ≡ holding_with (stations_at m pb sb n) taken i
unfolding lines_at stations_at holding_with
lines_are m taken i pb sb zero = refl
lines_are m taken i pb sb (suc n) =
    let h : two m (sb + 6) ≡ length (points_at m pb (two m (sb + 6))) = sym (length_points_at m pb (two m (sb + 6))) in
    let ih = lines_are m taken (i + 1) (pb + 48 * two m (sb + 6)) (sb + 8) n in
    λ j. record { ca = two m sb; reservation = two m (sb + 2); ceiling = two m (sb + 4); held = h j + get_or taken i 0 } ∷ ih j

-- nothing taken in
none_taken_lem : (n j : ℕ) → get_or (replicate {A = ℕ} n 0) j 0 ≡ 0
none_taken_lem zero j = refl
none_taken_lem (suc n) zero = refl
none_taken_lem (suc n) (suc j) = none_taken_lem n j

module _ (m taken : List ℕ) (now : Standing) (qs : List Request) (l : two m 6 ≤ 64) (z : taken ≡ replicate 64 0)
    (f : now.free ≡ two m 4 - sum_at held_at m (64 + 48 * two m 4) (two m 6)) (u : now.unmet ≡ sum_at unmet_at m (64 + 48 * two m 4) (two m 6)) where
  fresh : Along m taken now (table_of m)
  fresh =
      let n : length taken ≡ 64 = ap (λ (x : List ℕ). length x) z ∙ length-replicate {A = ℕ} 64 0 in
      room_along m taken now (λ j. ap (λ (x : List ℕ). get_or x j 0) z ∙ none_taken_lem 64 j) (omega arith) f u

  -- The share rule over a batch, where no station has taken in anything yet.
  pub room_fresh : room_run m taken now 0 qs ≡ room_reply (table_of m) qs
  unfolding room_reply reply_of
  room_fresh = run_law m qs taken now 0 (table_of m) fresh

  -- What each station took in then.
  pub took_in : (taken' : List ℕ) → taken' ≡ taken_run m taken now qs → TookIn (table_of m) qs taken'
  unfolding table_of
  took_in taken' e d =
      run_taken m qs taken now 0 (table_of m) fresh d
      ∙ ap (λ (x : List ℕ). lines_at m x 0 (64 + 48 * two m 4) (two m 6)) (sym e)
      ∙ lines_are m taken' 0 64 (64 + 48 * two m 4) (two m 6)
