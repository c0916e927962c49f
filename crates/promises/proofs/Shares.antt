-- Demand 3: the shares. A call of the C interface is one of registry's calls, whose history theorem counts it: records have twelve octets, and commands
-- change no holding (answers/proofs/Quiet). Who has room is in Rooms.antt. Assumes nothing.
use mathlib.Core.Path.{◌≡◌, refl, sym, ap, ap₂, ◌∙◌, subst}
use mathlib.Core.List.{List, [], ◌∷◌}
use mathlib.Core.Bool.{Bool, true, false}
use mathlib.Core.Option.{Option, some}
use mathlib.Core.Logic.{⊎_elim}
use Prim.Native.Nat.{ℕ, ◌+◌, ◌-◌, ◌<◌}
use native.Mathlib.Omega.{arith}
use lib.ListN.{length}
use lib.Dec.{eqb}
use Rattle.limits.specs.Test.{◌&◌, pick}
use Rattle.std.specs.Prelude.{Err}
use Rattle.limits.specs.Outcome.{Outcome, done, is_done, number_of}
use Rattle.limits.specs.declared.outcome.Refusal.TheVariants.{CeilingReached, NotAdmitted}
use Rattle.limits.proofs.Outcomes.{not_both, done_number}
use Rattle.model.specs.declared.Request.{Request}
use Rattle.model.specs.Request.{request_at}
use Rattle.table.specs.Table.{Station, Table, held}
use Rattle.table.specs.Change.{station_of}
use Rattle.table.proofs.Parse.{Good, good_is, is_good}
use Rattle.registry.specs.Effect.{Reply as TableReply, reply_from, reply_on, memory_on}
use Rattle.registry.specs.Opening.{planned, opens, fresh, opened_memory}
use Rattle.registry.specs.Registry.{room_fault, request_outcome, registering, registering_all}
use Rattle.registry.specs.History.{effect_of, held_by, counted, requests_of, tally_after, memory_after as memory_after_all}
use Rattle.registry.specs.History.Call.{command}
use Rattle.registry.proofs.Batches.{own_tests_ready, turn_good}
use Rattle.registry.proofs.Histories.{After, recounted, history, station_numbers, below_reservation_has_room, granted_alone}
use Rattle.opening.proofs.Fresh.{opens_good, opened_parses, refused as refused-opening}
use Rattle.batch_records.specs.Records.{requests_in}
use Rattle.batch_records.proofs.Laws.{all_twelve}
use Rattle.answers.specs.Said.{Lent}
use Rattle.answers.proofs.Common.{effect_in, command_effect}
use Rattle.khuvelter.specs.Calls.{Change, Call, said_by, reply_to, left_by}
use Rattle.khuvelter.specs.Calls.Change.{register_point, register_points, unregister_point, unregister_all}
use Rattle.khuvelter.specs.Calls.Call.{open_table, change, ask}
use Rattle.promises.specs.Shares.{Step, lent_at, memory_after, Books, opened_books, entered, books_after, Registrable, AtCeiling, NotAdmittedIn, Alone, AtTurn, Exactly, Stands, TheShares}
use Rattle.promises.proofs.Numbers.{one_number}
use Rattle.promises.proofs.Past.{registered, quiet}
use Rattle.promises.proofs.Rooms.{Rule, nineteen, twenty, turn_of, one_turn, alone_exactly, turn_fault, batch_exactly}

-- ---- an opened table

-- a fresh plan holds nothing at any address
nothing_held : (plan : List ℕ) (ca : ℕ) → held_by (station_of ca (planned plan)) ≡ 0
unfolding planned held_by station_of
nothing_held [] ca = refl
nothing_held (a ∷ []) ca = refl
nothing_held (a ∷ (r ∷ [])) ca = refl
nothing_held (a ∷ (r ∷ (c ∷ rest))) ca = by_test (nothing_held rest ca) (eqb a ca)
  where
    by_test : held_by (station_of ca (planned rest)) ≡ 0 → (b : Bool)
        → held_by (pick b (some (record { ca = a; reservation = r; ceiling = c; points = [] })) (station_of ca (planned rest))) ≡ 0
    by_test ih true = refl
    by_test ih false = ih

-- What the books say of a memory: registry's `After`, of books.
abbrev Kept : Books → List ℕ → Type 0
Kept b m = After b.capacity b.plan m b.tally

-- An opened table is good, has its plan, and nothing granted or removed.
opened : (k : ℕ) (plan m : List ℕ) → opens k plan (length m) ≡ true → Kept (opened_books k plan) (opened_memory k plan m)
opened k plan m o =
    record {
      table = fresh k plan;
      read = opened_parses k plan m o;
      is_good = good_is _ (opens_good k plan (length m) o);
      capacity = refl;
      plan = refl;
      counts = λ ca. let z = nothing_held plan ca in omega arith;
    }

-- ---- every call keeps the books

module _ (b : Books) (l : Lent) (a : Kept b l.table) where
  opening_kept : (k : ℕ) (plan : List ℕ) → Kept (entered b (open_table k plan) (reply_to (open_table k plan) l)) (opened_memory k plan l.table)
  opening_kept k plan = by_test (opens k plan (length l.table)) refl
    where
      by_test : (t : Bool) → opens k plan (length l.table) ≡ t → Kept (entered b (open_table k plan) (reply_to (open_table k plan) l)) (opened_memory k plan l.table)
      by_test true e =
          let n : entered b (open_table k plan) (reply_to (open_table k plan) l) ≡ opened_books k plan = simp e in
          subst (λ (x : Books). Kept x (opened_memory k plan l.table)) (sym n) (opened k plan l.table e)
      by_test false e =
          let n : entered b (open_table k plan) (reply_to (open_table k plan) l) ≡ b = simp e in
          subst (λ (x : Books). Kept x (opened_memory k plan l.table)) (sym n)
          (subst (λ (m : List ℕ). Kept b m) (sym (refused-opening k plan l.table e)) a)

  -- the outcome of a change, and its station's tally as the history counts it
  outcome_in : Change → Outcome
  outcome_in c = (reply_on (effect_of (registered c)) l.table).outcome

  -- counted by outcome or by number a change is counted alike
  same_count : (c : Change) (ca : ℕ) → counted ca (registered c) (reply_on (effect_of (registered c)) l.table) (b.tally ca)
      ≡ (entered b (change c) (reply_to (change c) l)).tally ca
  unfolding outcome_in
  same_count (register_point q) ca = λ j.
      record { granted = (b.tally ca).granted + pick (done_number (outcome_in (register_point q)) j & eqb (request_at q 0).ca ca) 1 0; removed = (b.tally ca).removed + 0 }
  same_count (register_points qs) ca = λ j.
      record { granted = (b.tally ca).granted + pick (done_number (outcome_in (register_points qs)) j) (requests_of ca (requests_in qs)) 0; removed = (b.tally ca).removed + 0 }
  same_count (unregister_point c ioa) ca = λ j.
      record { granted = (b.tally ca).granted + 0; removed = (b.tally ca).removed + pick (done_number (outcome_in (unregister_point c ioa)) j & eqb c ca) 1 0 }
  same_count unregister_all ca = λ j.
      record {
        granted = (b.tally ca).granted + 0;
        removed = (b.tally ca).removed + pick (done_number (outcome_in unregister_all) j) ((b.tally ca).granted - (b.tally ca).removed) 0;
      }

  change_kept : (c : Change) → After b.capacity b.plan (memory_on (effect_of (registered c)) l.table) (entered b (change c) (reply_to (change c) l)).tally
  unfolding memory_after_all tally_after
  change_kept c = recounted _ _ _ _ _ (same_count c) (history b.capacity b.plan l.table b.tally (registered c ∷ []) a)

  call_kept : (c : Call) → Kept (entered b c (reply_to c l)) (left_by c l).table
  unfolding memory_after_all tally_after
  call_kept (open_table k plan) = opening_kept k plan
  call_kept (change (register_point q)) = change_kept (register_point q)
  call_kept (change (register_points qs)) = change_kept (register_points qs)
  call_kept (change (unregister_point ca ioa)) = change_kept (unregister_point ca ioa)
  call_kept (change unregister_all) = change_kept unregister_all
  call_kept (ask q) =
      let f = said_by q l.clock in
      let h = history b.capacity b.plan l.table b.tally (command (effect_in f l) (quiet q l) ∷ []) a in
      subst (Kept b) (sym (command_effect f l).0)
      (record {
        table = h.table;
        read = h.read;
        is_good = h.is_good;
        capacity = h.capacity;
        plan = h.plan;
        counts = λ ca. let z = h.counts ca in omega arith;
      })

-- After any calls.
all_kept : (b : Books) (m : List ℕ) (steps : List Step) → Kept b m → Kept (books_after b m steps) (memory_after m steps)
unfolding books_after memory_after
all_kept b m [] a = a
all_kept b m (s ∷ steps) a =
    all_kept (entered b s.call (reply_to s.call (lent_at m s))) (left_by s.call (lent_at m s)).table steps (call_kept b (lent_at m s) a s.call)

-- ---- what stands

-- A point of a station below its reservation is granted when registered alone.
granted : (t : Table) (q : Request) (s : Station) → Good t → Registrable t q s → held s < s.reservation → request_outcome t q (station_of q.ca t.stations) ≡ done
unfolding registering
granted t q s g r h = granted_alone t q s g (record { own = r.described; new = r.unregistered }) r.of_station h

module _ (b : Books) (m : List ℕ) (a : Kept b m) where
  abbrev t : Table
  t = a.table

  -- what registration gives back on this memory
  alone_number : (q : List ℕ) (l : Lent) → l.table ≡ m
      → (reply_to (change (register_point q)) l).number ≡ number_of (request_outcome t (request_at q 0) (station_of (request_at q 0).ca t.stations))
  unfolding registering reply_from
  alone_number q l e =
      ap (λ (x : List ℕ). number_of (reply_on (registering (request_at q 0)) x).outcome) e ∙ ap (λ (x : Option Table). number_of (reply_from (registering (request_at q 0)) x).outcome) a.read

  alone_rule : (o : Outcome) (P : Table → Station → Type 0) → Rule o P → (q : List ℕ) (l : Lent) → l.table ≡ m
      → Exactly ((reply_to (change (register_point q)) l).number ≡ number_of o) (Alone t (request_at q 0) P)
  alone_rule o P rule q l e =
      let x = alone_exactly o P rule t (request_at q 0) a.is_good in
      record {
        only = λ n. x.only (one_number _ o (sym (alone_number q l e) ∙ n));
        always = λ z. alone_number q l e ∙ ap number_of (x.always z);
      }

  -- what a batch gives back on this memory
  batch_reply : (qs : List Request) → reply_on (registering_all qs) m ≡ record { outcome = (registering_all qs t).outcome; place = (registering_all qs t).place }
  unfolding reply_from
  batch_reply qs = ap (reply_from (registering_all qs)) a.read

  batch_rule : (o : Outcome) (P : Table → Station → Type 0) → Rule o P → (qs : List ℕ) (i : ℕ)
      → Exactly (reply_on (registering_all (requests_in qs)) m ≡ record { outcome = o; place = i }) (AtTurn t (requests_in qs) i P)
  batch_rule o P rule qs i =
      let x = batch_exactly o P rule t (requests_in qs) i a.is_good (all_twelve qs 0 _) in
      let r = batch_reply (requests_in qs) in
      record {
        only = λ e. x.only (ap (λ (y : TableReply). y.outcome) (sym r ∙ e), ap (λ (y : TableReply). y.place) (sym r ∙ e));
        always = λ z. let n = x.always z in r ∙ (λ j. record { outcome = n.0 j; place = n.1 j });
      }

  never : (qs : List ℕ) (i : ℕ) → AtTurn t (requests_in qs) i (λ u s. held s < s.reservation) → (o : Outcome) (P : Table → Station → Type 0) → Rule o P
      → reply_on (registering_all (requests_in qs)) m ≡ record { outcome = o; place = i } → ⊥
  never qs i z o P rule e =
      let y = (batch_rule o P rule qs i).only e in
      let same = one_turn z.turn y.turn in
      let good = turn_good t (requests_in qs) z.table z.asks a.is_good (own_tests_ready t [] 0 (requests_in qs) z.own_tests_passed).0 (all_twelve qs 0 _) (turn_of z.turn) in
      let room : room_fault z.table (station_of z.asks.ca z.table.stations) ≡ done = below_reservation_has_room z.table z.asks.ca z.station good.0 z.of_station z.so in
      let fault = turn_fault o P rule t (requests_in qs) i a.is_good (all_twelve qs 0 _) y in
      let done : done ≡ o = sym room ∙ ap₂ (λ (u : Table) (r : Request). room_fault u (station_of r.ca u.stations)) same.0 same.1 ∙ fault in
      not_both (sym rule.is_refusal ∙ sym (ap is_done done))

  stands : Stands b m
  stands =
      record {
        table = t;
        read = a.read;
        is_well_formed = is_good t a.is_good;
        capacity = a.capacity;
        plan = a.plan;
        holdings = λ ca. let c = a.counts ca in omega arith;
        never_below = λ ca. let c = a.counts ca in omega arith;
        ceilings = λ ca s e. (station_numbers t ca s a.is_good e).held_within;
        granted_alone = λ q l s e r h.
            alone_number q l e ∙ ap number_of (granted t (request_at q 0) s a.is_good r h);
        never_refused = λ qs i z o f e.
            ⊎_elim (λ (x : o ≡ (Err CeilingReached)). never qs i z (Err CeilingReached) AtCeiling nineteen (subst (λ (y : Outcome). reply_on (registering_all (requests_in qs)) m ≡ record { outcome = y; place = i }) x e))
            (λ (x : o ≡ (Err NotAdmitted)). never qs i z (Err NotAdmitted) NotAdmittedIn twenty (subst (λ (y : Outcome). reply_on (registering_all (requests_in qs)) m ≡ record { outcome = y; place = i }) x e)) f;
        ceiling_alone = alone_rule (Err CeilingReached) AtCeiling nineteen;
        room_alone = alone_rule (Err NotAdmitted) NotAdmittedIn twenty;
        ceiling_in_batch = batch_rule (Err CeilingReached) AtCeiling nineteen;
        room_in_batch = batch_rule (Err NotAdmitted) NotAdmittedIn twenty;
      }

-- ---- demand 3

pub the_shares : TheShares
the_shares = record { after_any_calls = λ k plan m o steps. stands _ _ (all_kept (opened_books k plan) (opened_memory k plan m) steps (opened k plan m o)) }
