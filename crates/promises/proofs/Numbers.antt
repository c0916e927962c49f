-- The numbers of document 01: each belongs to one outcome, and which of them a call may give is read off its definition, test by test. Assumes nothing.
use Prim.Native.Nat.{ℕ, ◌+◌}
use mathlib.Core.Path.{◌≡◌, refl, sym, ap, ◌∙◌}
use mathlib.Core.List.{List, [], ◌∷◌, map}
use mathlib.Core.Bool.{Bool, true, false, ◌||◌}
use mathlib.Core.Option.{Option, none, some}
use native.Mathlib.Omega.{arith}
use lib.ListN.{length}
use lib.Dec.{ltb, leb, eqb}
use borrow.Author.Tests.{le-leb}
use Rattle.limits.specs.Test.{◌&◌, pick, total}
use Rattle.std.specs.Prelude.{Ok, Err}
use Rattle.limits.specs.Outcome.{Outcome, done, is_done, number_of}
use Rattle.limits.specs.declared.outcome.Refusal.TheVariants.{Silent, Malformed, TableNotWellFormed, AnswerShort, SpontaneousShort, BadProposal, InvalidPlan, UnknownTypeOrAddress, StationNotPlanned, GroupOutOfRange, CounterGroupOutOfRange, NotCounter, AddressTwice, AlreadyRegistered, NotRegistered, CeilingReached, NotAdmitted}
use Rattle.asdu.specs.Command.{Reading}
use Rattle.asdu.specs.declared.command.Unread.TheVariants.{LengthOutOfRange, TypeNotServed, ObjectsNotWhole}
use Rattle.limits.specs.Size.{point_octets}
use Rattle.limits.specs.Share.{admission_of, free_of, unmet_of}
use Rattle.limits.specs.declared.share.Share.{Share}
use Rattle.model.specs.declared.Request.{Request}
use Rattle.model.specs.Request.{group_ok, counter_ok, own_fault, request_at}
use Rattle.table.specs.Table.{Station, Table, share_of}
use Rattle.table.specs.Settings.{limit_of}
use Rattle.table.specs.Change.{station_of, removed}
use Rattle.table.specs.Memory.{parse}
use Rattle.report.specs.Selection.{among}
use Rattle.registry.specs.Effect.{Reply as TableReply, Effect, refused, accepted, first_fault, reply_from, reply_on}
use Rattle.registry.specs.Registry.{is_planned, is_registered, room_fault, registered_fault, request_outcome, with_request, registering, stands_in, batch_fault, own_tests, room_tests, registering_all, unregistering, unregistering_all}
use Rattle.registry.specs.Opening.{opens}
use Rattle.batch_records.specs.Records.{requests_in}
use Rattle.asdu.specs.declared.command.Command.{Command}
use Rattle.asdu.specs.Header.{Asdu}
use Rattle.asdu.proofs.Laws.{wire_none}
use Rattle.answers.specs.Said.{Said, Lent, size, fits, outcome_with, answered_from, answered_on}
use Rattle.answers.specs.System.{is_silent, interrogation_type, counters_type, read_type, command_said, system_from, system_said}
use Rattle.answers.specs.Process.{Proposal, process_cause_taken, proposal_ok, process_from, process_said}
use Rattle.answers.specs.Start.{start_said}
use Rattle.commands.specs.Entry.{proposal_of}
use Rattle.khuvelter.specs.Interface.{is_set}
use Rattle.khuvelter.specs.Calls.{Call, reply_to}
use Rattle.khuvelter.specs.Calls.Change.{register_point, register_points, unregister_point, unregister_all}
use Rattle.khuvelter.specs.Calls.Question.{connection_started, system, process}
use Rattle.khuvelter.specs.Calls.Call.{open_table, change, ask}
use Rattle.promises.specs.Answers.{numbers_of}

-- ---- each number belongs to one outcome

-- the outcome with a number
with_number : ℕ → Outcome
with_number n =
    pick (eqb n 0) done
    (pick (eqb n 1) (Err Silent)
    (pick (eqb n 2) (Err Malformed)
    (pick (eqb n 3) (Err TableNotWellFormed)
    (pick (eqb n 4) (Err AnswerShort)
    (pick (eqb n 5) (Err SpontaneousShort)
    (pick (eqb n 6) (Err BadProposal)
    (pick (eqb n 10) (Err InvalidPlan)
    (pick (eqb n 11) (Err UnknownTypeOrAddress)
    (pick (eqb n 12) (Err StationNotPlanned)
    (pick (eqb n 13) (Err GroupOutOfRange)
    (pick (eqb n 14) (Err CounterGroupOutOfRange)
    (pick (eqb n 15) (Err NotCounter)
    (pick (eqb n 16) (Err AddressTwice)
    (pick (eqb n 17) (Err AlreadyRegistered)
    (pick (eqb n 18) (Err NotRegistered)
    (pick (eqb n 19) (Err CeilingReached)
    (Err NotAdmitted)))))))))))))))))

number_of_lem : (o : Outcome) → with_number (number_of o) ≡ o
unfolding with_number
number_of_lem (Ok u) = refl
number_of_lem (Err Silent) = refl
number_of_lem (Err Malformed) = refl
number_of_lem (Err TableNotWellFormed) = refl
number_of_lem (Err AnswerShort) = refl
number_of_lem (Err SpontaneousShort) = refl
number_of_lem (Err BadProposal) = refl
number_of_lem (Err InvalidPlan) = refl
number_of_lem (Err UnknownTypeOrAddress) = refl
number_of_lem (Err StationNotPlanned) = refl
number_of_lem (Err GroupOutOfRange) = refl
number_of_lem (Err CounterGroupOutOfRange) = refl
number_of_lem (Err NotCounter) = refl
number_of_lem (Err AddressTwice) = refl
number_of_lem (Err AlreadyRegistered) = refl
number_of_lem (Err NotRegistered) = refl
number_of_lem (Err CeilingReached) = refl
number_of_lem (Err NotAdmitted) = refl

-- Two outcomes with one number are one.
pub one_number : (a b : Outcome) → number_of a ≡ number_of b → a ≡ b
one_number a b e = sym (number_of_lem a) ∙ ap with_number e ∙ number_of_lem b

-- ---- which numbers a call may give

-- The outcome's number is one of these.
pub record Gives (ns : List ℕ) (o : Outcome) : Type 0 where
  pub is_one : among ns (number_of o) ≡ true

gives_pick : (ns : List ℕ) (b : Bool) (x y : Outcome) → Gives ns x → Gives ns y → Gives ns (pick b x y)
gives_pick ns true x y p q = p
gives_pick ns false x y p q = q

-- The first fault of two.
gives_first : (ns : List ℕ) (a b : Outcome) → Gives ns a → Gives ns b → Gives ns (first_fault a b)
gives_first ns a b p q = gives_pick ns (is_done a) b a q p

gives_reply : (ns : List ℕ) (b : Bool) (x y : TableReply) → Gives ns x.outcome → Gives ns y.outcome → Gives ns (pick b x y).outcome
gives_reply ns true x y p q = p
gives_reply ns false x y p q = q

gives_effect : (ns : List ℕ) (b : Bool) (x y : Effect) → Gives ns x.outcome → Gives ns y.outcome → Gives ns (pick b x y).outcome
gives_effect ns true x y p q = p
gives_effect ns false x y p q = q

gives_said : (ns : List ℕ) (b : Bool) (x y : Said) → Gives ns x.outcome → Gives ns y.outcome → Gives ns (pick b x y).outcome
gives_said ns true x y p q = p
gives_said ns false x y p q = q

on_table : (ns : List ℕ) (f : Table → Effect) → Gives ns (Err TableNotWellFormed) → ((t : Table) → Gives ns (f t).outcome) → (m : List ℕ) → Gives ns (reply_on f m).outcome
unfolding reply_from
on_table ns f three g m = of_parsed (parse m)
  where
    of_parsed : (o : Option Table) → Gives ns (reply_from f o).outcome
    of_parsed none = three
    of_parsed (some t) = g t

-- Registration: its own tests, and room.
pub own_gives : (ns : List ℕ) → Gives ns done → Gives ns (Err UnknownTypeOrAddress) → Gives ns (Err StationNotPlanned) → Gives ns (Err GroupOutOfRange)
    → Gives ns (Err CounterGroupOutOfRange) → Gives ns (Err NotCounter) → (planned : Bool) (q : Request) → Gives ns (own_fault planned q)
unfolding own_fault
own_gives ns d n11 n12 n13 n14 n15 planned q =
    gives_pick ns (leb 1 (point_octets q.kind) & leb q.ioa 16777215) _ _ (gives_pick ns planned _ _ (gives_pick ns (group_ok 16 q.group) _ _ (gives_pick ns (group_ok 4 q.counter) _ _
    (gives_pick ns (counter_ok q.kind q.counter) _ _ d n15) n14) n13) n12) n11

admission_gives : (ns : List ℕ) → Gives ns done → Gives ns (Err CeilingReached) → Gives ns (Err NotAdmitted) → (s : Share) (free unmet : ℕ)
    → Gives ns (admission_of s free unmet)
admission_gives ns d n19 n20 s free unmet =
    gives_pick ns (ltb s.held s.ceiling) _ _ (gives_pick ns (ltb s.held s.reservation || ltb unmet free) _ _ d n20) n19

room_gives : (ns : List ℕ) → Gives ns done → Gives ns (Err StationNotPlanned) → Gives ns (Err CeilingReached) → Gives ns (Err NotAdmitted) → (t : Table) (o : Option Station) → Gives ns (room_fault t o)
unfolding room_fault
room_gives ns d n12 n19 n20 t none = n12
room_gives ns d n12 n19 n20 t (some s) = admission_gives ns d n19 n20 (share_of s) (free_of t.capacity (map share_of t.stations)) (total unmet_of (map share_of t.stations))

-- What registration may give: the numbers of one point's own tests and of room.
record GivesOwn (ns : List ℕ) : Type 0 where
  done : Gives ns done
  unknown : Gives ns (Err UnknownTypeOrAddress)
  unplanned : Gives ns (Err StationNotPlanned)
  group : Gives ns (Err GroupOutOfRange)
  counter : Gives ns (Err CounterGroupOutOfRange)
  no_counter : Gives ns (Err NotCounter)
  registered : Gives ns (Err AlreadyRegistered)
  ceiling : Gives ns (Err CeilingReached)
  room : Gives ns (Err NotAdmitted)

module _ (ns : List ℕ) (g : GivesOwn ns) where
  own : (planned : Bool) (q : Request) → Gives ns (own_fault planned q)
  own planned q = own_gives ns g.done g.unknown g.unplanned g.group g.counter g.no_counter planned q

  registered_gives : (q : Request) (o : Option Station) → Gives ns (registered_fault q o)
  registered_gives q o = gives_pick ns (is_registered q.ioa o) (Err AlreadyRegistered) done g.registered g.done

  roomy : (t : Table) (o : Option Station) → Gives ns (room_fault t o)
  roomy t o = room_gives ns g.done g.unplanned g.ceiling g.room t o

  request_gives : (t : Table) (q : Request) (o : Option Station) → Gives ns (request_outcome t q o)
  unfolding request_outcome
  request_gives t q o =
      gives_first ns (own_fault (is_planned o) q) (first_fault (registered_fault q o) (room_fault t o)) (own (is_planned o) q)
      (gives_first ns (registered_fault q o) (room_fault t o) (registered_gives q o) (roomy t o))

  registering_gives : (q : Request) (t : Table) → Gives ns (registering q t).outcome
  unfolding registering
  registering_gives q t = request_gives t q (station_of q.ca t.stations)

  module _ (twice : Gives ns (Err AddressTwice)) where
    batch_fault_gives : (t : Table) (earlier : List Request) (q : Request) → Gives ns (batch_fault t earlier q)
    unfolding batch_fault
    batch_fault_gives t earlier q =
        let o = station_of q.ca t.stations in
        gives_first ns (own_fault (is_planned o) q) (first_fault (pick (stands_in q earlier) (Err AddressTwice) done) (registered_fault q o)) (own (is_planned o) q)
        (gives_first ns (pick (stands_in q earlier) (Err AddressTwice) done) (registered_fault q o)
        (gives_pick ns (stands_in q earlier) (Err AddressTwice) done twice g.done) (registered_gives q o))

    own_tests_gives : (t : Table) (earlier : List Request) (i : ℕ) (qs : List Request) → Gives ns (own_tests t earlier i qs).outcome
    unfolding own_tests
    own_tests_gives t earlier i [] = g.done
    own_tests_gives t earlier i (q ∷ qs) =
        gives_reply ns (is_done (batch_fault t earlier q)) (own_tests t (q ∷ earlier) (i + 1) qs) (record { outcome = batch_fault t earlier q; place = i })
        (own_tests_gives t (q ∷ earlier) (i + 1) qs) (batch_fault_gives t earlier q)

    room_tests_gives : (t : Table) (i : ℕ) (qs : List Request) → Gives ns (room_tests t i qs).outcome
    unfolding room_tests
    room_tests_gives t i [] = g.done
    room_tests_gives t i (q ∷ qs) =
        let r = room_fault t (station_of q.ca t.stations) in
        gives_effect ns (is_done r) (room_tests (with_request t q) (i + 1) qs) (refused r i t)
        (room_tests_gives (with_request t q) (i + 1) qs) (roomy t (station_of q.ca t.stations))

    batch_gives : (qs : List Request) (t : Table) → Gives ns (registering_all qs t).outcome
    unfolding registering_all
    batch_gives qs t =
        let r = own_tests t [] 0 qs in
        gives_effect ns (is_done r.outcome) (room_tests t 0 qs) (refused r.outcome r.place t) (room_tests_gives t 0 qs) (own_tests_gives t [] 0 qs)

module _ (ns : List ℕ) (nought : Gives ns done) where
  -- Removal.
  removing_gives : Gives ns (Err NotRegistered) → (ca ioa : ℕ) (t : Table) → Gives ns (unregistering ca ioa t).outcome
  unfolding unregistering
  removing_gives missing ca ioa t =
      gives_effect ns (is_registered ioa (station_of ca t.stations)) (accepted 0 (removed t ca ioa)) (refused (Err NotRegistered) 0 t) nought missing

  removing_all_gives : (t : Table) → Gives ns (unregistering_all t).outcome
  unfolding unregistering_all
  removing_all_gives t = nought

  -- What a command says, and the room for it: 5, which counts only where something is told, and 4.
  module _ (short : Gives ns (Err AnswerShort)) where
    with_gives : (s : Said) (l : Lent) → Gives ns s.outcome → Gives ns (pick (fits s.told l.spontaneous) done (Err SpontaneousShort)) → Gives ns (outcome_with s l)
    unfolding outcome_with
    with_gives s l o told =
        let t = pick (fits s.told l.spontaneous) done (Err SpontaneousShort) in
        let a = pick (fits s.answer l.answer) done (Err AnswerShort) in
        gives_first ns s.outcome (first_fault t a) o (gives_first ns t a told (gives_pick ns (fits s.answer l.answer) done (Err AnswerShort) nought short))

    answered_gives : (f : Table → Said) (l : Lent) → Gives ns (Err TableNotWellFormed) → ((t : Table) → Gives ns (f t).outcome)
        → ((t : Table) → Gives ns (pick (fits (f t).told l.spontaneous) done (Err SpontaneousShort))) → Gives ns (answered_on f l).outcome
    unfolding answered_from
    answered_gives f l three o told = of_parsed (parse l.table)
      where
        of_parsed : (t : Option Table) → Gives ns (answered_from f l t).outcome
        of_parsed none = three
        of_parsed (some t) = with_gives (f t) l (o t) (told t)

    -- Nothing told always fits.
    untold : (s : Said) (memory : List ℕ) → s.told ≡ [] → Gives ns (pick (fits s.told memory) done (Err SpontaneousShort))
    untold s memory e =
        let z : fits s.told memory ≡ true = ap (λ (x : List Asdu). leb (size x) (length memory)) e ∙ ap (λ (x : List ℕ). leb (length x) (length memory)) wire_none ∙ le-leb 0 (length memory) (omega arith) in
        simp z nought

  -- System commands.
  module _ (silent : Gives ns (Err Silent)) (malformed : Gives ns (Err Malformed)) where
    command_gives : (clock m : List ℕ) (c : Command) (t : Table) → Gives ns (command_said clock m c t).outcome
    unfolding command_said
    command_gives clock m c t =
        gives_said ns (eqb c.kind interrogation_type) _ _ nought
        (gives_said ns (eqb c.kind counters_type) _ _ nought
        (gives_said ns (eqb c.kind read_type) _ _ nought nought))

    system_gives : (clock m : List ℕ) (r : Reading) (t : Table) → Gives ns (system_from clock m r t).outcome
    unfolding system_from
    system_gives clock m (Err LengthOutOfRange) t = malformed
    system_gives clock m (Err TypeNotServed) t = silent
    system_gives clock m (Err ObjectsNotWhole) t = malformed
    system_gives clock m (Ok c) t = gives_said ns (is_silent c m) _ _ silent (command_gives clock m c t)

    -- Process commands.
    process_gives : Gives ns (Err BadProposal) → (clock : List ℕ) (p : Proposal) (r : Reading) (t : Table) → Gives ns (process_from clock p r t).outcome
    unfolding process_from
    process_gives bad clock p (Err LengthOutOfRange) t = malformed
    process_gives bad clock p (Err TypeNotServed) t = silent
    process_gives bad clock p (Err ObjectsNotWhole) t = malformed
    process_gives bad clock p (Ok c) t =
        gives_said ns (process_cause_taken c.cause) _ _ (gives_said ns (proposal_ok (limit_of t) p.kind p.objects) _ _ nought bad) silent

-- System commands tell nothing.
pick_untold : (b : Bool) (x y : Said) → x.told ≡ [] → y.told ≡ [] → (pick b x y).told ≡ []
pick_untold true x y p q = p
pick_untold false x y p q = q

command_untold : (clock m : List ℕ) (c : Command) (t : Table) → (command_said clock m c t).told ≡ []
unfolding command_said
command_untold clock m c t =
    pick_untold (eqb c.kind interrogation_type) _ _ refl
    (pick_untold (eqb c.kind counters_type) _ _ refl
    (pick_untold (eqb c.kind read_type) _ _ refl refl))

system_untold : (clock m : List ℕ) (r : Reading) (t : Table) → (system_from clock m r t).told ≡ []
unfolding system_from
system_untold clock m (Err unread) t = refl
system_untold clock m (Ok c) t = pick_untold (is_silent c m) _ _ refl (command_untold clock m c t)

-- ---- every call

own_numbers : (ns : List ℕ) → among ns 0 ≡ true → among ns 11 ≡ true → among ns 12 ≡ true → among ns 13 ≡ true → among ns 14 ≡ true → among ns 15 ≡ true
    → among ns 17 ≡ true → among ns 19 ≡ true → among ns 20 ≡ true → GivesOwn ns
own_numbers ns n0 n11 n12 n13 n14 n15 n17 n19 n20 =
    record {
      done = record { is_one = n0 };
      unknown = record { is_one = n11 };
      unplanned = record { is_one = n12 };
      group = record { is_one = n13 };
      counter = record { is_one = n14 };
      no_counter = record { is_one = n15 };
      registered = record { is_one = n17 };
      ceiling = record { is_one = n19 };
      room = record { is_one = n20 };
    }

-- Every call gives one of its numbers.
pub call_numbered : (c : Call) (l : Lent) → among (numbers_of c) (reply_to c l).number ≡ true
unfolding among
call_numbered (open_table k plan) l =
    (gives_pick (numbers_of (open_table k plan)) (opens k plan (length l.table)) done (Err InvalidPlan) (record { is_one = refl }) (record { is_one = refl })).is_one
call_numbered (change (register_point q)) l =
    let ns = numbers_of (change (register_point [])) in
    (on_table ns (registering (request_at q 0)) (record { is_one = refl })
    (registering_gives ns (own_numbers ns refl refl refl refl refl refl refl refl refl) (request_at q 0)) l.table).is_one
call_numbered (change (register_points qs)) l =
    let ns = numbers_of (change (register_points [])) in
    (on_table ns (registering_all (requests_in qs)) (record { is_one = refl })
    (batch_gives ns (own_numbers ns refl refl refl refl refl refl refl refl refl) (record { is_one = refl }) (requests_in qs)) l.table).is_one
call_numbered (change (unregister_point ca ioa)) l =
    (on_table (numbers_of (change (unregister_point 0 0))) (unregistering ca ioa) (record { is_one = refl })
    (removing_gives (numbers_of (change (unregister_point 0 0))) (record { is_one = refl }) (record { is_one = refl }) ca ioa) l.table).is_one
call_numbered (change unregister_all) l =
    (on_table (numbers_of (change unregister_all)) unregistering_all (record { is_one = refl }) (removing_all_gives (numbers_of (change unregister_all)) (record { is_one = refl })) l.table).is_one
call_numbered (ask connection_started) l =
    let ns = numbers_of (ask connection_started) in
    let nought : Gives ns done = record { is_one = refl } in
    let short : Gives ns (Err AnswerShort) = record { is_one = refl } in
    (answered_gives ns nought short (start_said l.clock) l (record { is_one = refl }) (λ t. nought) (λ t. untold ns nought short (start_said l.clock t) l.spontaneous refl)).is_one
call_numbered (ask (system m)) l =
    let ns = numbers_of (ask (system [])) in
    let nought : Gives ns done = record { is_one = refl } in
    let short : Gives ns (Err AnswerShort) = record { is_one = refl } in
    (answered_gives ns nought short (system_said l.clock m) l (record { is_one = refl })
    (λ t. system_gives ns nought (record { is_one = refl }) (record { is_one = refl }) l.clock m _ t)
    (λ t. untold ns nought short (system_said l.clock m t) l.spontaneous (system_untold l.clock m _ t))).is_one
call_numbered (ask (process m n k r us)) l =
    let ns = numbers_of (ask (process [] 0 0 [] [])) in
    let nought : Gives ns done = record { is_one = refl } in
    let p = proposal_of (is_set n) k r us in
    (answered_gives ns nought (record { is_one = refl }) (process_said l.clock p m) l (record { is_one = refl })
    (λ t. process_gives ns nought (record { is_one = refl }) (record { is_one = refl }) (record { is_one = refl }) l.clock p _ t)
    (λ t. gives_pick ns (fits (process_said l.clock p m t).told l.spontaneous) done (Err SpontaneousShort) nought (record { is_one = refl }))).is_one
