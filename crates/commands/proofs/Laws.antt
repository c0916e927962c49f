-- The ways out of a process command, as the code goes: each gives back what `answered_on` says and leaves the memories that `lent_after` says. Assumes nothing.
use mathlib.Core.Path.{◌≡◌, refl, sym, ap, ◌∙◌}
use mathlib.Core.List.{List, [], ◌∷◌}
use mathlib.Core.Bool.{Bool, true, false}
use mathlib.Core.Option.{some}
use Prim.Native.Nat.{ℕ, ◌+◌, ◌/◌, ◌≤◌, ◌<◌}
use native.Mathlib.Omega.{arith}
use lib.ListN.{length}
use borrow.Author.Tests.{le-leb, lt-leb}
use Rattle.limits.specs.Test.{pick}
use Rattle.limits.specs.Size.{header_octets}
use Rattle.std.specs.Prelude.{Ok, Err}
use Rattle.limits.specs.Outcome.{done}
use Rattle.limits.specs.declared.outcome.Refusal.TheVariants.{Silent, AnswerShort, SpontaneousShort, BadProposal}
use Rattle.asdu.specs.Command.{Reading, read_as, refusal_of}
use Rattle.asdu.specs.declared.command.Unread.{Unread}
use Rattle.octets.specs.Over.{over}
use Rattle.table.specs.Table.{Table}
use Rattle.table.specs.Settings.{limit_of}
use Rattle.table.specs.Memory.{table_of, well_formed, parse}
use Rattle.table.proofs.Parse.{parse_some}
use Rattle.registry.specs.Effect.{holding}
use Rattle.asdu.specs.declared.command.Command.{Command}
use Rattle.asdu.specs.declared.command.Entry.TheVariants.{ProcessCommands}
use Rattle.asdu.specs.Header.{Asdu, asdu_octets, wire}
use Rattle.asdu.specs.Puts.{Puts}
use Rattle.asdu.proofs.Laws.{wire_one}
use Rattle.answers.specs.Said.{Answered, Said, Lent, lent, size, fronted, outcome_with, answered_from, lent_from, Leaves, as_it_is, nothing}
use Rattle.answers.specs.Process.{Update, Proposal, update_octets, updates_at, updates_in, proposal_ok, process_cause_taken, told_by, process_reply, process_from, process_said}
use Rattle.answers.proofs.Proposals.{whole_reply, length_confirmed}
use Rattle.answers.proofs.Ends.{front_is, ends_nothing, ends_refused, ends_alike}
use Rattle.updates.specs.Updates.{left_by_all}
use Rattle.commands.specs.Entry.{proposal_of}

-- ---- commands that tell something

module _ (f : Table → Said) (l : Lent) (w : well_formed l.table ≡ true) (says : (f (table_of l.table)).outcome ≡ done) where
  -- What is told does not fit: 5.
  ends_untold : length l.spontaneous < size (f (table_of l.table)).told → Leaves as_it_is f l (nothing (Err SpontaneousShort)) l
  unfolding outcome_with
  ends_untold h = ends_nothing f l w (Err SpontaneousShort) (simp (says, lt-leb _ _ h)) refl

  -- What is told fits, the answer does not: 4.
  ends_unanswered : size (f (table_of l.table)).told ≤ length l.spontaneous → length l.answer < size (f (table_of l.table)).answer
      → Leaves as_it_is f l (nothing (Err AnswerShort)) l
  unfolding outcome_with
  ends_unanswered k h = ends_nothing f l w (Err AnswerShort) (simp (says, le-leb _ _ k, lt-leb _ _ h)) refl

  both_fit : size (f (table_of l.table)).told ≤ length l.spontaneous → size (f (table_of l.table)).answer ≤ length l.answer
      → outcome_with (f (table_of l.table)) l ≡ done
  unfolding outcome_with
  both_fit k h = simp (says, le-leb _ _ k, le-leb _ _ h)

  -- Both fit.
  ends_told : (n k : ℕ) (l' : Lent) → n ≡ size (f (table_of l.table)).answer → n ≤ length l.answer
      → k ≡ size (f (table_of l.table)).told → k ≤ length l.spontaneous
      → l' ≡ record {
        table = holding l.table (table_of l.table) (f (table_of l.table)).after;
        clock = (f (table_of l.table)).clock;
        answer = fronted (f (table_of l.table)).answer l.answer;
        spontaneous = fronted (f (table_of l.table)).told l.spontaneous;
      }
      → Leaves as_it_is f l (record { outcome = done; octets = n; spontaneous = k }) l'
  unfolding answered_from lent_from
  ends_told n k l' en ln ek lk s =
      let d : outcome_with (f (table_of l.table)) l ≡ done = both_fit (omega arith) (omega arith) in
      let p : parse l.table ≡ some (table_of l.table) = parse_some l.table w in
      record {
        answers = sym (ap (answered_from f l) p ∙ simp d (λ j. record { outcome = done; octets = sym en j; spontaneous = sym ek j }));
        leaves = s ∙ sym (ap (lent_from f l) p ∙ simp d);
      }

-- ---- the updates that are read

-- None of a negative proposal is read.
pub updates_read : (negative : Bool) (us : List ℕ)
    → pick {A = List Update} negative [] (updates_in us) ≡ updates_at us 0 (pick negative 0 (length us / update_octets))
unfolding updates_at
updates_read true us = refl
updates_read false us = refl

-- ---- a command that was read

module _ (l : Lent) (negative : Bool) (kind : ℕ) (objects us : List ℕ) (c : Command) where
  abbrev said : Table → Said
  said = process_from l.clock (proposal_of negative kind objects us) (Ok c)

  abbrev tells : List Asdu
  tells = told_by (table_of l.table) (updates_at us 0 (pick negative 0 (length us / update_octets)))

  abbrev stored : List ℕ
  stored = left_by_all l.table us 0 (pick negative 0 (length us / update_octets))

  abbrev confirmed : Asdu
  confirmed = process_reply c (proposal_of negative kind objects [])

  module _ (w : well_formed l.table ≡ true) where
    -- The cause is not taken: 1.
    pub process_silent : process_cause_taken c.cause ≡ false → Leaves as_it_is said l (nothing (Err Silent)) l
    unfolding process_from
    process_silent e = ends_refused said l w (Err Silent) (simp e) refl

    module _ (taken : process_cause_taken c.cause ≡ true) where
      -- A bad proposal: 6.
      pub process_bad : proposal_ok (limit_of (table_of l.table)) kind objects ≡ false → Leaves as_it_is said l (nothing (Err BadProposal)) l
      unfolding process_from
      process_bad e = ends_refused said l w (Err BadProposal) (simp (taken, e)) refl

      module _ (ok : proposal_ok (limit_of (table_of l.table)) kind objects ≡ true) where
        -- What is said, and the memory with its table.
        said_done : (said (table_of l.table)).outcome ≡ done
        unfolding process_from
        said_done = simp (taken, ok)

        said_answer : (said (table_of l.table)).answer ≡ confirmed ∷ []
        unfolding process_from
        said_answer = simp (taken, ok)

        said_told : (said (table_of l.table)).told ≡ tells
        unfolding process_from
        said_told = simp (taken, ok, updates_read negative us)

        said_after : holding l.table (table_of l.table) (said (table_of l.table)).after ≡ stored
        unfolding process_from
        said_after = simp (taken, ok, updates_read negative us)

        said_clock : (said (table_of l.table)).clock ≡ l.clock
        unfolding process_from
        said_clock = simp (taken, ok)

        answer_length : size (said (table_of l.table)).answer ≡ header_octets + length objects
        answer_length = ap size said_answer ∙ ap length (wire_one confirmed) ∙ length_confirmed c (proposal_of negative kind objects []) (whole_reply _ kind objects ok)

        -- The spontaneous memory is short: 5.
        pub process_untold : length l.spontaneous < size tells → Leaves as_it_is said l (nothing (Err SpontaneousShort)) l
        process_untold h = let e = ap size said_told in ends_untold said l w said_done (omega arith)

        -- The answer memory is short: 4.
        pub process_unanswered : size tells ≤ length l.spontaneous → length l.answer < header_octets + length objects
            → Leaves as_it_is said l (nothing (Err AnswerShort)) l
        process_unanswered k h =
            let e = ap size said_told in
            let f = answer_length in
            ends_unanswered said l w said_done (omega arith) (omega arith)

        -- Stored, told and confirmed.
        pub process_done : (table answer spontaneous : List ℕ) (n k : ℕ) → Puts (asdu_octets confirmed) l.answer n answer → header_octets + length objects ≤ length l.answer
            → k ≡ size tells → k ≤ length l.spontaneous
            → table ≡ stored → spontaneous ≡ over l.spontaneous 0 (wire tells)
            → Leaves as_it_is said l (record { outcome = done; octets = n; spontaneous = k }) (lent table l.clock answer spontaneous)
        process_done table answer spontaneous n k p ln ek lk et es =
            let e = ap size said_told in
            let f = answer_length in
            let en : n ≡ size (said (table_of l.table)).answer = p.0 ∙ sym (ap size said_answer ∙ ap length (wire_one confirmed)) in
            let t = et ∙ sym said_after in
            let a = p.1 ∙ ap (over l.answer 0) (sym (wire_one confirmed)) ∙ front_is l.answer (confirmed ∷ []) ∙ ap (λ (x : List Asdu). fronted x l.answer) (sym said_answer) in
            let s = es ∙ front_is l.spontaneous tells ∙ ap (λ (x : List Asdu). fronted x l.spontaneous) (sym said_told) in
            ends_told said l w said_done n k _ en (omega arith) (omega arith) lk (λ j. lent (t j) (sym said_clock j) (a j) (s j))

-- ---- what was read

-- No command was read: its number.
pub process_unread : (l : Lent) (p : Proposal) → well_formed l.table ≡ true → (unread : Unread)
    → Leaves as_it_is (process_from l.clock p (Err unread)) l (nothing (Err (refusal_of unread))) l
unfolding process_from
process_unread l p w unread = ends_refused _ l w (Err (refusal_of unread)) refl refl

-- What is met of what was read is met of the ASDU.
pub process_read : (l l' : Lent) (p : Proposal) (m : List ℕ) (r : Answered) (x : Reading) → well_formed l.table ≡ true
    → x ≡ read_as (limit_of (table_of l.table)) ProcessCommands m
    → Leaves as_it_is (process_from l.clock p x) l r l' → Leaves as_it_is (process_said l.clock p m) l r l'
process_read l l' p m r x w e h =
    ends_alike (process_from l.clock p x) l w (process_said l.clock p m) (ap (λ (y : Reading). process_from l.clock p y (table_of l.table)) e) r l' h
