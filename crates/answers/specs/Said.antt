-- What a command says to a table, and what that makes of the memories that are lent to the call: the common last step of every command.
-- Document 01, 'Numbers given back': every number but 0 writes nothing anywhere; with 0, memory past the reported octets stays as it was.
use Rattle.std.specs.Prelude.{ℕ, ◌≡◌, List, [], ◌++◌, Bool, length, drop, leb, Err, Result, Ok}
use Rattle.std.proofs.Math.Option.{Option, none, some}
use Rattle.limits.specs.Test.{pick}
use Rattle.limits.specs.declared.outcome.Refusal.{Refusal}
use Rattle.limits.specs.Outcome.{Outcome, done, is_done}
use Rattle.limits.specs.declared.outcome.Refusal.TheVariants.{TableNotWellFormed, AnswerShort, SpontaneousShort}
use Rattle.asdu.specs.Header.{Asdu, wire}
use Rattle.table.specs.Table.{Table}
use Rattle.table.specs.Memory.{parse, table_of}
use Rattle.registry.specs.Effect.{holding, first_fault}
use Rattle.answers.specs.declared.Written.{Written}

-- What a command says: its outcome; the ASDUs of its answer and those told spontaneously; the table and the clock after it. All but the outcome count only with Done.
pub record Said : Type 0 where
  pub outcome : Outcome
  pub answer : List Asdu
  pub told : List Asdu
  pub after : Table
  pub clock : List ℕ

-- A refusal or silence.
abbrev pub unsaid : Refusal → Table → List ℕ → Said
unsaid r t clock = record { outcome = Err r; answer = []; told = []; after = t; clock = clock }

-- An answer that changes nothing.
abbrev pub says : List Asdu → Table → List ℕ → Said
says answer t clock = record { outcome = done; answer = answer; told = []; after = t; clock = clock }

-- The memories that are lent to a call; one that is not lent is empty.
pub record Lent : Type 0 where
  pub table : List ℕ
  pub clock : List ℕ
  pub answer : List ℕ
  pub spontaneous : List ℕ

abbrev pub lent : List ℕ → List ℕ → List ℕ → List ℕ → Lent
lent table clock answer spontaneous = record { table = table; clock = clock; answer = answer; spontaneous = spontaneous }

-- ---- the one last step: ASDUs become octets

-- How many octets the ASDUs have on the wire.
abbrev pub size : List Asdu → ℕ
size asdus = length (wire asdus)

-- A memory with ASDUs at its front.
abbrev pub fronted : List Asdu → List ℕ → List ℕ
fronted asdus memory = wire asdus ++ drop (size asdus) memory

-- Do they fit?
abbrev pub fits : List Asdu → List ℕ → Bool
fits asdus memory = leb (size asdus) (length memory)

-- What a command gives back: its outcome, and the octets written to the answer and to the spontaneous memory.
pub record Answered : Type 0 where
  pub outcome : Outcome
  pub octets : ℕ
  pub spontaneous : ℕ

-- The octets that were written, or a refusal, which wrote none.
abbrev pub answered : Result Written Refusal → Answered
answered (Ok w) = record { outcome = done; octets = w.octets; spontaneous = w.spontaneous }
answered (Err r) = record { outcome = Err r; octets = 0; spontaneous = 0 }

-- The outcome with the memories' lengths known: 5, then 4.
unfoldable pub outcome_with : Said → Lent → Outcome
outcome_with s l =
    first_fault s.outcome
    (first_fault (pick (fits s.told l.spontaneous) done (Err SpontaneousShort)) (pick (fits s.answer l.answer) done (Err AnswerShort)))

unfoldable pub answered_from : (Table → Said) → Lent → Option Table → Answered
answered_from f l none = record { outcome = (Err TableNotWellFormed); octets = 0; spontaneous = 0 }
answered_from f l (some t) =
    record {
      outcome = outcome_with (f t) l;
      octets = pick (is_done (outcome_with (f t) l)) (size (f t).answer) 0;
      spontaneous = pick (is_done (outcome_with (f t) l)) (size (f t).told) 0;
    }

unfoldable pub lent_from : (Table → Said) → Lent → Option Table → Lent
lent_from f l none = l
lent_from f l (some t) =
    pick (is_done (outcome_with (f t) l))
    (record {
      table = holding l.table t (f t).after;
      clock = (f t).clock;
      answer = fronted (f t).answer l.answer;
      spontaneous = fronted (f t).told l.spontaneous;
    })
    l

-- What a command gives back on lent memories: 3 where the table's is not well formed.
abbrev pub answered_on : (Table → Said) → Lent → Answered
answered_on f l = answered_from f l (parse l.table)

-- The memories after it.
abbrev pub lent_after : (Table → Said) → Lent → Lent
lent_after f l = lent_from f l (parse l.table)

-- What comes back, as the caller sees it, and what is left in every lent memory, where a call says f to a table.
pub record Leaves {R : Type 0} (seen : Answered → R) (f : Table → Said) (before : Lent) (r : R) (after : Lent) : Type 0 where
  pub answers : r ≡ seen (answered_on f before)
  pub leaves : after ≡ lent_after f before

-- An answer as it is.
abbrev pub as_it_is : Answered → Answered
as_it_is r = r

-- ---- an answer that is written whole if it fits, and not at all if it does not

-- A number other than 0: nothing is written.
abbrev pub nothing : Outcome → Answered
nothing o = record { outcome = o; octets = 0; spontaneous = 0 }

-- An answer of so many octets.
abbrev pub given : ℕ → Answered
given n = record { outcome = done; octets = n; spontaneous = 0 }

-- What comes back.
unfoldable pub sent : List Asdu → List ℕ → Answered
sent asdus memory = pick (fits asdus memory) (given (size asdus)) (nothing (Err AnswerShort))

-- What the answer memory holds.
unfoldable pub left : List Asdu → List ℕ → List ℕ
left asdus memory = pick (fits asdus memory) (fronted asdus memory) memory

-- Both together.
pub record Sends (asdus : List Asdu) (before : List ℕ) (r : Answered) (after : List ℕ) : Type 0 where
  pub answers : r ≡ sent asdus before
  pub leaves : after ≡ left asdus before

-- ---- a table's memory that is changed in place

-- A memory with a change of the table that it holds.
abbrev pub with_table : (Table → Table) → List ℕ → List ℕ
with_table f m = holding m (table_of m) (f (table_of m))
