-- Demand 1: "Any octets, any table, any call: an answer and an end. Public entries test everything themselves. A refusal gives its number from
-- document 01, reports zero octets written, and changes no table, clock or output memory."
-- An end: Rattle takes no function that may not end. Any call: no public entry has a `requires`, and a `Call` is any numbers and any octets.
use Rattle.std.specs.Prelude.{ℕ, ◌<◌, ◌≡◌, List, [], ◌∷◌, true, false, length, drop, eqb}
use Rattle.std.proofs.Math.Option.{some}
use Rattle.limits.specs.Outcome.{Outcome, number_of}
use Rattle.octets.specs.Number.{Octets}
use Rattle.table.specs.Table.{Table}
use Rattle.table.specs.Memory.{parse}
use Rattle.report.specs.Selection.{among}
use Rattle.registry.specs.Effect.{Reply as TableReply, Effect}
use Rattle.replies.specs.Replies.{Replies}
use Rattle.registry.specs.Registry.{share_on}
use Rattle.registry.specs.Opening.{planned, table_octets, open_outcome, opened_memory}
use Rattle.answers.specs.Said.{Answered, Said, Lent, Leaves, as_it_is}
use Rattle.khuvelter.specs.Interface.{flat_share}
use Rattle.khuvelter.specs.declared.Reply.{Reply}
use Rattle.khuvelter.specs.declared.Share.{Share}
use Rattle.khuvelter.specs.Calls.{Call, table_alone, Meets}
use Rattle.khuvelter.specs.Calls.Change.{register_point, register_points, unregister_point, unregister_all}
use Rattle.khuvelter.specs.Calls.Question.{connection_started, system, process}
use Rattle.khuvelter.specs.Calls.Call.{open_table, change, ask}

-- "A refusal … reports zero octets written, and changes no table, clock or output memory": any number other than 0.
pub record Refusal (number octets spontaneous : ℕ) (before after : Lent) : Type 0 where
  pub reports_nothing : eqb number 0 ≡ false → (octets ≡ 0) × (spontaneous ≡ 0)
  pub changes_nothing : eqb number 0 ≡ false → after ≡ before

-- Document 01: "With 0, memory past the reported octets stays as it was." With any other number no octets are reported, so this says it of all.
pub record Beyond (octets spontaneous : ℕ) (before after : Lent) : Type 0 where
  pub of_the_answer : drop octets after.answer ≡ drop octets before.answer
  pub of_the_spontaneous : drop spontaneous after.spontaneous ≡ drop spontaneous before.spontaneous

-- "A refusal gives its number from document 01": the numbers that each call may give.
abbrev pub numbers_of : Call → List ℕ
numbers_of (open_table k plan) = 0 ∷ 10 ∷ []
numbers_of (change (register_point q)) = 0 ∷ 3 ∷ 11 ∷ 12 ∷ 13 ∷ 14 ∷ 15 ∷ 17 ∷ 19 ∷ 20 ∷ []
numbers_of (change (register_points qs)) = 0 ∷ 3 ∷ 11 ∷ 12 ∷ 13 ∷ 14 ∷ 15 ∷ 16 ∷ 17 ∷ 19 ∷ 20 ∷ []
numbers_of (change (unregister_point ca ioa)) = 0 ∷ 3 ∷ 18 ∷ []
numbers_of (change unregister_all) = 0 ∷ 3 ∷ []
numbers_of (ask connection_started) = 0 ∷ 3 ∷ 4 ∷ []
numbers_of (ask (system m)) = 0 ∷ 1 ∷ 2 ∷ 3 ∷ 4 ∷ []
numbers_of (ask (process m n k r us)) = 0 ∷ 1 ∷ 2 ∷ 3 ∷ 4 ∷ 5 ∷ 6 ∷ []

-- The octets of the table that a call finds in its memory t, or that it opens there: what lies past them is the caller's.
abbrev pub own_octets : Call → Table → ℕ
own_octets (open_table k plan) t = table_octets k (length (planned plan))
own_octets (change c) t = table_octets t.capacity (length t.stations)
own_octets (ask q) t = table_octets t.capacity (length t.stations)

-- A share that is refused has 0 for every other number.
pub record ShareRefusal (r : Share) : Type 0 where
  pub numbered : among (0 ∷ 3 ∷ 12 ∷ []) r.number ≡ true
  pub tells_nothing : eqb r.number 0 ≡ false → r ≡ record { number = r.number; reservation = 0; ceiling = 0; held = 0; free = 0; unmet = 0 }

-- Both, of an entry that answers.
abbrev pub Settled : Answered → Lent → Lent → Type 0
Settled r before after = Refusal (number_of r.outcome) r.octets r.spontaneous before after × Beyond r.octets r.spontaneous before after

-- Demand 1, of whatever meets an entry's contract.
pub record AnAnswerAndAnEnd : Type 0 where
  -- The calls of the C interface. "A refusal gives its number from document 01,
  pub numbered : (c : Call) (before : Lent) (r : Reply) (after : Lent) → Meets c before r after → among (numbers_of c) r.number ≡ true
  -- reports zero octets written, and changes no table, clock or output memory."
  pub refusal : (c : Call) (before : Lent) (r : Reply) (after : Lent) → Meets c before r after → Refusal r.number r.octets r.spontaneous before after
  -- Document 01: "With 0, memory past the reported octets stays as it was."
  -- (The C interface reports octets in 32 bits: what is told spontaneously is bounded by its memory alone, so of that less than 4 GiB are lent.)
  pub beyond : (c : Call) (before : Lent) (r : Reply) (after : Lent) → Meets c before r after → Octets before.table
      → length before.spontaneous < 4294967296 → Beyond r.octets r.spontaneous before after
  -- What lies past a table's own octets is the caller's.
  pub past_the_table : (c : Call) (before : Lent) (r : Reply) (after : Lent) → Meets c before r after → Octets before.table → (t : Table)
      → parse before.table ≡ some t → drop (own_octets c t) after.table ≡ drop (own_octets c t) before.table
  -- The share of a station: 3 or 12, and no other number.
  pub share : (ca : ℕ) (m : List ℕ) (r : Share) → r ≡ flat_share (share_on ca m) → ShareRefusal r
  -- Inside it: `register_point`, `register_points`, `unregister_point`, `unregister_all`, whatever their effect f on the table;
  pub table_entry : (f : Table → Effect) (m : List ℕ) (r : TableReply) (n : List ℕ) → Replies f m r n
      → Refusal (number_of r.outcome) 0 0 (table_alone m) (table_alone n)
  -- `open`;
  pub open_entry : (k : ℕ) (plan m : List ℕ) (r : Outcome) (n : List ℕ) → (r ≡ open_outcome k plan m) × (n ≡ opened_memory k plan m)
      → Refusal (number_of r) 0 0 (table_alone m) (table_alone n)
  -- and `connection_started`, `system_command`, `process_command`, whatever they say to the table.
  pub answering_entry : (f : Table → Said) (before : Lent) (r : Answered) (after : Lent) → Leaves as_it_is f before r after → Settled r before after
