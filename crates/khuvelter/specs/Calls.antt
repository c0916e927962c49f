-- The calls of the C interface (DESIGN.md, section 5): what each is given, what it gives back, and what it leaves in the memories that are lent to it.
-- `Meets` is the contract of every entry, and the customer's demands (crate `promises`) begin with it.
use Rattle.std.specs.Prelude.{ℕ, ◌≡◌, List, []}
use Rattle.model.specs.Request.{request_at}
use Rattle.table.specs.Table.{Table}
use Rattle.registry.specs.Effect.{Effect, reply_on, memory_on}
use Rattle.registry.specs.Registry.{registering, registering_all, unregistering, unregistering_all}
use Rattle.registry.specs.Opening.{open_outcome, opened_memory}
use Rattle.batch_records.specs.Records.{requests_in}
use Rattle.answers.specs.Said.{Said, Lent, lent, answered_on, lent_after}
use Rattle.answers.specs.System.{system_said}
use Rattle.answers.specs.Process.{process_said}
use Rattle.answers.specs.Start.{start_said}
use Rattle.commands.specs.Entry.{proposal_of}
use Rattle.khuvelter.specs.Interface.{plain_reply, place_reply, answer_reply, is_set}
use Rattle.khuvelter.specs.declared.Reply.{Reply}

-- A call that changes which points there are, with what it is given to read: any numbers, any octets.
pub data Change : Type 0 where
  register_point : (octets : List ℕ) → Change
  register_points : (octets : List ℕ) → Change
  unregister_point : (ca ioa : ℕ) → Change
  unregister_all : Change

-- What it does to a table.
abbrev pub effect_by : Change → Table → Effect
effect_by (register_point q) = registering (request_at q 0)
effect_by (register_points qs) = registering_all (requests_in qs)
effect_by (unregister_point ca ioa) = unregistering ca ioa
effect_by unregister_all = unregistering_all

-- A call that is answered by ASDUs.
pub data Question : Type 0 where
  connection_started : Question
  system : (asdu : List ℕ) → Question
  process : (asdu : List ℕ) (negative reply_type : ℕ) (reply updates : List ℕ) → Question

-- What it says to a table, the clock being so.
abbrev pub said_by : Question → List ℕ → Table → Said
said_by connection_started clock = start_said clock
said_by (system m) clock = system_said clock m
said_by (process m negative kind objects updates) clock = process_said clock (proposal_of (is_set negative) kind objects updates) m

-- Any call.
pub data Call : Type 0 where
  open_table : (capacity : ℕ) (plan : List ℕ) → Call
  change : Change → Call
  ask : Question → Call

-- A call that only changes the table is lent no other memory.
abbrev pub table_alone : List ℕ → Lent
table_alone m = lent m [] [] []

-- The memories with another in place of the table's.
abbrev pub with_memory : List ℕ → Lent → Lent
with_memory m l = lent m l.clock l.answer l.spontaneous

-- What a call gives back on the memories that are lent.
abbrev pub reply_to : Call → Lent → Reply
reply_to (open_table k plan) l = plain_reply (open_outcome k plan l.table)
reply_to (change c) l = place_reply (reply_on (effect_by c) l.table)
reply_to (ask q) l = answer_reply (answered_on (said_by q l.clock) l)

-- The memories after a call.
abbrev pub left_by : Call → Lent → Lent
left_by (open_table k plan) l = with_memory (opened_memory k plan l.table) l
left_by (change c) l = with_memory (memory_on (effect_by c) l.table) l
left_by (ask q) l = lent_after (said_by q l.clock) l

-- An outcome of a call meets its contract: what came back and every memory, as one equation each.
pub record Meets (c : Call) (before : Lent) (r : Reply) (after : Lent) : Type 0 where
  pub answered : r ≡ reply_to c before
  pub left : after ≡ left_by c before
