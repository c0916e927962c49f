-- What a process command says, given a caller's proposal. Document 01, 'What each command says'; the Rust's `commands.rs`.
use Rattle.std.specs.Prelude.{ℕ, zero, suc, ◌+◌, ◌-◌, ◌/◌, ◌%◌, List, [], ◌∷◌, ◌++◌, map, Bool, ◌||◌, length, get_or, leb, eqb, Ok, Err}
use Rattle.std.proofs.Math.Option.{Option, none, some}
use Rattle.limits.specs.Test.{◌&◌, pick}
use Rattle.limits.specs.Size.{class_of, element_octets, point_octets, control_octets, header_octets, address_octets}
use Rattle.limits.specs.Outcome.{done}
use Rattle.limits.specs.declared.outcome.Refusal.TheVariants.{Silent, BadProposal}
use Rattle.asdu.specs.Command.{Reading, read_as, refusal_of, is_process}
use Rattle.asdu.specs.declared.command.Unread.TheVariants.{LengthOutOfRange, TypeNotServed, ObjectsNotWhole}
use Rattle.octets.specs.Number.{two, three, twelve}
use Rattle.model.specs.declared.Point.{Point}
use Rattle.model.specs.Place.{with_value}
use Rattle.model.specs.Request.{element}
use Rattle.table.specs.Table.{Table}
use Rattle.table.specs.Settings.{limit_of}
use Rattle.table.specs.Change.{changed, point_in}
use Rattle.asdu.specs.Cause.{request, activation, activation_confirmation, deactivation, deactivation_confirmation}
use Rattle.asdu.specs.declared.command.Command.{Command}
use Rattle.asdu.specs.declared.command.Entry.TheVariants.{ProcessCommands}
use Rattle.asdu.specs.Header.{Asdu}
use Rattle.asdu.specs.Confirmation.{reply, objects_of}
use Rattle.report.specs.Order.{own_points}
use Rattle.report.specs.Single.{spontaneous_asdu}
use Rattle.answers.specs.Said.{Said, unsaid}

-- A value for a point of a station: CA, IOA, type and octets.
pub record Update : Type 0 where
  pub ca : ℕ
  pub ioa : ℕ
  pub kind : ℕ
  pub value : List ℕ

-- A caller's proposal: a negative flag, a reply type, the octets of the reply objects, and updates.
pub record Proposal : Type 0 where
  pub negative : Bool
  pub kind : ℕ
  pub objects : List ℕ
  pub updates : List Update

-- ---- the flat form of an update: CA 2, IOA 3, type 1, value 12

abbrev pub update_ioa_offset : ℕ
update_ioa_offset = 2

abbrev pub update_type_offset : ℕ
update_type_offset = 5

abbrev pub update_value_offset : ℕ
update_value_offset = 6

abbrev pub update_octets : ℕ
update_octets = 18

-- The update whose octets begin at `at`.
abbrev pub update_at : List ℕ → ℕ → Update
update_at m at =
    record { ca = two m at; ioa = three m (at + update_ioa_offset); kind = get_or m (at + update_type_offset) 0; value = twelve m (at + update_value_offset) }

-- n updates, one after another.
unfoldable pub updates_at : List ℕ → ℕ → ℕ → List Update
updates_at m at zero = []
updates_at m at (suc n) = update_at m at ∷ updates_at m (at + update_octets) n

-- The updates of a flat list; octets after the last whole one are ignored.
abbrev pub updates_in : List ℕ → List Update
updates_in m = updates_at m 0 (length m / update_octets)

-- ---- the tests of a proposal and of a cause

-- A proposal is good under the length limit L if its type is a process type and its reply octets are at most L − 10 and whole objects; else it is bad (6).
unfoldable pub proposal_ok : ℕ → ℕ → List ℕ → Bool
proposal_ok limit kind objects =
    is_process (class_of kind) & leb (length objects) (limit - (control_octets + header_octets)) & eqb (length objects % (address_octets + element_octets kind)) 0

-- Process commands take causes 5, 6 and 8.
abbrev pub process_cause_taken : ℕ → Bool
process_cause_taken cause = eqb cause request || (eqb cause activation || eqb cause deactivation)

-- ---- updates

-- The point at an address of a table, or none.
abbrev pub addressed : Table → ℕ → ℕ → Option Point
addressed t ca ioa = point_in ioa (own_points ca t.stations)

-- A point with another value: octets past its element are zero.
abbrev pub revalued : Point → List ℕ → Point
revalued p v = with_value (element (point_octets p.kind) v) p

-- The point that an update means, with its new value: registered at its address, and of its type.
unfoldable pub updated : Update → Option Point → Option Point
updated u none = none
updated u (some p) = pick (eqb p.kind u.kind) (some (revalued p u.value)) none

-- A point in place of the one with its IOA.
unfoldable pub replace_in : Point → List Point → List Point
replace_in p ps = map (λ q. pick (eqb q.ioa p.ioa) p q) ps

-- What an update leaves: the table after it, and the spontaneous ASDU that tells it, with the update's own CA; skipped, nothing changes and nothing is told.
unfoldable pub table_with : Table → Update → Option Point → Table
table_with t u none = t
table_with t u (some p) = changed t u.ca (replace_in p)

unfoldable pub told_of : Update → Option Point → List Asdu
told_of u none = []
told_of u (some p) = spontaneous_asdu u.ca p ∷ []

-- The new value of a point by an update of a table.
abbrev pub update_of : Table → Update → Option Point
update_of t u = updated u (addressed t u.ca u.ioa)

-- The updates go in order: the table after them, and what they tell, one after another.
unfoldable pub table_after : Table → List Update → Table
table_after t [] = t
table_after t (u ∷ us) = table_after (table_with t u (update_of t u)) us

unfoldable pub told_by : Table → List Update → List Asdu
told_by t [] = []
told_by t (u ∷ us) = told_of u (update_of t u) ++ told_by (table_with t u (update_of t u)) us

-- ---- the command

-- The updates that count: none of a negative proposal is read.
abbrev pub read_updates : Proposal → List Update
read_updates p = pick p.negative [] p.updates

-- The confirmation's cause: 9 for a deactivation, else 7.
abbrev pub confirmation_cause : ℕ → ℕ
confirmation_cause cause = pick (eqb cause deactivation) deactivation_confirmation activation_confirmation

-- The confirmation: the reply's type and objects; originator, CA and test of the command; negative as proposed.
abbrev pub process_reply : Command → Proposal → Asdu
process_reply c p = reply c p.kind (confirmation_cause c.cause) p.negative (objects_of (element_octets p.kind) p.objects)

unfoldable pub process_from : List ℕ → Proposal → Reading → Table → Said
process_from clock p (Err unread) t = unsaid (refusal_of unread) t clock
process_from clock p (Ok c) t =
    pick (process_cause_taken c.cause)
    (pick (proposal_ok (limit_of t) p.kind p.objects)
    (record { outcome = done; answer = process_reply c p ∷ []; told = told_by t (read_updates p); after = table_after t (read_updates p); clock = clock })
    (unsaid BadProposal t clock))
    (unsaid Silent t clock)

-- What a process command says to a table; the clock stays.
abbrev pub process_said : List ℕ → Proposal → List ℕ → Table → Said
process_said clock p m t = process_from clock p (read_as (limit_of t) ProcessCommands m) t
