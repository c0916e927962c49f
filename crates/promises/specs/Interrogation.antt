-- Demand 2: "Answers … are proved against definitions from IEC 60870-5-101 and -104. … An accepted global or group interrogation of one station reports
-- exactly the selected points, each once, by type then address, in full-as-allowed ASDUs between confirmation and termination."
-- Every entry's contract is one equation to a definition (khuvelter/specs/Calls, `reply_to` and `left_by`), so each has one right answer.
use Rattle.std.specs.Prelude.{Result, ℕ, ◌≤◌, ◌<◌, ◌≡◌, List, [], ◌∷◌, ◌++◌, true, false, length, eqb, Ok, Err, Some}
use Rattle.std.proofs.Math.Option.{some}
use Rattle.limits.specs.declared.outcome.Refusal.{Refusal}
use Rattle.limits.specs.Outcome.{Outcome}
use Rattle.octets.specs.Number.{Octets}
use Rattle.model.specs.declared.Point.{Point}
use Rattle.table.specs.Table.{Station, Table}
use Rattle.table.specs.Settings.{limit_of}
use Rattle.table.specs.Change.{station_of}
use Rattle.table.specs.Memory.{table_of, well_formed}
use Rattle.registry.specs.Effect.{Reply as TableReply, Effect}
use Rattle.registry.specs.declared.StationShare.{StationShare}
use Rattle.registry.specs.declared.Fault.{Fault}
use Rattle.answers.specs.declared.Written.{Written}
use Rattle.replies.specs.Replies.{Replies, placeless, numbered, placed}
use Rattle.registry.specs.Opening.{open_outcome, opened_memory}
use Rattle.registry.specs.Registry.{share_on}
use Rattle.asdu.specs.Cause.{activation}
use Rattle.asdu.specs.Header.{Asdu, global_address}
use Rattle.asdu.specs.declared.command.Command.{Command}
use Rattle.asdu.specs.declared.command.Entry.TheVariants.{SystemCommands}
use Rattle.asdu.specs.Command.{read_as}
use Rattle.report.specs.declared.Selection.{Selection}
use Rattle.report.specs.Packing.{selected, counted}
use Rattle.report.specs.Selection.{selects, interrogation_types_of}
use Rattle.report.specs.Report.{ordered, report}
use Rattle.answers.specs.Said.{Answered, answered, Said, Lent, lent, size, fronted, given, answered_on, Leaves, as_it_is}
use Rattle.answers.specs.System.{interrogation_type, qualifier_of, confirmed, terminated, interrogated, system_said}
use Rattle.faithful.specs.Faithful.{Faithful}
use Rattle.khuvelter.specs.Interface.{flat_share}
use Rattle.khuvelter.specs.declared.Reply.{Reply}
use Rattle.khuvelter.specs.declared.Share.{Share}
use Rattle.khuvelter.specs.Calls.{Call, Meets, reply_to, left_by}
use Rattle.khuvelter.specs.Calls.Question.{system}
use Rattle.khuvelter.specs.Calls.Call.{ask}

-- The octets m are an interrogation of one station, s of the table t, and are accepted:
pub record Accepted (m : List ℕ) (c : Command) (sel : Selection) (t : Table) (s : Station) : Type 0 where
  -- they pass the tests of a command of the system types, and c is what is read;
  pub read : read_as (limit_of t) SystemCommands m ≡ Ok c
  -- its type is 100;
  pub kind : eqb c.kind interrogation_type ≡ true
  -- it has a first object;
  pub object : eqb c.count 0 ≡ false
  -- its cause is 6;
  pub cause : eqb c.cause activation ≡ true
  -- its qualifier is 20, all points, or 21 to 36, a group;
  pub asked : interrogated (qualifier_of m) ≡ Some sel
  -- its CA is not that of all stations,
  pub one : eqb c.ca global_address ≡ false
  -- but that of s.
  pub planned : station_of c.ca t.stations ≡ some s

-- The answer: confirmation, the report of the selected points, termination.
abbrev pub whole_answer : List ℕ → Command → Selection → Table → Station → List Asdu
whole_answer m c sel t s =
    confirmed c m ∷ (report (limit_of t) (interrogation_types_of t) (qualifier_of m) c.ca (selected (selects sel) s.points) ++ (terminated c m ∷ []))

-- Where such an interrogation of s is answered, the memories l being lent, of which the first holds t:
pub record Reports (m : List ℕ) (c : Command) (sel : Selection) (t : Table) (s : Station) (l : Lent) : Type 0 where
  -- the entry `system_command` gives number 0 and the octets of the answer, and the C interface gives them on;
  pub answered : answered_on (system_said l.clock m) l ≡ given (size (whole_answer m c sel t s))
  pub replied : reply_to (ask (system m)) l ≡ record { number = 0; place = 0; octets = size (whole_answer m c sel t s); spontaneous = 0 }
  -- the answer stands at the front of its memory, and nothing else is written, here or in any other memory;
  pub left : left_by (ask (system m)) l ≡ lent l.table l.clock (fronted (whole_answer m c sel t s) l.answer) l.spontaneous
  -- what stands between confirmation and termination is in order, packed as full as allowed, and has nothing but selected points;
  pub faithful : Faithful (limit_of t) (interrogation_types_of t) (qualifier_of m) c.ca (selects sel) s.points
  -- and every selected point of the station, whatever its type, is there exactly once.
  pub once : (before after : List Point) (p : Point) → s.points ≡ before ++ (p ∷ after) → selects sel p ≡ true
      → counted (λ q. eqb q.ioa p.ioa) (ordered (interrogation_types_of t) (selected (selects sel) s.points)) ≡ 1

-- Demand 2.
pub record TheRightAnswer : Type 0 where
  -- "An accepted global or group interrogation of one station reports exactly the selected points …", where the answer has room;
  pub reports : (m : List ℕ) (c : Command) (sel : Selection) (s : Station) (l : Lent) → Octets l.table → well_formed l.table ≡ true
      → Accepted m c sel (table_of l.table) s → size (whole_answer m c sel (table_of l.table) s) ≤ length l.answer → Reports m c sel (table_of l.table) s l
  -- and where it has not, it is number 4 and every memory as it was.
  pub too_long : (m : List ℕ) (c : Command) (sel : Selection) (s : Station) (l : Lent) → Octets l.table → well_formed l.table ≡ true
      → Accepted m c sel (table_of l.table) s → length l.answer < size (whole_answer m c sel (table_of l.table) s)
      → (reply_to (ask (system m)) l ≡ record { number = 4; place = 0; octets = 0; spontaneous = 0 }) × (left_by (ask (system m)) l ≡ l)
  -- "Uniqueness": two outcomes that meet the contract of a call on the same inputs are equal, in what comes back and in every memory;
  pub one_outcome : (c : Call) (before : Lent) (r r' : Reply) (after after' : Lent) → Meets c before r after → Meets c before r' after' → (r ≡ r') × (after ≡ after')
  pub one_share : (ca : ℕ) (m : List ℕ) (r r' : Share) → r ≡ flat_share (share_on ca m) → r' ≡ flat_share (share_on ca m) → r ≡ r'
  -- and so inside: `register_point`, `register_points`, `unregister_point`, `unregister_all`; `open`; `station_share`;
  pub one_table_entry : (f : Table → Effect) (m : List ℕ) (r r' : TableReply) (n n' : List ℕ)
      → Replies f m r n → Replies f m r' n' → (r ≡ r') × (n ≡ n')
  pub one_opening : (k : ℕ) (plan m : List ℕ) (r r' : Outcome) (n n' : List ℕ)
      → (r ≡ open_outcome k plan m) × (n ≡ opened_memory k plan m) → (r' ≡ open_outcome k plan m) × (n' ≡ opened_memory k plan m) → (r ≡ r') × (n ≡ n')
  pub one_station_share : (ca : ℕ) (m : List ℕ) (r r' : Result StationShare Refusal) → r ≡ share_on ca m → r' ≡ share_on ca m → r ≡ r'
  -- `connection_started`, `system_command`, `process_command`.
  pub one_answer : (f : Table → Said) (before : Lent) (r r' : Answered) (after after' : Lent)
      → Leaves as_it_is f before r after → Leaves as_it_is f before r' after' → (r ≡ r') × (after ≡ after')
  -- The contracts inside speak of what is seen of a result; that tells the result.
  pub placeless_tells : (a b : Outcome) → placeless a ≡ placeless b → a ≡ b
  pub numbered_tells : (a b : Result ℕ Refusal) → numbered a ≡ numbered b → a ≡ b
  pub placed_tells : (a b : Result Unit Fault) → placed a ≡ placed b → a ≡ b
  pub answered_tells : (a b : Result Written Refusal) → answered a ≡ answered b → a ≡ b
