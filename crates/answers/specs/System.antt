-- What each system command says: interrogation, counters, read, clock, tests, reset process.
-- Document 01, 'What each command says'; IEC 60870-5-101, 7.4 (functions) and 7.2.6.22, 7.2.6.23 (qualifiers).
use Rattle.std.specs.Prelude.{ℕ, zero, suc, ◌+◌, ◌-◌, ◌/◌, ◌%◌, List, [], ◌∷◌, ◌++◌, map, Bool, true, false, ◌||◌, not, take, drop, get_or, replicate, leb, eqb, Ok, Err, Some, None}
use Rattle.std.proofs.Math.Option.{Option, none, some}
use Rattle.limits.specs.Test.{◌&◌, pick}
use Rattle.limits.specs.Size.{header_octets, address_octets}
use Rattle.limits.specs.Outcome.{done}
use Rattle.limits.specs.declared.outcome.Refusal.TheVariants.{Silent}
use Rattle.asdu.specs.Command.{Reading, read_as, refusal_of}
use Rattle.asdu.specs.declared.command.Unread.TheVariants.{LengthOutOfRange, TypeNotServed, ObjectsNotWhole}
use Rattle.octets.specs.Number.{three}
use Rattle.model.specs.declared.Point.{Point}
use Rattle.model.specs.Place.{is_counter, with_value}
use Rattle.table.specs.Table.{Table}
use Rattle.table.specs.Settings.{limit_of}
use Rattle.table.specs.Change.{station_of, with_points, with_stations, changed, point_in}
use Rattle.asdu.specs.Cause.{request, activation, activation_confirmation, activation_termination, interrogation, counter_interrogation}
use Rattle.asdu.specs.Header.{Asdu, global_address}
use Rattle.asdu.specs.declared.command.Command.{Command}
use Rattle.asdu.specs.declared.command.Entry.TheVariants.{SystemCommands}
use Rattle.asdu.specs.Confirmation.{confirmation, echo}
use Rattle.report.specs.declared.Selection.{Selection}
use Rattle.report.specs.declared.Selection.TheVariants.{Every, Group, CounterGroup}
use Rattle.report.specs.Packing.{selected}
use Rattle.report.specs.Selection.{selects, interrogation_types_of, counter_types}
use Rattle.report.specs.Report.{report}
use Rattle.report.specs.Order.{points_for, points_of}
use Rattle.report.specs.Single.{requested_asdu}
use Rattle.answers.specs.Choice.{Choice}
use Rattle.answers.specs.Said.{Said, unsaid, says}

-- The types of the system commands.
abbrev pub interrogation_type : ℕ
interrogation_type = 100

abbrev pub counters_type : ℕ
counters_type = 101

abbrev pub read_type : ℕ
read_type = 102

abbrev pub clock_type : ℕ
clock_type = 103

-- ---- which commands are taken

-- Causes taken: 6 for an interrogation; 5 or 6 for the others.
abbrev pub cause_taken : ℕ → ℕ → Bool
cause_taken kind cause = eqb cause activation || (not (eqb kind interrogation_type) & eqb cause request)

-- The qualifier octet of the first object.
abbrev pub qualifier_of : List ℕ → ℕ
qualifier_of m = get_or m (header_octets + address_octets) 0

-- What is answered by number 1: no first object, a cause that is not taken, an interrogation with qualifier 0.
unfoldable pub is_silent : Command → List ℕ → Bool
is_silent c m = eqb c.count 0 || (not (cause_taken c.kind c.cause) || (eqb c.kind interrogation_type & eqb (qualifier_of m) 0))

-- ---- confirmation, data, termination

-- A positive confirmation, cause 7, with the first object alone.
abbrev pub confirmed : Command → List ℕ → Asdu
confirmed c m = confirmation c m activation_confirmation false

-- A negative confirmation, cause 7, with the first object alone.
abbrev pub denied : Command → List ℕ → Asdu
denied c m = confirmation c m activation_confirmation true

-- A confirmation, cause 7, that echoes all objects.
abbrev pub echoed : Command → List ℕ → Bool → Asdu
echoed c m negative = echo c m activation_confirmation negative

-- A termination, cause 10, with the first object alone.
abbrev pub terminated : Command → List ℕ → Asdu
terminated c m = confirmation c m activation_termination false

-- The report of the selected points between confirmation and termination: data keep the command's CA.
unfoldable pub reported : Table → Command → List ℕ → List ℕ → ℕ → Selection → List Asdu
reported t c m types cause sel =
    confirmed c m ∷ (report (limit_of t) types cause c.ca (selected (selects sel) (points_for c.ca t.stations)) ++ (terminated c m ∷ []))

-- What a choice is answered by: its report, or one negative confirmation.
unfoldable pub answer_to : Table → Command → List ℕ → List ℕ → ℕ → Choice → List Asdu
answer_to t c m types cause None = denied c m ∷ []
answer_to t c m types cause (Some sel) = reported t c m types cause sel

-- ---- interrogation

-- Qualifier 20 selects all points, 21 to 36 those of group 1 to 16; any other selects nothing.
abbrev pub interrogated : ℕ → Choice
interrogated q = pick (eqb q interrogation) (Some Every) (pick (leb 21 q & leb q 36) (Some (Group (q - interrogation))) None)

-- Data have the qualifier as cause.
unfoldable pub interrogation_answer : Command → List ℕ → Table → List Asdu
interrogation_answer c m t = answer_to t c m (interrogation_types_of t) (qualifier_of m) (interrogated (qualifier_of m))

-- ---- counters

-- Bits 0 to 5 of the qualifier.
abbrev pub choice_of : ℕ → ℕ
choice_of q = q % 64

-- They choose: 5 all, 1 to 4 a group; any other chooses nothing.
abbrev pub chosen : ℕ → Choice
chosen q = pick (eqb (choice_of q) 5) (Some Every) (pick (leb 1 (choice_of q) & leb (choice_of q) 4) (Some (CounterGroup (choice_of q))) None)

-- Bits 6 and 7 act: 0 read, 1 freeze, 2 freeze and reset, 3 reset. Actions 2 and 3 reset.
abbrev pub resets : ℕ → Bool
resets q = leb 2 (q / 64)

-- Data have cause 37 for all, 37 + group for a group.
abbrev pub counter_cause : ℕ → ℕ
counter_cause q = pick (eqb (choice_of q) 5) counter_interrogation (counter_interrogation + choice_of q)

unfoldable pub counter_answer : Command → List ℕ → Table → List Asdu
counter_answer c m t = answer_to t c m counter_types (counter_cause (qualifier_of m)) (chosen (qualifier_of m))

-- The octets of a counter's reading.
abbrev pub reading_octets : ℕ
reading_octets = 4

-- A counter's reading, its first four octets, set to 0; the rest stays.
abbrev pub zeroed : Point → Point
zeroed p = with_value (replicate reading_octets 0 ++ drop reading_octets p.value) p

-- The points with the selected counters set to 0.
unfoldable pub reset_in : Selection → List Point → List Point
reset_in sel ps = map (λ p. pick (is_counter p.kind & selects sel p) (zeroed p) p) ps

-- The counters of a station, or under CA 65,535 of every station, reset.
unfoldable pub reset_at : Table → ℕ → Selection → Table
reset_at t ca sel =
    pick (eqb ca global_address) (with_stations (map (with_points (reset_in sel)) t.stations) t) (changed t ca (reset_in sel))

-- A choice that is denied resets nothing.
unfoldable pub reset_by : Table → ℕ → Choice → Table
reset_by t ca None = t
reset_by t ca (Some sel) = reset_at t ca sel

-- Actions 2 and 3 reset the reported counters; 0 and 1 change nothing.
unfoldable pub after_counters : Table → ℕ → ℕ → Table
after_counters t ca q = pick (resets q) (reset_by t ca (chosen q)) t

-- ---- read

-- The addresses of a read command's n objects from `at` on.
unfoldable pub addresses_in : List ℕ → ℕ → ℕ → List ℕ
addresses_in m at zero = []
addresses_in m at (suc n) = three m at ∷ addresses_in m (at + address_octets) n

-- The points at these addresses, in their order, repeats included; none where one is missing.
unfoldable pub points_asked : List ℕ → List Point → Option (List Point)
points_asked [] ps = some []
points_asked (a ∷ as') ps = also (point_in a ps) (points_asked as' ps)
  where
    also : Option Point → Option (List Point) → Option (List Point)
    also none rest = none
    also (some p) none = none
    also (some p) (some rest) = some (p ∷ rest)

-- The points that a read command asks its station for.
abbrev pub points_read : Command → List ℕ → Table → Option (List Point)
points_read c m t = points_asked (addresses_in m header_octets c.count) (points_of (station_of c.ca t.stations))

-- The echo of all objects, negative where an address is missing; else one ASDU for each object, cause 5.
unfoldable pub read_answer : Command → List ℕ → Option (List Point) → List Asdu
read_answer c m none = echoed c m true ∷ []
read_answer c m (some ps) = echoed c m false ∷ map (requested_asdu c.ca) ps

-- ---- clock

-- The first object's time, and that it is known.
abbrev pub clock_from : List ℕ → List ℕ
clock_from m = take 7 (drop (header_octets + address_octets) m) ++ (1 ∷ [])

-- ---- the command

-- What a command that is not silent says, by its type.
unfoldable pub command_said : List ℕ → List ℕ → Command → Table → Said
command_said clock m c t =
    pick (eqb c.kind interrogation_type) (says (interrogation_answer c m t) t clock)
    (pick (eqb c.kind counters_type)
    (record { outcome = done; answer = counter_answer c m t; told = []; after = after_counters t c.ca (qualifier_of m); clock = clock })
    (pick (eqb c.kind read_type) (says (read_answer c m (points_read c m t)) t clock)
    (says (echoed c m false ∷ []) t (pick (eqb c.kind clock_type) (clock_from m) clock))))

-- The order of the tests: malformed or not served; silent; then the command's own answer.
unfoldable pub system_from : List ℕ → List ℕ → Reading → Table → Said
system_from clock m (Err unread) t = unsaid (refusal_of unread) t clock
system_from clock m (Ok c) t = pick (is_silent c m) (unsaid Silent t clock) (command_said clock m c t)

-- What a system command says to a table.
abbrev pub system_said : List ℕ → List ℕ → Table → Said
system_said clock m t = system_from clock m (read_as (limit_of t) SystemCommands m) t
