-- Cases a to f of document 01, 'One gateway on paper', computed from the definition of what a system command says. Octets as the paper prints them.
-- Assumes nothing.
use mathlib.Core.Path.{◌≡◌, refl}
use mathlib.Core.List.{List, [], ◌∷◌, ◌++◌}
use Prim.Native.Nat.{ℕ}
use lib.ListN.{replicate}
use Rattle.limits.specs.Test.{◌&◌}
use Rattle.limits.specs.Outcome.{number_of}
use Rattle.limits.specs.Size.{point_types, system_types, process_types, end_types, named_types, point_octets, element_octets, octets_in, listed, class_of}
use Rattle.table.specs.Table.{document01, Table}
use Rattle.table.specs.Settings.{limit_of}
use Rattle.table.specs.Change.{station_of, in_station, changed}
use Rattle.asdu.specs.Command.{read_as}
use Rattle.asdu.specs.Confirmation.{confirmation, reply}
use Rattle.asdu.specs.Header.{header, object_octets, asdu_octets, wire}
use Rattle.report.specs.Packing.{selected, joined, cut, chunks}
use Rattle.report.specs.Selection.{interrogation_types, interrogation_types_of, counter_types}
use Rattle.report.specs.Report.{object_of, run, report}
use Rattle.report.specs.Order.{points_for}
use Rattle.answers.specs.Said.{Said, Lent, outcome_with}
use Rattle.answers.specs.System.{system_said, system_from, is_silent, command_said, interrogation_answer, counter_answer, after_counters, reset_by, reset_at, reset_in, reported, answer_to}

-- the gateway on paper
unfoldable pub value : List ℕ → ℕ → List ℕ
value v n = v ++ replicate n 0

unfoldable pub paper_with : List ℕ → Table
paper_with counter =
    record {
      settings = document01;
      capacity = 8;
      stations =
          record {
            ca = 7;
            reservation = 2;
            ceiling = 4;
            points =
                record { kind = 1; ioa = 3; group = 0; counter = 0; value = value (0x00 ∷ []) 11 }
                ∷ record { kind = 15; ioa = 5; group = 0; counter = 1; value = value counter 7 }
                ∷ record { kind = 1; ioa = 10; group = 1; counter = 0; value = value (0x01 ∷ []) 11 } ∷ [];
          } ∷ [];
    }

unfoldable pub paper : Table
unfolding paper_with
paper = paper_with (0x2A ∷ 0x00 ∷ 0x00 ∷ 0x00 ∷ 0x03 ∷ [])

-- a clock that is not known
unfoldable pub no_clock : List ℕ
no_clock = replicate 8 0

-- a system command of ten octets: type, cause, CA, qualifier
unfoldable pub sent : ℕ → ℕ → ℕ → List ℕ
sent kind ca q = kind ∷ 0x01 ∷ 0x06 ∷ 0x00 ∷ ca ∷ 0x00 ∷ 0x00 ∷ 0x00 ∷ 0x00 ∷ q ∷ []

unfoldable pub said_to : List ℕ → Said
unfolding paper no_clock
said_to m = system_said no_clock m paper

-- an answer memory of n octets
unfoldable pub room : ℕ → Lent
room n = record { table = []; clock = []; answer = replicate n 0xEE; spontaneous = [] }

-- the number of what was said, with an answer memory of n octets
unfoldable pub answered : Said → ℕ → ℕ
unfolding room
answered s n = number_of (outcome_with s (room n))

-- Case a: `64 01 06 00 07 00 00 00 00 14` gives, whole, 48 octets; with 47 it is number 4.
pub case_a : (wire (said_to (sent 0x64 7 0x14)).answer ≡
    0x64 ∷ 0x01 ∷ 0x07 ∷ 0x00 ∷ 0x07 ∷ 0x00 ∷ 0x00 ∷ 0x00 ∷ 0x00 ∷ 0x14
    ∷ 0x01 ∷ 0x02 ∷ 0x14 ∷ 0x00 ∷ 0x07 ∷ 0x00 ∷ 0x03 ∷ 0x00 ∷ 0x00 ∷ 0x00 ∷ 0x0A ∷ 0x00 ∷ 0x00 ∷ 0x01
    ∷ 0x0F ∷ 0x01 ∷ 0x14 ∷ 0x00 ∷ 0x07 ∷ 0x00 ∷ 0x05 ∷ 0x00 ∷ 0x00 ∷ 0x2A ∷ 0x00 ∷ 0x00 ∷ 0x00 ∷ 0x03
    ∷ 0x64 ∷ 0x01 ∷ 0x0A ∷ 0x00 ∷ 0x07 ∷ 0x00 ∷ 0x00 ∷ 0x00 ∷ 0x00 ∷ 0x14 ∷ [])
    × (answered (said_to (sent 0x64 7 0x14)) 48 ≡ 0) × (answered (said_to (sent 0x64 7 0x14)) 47 ≡ 4)
unfolding value paper_with paper no_clock sent said_to ◌&◌ point_types system_types process_types end_types named_types point_octets element_octets octets_in listed class_of station_of read_as confirmation reply header object_octets asdu_octets wire selected joined cut chunks interrogation_types counter_types object_of run report points_for system_from is_silent command_said interrogation_answer counter_answer answer_to after_counters reset_by reset_at reset_in changed in_station reported limit_of interrogation_types_of outcome_with answered room
case_a = (refl, refl, refl)

-- Case b: qualifier 15 hex gives only IOA 10, cause 15 hex, 30 octets in all.
pub case_b : wire (said_to (sent 0x64 7 0x15)).answer ≡
    0x64 ∷ 0x01 ∷ 0x07 ∷ 0x00 ∷ 0x07 ∷ 0x00 ∷ 0x00 ∷ 0x00 ∷ 0x00 ∷ 0x15
    ∷ 0x01 ∷ 0x01 ∷ 0x15 ∷ 0x00 ∷ 0x07 ∷ 0x00 ∷ 0x0A ∷ 0x00 ∷ 0x00 ∷ 0x01
    ∷ 0x64 ∷ 0x01 ∷ 0x0A ∷ 0x00 ∷ 0x07 ∷ 0x00 ∷ 0x00 ∷ 0x00 ∷ 0x00 ∷ 0x15 ∷ []
unfolding value paper_with paper no_clock sent said_to ◌&◌ point_types system_types process_types end_types named_types point_octets element_octets octets_in listed class_of station_of read_as confirmation reply header object_octets asdu_octets wire selected joined cut chunks interrogation_types counter_types object_of run report points_for system_from is_silent command_said interrogation_answer counter_answer answer_to after_counters reset_by reset_at reset_in changed in_station reported limit_of interrogation_types_of outcome_with answered room
case_b = refl

-- Case c: qualifier 01 gives ten octets, the third 47 hex.
pub case_c : wire (said_to (sent 0x64 7 0x01)).answer ≡ 0x64 ∷ 0x01 ∷ 0x47 ∷ 0x00 ∷ 0x07 ∷ 0x00 ∷ 0x00 ∷ 0x00 ∷ 0x00 ∷ 0x01 ∷ []
unfolding value paper_with paper no_clock sent said_to ◌&◌ point_types system_types process_types end_types named_types point_octets element_octets octets_in listed class_of station_of read_as confirmation reply header object_octets asdu_octets wire selected joined cut chunks interrogation_types counter_types object_of run report points_for system_from is_silent command_said interrogation_answer counter_answer answer_to after_counters reset_by reset_at reset_in changed in_station reported limit_of interrogation_types_of outcome_with answered room
case_c = refl

-- Case d: qualifier 0 is number 1.
pub case_d : answered (said_to (sent 0x64 7 0x00)) 249 ≡ 1
unfolding value paper_with paper no_clock sent said_to ◌&◌ point_types system_types process_types end_types named_types point_octets element_octets octets_in listed class_of station_of read_as confirmation reply header object_octets asdu_octets wire selected joined cut chunks interrogation_types counter_types object_of run report points_for system_from is_silent command_said interrogation_answer counter_answer answer_to after_counters reset_by reset_at reset_in changed in_station reported limit_of interrogation_types_of outcome_with answered room
case_d = refl

-- Case e: `65 01 06 00 07 00 00 00 00 C5` gives 34 octets, data cause 25 hex with 2A; afterwards 00 00 00 00 03.
pub case_e : (wire (said_to (sent 0x65 7 0xC5)).answer ≡
    0x65 ∷ 0x01 ∷ 0x07 ∷ 0x00 ∷ 0x07 ∷ 0x00 ∷ 0x00 ∷ 0x00 ∷ 0x00 ∷ 0xC5
    ∷ 0x0F ∷ 0x01 ∷ 0x25 ∷ 0x00 ∷ 0x07 ∷ 0x00 ∷ 0x05 ∷ 0x00 ∷ 0x00 ∷ 0x2A ∷ 0x00 ∷ 0x00 ∷ 0x00 ∷ 0x03
    ∷ 0x65 ∷ 0x01 ∷ 0x0A ∷ 0x00 ∷ 0x07 ∷ 0x00 ∷ 0x00 ∷ 0x00 ∷ 0x00 ∷ 0xC5 ∷ [])
    × ((said_to (sent 0x65 7 0xC5)).after ≡ paper_with (0x00 ∷ 0x00 ∷ 0x00 ∷ 0x00 ∷ 0x03 ∷ []))
unfolding value paper_with paper no_clock sent said_to ◌&◌ point_types system_types process_types end_types named_types point_octets element_octets octets_in listed class_of station_of read_as confirmation reply header object_octets asdu_octets wire selected joined cut chunks interrogation_types counter_types object_of run report points_for system_from is_silent command_said interrogation_answer counter_answer answer_to after_counters reset_by reset_at reset_in changed in_station reported limit_of interrogation_types_of outcome_with answered room
case_e = (refl, refl)

-- Case f: CA 9, not planned, gives confirmation and termination, 20 octets.
pub case_f : wire (said_to (sent 0x64 9 0x14)).answer ≡
    0x64 ∷ 0x01 ∷ 0x07 ∷ 0x00 ∷ 0x09 ∷ 0x00 ∷ 0x00 ∷ 0x00 ∷ 0x00 ∷ 0x14
    ∷ 0x64 ∷ 0x01 ∷ 0x0A ∷ 0x00 ∷ 0x09 ∷ 0x00 ∷ 0x00 ∷ 0x00 ∷ 0x00 ∷ 0x14 ∷ []
unfolding value paper_with paper no_clock sent said_to ◌&◌ point_types system_types process_types end_types named_types point_octets element_octets octets_in listed class_of station_of read_as confirmation reply header object_octets asdu_octets wire selected joined cut chunks interrogation_types counter_types object_of run report points_for system_from is_silent command_said interrogation_answer counter_answer answer_to after_counters reset_by reset_at reset_in changed in_station reported limit_of interrogation_types_of outcome_with answered room
case_f = refl
