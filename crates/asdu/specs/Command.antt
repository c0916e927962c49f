-- A command as it is read: document 01's tests in their order, the parts, where the objects lie, and the first object.
-- Document 01, 'Octets of an ASDU' and 'Numbers given back'.
use Rattle.std.specs.Prelude.{ℕ, ◌+◌, ◌*◌, List, Bool, true, false, not, length, leb, eqb, Result, Ok, Err, Option, Some, None}
use Rattle.limits.specs.Test.{◌&◌, pick}
use Rattle.limits.specs.Size.{class_of, element_octets, header_octets, address_octets}
use Rattle.limits.specs.declared.size.Class.{Class}
use Rattle.limits.specs.declared.size.Class.TheVariants.{System, Process}
use Rattle.limits.specs.declared.outcome.Refusal.{Refusal}
use Rattle.limits.specs.declared.outcome.Refusal.TheVariants.{Silent, Malformed}
use Rattle.asdu.specs.declared.command.Unread.{Unread}
use Rattle.asdu.specs.declared.command.Unread.TheVariants.{LengthOutOfRange, TypeNotServed, ObjectsNotWhole}
use Rattle.octets.specs.Number.{three}
use Rattle.asdu.specs.declared.command.Entry.{Entry}
use Rattle.asdu.specs.declared.command.Entry.TheVariants.{SystemCommands, ProcessCommands}
use Rattle.asdu.specs.declared.command.Command.{Command}
use Rattle.asdu.specs.Header.{most_octets, kind_in, count_in, sequence_in, cause_in, test_in, originator_in, ca_in}

abbrev pub is_system : Option Class → Bool
is_system (Some System) = true
is_system _ = false

abbrev pub is_process : Option Class → Bool
is_process (Some Process) = true
is_process _ = false

-- Of the two entries that take ASDUs one serves the system types, one the process types.
abbrev pub serves : Entry → Option Class → Bool
serves SystemCommands c = is_system c
serves ProcessCommands c = is_process c

-- An ASDU has 6 to L − 4 octets.
abbrev pub length_ok : ℕ → ℕ → Bool
length_ok limit n = leb header_octets n & leb n (most_octets limit)

-- Where object i lies, the objects having `element` octets after their address; object `count` would lie at the end.
abbrev pub object_at : ℕ → ℕ → ℕ
object_at element i = header_octets + i * (address_octets + element)

-- Where the element of the first object lies: after header and address.
abbrev pub first_element : ℕ
first_element = header_octets + address_octets

-- The sequence flag is clear and the length is 6 + count × (3 + element).
abbrev pub whole_objects : List ℕ → Bool
whole_objects m = not (sequence_in m) & eqb (length m) (object_at (element_octets (kind_in m)) (count_in m))

-- The parts of a command; its own negative bit is not read.
abbrev pub command_in : List ℕ → Command
command_in m =
    record {
      kind = kind_in m;
      count = count_in m;
      cause = cause_in m;
      test = test_in m;
      originator = originator_in m;
      ca = ca_in m;
      element = element_octets (kind_in m);
    }

-- A command, or why there is none.
abbrev pub Reading : Type 0
Reading = Result Command Unread

-- What an entry reads under the length limit L: the first test that fails, or the command.
unfoldable pub read_as : ℕ → Entry → List ℕ → Reading
read_as limit entry m =
    pick (length_ok limit (length m))
    (pick (serves entry (class_of (kind_in m)))
    (pick (whole_objects m) (Ok (command_in m)) (Err ObjectsNotWhole))
    (Err TypeNotServed))
    (Err LengthOutOfRange)

-- What answers octets that are no command: 2, 1, 2 of document 01.
abbrev pub refusal_of : Unread → Refusal
refusal_of LengthOutOfRange = Malformed
refusal_of TypeNotServed = Silent
refusal_of ObjectsNotWhole = Malformed

-- The first object: its address and where its element lies; none where the count is 0.
abbrev pub first_object : Command → List ℕ → Option (ℕ × ℕ)
first_object c m = pick (eqb c.count 0) None (Some (three m header_octets, first_element))
