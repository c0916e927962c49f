-- Document 01's cases a and c as far as confirmations go, a command whose test and negative bits are set, and one of each refusal, all computed. Assumes nothing.
use mathlib.Core.Path.{◌≡◌, refl}
use mathlib.Core.List.{List, [], ◌∷◌}
use mathlib.Core.Bool.{true, false}
use Prim.Native.Nat.{ℕ}
use Rattle.limits.specs.Test.{◌&◌}
use Rattle.limits.specs.Size.{standard_limit, class_of, element_octets, listed, octets_in, named_types, point_types, system_types, process_types, end_types}
use Rattle.asdu.specs.declared.command.Entry.TheVariants.{SystemCommands, ProcessCommands}
use Rattle.asdu.specs.declared.command.Command.{Command}
use Rattle.std.specs.Prelude.{Ok, Err}
use Rattle.asdu.specs.declared.command.Unread.TheVariants.{LengthOutOfRange, TypeNotServed, ObjectsNotWhole}
use Rattle.asdu.specs.Identification.{interrogation_command, test_command}
use Rattle.asdu.specs.Cause.{activation, activation_confirmation, activation_termination}
use Rattle.asdu.specs.Joined.{joined}
use Rattle.asdu.specs.Header.{header, object_octets, asdu_octets, global_address}
use Rattle.asdu.specs.Command.{read_as}
use Rattle.asdu.specs.Confirmation.{confirmation, echo, reply, objects_in}

-- `64 01 06 00 07 00 00 00 00 14`
abbrev pub asked : List ℕ
asked = 0x64 ∷ 1 ∷ 6 ∷ 0 ∷ 7 ∷ 0 ∷ 0 ∷ 0 ∷ 0 ∷ 0x14 ∷ []

abbrev pub interrogation : Command
interrogation = record { kind = interrogation_command; count = 1; cause = activation; test = false; originator = 0; ca = 7; element = 1 }

pub case_a_read : read_as standard_limit SystemCommands asked ≡ Ok interrogation
unfolding read_as ◌&◌ class_of element_octets listed octets_in named_types point_types system_types process_types end_types
case_a_read = refl

pub case_a_confirmation : asdu_octets (confirmation interrogation asked activation_confirmation false) ≡ 0x64 ∷ 1 ∷ 7 ∷ 0 ∷ 7 ∷ 0 ∷ 0 ∷ 0 ∷ 0 ∷ 0x14 ∷ []
unfolding confirmation reply asdu_octets header object_octets joined
case_a_confirmation = refl

pub case_a_termination : asdu_octets (confirmation interrogation asked activation_termination false) ≡ 0x64 ∷ 1 ∷ 0x0A ∷ 0 ∷ 7 ∷ 0 ∷ 0 ∷ 0 ∷ 0 ∷ 0x14 ∷ []
unfolding confirmation reply asdu_octets header object_octets joined
case_a_termination = refl

-- case c: the qualifier 01 is confirmed negatively, with 47 in the third octet
pub case_c_confirmation : asdu_octets (confirmation interrogation (0x64 ∷ 1 ∷ 6 ∷ 0 ∷ 7 ∷ 0 ∷ 0 ∷ 0 ∷ 0 ∷ 1 ∷ []) activation_confirmation true)
    ≡ 0x64 ∷ 1 ∷ 0x47 ∷ 0 ∷ 7 ∷ 0 ∷ 0 ∷ 0 ∷ 0 ∷ 1 ∷ []
unfolding confirmation reply asdu_octets header object_octets joined
case_c_confirmation = refl

-- test command 104 from originator 5 to every station, its test and negative bits set, with two objects
abbrev pub tested : List ℕ
tested = 0x68 ∷ 2 ∷ 0xC6 ∷ 5 ∷ 0xFF ∷ 0xFF ∷ 1 ∷ 0 ∷ 0 ∷ 0xAA ∷ 0x55 ∷ 2 ∷ 0 ∷ 0 ∷ 0xAA ∷ 0x55 ∷ []

abbrev pub test : Command
test = record { kind = test_command; count = 2; cause = activation; test = true; originator = 5; ca = global_address; element = 2 }

pub test_read : read_as standard_limit SystemCommands tested ≡ Ok test
unfolding read_as ◌&◌ class_of element_octets listed octets_in named_types point_types system_types process_types end_types
test_read = refl

-- its echo keeps originator, CA, test and both objects; its negative bit is not copied
pub test_echo : asdu_octets (echo test tested activation_confirmation false) ≡ 0x68 ∷ 2 ∷ 0x87 ∷ 5 ∷ 0xFF ∷ 0xFF ∷ 1 ∷ 0 ∷ 0 ∷ 0xAA ∷ 0x55 ∷ 2 ∷ 0 ∷ 0 ∷ 0xAA ∷ 0x55 ∷ []
unfolding echo reply objects_in asdu_octets header object_octets joined
test_echo = refl

-- five octets are too few; the entry for process types does not serve 104; the sequence flag with count 0 is malformed
pub short_read : read_as standard_limit SystemCommands (0x64 ∷ 1 ∷ 6 ∷ 0 ∷ 7 ∷ []) ≡ Err LengthOutOfRange
unfolding read_as ◌&◌
short_read = refl

pub other_entry : read_as standard_limit ProcessCommands tested ≡ Err TypeNotServed
unfolding read_as ◌&◌ class_of listed point_types system_types
other_entry = refl

pub sequence_read : read_as standard_limit SystemCommands (0x64 ∷ 0x80 ∷ 6 ∷ 0 ∷ 7 ∷ 0 ∷ []) ≡ Err ObjectsNotWhole
unfolding read_as ◌&◌ class_of listed point_types system_types
sequence_read = refl
