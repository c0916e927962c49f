-- What answers a command: confirmations and terminations.
-- Document 01, 'What each command says': they copy originator, CA and test from the command, with the sequence flag clear; cause and negative are given.
use Rattle.std.specs.Prelude.{ℕ, zero, suc, ◌+◌, ◌/◌, List, [], ◌∷◌, Bool, length, take, drop}
use Rattle.limits.specs.Size.{header_octets, address_octets}
use Rattle.octets.specs.Number.{three}
use Rattle.asdu.specs.declared.header.Header.{Header}
use Rattle.asdu.specs.declared.command.Command.{Command}
use Rattle.asdu.specs.Header.{Object, Asdu}

-- The header of an answer to a command, with a type and a count of its own.
abbrev pub reply_to : Command → ℕ → ℕ → ℕ → Bool → Header
reply_to c kind count cause negative =
    record {
      kind = kind;
      count = count;
      cause = cause;
      negative = negative;
      test = c.test;
      originator = c.originator;
      ca = c.ca;
    }

-- An answer to a command with objects of its own, as the confirmation of a process command has them.
unfoldable pub reply : Command → ℕ → ℕ → Bool → List Object → Asdu
reply c kind cause negative objects = record { header = reply_to c kind (length objects) cause negative; objects = objects }

-- ---- objects read from octets

-- The object at the front of octets, its element of e octets.
abbrev pub object_in : ℕ → List ℕ → Object
object_in e xs = record { ioa = three xs 0; element = take e (drop address_octets xs) }

-- The first n objects.
unfoldable pub objects_in : ℕ → ℕ → List ℕ → List Object
objects_in e zero xs = []
objects_in e (suc n) xs = object_in e xs ∷ objects_in e n (drop (address_octets + e) xs)

-- As many as there are whole ones.
unfoldable pub objects_of : ℕ → List ℕ → List Object
objects_of e xs = objects_in e (length xs / (address_octets + e)) xs

-- The octets of a command's objects.
abbrev pub after_header : List ℕ → List ℕ
after_header m = drop header_octets m

-- ---- confirmations

-- A confirmation or termination with the first object alone.
unfoldable pub confirmation : Command → List ℕ → ℕ → Bool → Asdu
confirmation c m cause negative = reply c c.kind cause negative (object_in c.element (after_header m) ∷ [])

-- A confirmation that echoes all objects.
unfoldable pub echo : Command → List ℕ → ℕ → Bool → Asdu
echo c m cause negative = reply c c.kind cause negative (objects_in c.element c.count (after_header m))
