-- An ASDU: its header and its objects; the octets of ASDUs, and how a header's fields are read back.
-- Document 01, 'Octets of an ASDU'; IEC 60870-5-101, 7.2.1 to 7.2.5; IEC 60870-5-104, 5.
use Rattle.std.specs.Prelude.{ℕ, ◌+◌, ◌-◌, ◌%◌, List, ◌∷◌, ◌++◌, Bool, get_or, leb}
use Rattle.limits.specs.Test.{pick}
use Rattle.limits.specs.Size.{control_octets}
use Rattle.octets.specs.Number.{two, pair, triple}
use Rattle.asdu.specs.declared.header.Header.{Header}
use Rattle.asdu.specs.Joined.{joined}

-- An object: its address, and the octets of its element.
pub record Object : Type 0 where
  pub ioa : ℕ
  pub element : List ℕ

-- An ASDU: its header and its objects.
pub record Asdu : Type 0 where
  pub header : Header
  pub objects : List Object

-- The most octets of an ASDU under the length limit L of an APDU: L less four control octets, 249 of 253.
abbrev pub most_octets : ℕ → ℕ
most_octets limit = limit - control_octets

-- The common address that means every station (7.2.4).
abbrev pub global_address : ℕ
global_address = 65535

-- The third octet (7.2.3): the cause in bits 0 to 5, negative in bit 6, test in bit 7.
abbrev pub cause_octet : ℕ → Bool → Bool → ℕ
cause_octet cause negative test = cause + (pick negative 64 0 + pick test 128 0)

-- Type (7.2.1); count with the sequence flag, bit 7, clear (7.2.2); cause (7.2.3); originator; common address, low octet first (7.2.4).
unfoldable pub header : Header → List ℕ
header h = h.kind ∷ h.count ∷ cause_octet h.cause h.negative h.test ∷ h.originator ∷ pair h.ca

-- An object: its address, three octets, low first (7.2.5), and its element.
unfoldable pub object_octets : Object → List ℕ
object_octets x = triple x.ioa ++ x.element

-- An ASDU: its header and its objects, one after another.
unfoldable pub asdu_octets : Asdu → List ℕ
asdu_octets a = header a.header ++ joined object_octets a.objects

-- ASDUs lie one after another with nothing between.
unfoldable pub wire : List Asdu → List ℕ
wire xs = joined asdu_octets xs

-- ---- read back

-- The type.
abbrev pub kind_in : List ℕ → ℕ
kind_in m = get_or m 0 0

-- The number of objects: bits 0 to 6 of the second octet.
abbrev pub count_in : List ℕ → ℕ
count_in m = get_or m 1 0 % 128

-- The sequence flag: bit 7 of the second octet.
abbrev pub sequence_in : List ℕ → Bool
sequence_in m = leb 128 (get_or m 1 0)

-- The cause: bits 0 to 5 of the third octet.
abbrev pub cause_in : List ℕ → ℕ
cause_in m = get_or m 2 0 % 64

-- Negative: bit 6 of the third octet.
abbrev pub negative_in : List ℕ → Bool
negative_in m = leb 64 (get_or m 2 0 % 128)

-- Test: bit 7 of the third octet.
abbrev pub test_in : List ℕ → Bool
test_in m = leb 128 (get_or m 2 0)

-- The originator.
abbrev pub originator_in : List ℕ → ℕ
originator_in m = get_or m 3 0

-- The common address.
abbrev pub ca_in : List ℕ → ℕ
ca_in m = two m 4

-- The header at the front of a memory.
unfoldable pub header_in : List ℕ → Header
header_in m =
    record {
      kind = kind_in m;
      count = count_in m;
      cause = cause_in m;
      negative = negative_in m;
      test = test_in m;
      originator = originator_in m;
      ca = ca_in m;
    }
