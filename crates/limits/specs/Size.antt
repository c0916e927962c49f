-- Sizes: the element octets of every type, the most objects in one ASDU, and the octets of a run of objects.
-- Document 01, 'Octets of an ASDU'; IEC 60870-5-101, 7.2.1 (types) and 7.3 (elements); IEC 60870-5-104, 5 (253 octets after the length octet).
use Rattle.std.specs.Prelude.{Option, Some, None, ℕ, zero, suc, ◌+◌, ◌*◌, ◌-◌, ◌/◌, min, Bool, true, false, List, [], ◌∷◌, ◌++◌, eqb}
use Rattle.limits.specs.Test.{pick}
use Rattle.limits.specs.declared.size.Class.{Class}
use Rattle.limits.specs.declared.size.Class.TheVariants.{Point, System, Process, EndOfInitialization}

-- A type's number and the octets of its element.
pub record Kind : Type 0 where
  pub number : ℕ
  pub octets : ℕ

infix 90 ◌⇒◌
abbrev pub ◌⇒◌ : ℕ → ℕ → Kind
n ⇒ e = record { number = n; octets = e }

-- The 30 point types.
unfoldable pub point_types : List Kind
point_types =
    1 ⇒ 1 ∷ 3 ⇒ 1 ∷ 2 ⇒ 4 ∷ 4 ⇒ 4 ∷ 5 ⇒ 2 ∷ 6 ⇒ 5 ∷ 7 ⇒ 5 ∷ 9 ⇒ 3 ∷ 11 ⇒ 3 ∷ 10 ⇒ 6 ∷ 12 ⇒ 6 ∷ 13 ⇒ 5 ∷ 14 ⇒ 8 ∷ 15 ⇒ 5 ∷ 17 ⇒ 6
    ∷ 18 ⇒ 7 ∷ 19 ⇒ 7 ∷ 20 ⇒ 5 ∷ 21 ⇒ 2 ∷ 30 ⇒ 8 ∷ 31 ⇒ 8 ∷ 32 ⇒ 9 ∷ 33 ⇒ 12 ∷ 34 ⇒ 10 ∷ 35 ⇒ 10 ∷ 36 ⇒ 12 ∷ 37 ⇒ 12 ∷ 38 ⇒ 10 ∷ 39 ⇒ 11 ∷ 40 ⇒ 11 ∷ []

-- The system types: interrogation, counters, read, clock, test, reset process, timed test.
unfoldable pub system_types : List Kind
system_types = 100 ⇒ 1 ∷ 101 ⇒ 1 ∷ 102 ⇒ 0 ∷ 103 ⇒ 7 ∷ 104 ⇒ 2 ∷ 105 ⇒ 1 ∷ 107 ⇒ 9 ∷ []

-- The process types 45 to 51, and 58 to 64, which are those plus seven octets of time.
unfoldable pub process_types : List Kind
process_types =
    45 ⇒ 1 ∷ 46 ⇒ 1 ∷ 47 ⇒ 1 ∷ 48 ⇒ 3 ∷ 49 ⇒ 3 ∷ 50 ⇒ 5 ∷ 51 ⇒ 4
    ∷ 58 ⇒ 8 ∷ 59 ⇒ 8 ∷ 60 ⇒ 8 ∷ 61 ⇒ 10 ∷ 62 ⇒ 10 ∷ 63 ⇒ 12 ∷ 64 ⇒ 11 ∷ []

-- End of initialisation.
unfoldable pub end_types : List Kind
end_types = 70 ⇒ 1 ∷ []

-- Every type that document 01 names.
unfoldable pub named_types : List Kind
named_types = point_types ++ (system_types ++ (process_types ++ end_types))

-- Does a list have the type?
unfoldable pub listed : List Kind → ℕ → Bool
listed [] n = false
listed (k ∷ ks) n = pick (eqb k.number n) true (listed ks n)

-- The element octets of a type of the list; 0 for one that does not stand there.
unfoldable pub octets_in : List Kind → ℕ → ℕ
octets_in [] n = 0
octets_in (k ∷ ks) n = pick (eqb k.number n) k.octets (octets_in ks n)

-- The element octets of a point type; 0 for every other type.
unfoldable pub point_octets : ℕ → ℕ
point_octets n = octets_in point_types n

-- The element octets of any type that document 01 names; 0 for the others.
unfoldable pub element_octets : ℕ → ℕ
element_octets n = octets_in named_types n

-- What a type is; none where no list has it.
unfoldable pub class_of : ℕ → Option Class
class_of n =
    pick (listed point_types n) (Some Point)
    (pick (listed system_types n) (Some System) (pick (listed process_types n) (Some Process) (pick (listed end_types n) (Some EndOfInitialization) None)))

-- The length limit of an APDU, as the standard has it.
abbrev pub standard_limit : ℕ
standard_limit = 253

-- The control octets of an APDU, which stand before its ASDU.
abbrev pub control_octets : ℕ
control_octets = 4

-- The octets of an ASDU before its first object.
abbrev pub header_octets : ℕ
header_octets = 6

-- The octets of an object's address.
abbrev pub address_octets : ℕ
address_octets = 3

-- The most objects that an ASDU's count can say.
abbrev pub count_limit : ℕ
count_limit = 127

-- Most objects in one ASDU under the length limit L: (L − 10) divided by (3 + element octets), rounded down, at most 127.
abbrev pub most_objects : ℕ → ℕ → ℕ
most_objects limit element = min ((limit - (control_octets + header_octets)) / (address_octets + element)) count_limit

-- How many ASDUs a run of n objects fills, at most `most` in each: none for no object.
abbrev pub asdus_of : ℕ → ℕ → ℕ
asdus_of most n = (n + (most - 1)) / most

-- The octets of a run of n objects: 6 for each ASDU, and 3 + element for each object.
abbrev pub run_octets : ℕ → ℕ → ℕ → ℕ
run_octets limit element n = header_octets * asdus_of (most_objects limit element) n + n * (address_octets + element)

-- A function's values at i, i + 1, .. as a list of n.
unfoldable pub values_from : (ℕ → ℕ) → ℕ → ℕ → List ℕ
values_from f i zero = []
values_from f i (suc n) = f i ∷ values_from f (suc i) n

-- The point's element octets of types 0 to 40, the last point type.
unfoldable pub point_sizes : List ℕ
point_sizes = values_from point_octets 0 41
