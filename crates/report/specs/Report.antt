-- A report: the ASDUs of the selected points, type by type. Its length limit, its set of types and the order of the points are parameters.
-- Document 01, 'Octets of an ASDU' and 'What each command says'; IEC 60870-5-101, 7.1 and 7.2 (data unit identifier, information object address).
use Rattle.std.specs.Prelude.{ℕ, List, map, false, length, take, eqb}
use Rattle.limits.specs.Size.{point_octets, most_objects}
use Rattle.asdu.specs.declared.header.Header.{Header}
use Rattle.asdu.specs.Header.{Object, Asdu}
use Rattle.model.specs.declared.Point.{Point}
use Rattle.report.specs.Packing.{selected, joined, chunks}

-- A point's object: its address, and the octets of its element.
unfoldable pub object_of : Point → Object
object_of p = record { ioa = p.ioa; element = take (point_octets p.kind) p.value }

-- The points of a type, in their order.
abbrev pub of_kind : ℕ → List Point → List Point
of_kind kind ps = selected (λ p. eqb p.kind kind) ps

-- The points in the order of a report: those of each type, one type after another.
unfoldable pub ordered : List ℕ → List Point → List Point
ordered types ps = joined (λ kind. of_kind kind ps) types

-- The header of data: negative and test are clear, the originator is 0.
abbrev pub data_header : ℕ → ℕ → ℕ → ℕ → Header
data_header kind count cause ca =
    record { kind = kind; count = count; cause = cause; negative = false; test = false; originator = 0; ca = ca }

-- An ASDU of data: objects of one type.
abbrev pub data_asdu : ℕ → ℕ → ℕ → List Object → Asdu
data_asdu kind cause ca objects = record { header = data_header kind (length objects) cause ca; objects = objects }

-- A run: the ASDUs that the objects of one type fill under the length limit.
unfoldable pub run : ℕ → ℕ → ℕ → ℕ → List Object → List Asdu
run limit cause ca kind objects = map (data_asdu kind cause ca) (chunks (most_objects limit (point_octets kind)) objects)

-- A report of the points given: of each type of the set, in the set's order, the points of that type in the order given.
unfoldable pub report : ℕ → List ℕ → ℕ → ℕ → List Point → List Asdu
report limit types cause ca ps = joined (λ kind. run limit cause ca kind (map object_of (of_kind kind ps))) types
