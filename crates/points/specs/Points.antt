-- A point record as octets: CA 2, IOA 4, type 1, has interrogation group 1, group 1, has counter group 1, counter group 1, spare 1, value 12.
-- DESIGN.md, section 5. `record_law` ties it to `request_at`.
use Rattle.std.specs.Prelude.{Option, Some, None, unwrap_or, ℕ, ◌+◌, ◌*◌, ◌/◌, ◌%◌, List, [], ◌∷◌, ◌++◌, map, take}
use Rattle.octets.specs.Number.{twelve}
use Rattle.layout.specs.Layout.{most_places}
use Rattle.model.specs.declared.Request.{Request}
use Rattle.batch_records.specs.Records.{record_octets}

-- Is a group given: 0 no, 1 yes.
abbrev pub has_of : Option ℕ → ℕ
has_of None = 0
has_of (Some g) = 1

-- The number of a group, 0 for none.
abbrev pub number_in : Option ℕ → ℕ
number_in g = unwrap_or g 0

-- The octets of a point record.
unfoldable pub flat_record : Request → List ℕ
flat_record q =
    q.ca % 256 ∷ q.ca / 256 ∷ q.ioa % 256 ∷ q.ioa / 256 % 256 ∷ q.ioa / 65536 % 256 ∷ q.ioa / 16777216 ∷ q.kind
    ∷ has_of q.group ∷ number_in q.group ∷ has_of q.counter ∷ number_in q.counter ∷ 0 ∷ twelve q.value 0

-- The records of a list of points, one after another.
unfoldable pub flat_records : List Request → List ℕ
flat_records [] = []
flat_records (q ∷ qs) = flat_record q ++ flat_records qs

-- A point record with the twelve octets of value that its type has.
abbrev pub whole : Request → Request
whole q = record { ca = q.ca; ioa = q.ioa; kind = q.kind; group = q.group; counter = q.counter; value = twelve q.value 0 }

-- The batch of a slice of point records, of which as many are taken out as the memory lent for them has room for.
abbrev pub batch_of : ℕ → List Request → List Request
batch_of room points = map whole (take (room / record_octets) points)

-- How many points decide on room: one more than a table can hold.
abbrev pub deciding : ℕ
deciding = most_places + 1

-- The octets of their records.
abbrev pub deciding_octets : ℕ
deciding_octets = record_octets * deciding
