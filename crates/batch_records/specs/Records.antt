-- The flat list of records that a batch comes as: its requests, and those that stand before one of them.
-- DESIGN.md, section 5: octets after the last whole record are ignored.
use Rattle.std.specs.Prelude.{ℕ, zero, suc, ◌+◌, ◌*◌, ◌/◌, List, [], ◌∷◌, Bool, true, false, length, eqb}
use Rattle.limits.specs.Test.{◌&◌, pick}
use Rattle.octets.specs.Number.{two, four}
use Rattle.model.specs.declared.Request.{Request}
use Rattle.model.specs.Request.{request_at, requests_at}

-- The octets of a record.
abbrev pub record_octets : ℕ
record_octets = 24

-- Where its IOA lies; the CA comes first.
abbrev pub ioa_in_record : ℕ
ioa_in_record = 2

-- How many records a flat list has.
abbrev pub records_in : List ℕ → ℕ
records_in m = length m / record_octets

-- The requests of a flat list of records.
abbrev pub requests_in : List ℕ → List Request
requests_in m = requests_at m 0 (records_in m)

-- The first n requests, the last of them first.
unfoldable pub earlier_at : List ℕ → ℕ → List Request
earlier_at m zero = []
earlier_at m (suc n) = request_at m (record_octets * n) ∷ earlier_at m n

-- ---- as the code runs: nobody need believe what follows, `stands_law` ties it to `stands_in`

-- the record at `at` has this address
unfoldable pub has_address : List ℕ → ℕ → ℕ → ℕ → Bool
has_address m at ca ioa = eqb (two m at) ca & eqb (four m (at + ioa_in_record)) ioa

-- one of the first n records has this address
unfoldable pub stands_before : List ℕ → ℕ → ℕ → ℕ → Bool
stands_before m ca ioa zero = false
stands_before m ca ioa (suc n) = pick (has_address m (record_octets * n) ca ioa) true (stands_before m ca ioa n)
