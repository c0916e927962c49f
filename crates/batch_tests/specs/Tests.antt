-- How the code looks an address up among the earlier ones: the tests themselves are `batch_fault` and `own_tests` of crate registry.
use Rattle.std.specs.Prelude.{ℕ, ◌+◌, ◌*◌, ◌%◌, List, Bool}
use Rattle.octets.specs.Number.{two, four}
use Rattle.batch_records.specs.Records.{record_octets, ioa_in_record, stands_before}

-- How many flags there are for the addresses passed.
abbrev pub flag_count : ℕ
flag_count = 16384

-- The flag of an address.
unfoldable pub address_flag : ℕ → ℕ → ℕ
address_flag ca ioa = (ioa + 10125 * ca) % flag_count

-- The flag of the record at `at`.
unfoldable pub flag_at : List ℕ → ℕ → ℕ
flag_at m at = address_flag (two m at) (four m (at + ioa_in_record))

-- Does the address of record i stand in one of those before it?
abbrev pub comes_again : List ℕ → ℕ → Bool
comes_again m i = stands_before m (two m (record_octets * i)) (four m (record_octets * i + ioa_in_record)) i
