-- ---- as the code reads: nobody need believe what follows, the laws in proofs/ tie it to `table_after` and `told_by` of `answers`
use Rattle.std.specs.Prelude.{ℕ, ◌+◌, ◌≤◌, ◌≡◌, List, true, length, take, drop, get_or, eqb, Option, Some, None, Result, Ok, Err}
use Rattle.limits.specs.Test.{pick}
use Rattle.limits.specs.Size.{header_octets, address_octets, point_octets}
use Rattle.octets.specs.Over.{over}
use Rattle.layout.specs.Layout.{value_offset, value_size}
use Rattle.asdu.specs.Header.{wire}
use Rattle.asdu.specs.Puts.{PutsAt}
use Rattle.lookup.specs.declared.Seat.{Seat}
use Rattle.lookup.specs.Seats.{seat_at}
use Rattle.lookup.specs.Find.{find_at}
use Rattle.table.specs.Memory.{table_of, well_formed}
use Rattle.registry.specs.Effect.{holding}
use Rattle.answers.specs.Process.{Update, update_octets, update_at, updates_at, update_of, table_with, table_after, told_of, told_by}

-- a table's memory, and a whole update from `at` on
abbrev pub UpdateIn : List ℕ → List ℕ → ℕ → Type 0
UpdateIn m us at = (well_formed m ≡ true) × (at + update_octets ≤ length us)

-- ---- which point an update means

-- the place found, where the point there has the update's type
abbrev pub target_on : List ℕ → Update → Result ℕ ℕ → Option ℕ
target_on m u (Ok at) = pick (eqb (get_or m at 0) u.kind) (Some at) None
target_on m u (Err at) = None

abbrev pub target_in : List ℕ → Update → Option Seat → Option ℕ
target_in m u (Some seat) = target_on m u (find_at m seat.first seat.held u.ioa)
target_in m u None = None

-- the place that an update means
unfoldable pub target_at : List ℕ → Update → Option ℕ
target_at m u = target_in m u (seat_at m u.ca)

-- ---- storing and telling

-- the memory with an element of a type, which lies in `src` at `from`, stored at a place
unfoldable pub stored : List ℕ → ℕ → ℕ → List ℕ → ℕ → List ℕ
stored m place kind src from = over m (place + value_offset) (take (point_octets kind) (drop from src))

-- the most octets that one update tells
abbrev pub most_told : ℕ
most_told = header_octets + address_octets + value_size

-- the octets that the update at `at` tells, of the table in a memory, and the memory that it leaves
abbrev pub told_one : List ℕ → List ℕ → ℕ → List ℕ
told_one m us at = wire (told_of (update_at us at) (update_of (table_of m) (update_at us at)))

abbrev pub left_one : List ℕ → List ℕ → ℕ → List ℕ
left_one m us at = holding m (table_of m) (table_with (table_of m) (update_at us at) (update_of (table_of m) (update_at us at)))

-- the same of n updates, one after another
abbrev pub told_by_all : List ℕ → List ℕ → ℕ → ℕ → List ℕ
told_by_all m us at n = wire (told_by (table_of m) (updates_at us at n))

abbrev pub left_by_all : List ℕ → List ℕ → ℕ → ℕ → List ℕ
left_by_all m us at n = holding m (table_of m) (table_after (table_of m) (updates_at us at n))

-- the table's memory is left so, and what is told is put into the output from o on
pub record Applies (left told before : List ℕ) (o r : ℕ) (m out : List ℕ) : Type 0 where
  pub memory : m ≡ left
  pub output : PutsAt o told before r out
