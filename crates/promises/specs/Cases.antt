-- The starred cases a to j of document 01, 'One gateway on paper', as one table: calls of the C interface from an opening on, and for each what the
-- paper prints of its answer.
use Rattle.std.specs.Prelude.{ℕ, zero, suc, ◌/◌, ◌%◌, ◌≡◌, List, [], ◌∷◌, ◌++◌, map, length, drop, replicate}
use Rattle.report.specs.Packing.{flat, Each}
use Rattle.registry.specs.Opening.{planned, table_octets, opened_memory}
use Rattle.answers.specs.Said.{Lent, lent}
use Rattle.khuvelter.specs.Calls.{Call, table_alone, reply_to, left_by}
use Rattle.khuvelter.specs.Calls.Change.{register_point, unregister_point}
use Rattle.khuvelter.specs.Calls.Question.{system}
use Rattle.khuvelter.specs.Calls.Call.{open_table, change, ask}

-- ---- what a case is

-- A line of a case: a call with an answer memory of `room` octets; its number; the ASDUs that it writes, and the octets that each of them has.
pub record Line : Type 0 where
  pub call : Call
  pub room : ℕ
  pub number : ℕ
  pub asdus : List (List ℕ)
  pub sizes : List ℕ

-- A case: a gateway of capacity K opened under a plan, and its calls, each given the table as the one before left it.
pub record Case : Type 0 where
  pub capacity : ℕ
  pub plan : List ℕ
  pub lines : List Line

-- What is lent to a call: the table, a clock that is not known, an answer memory of octets EE.
abbrev pub lent_for : List ℕ → Line → Lent
lent_for m x = lent m (replicate 8 0) (replicate x.room 0xEE) []

-- Each call gives back its number and the octets of its ASDUs, these stand one after another at the front of the answer memory, and they are as long as said.
unfoldable pub Comes : List ℕ → List Line → Type 0
Comes m [] = Unit
Comes m (x ∷ xs) =
    (reply_to x.call (lent_for m x) ≡ record { number = x.number; place = 0; octets = length (flat x.asdus); spontaneous = 0 })
    × ((left_by x.call (lent_for m x)).answer ≡ flat x.asdus ++ drop (length (flat x.asdus)) (replicate x.room 0xEE))
    × (map length x.asdus ≡ x.sizes)
    × Comes (left_by x.call (lent_for m x)).table xs

-- A memory just as long as number 10 asks.
abbrev pub memory_for : Case → List ℕ
memory_for c = replicate (table_octets c.capacity (length (planned c.plan))) 0xEE

-- The opening is done, and the calls come out as the paper has it.
pub record Holds (c : Case) : Type 0 where
  pub opens : (reply_to (open_table c.capacity c.plan) (table_alone (memory_for c))).number ≡ 0
  pub comes : Comes (opened_memory c.capacity c.plan (memory_for c)) c.lines

-- ---- how the lines are written

-- The octets of a record: CA, IOA, type, perhaps a group, perhaps a counter group, spare, value.
abbrev pub record_of : ℕ → ℕ → ℕ → List ℕ → List ℕ → List ℕ → ℕ → List ℕ
record_of ca ioa kind group counter value rest =
    ca % 256 ∷ ca / 256 ∷ ioa % 256 ∷ ioa / 256 ∷ 0 ∷ 0 ∷ kind ∷ (group ++ (counter ++ (0 ∷ (value ++ replicate rest 0))))

-- No group, and a group that is given.
abbrev pub none : List ℕ
none = 0 ∷ 0 ∷ []

abbrev pub numbered : ℕ → List ℕ
numbered g = 1 ∷ g ∷ []

-- A point is registered: 0, 19 or 20; nothing is written to an answer.
abbrev pub registers : ℕ → ℕ → ℕ → List ℕ → List ℕ → List ℕ → ℕ → ℕ → Line
registers ca ioa kind group counter value rest number =
    record { call = change (register_point (record_of ca ioa kind group counter value rest)); room = 0; number = number; asdus = []; sizes = [] }

-- A command is answered.
abbrev pub asks : List ℕ → ℕ → ℕ → List (List ℕ) → List ℕ → Line
asks asdu room number asdus sizes = record { call = ask (system asdu); room = room; number = number; asdus = asdus; sizes = sizes }

-- "K = 8; station 7, r 2, c 4. Points: IOA 10 type 1 octet 01 group 1; IOA 3 type 1 octet 00; IOA 5 type 15 octets 2A 00 00 00 03, counter group 1."
abbrev pub on_paper : List Line → Case
on_paper xs =
    record {
      capacity = 8;
      plan = 7 ∷ 2 ∷ 4 ∷ [];
      lines =
          registers 7 10 1 (numbered 1) none (0x01 ∷ []) 11 0
          ∷ registers 7 3 1 none none (0x00 ∷ []) 11 0
          ∷ registers 7 5 15 none (numbered 1) (0x2A ∷ 0x00 ∷ 0x00 ∷ 0x00 ∷ 0x03 ∷ []) 7 0
          ∷ xs;
    }

-- n points of a type at station 7, from IOA i on, with element octets all 0.
unfoldable pub many : ℕ → ℕ → ℕ → List Line → List Line
many kind i zero xs = xs
many kind i (suc n) xs = registers 7 i kind none none [] 12 0 ∷ many kind (suc i) n xs

-- Their n objects, of `element` octets each, from IOA i on.
unfoldable pub objects : ℕ → ℕ → ℕ → List ℕ
objects element i zero = []
objects element i (suc n) = i % 256 ∷ i / 256 ∷ 0 ∷ (replicate element 0 ++ objects element (suc i) n)

-- "With K and shares large enough."
abbrev pub large_enough : List Line → Case
large_enough xs = record { capacity = 100; plan = 7 ∷ 0 ∷ 100 ∷ []; lines = xs }

-- The global interrogation of station 7, its confirmation and its termination.
abbrev pub interrogation7 : List ℕ
interrogation7 = 0x64 ∷ 0x01 ∷ 0x06 ∷ 0x00 ∷ 0x07 ∷ 0x00 ∷ 0x00 ∷ 0x00 ∷ 0x00 ∷ 0x14 ∷ []

abbrev pub confirmation7 : List ℕ
confirmation7 = 0x64 ∷ 0x01 ∷ 0x07 ∷ 0x00 ∷ 0x07 ∷ 0x00 ∷ 0x00 ∷ 0x00 ∷ 0x00 ∷ 0x14 ∷ []

abbrev pub termination7 : List ℕ
termination7 = 0x64 ∷ 0x01 ∷ 0x0A ∷ 0x00 ∷ 0x07 ∷ 0x00 ∷ 0x00 ∷ 0x00 ∷ 0x00 ∷ 0x14 ∷ []

-- Station 1 is A, station 2 is B: one asks for a point of type 1, or B lets one go.
abbrev pub registers_at : ℕ → ℕ → ℕ → Line
registers_at ca ioa number = registers ca ioa 1 none none (0x00 ∷ []) 11 number

abbrev pub lets_go : ℕ → ℕ → Line
lets_go ca ioa = record { call = change (unregister_point ca ioa); room = 0; number = 0; asdus = []; sizes = [] }

-- ---- the table

unfoldable pub cases : List Case
cases =
    -- a. `64 01 06 00 07 00 00 00 00 14` gives, whole, 48 octets; with 47 it is number 4.
    on_paper (asks interrogation7 47 4 [] [] ∷ asks interrogation7 48 0
    (confirmation7
    ∷ (0x01 ∷ 0x02 ∷ 0x14 ∷ 0x00 ∷ 0x07 ∷ 0x00 ∷ 0x03 ∷ 0x00 ∷ 0x00 ∷ 0x00 ∷ 0x0A ∷ 0x00 ∷ 0x00 ∷ 0x01 ∷ [])
    ∷ (0x0F ∷ 0x01 ∷ 0x14 ∷ 0x00 ∷ 0x07 ∷ 0x00 ∷ 0x05 ∷ 0x00 ∷ 0x00 ∷ 0x2A ∷ 0x00 ∷ 0x00 ∷ 0x00 ∷ 0x03 ∷ [])
    ∷ termination7 ∷ [])
    (10 ∷ 14 ∷ 14 ∷ 10 ∷ []) ∷ [])
    -- b. Qualifier 15 hex: only IOA 10, cause 15 hex, 30 octets in all.
    ∷ on_paper (asks (0x64 ∷ 0x01 ∷ 0x06 ∷ 0x00 ∷ 0x07 ∷ 0x00 ∷ 0x00 ∷ 0x00 ∷ 0x00 ∷ 0x15 ∷ []) 30 0
    ((0x64 ∷ 0x01 ∷ 0x07 ∷ 0x00 ∷ 0x07 ∷ 0x00 ∷ 0x00 ∷ 0x00 ∷ 0x00 ∷ 0x15 ∷ [])
    ∷ (0x01 ∷ 0x01 ∷ 0x15 ∷ 0x00 ∷ 0x07 ∷ 0x00 ∷ 0x0A ∷ 0x00 ∷ 0x00 ∷ 0x01 ∷ [])
    ∷ (0x64 ∷ 0x01 ∷ 0x0A ∷ 0x00 ∷ 0x07 ∷ 0x00 ∷ 0x00 ∷ 0x00 ∷ 0x00 ∷ 0x15 ∷ []) ∷ [])
    (10 ∷ 10 ∷ 10 ∷ []) ∷ [])
    -- c. Qualifier 01: ten octets, third 47 hex.
    ∷ on_paper (asks (0x64 ∷ 0x01 ∷ 0x06 ∷ 0x00 ∷ 0x07 ∷ 0x00 ∷ 0x00 ∷ 0x00 ∷ 0x00 ∷ 0x01 ∷ []) 249 0
    ((0x64 ∷ 0x01 ∷ 0x47 ∷ 0x00 ∷ 0x07 ∷ 0x00 ∷ 0x00 ∷ 0x00 ∷ 0x00 ∷ 0x01 ∷ []) ∷ []) (10 ∷ []) ∷ [])
    -- d. Qualifier 0: 1.
    ∷ on_paper (asks (0x64 ∷ 0x01 ∷ 0x06 ∷ 0x00 ∷ 0x07 ∷ 0x00 ∷ 0x00 ∷ 0x00 ∷ 0x00 ∷ 0x00 ∷ []) 249 1 [] [] ∷ [])
    -- e. `65 01 06 00 07 00 00 00 00 C5`: 34 octets, data cause 25 hex with 2A; afterwards (read again with 05) 00 00 00 00 03.
    ∷ on_paper (asks (0x65 ∷ 0x01 ∷ 0x06 ∷ 0x00 ∷ 0x07 ∷ 0x00 ∷ 0x00 ∷ 0x00 ∷ 0x00 ∷ 0xC5 ∷ []) 34 0
    ((0x65 ∷ 0x01 ∷ 0x07 ∷ 0x00 ∷ 0x07 ∷ 0x00 ∷ 0x00 ∷ 0x00 ∷ 0x00 ∷ 0xC5 ∷ [])
    ∷ (0x0F ∷ 0x01 ∷ 0x25 ∷ 0x00 ∷ 0x07 ∷ 0x00 ∷ 0x05 ∷ 0x00 ∷ 0x00 ∷ 0x2A ∷ 0x00 ∷ 0x00 ∷ 0x00 ∷ 0x03 ∷ [])
    ∷ (0x65 ∷ 0x01 ∷ 0x0A ∷ 0x00 ∷ 0x07 ∷ 0x00 ∷ 0x00 ∷ 0x00 ∷ 0x00 ∷ 0xC5 ∷ []) ∷ [])
    (10 ∷ 14 ∷ 10 ∷ [])
    ∷ asks (0x65 ∷ 0x01 ∷ 0x06 ∷ 0x00 ∷ 0x07 ∷ 0x00 ∷ 0x00 ∷ 0x00 ∷ 0x00 ∷ 0x05 ∷ []) 34 0
    ((0x65 ∷ 0x01 ∷ 0x07 ∷ 0x00 ∷ 0x07 ∷ 0x00 ∷ 0x00 ∷ 0x00 ∷ 0x00 ∷ 0x05 ∷ [])
    ∷ (0x0F ∷ 0x01 ∷ 0x25 ∷ 0x00 ∷ 0x07 ∷ 0x00 ∷ 0x05 ∷ 0x00 ∷ 0x00 ∷ 0x00 ∷ 0x00 ∷ 0x00 ∷ 0x00 ∷ 0x03 ∷ [])
    ∷ (0x65 ∷ 0x01 ∷ 0x0A ∷ 0x00 ∷ 0x07 ∷ 0x00 ∷ 0x00 ∷ 0x00 ∷ 0x00 ∷ 0x05 ∷ []) ∷ [])
    (10 ∷ 14 ∷ 10 ∷ []) ∷ [])
    -- f. CA 9, not planned: confirmation and termination, 20 octets.
    ∷ on_paper (asks (0x64 ∷ 0x01 ∷ 0x06 ∷ 0x00 ∷ 0x09 ∷ 0x00 ∷ 0x00 ∷ 0x00 ∷ 0x00 ∷ 0x14 ∷ []) 20 0
    ((0x64 ∷ 0x01 ∷ 0x07 ∷ 0x00 ∷ 0x09 ∷ 0x00 ∷ 0x00 ∷ 0x00 ∷ 0x00 ∷ 0x14 ∷ [])
    ∷ (0x64 ∷ 0x01 ∷ 0x0A ∷ 0x00 ∷ 0x09 ∷ 0x00 ∷ 0x00 ∷ 0x00 ∷ 0x00 ∷ 0x14 ∷ []) ∷ [])
    (10 ∷ 10 ∷ []) ∷ [])
    -- g. 60 points of type 1: one ASDU of 246 octets; 61: 60 and 1.
    ∷ large_enough (many 1 1 60 (asks interrogation7 266 0
    (confirmation7 ∷ ((0x01 ∷ 60 ∷ 0x14 ∷ 0x00 ∷ 0x07 ∷ 0x00 ∷ []) ++ objects 1 1 60) ∷ termination7 ∷ [])
    (10 ∷ 246 ∷ 10 ∷ []) ∷ many 1 61 1 (asks interrogation7 276 0
    (confirmation7 ∷ ((0x01 ∷ 60 ∷ 0x14 ∷ 0x00 ∷ 0x07 ∷ 0x00 ∷ []) ++ objects 1 1 60) ∷ ((0x01 ∷ 1 ∷ 0x14 ∷ 0x00 ∷ 0x07 ∷ 0x00 ∷ []) ++ objects 1 61 1)
    ∷ termination7 ∷ [])
    (10 ∷ 246 ∷ 10 ∷ 10 ∷ []) ∷ [])))
    -- h. 27 of type 17: 249 octets; 28: 27 and 1.
    ∷ large_enough (many 17 1 27 (asks interrogation7 269 0
    (confirmation7 ∷ ((0x11 ∷ 27 ∷ 0x14 ∷ 0x00 ∷ 0x07 ∷ 0x00 ∷ []) ++ objects 6 1 27) ∷ termination7 ∷ [])
    (10 ∷ 249 ∷ 10 ∷ []) ∷ many 17 28 1 (asks interrogation7 284 0
    (confirmation7 ∷ ((0x11 ∷ 27 ∷ 0x14 ∷ 0x00 ∷ 0x07 ∷ 0x00 ∷ []) ++ objects 6 1 27) ∷ ((0x11 ∷ 1 ∷ 0x14 ∷ 0x00 ∷ 0x07 ∷ 0x00 ∷ []) ++ objects 6 28 1)
    ∷ termination7 ∷ [])
    (10 ∷ 249 ∷ 15 ∷ 10 ∷ []) ∷ [])))
    -- i. K 5, A (r 2, c 5) and B (r 2, c 2): A gets 3 points, its fourth is 20, B still gets 2, B's third is 19.
    -- j. B lets one go: A's fourth is still 20, B's next is 0.
    ∷ record {
      capacity = 5;
      plan = 1 ∷ 2 ∷ 5 ∷ 2 ∷ 2 ∷ 2 ∷ [];
      lines =
          registers_at 1 1 0 ∷ registers_at 1 2 0 ∷ registers_at 1 3 0 ∷ registers_at 1 4 20
          ∷ registers_at 2 1 0 ∷ registers_at 2 2 0 ∷ registers_at 2 3 19
          ∷ lets_go 2 1 ∷ registers_at 1 4 20 ∷ registers_at 2 3 0 ∷ [];
    }
    ∷ []

-- The starred cases of document 01.
abbrev pub AllCases : Type 0
AllCases = Each Holds cases
