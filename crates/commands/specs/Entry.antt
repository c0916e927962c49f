-- The arguments of the entry for process commands as the definitions of `answers` have them.
use Rattle.std.specs.Prelude.{ℕ, ◌+◌, ◌%◌, ◌≡◌, List, [], Bool, length}
use denote.Triple.Both.{Both}
use Rattle.std.specs.Borrow.{Bor, MutBor}
use Rattle.limits.specs.Size.{address_octets, element_octets}
use Rattle.answers.specs.Said.{Lent, lent}
use Rattle.answers.specs.Process.{Proposal, updates_in}

-- The proposal that a caller hands in: its updates lie in a flat list.
abbrev pub proposal_of : Bool → ℕ → List ℕ → List ℕ → Proposal
proposal_of negative kind objects updates = record { negative = negative; kind = kind; objects = objects; updates = updates_in updates }

-- A memory that is lent to a call: as the call finds it, and as it leaves it.
abbrev pub Memory : Type 0
Memory = Both (MutBor (List ℕ)) (MutBor (List ℕ))

-- A memory that a call only reads.
abbrev pub Read : Type 0
Read = Both (Bor (List ℕ)) (Bor (List ℕ))

-- The same of a caller's slices.
abbrev pub proposed : Bool → ℕ → Read → Read → Proposal
proposed negative kind reply updates = proposal_of negative kind reply.entry.now updates.entry.now

-- The three memories of a process command as it finds them; it has no clock.
abbrev pub as_found : Memory → Memory → Memory → Lent
as_found table answer spontaneous = lent table.entry.now [] answer.entry.now spontaneous.entry.now

-- And as it leaves them.
abbrev pub as_left : Memory → Memory → Memory → Lent
as_left table answer spontaneous = lent table.exit.now [] answer.exit.now spontaneous.exit.now

-- ---- as the code reads

-- the octets of a reply are whole objects of its type
abbrev pub WholeReply : ℕ → List ℕ → Type 0
WholeReply kind objects = length objects % (address_octets + element_octets kind) ≡ 0
