-- Demand 2's uniqueness: two outcomes that meet an entry's contract on the same inputs are equal, since each contract is an equation to a definition.
-- One law for each form of contract. Assumes nothing.
use mathlib.Core.Path.{◌≡◌, sym, ◌∙◌}
use mathlib.Core.List.{List}
use Prim.Native.Nat.{ℕ}
use Rattle.std.specs.Prelude.{Result}
use Rattle.limits.specs.declared.outcome.Refusal.{Refusal}
use Rattle.limits.specs.Outcome.{Outcome}
use Rattle.table.specs.Table.{Table}
use Rattle.registry.specs.Effect.{Reply, Effect}
use Rattle.registry.specs.declared.StationShare.{StationShare}
use Rattle.replies.specs.Replies.{Replies}
use Rattle.registry.specs.Opening.{open_outcome, opened_memory}
use Rattle.registry.specs.Registry.{share_on}
use Rattle.answers.specs.Said.{Answered, Said, Lent, Leaves, as_it_is}
use Rattle.khuvelter.specs.declared.Reply.{Reply as CReply}
use Rattle.khuvelter.specs.Calls.{Call, Meets}

-- what is equal to one thing is equal to each other
same : {A : Type 0} {x y z : A} → x ≡ z → y ≡ z → x ≡ y
same p q = p ∙ sym q

-- Registration of one point and of a batch, removal of one and of all: reply and table.
pub one_table_entry : (f : Table → Effect) (m : List ℕ) (r r' : Reply) (n n' : List ℕ)
    → Replies f m r n → Replies f m r' n' → (r ≡ r') × (n ≡ n')
one_table_entry f m r r' n n' p q = (same p.0 q.0, same p.1 q.1)

-- Opening: outcome and memory.
pub one_opening : (k : ℕ) (plan m : List ℕ) (r r' : Outcome) (n n' : List ℕ)
    → (r ≡ open_outcome k plan m) × (n ≡ opened_memory k plan m) → (r' ≡ open_outcome k plan m) × (n' ≡ opened_memory k plan m) → (r ≡ r') × (n ≡ n')
one_opening k plan m r r' n n' p q = (same p.0 q.0, same p.1 q.1)

-- The share of a station.
pub one_share : (ca : ℕ) (m : List ℕ) (r r' : Result StationShare Refusal) → r ≡ share_on ca m → r' ≡ share_on ca m → r ≡ r'
one_share ca m r r' p q = same p q

-- The start of a connection, system and process commands: what comes back, and every memory.
pub one_said : (f : Table → Said) (before : Lent) (r r' : Answered) (after after' : Lent)
    → Leaves as_it_is f before r after → Leaves as_it_is f before r' after' → (r ≡ r') × (after ≡ after')
one_said f before r r' after after' p q = (same p.answers q.answers, same p.leaves q.leaves)

-- Every call of the C interface: what comes back, and every memory.
pub one_outcome : (c : Call) (before : Lent) (r r' : CReply) (after after' : Lent) → Meets c before r after → Meets c before r' after' → (r ≡ r') × (after ≡ after')
one_outcome c before r r' after after' p q = (same p.answered q.answered, same p.left q.left)
