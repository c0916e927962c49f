-- The two refusals for room, and what they give way to. Assumes nothing.
use Rattle.std.proofs.Common.{◌≡◌, ◌⊎◌, inl, inr, Bool, true, false, refl, sym, ap, ◌∙◌}
use lib.Dec.{ltb}
use Rattle.limits.specs.Test.{pick}
use Rattle.std.specs.Prelude.{Ok, Err}
use Rattle.limits.specs.Outcome.{Outcome, number_of}
use Rattle.limits.specs.declared.outcome.Refusal.TheVariants.{Silent, Malformed, TableNotWellFormed, AnswerShort, SpontaneousShort, BadProposal, InvalidPlan, UnknownTypeOrAddress, StationNotPlanned, GroupOutOfRange, CounterGroupOutOfRange, NotCounter, AddressTwice, AlreadyRegistered, NotRegistered, CeilingReached, NotAdmitted}
use Rattle.registry.specs.Effect.{Reply}
use Rattle.point_lists.specs.Later.{after_faults, answer_of}

-- the two refusals for room have the numbers 19 and 20, and the others are below
high : (o : Outcome) → (o ≡ (Err CeilingReached)) ⊎ (o ≡ (Err NotAdmitted)) → ltb (number_of o) 19 ≡ false
high o (inl e) = ap (λ (x : Outcome). ltb (number_of x) 19) e
high o (inr e) = ap (λ (x : Outcome). ltb (number_of x) 19) e

low : (o : Outcome) → (o ≡ (Err CeilingReached) → ⊥) → (o ≡ (Err NotAdmitted) → ⊥) → ltb (number_of o) 19 ≡ true
low (Ok u) n k = refl
low (Err Silent) n k = refl
low (Err Malformed) n k = refl
low (Err TableNotWellFormed) n k = refl
low (Err AnswerShort) n k = refl
low (Err SpontaneousShort) n k = refl
low (Err BadProposal) n k = refl
low (Err InvalidPlan) n k = refl
low (Err UnknownTypeOrAddress) n k = refl
low (Err StationNotPlanned) n k = refl
low (Err GroupOutOfRange) n k = refl
low (Err CounterGroupOutOfRange) n k = refl
low (Err NotCounter) n k = refl
low (Err AddressTwice) n k = refl
low (Err AlreadyRegistered) n k = refl
low (Err NotRegistered) n k = refl
low (Err CeilingReached) n k = absurd (n refl)
low (Err NotAdmitted) n k = absurd (k refl)

-- A refusal for room gives way.
pub for_room : (l r z : Reply) → (r.outcome ≡ (Err CeilingReached)) ⊎ (r.outcome ≡ (Err NotAdmitted)) → z ≡ after_faults l r → z ≡ answer_of l r
unfolding answer_of
for_room l r z e is = is ∙ sym (ap (λ (b : Bool). pick b r (after_faults l r)) (high r.outcome e))

-- Any other reply stands.
pub not_for_room : (l r : Reply) → (r.outcome ≡ (Err CeilingReached) → ⊥) → (r.outcome ≡ (Err NotAdmitted) → ⊥) → r ≡ answer_of l r
unfolding answer_of
not_for_room l r n k = sym (ap (λ (b : Bool). pick b r (after_faults l r)) (low r.outcome n k))
