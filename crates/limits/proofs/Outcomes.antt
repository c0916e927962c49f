-- A test for being done tells the outcome. Assumes nothing.
use mathlib.Core.Path.{◌≡◌, refl, sym, ap, ◌∙◌}
use mathlib.Core.Bool.{Bool, true, false}
use Prim.Native.Nat.{ℕ}
use native.Mathlib.Omega.{arith}
use Rattle.std.specs.Prelude.{Ok, Err}
use Rattle.limits.specs.Test.{pick}
use lib.Dec.{eqb}
use Rattle.limits.specs.Outcome.{Outcome, done, number_of, is_done}
use Rattle.limits.specs.declared.outcome.Refusal.TheVariants.{Silent, Malformed, TableNotWellFormed, AnswerShort, SpontaneousShort, BadProposal, InvalidPlan, UnknownTypeOrAddress, StationNotPlanned, GroupOutOfRange, CounterGroupOutOfRange, NotCounter, AddressTwice, AlreadyRegistered, NotRegistered, CeilingReached, NotAdmitted}

pub not_both : {A : Type 0} → false ≡ true → A
not_both e = let z : ◌≡◌ {A = ℕ} 0 1 = cc in absurd (omega arith)

pub done_is : (o : Outcome) → is_done o ≡ true → o ≡ done
done_is (Ok u) e = refl
done_is (Err r) e = not_both e

-- done is number 0
pub done_number : (o : Outcome) → is_done o ≡ eqb (number_of o) 0
done_number (Ok u) = refl
done_number (Err Silent) = refl
done_number (Err Malformed) = refl
done_number (Err TableNotWellFormed) = refl
done_number (Err AnswerShort) = refl
done_number (Err SpontaneousShort) = refl
done_number (Err BadProposal) = refl
done_number (Err InvalidPlan) = refl
done_number (Err UnknownTypeOrAddress) = refl
done_number (Err StationNotPlanned) = refl
done_number (Err GroupOutOfRange) = refl
done_number (Err CounterGroupOutOfRange) = refl
done_number (Err NotCounter) = refl
done_number (Err AddressTwice) = refl
done_number (Err AlreadyRegistered) = refl
done_number (Err NotRegistered) = refl
done_number (Err CeilingReached) = refl
done_number (Err NotAdmitted) = refl

-- where the first fault of two is none, neither is one
pub first_done : (a b : Outcome) → pick (is_done a) b a ≡ done → (a ≡ done) × (b ≡ done)
first_done a b e = by_test (is_done a) refl e
  where
    by_test : (t : Bool) → is_done a ≡ t → pick t b a ≡ done → (a ≡ done) × (b ≡ done)
    by_test true t e' = (done_is a t, e')
    by_test false t e' = not_both (sym t ∙ ap is_done e')
