-- The numbers that a call gives back: document 01, 'Numbers given back'.
use Rattle.std.specs.Prelude.{ℕ, Bool, true, false, Result, Ok, Err}
use Rattle.limits.specs.declared.outcome.Refusal.{Refusal}
use Rattle.limits.specs.declared.outcome.Refusal.TheVariants.{Silent, Malformed, TableNotWellFormed, AnswerShort, SpontaneousShort, BadProposal, InvalidPlan, UnknownTypeOrAddress, StationNotPlanned, GroupOutOfRange, CounterGroupOutOfRange, NotCounter, AddressTwice, AlreadyRegistered, NotRegistered, CeilingReached, NotAdmitted}

-- Done, or a refusal.
abbrev pub Outcome : Type 0
Outcome = Result Unit Refusal

abbrev pub done : Outcome
done = Ok tt

-- Each refusal's number.
abbrev pub refusal_number : Refusal → ℕ
refusal_number Silent = 1
refusal_number Malformed = 2
refusal_number TableNotWellFormed = 3
refusal_number AnswerShort = 4
refusal_number SpontaneousShort = 5
refusal_number BadProposal = 6
refusal_number InvalidPlan = 10
refusal_number UnknownTypeOrAddress = 11
refusal_number StationNotPlanned = 12
refusal_number GroupOutOfRange = 13
refusal_number CounterGroupOutOfRange = 14
refusal_number NotCounter = 15
refusal_number AddressTwice = 16
refusal_number AlreadyRegistered = 17
refusal_number NotRegistered = 18
refusal_number CeilingReached = 19
refusal_number NotAdmitted = 20

-- Each outcome's number: 0 where the call was done.
abbrev pub number_of : Outcome → ℕ
number_of (Ok u) = 0
number_of (Err r) = refusal_number r

-- Only number 0 may write anything.
abbrev pub is_done : Outcome → Bool
is_done (Ok u) = true
is_done (Err r) = false
