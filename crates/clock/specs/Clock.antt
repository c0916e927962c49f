-- The last master clock as a record, the octets that stand for it, and what a system command leaves of it.
-- Document 01, 'What each command says': a small record of seven octets and a known flag, changed in place.
use Rattle.std.specs.Prelude.{ℕ, List, [], ◌∷◌, ◌++◌, Bool, false, not, take, get_or, replicate, eqb}
use denote.Triple.Both.{Both}
use Rattle.std.specs.Borrow.{MutBor}
use Rattle.limits.specs.Test.{pick}
use Rattle.answers.specs.Said.{Answered, as_it_is, Leaves}
use Rattle.answers.specs.System.{system_said}
use Rattle.system_command_handler.specs.Handler.{at_entry, at_exit}
use Rattle.clock.specs.declared.Clock.{Clock}

-- A fresh clock is seven zeros, not known.
abbrev pub fresh_clock : Clock
fresh_clock = record { octets = replicate 7 0; known = false }

-- The known flag as an octet: 0 or 1.
abbrev pub flag_of : Bool → ℕ
flag_of known = pick known 1 0

-- Time and flag as octets.
abbrev pub with_flag : List ℕ → Bool → List ℕ
with_flag time known = time ++ (flag_of known ∷ [])

-- The eight octets that stand for a clock in the definitions: its time, then the flag.
abbrev pub octets_of : Clock → List ℕ
octets_of c = with_flag c.octets c.known

-- The clock that eight octets stand for.
abbrev pub clock_of : List ℕ → Clock
clock_of m = record { octets = take 7 m; known = not (eqb (get_or m 7 0) 0) }

-- What a system command gives back and leaves, the clock before and after it being records.
abbrev pub Answers : List ℕ → Both (MutBor (List ℕ)) (MutBor (List ℕ)) → Clock → Both (MutBor (List ℕ)) (MutBor (List ℕ)) → Answered → Clock → Type 0
Answers asdu table before answer r after =
    Leaves as_it_is (system_said (octets_of before) asdu) (at_entry table (octets_of before) answer) r (at_exit table (octets_of after) answer)
