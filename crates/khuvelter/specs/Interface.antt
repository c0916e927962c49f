-- The C interface's plain numbers: what each entry's answer becomes at the boundary. DESIGN.md, section 5.
use Rattle.std.specs.Prelude.{Bool, not, eqb, ℕ, ◌%◌, Result, Ok, Err}
use Rattle.limits.specs.declared.outcome.Refusal.{Refusal}
use Rattle.limits.specs.Outcome.{Outcome, number_of, refusal_number}
use Rattle.registry.specs.Effect as registry
use Rattle.registry.specs.declared.StationShare.{StationShare}
use Rattle.answers.specs.Said.{Answered}
use Rattle.khuvelter.specs.declared.Reply.{Reply}
use Rattle.khuvelter.specs.declared.Share.{Share}

-- A number in 32 bits. Every number that is narrowed here arrives whole, but for a place in a batch of 4,294,967,296 points or more (proofs/Whole.antt).
abbrev pub narrowed : ℕ → ℕ
narrowed n = n % 4294967296

-- An outcome with no place and no octets: document 01's number.
abbrev pub plain_reply : Outcome → Reply
plain_reply o = record { number = number_of o; place = 0; octets = 0; spontaneous = 0 }

-- A call that changes the table: document 01's number, and the place of the faulty point or the number of points removed.
abbrev pub place_reply : registry.Reply → Reply
place_reply r = record { number = number_of r.outcome; place = narrowed r.place; octets = 0; spontaneous = 0 }

-- A call that answers: document 01's number, and the octets written to the answer and to the spontaneous memory.
abbrev pub answer_reply : Answered → Reply
answer_reply a =
    record { number = number_of a.outcome; place = 0; octets = narrowed a.octets; spontaneous = narrowed a.spontaneous }

-- A station's share with document 01's number.
abbrev pub flat_share : Result StationShare Refusal → Share
flat_share (Ok s) =
    record {
      number = 0;
      reservation = narrowed s.share.reservation;
      ceiling = narrowed s.share.ceiling;
      held = narrowed s.share.held;
      free = narrowed s.free;
      unmet = narrowed s.unmet;
    }
flat_share (Err r) = record { number = refusal_number r; reservation = 0; ceiling = 0; held = 0; free = 0; unmet = 0 }

-- A flag octet: 0 for no, anything else for yes.
abbrev pub is_set : ℕ → Bool
is_set flag = not (eqb flag 0)
