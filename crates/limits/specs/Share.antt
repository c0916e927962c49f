-- Shares: what a station holds, what it may hold, what is kept free for it, and who is admitted.
-- Document 01, 'Points, stations and shares'. No point stands here, only numbers.
use Rattle.std.specs.Prelude.{ℕ, ◌+◌, ◌-◌, ◌≤◌, ◌||◌, List, [], ◌∷◌, Err, ltb}
use Rattle.limits.specs.Test.{pick, total}
use Rattle.limits.specs.declared.share.Share.{Share}
use Rattle.limits.specs.Outcome.{Outcome, done}
use Rattle.limits.specs.declared.outcome.Refusal.TheVariants.{CeilingReached, NotAdmitted}

abbrev pub held_of : Share → ℕ
held_of s = s.held

-- A station's unmet room is r − held where held < r; at or above its reservation it adds 0.
abbrev pub unmet_of : Share → ℕ
unmet_of s = pick (ltb s.held s.reservation) (s.reservation - s.held) 0

-- A share takes one point in; unchanged at or above its ceiling.
abbrev pub taken_in : Share → Share
taken_in s = record { held = pick (ltb s.held s.ceiling) (s.held + 1) s.held; reservation = s.reservation; ceiling = s.ceiling }

-- A share lets one point go; unchanged with nothing held.
abbrev pub let_go : Share → Share
let_go s = record { held = pick (ltb 0 s.held) (s.held - 1) s.held; reservation = s.reservation; ceiling = s.ceiling }

-- One more point is admitted exactly if held < c, and held < r or free > unmet.
abbrev pub admission_of : Share → ℕ → ℕ → Outcome
admission_of s free unmet =
    pick (ltb s.held s.ceiling)
    (pick (ltb s.held s.reservation || ltb unmet free) done (Err NotAdmitted))
    (Err CeilingReached)

-- ---- a gateway's shares

-- Free is K minus all held.
abbrev pub free_of : ℕ → List Share → ℕ
free_of k ss = k - total held_of ss

-- What the rule answers to a station s of a gateway with capacity K and these shares.
abbrev pub admission_in : ℕ → List Share → Share → Outcome
admission_in k ss s = admission_of s (free_of k ss) (total unmet_of ss)

-- No station is above its ceiling.
unfoldable pub WithinCeilings : List Share → Type 0
WithinCeilings [] = Unit
WithinCeilings (s ∷ ss) = (s.held ≤ s.ceiling) × WithinCeilings ss

-- Shares under a capacity K are sound: held adds up to at most K, none is above its ceiling, and free ≥ unmet.
pub record Sound (k : ℕ) (ss : List Share) : Type 0 where
  pub fits : total held_of ss ≤ k
  pub ceilings : WithinCeilings ss
  pub room : total unmet_of ss ≤ free_of k ss
