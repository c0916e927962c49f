-- Cases i and j of document 01, 'One gateway on paper', computed from the share rule. Assumes nothing.
use mathlib.Core.Path.{◌≡◌, refl}
use mathlib.Core.List.{List, [], ◌∷◌}
use Prim.Native.Nat.{ℕ}
use Rattle.limits.specs.Test.{total}
use Rattle.limits.specs.Share.{taken_in, let_go, admission_in}
use Rattle.limits.specs.declared.share.Share.{Share}
use Rattle.std.specs.Prelude.{Ok, Err}
use Rattle.limits.specs.Outcome.{Outcome, done}
use Rattle.limits.specs.declared.outcome.Refusal.TheVariants.{CeilingReached, NotAdmitted}

-- One of two stations registers a point, or lets one go.
pub data Move : Type 0 where
  A_asks : Move
  B_asks : Move
  B_lets_go : Move

-- A gateway of two stations.
pub record Two : Type 0 where
  pub a : Share
  pub b : Share

unfoldable pub shares : Two → List Share
shares g = g.a ∷ g.b ∷ []

-- what the share rule answers to a station
unfoldable pub asked : ℕ → Two → Share → Outcome
unfolding shares
asked k g s = admission_in k (shares g) s

-- a share takes the point in where it was admitted
unfoldable pub after : Outcome → Share → Share
after (Ok u) s = taken_in s
after (Err r) s = s

-- what the points that a run of moves asks for are answered
unfoldable pub play : ℕ → Two → List Move → List Outcome
play k g [] = []
play k g (A_asks ∷ ms) = let x = asked k g g.a in x ∷ play k (record { a = after x g.a; b = g.b }) ms
play k g (B_asks ∷ ms) = let x = asked k g g.b in x ∷ play k (record { a = g.a; b = after x g.b }) ms
play k g (B_lets_go ∷ ms) = play k (record { a = g.a; b = let_go g.b }) ms

-- K 5, A (r 2, c 5) and B (r 2, c 2), nothing held
unfoldable pub paper : Two
paper = record { a = record { held = 0; reservation = 2; ceiling = 5 }; b = record { held = 0; reservation = 2; ceiling = 2 } }

-- Case i: A gets 3 points, its fourth has no room (20), B still gets 2, B's third is above its ceiling (19).
-- Case j: B lets one go: A's fourth still has no room, B's next is admitted.
pub cases_i_and_j : play 5 paper (A_asks ∷ A_asks ∷ A_asks ∷ A_asks ∷ B_asks ∷ B_asks ∷ B_asks ∷ B_lets_go ∷ A_asks ∷ B_asks ∷ [])
    ≡ done ∷ done ∷ done ∷ Err NotAdmitted ∷ done ∷ done ∷ Err CeilingReached ∷ Err NotAdmitted ∷ done ∷ []
unfolding play asked after paper shares total
cases_i_and_j = refl
