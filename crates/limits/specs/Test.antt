-- Tests one after another, a choice by a test, and a sum over a list: the words in which the other definitions are written.
use Rattle.std.specs.Prelude.{ℕ, ◌+◌, Bool, true, false, List, [], ◌∷◌}

infixr 25 ◌&◌
-- both tests, the left one first
unfoldable pub ◌&◌ : Bool → Bool → Bool
true & b = b
false & b = false

-- the first where the test holds, else the second
abbrev pub pick : {A : Type 0} → Bool → A → A → A
pick true a b = a
pick false a b = b

-- a number of each, added up
unfoldable pub total : {A : Type 0} → (A → ℕ) → List A → ℕ
total f [] = 0
total f (x ∷ xs) = f x + total f xs
