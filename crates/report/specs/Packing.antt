-- Lists filtered and cut into pieces: the words in which a report is written.
-- Document 01, 'Octets of an ASDU': a run of objects fills each ASDU but the last, and no ASDU of data is empty.
use Rattle.std.specs.Prelude.{ℕ, zero, suc, ◌<◌, ◌≤◌, ◌≡◌, List, [], ◌∷◌, Bool, length, take, drop}
use Rattle.limits.specs.Test.{pick}
-- Lists joined, passed on.
unfoldable pub use Rattle.asdu.specs.Joined.{joined}
pub use Rattle.asdu.specs.Joined.{flat}

-- The elements that pass a test, in their order.
unfoldable pub selected : {A : Type 0} → (A → Bool) → List A → List A
selected test [] = []
selected test (x ∷ xs) = pick (test x) (x ∷ selected test xs) (selected test xs)

-- Pieces of `most` elements and a last one of what is left, at most as many as the first number says.
unfoldable pub cut : {A : Type 0} → ℕ → ℕ → List A → List (List A)
cut zero most xs = []
cut (suc n) most [] = []
cut (suc n) most (x ∷ xs) = take most (x ∷ xs) ∷ cut n most (drop most (x ∷ xs))

-- A list cut into pieces of `most` elements and a last one of what is left.
unfoldable pub chunks : {A : Type 0} → ℕ → List A → List (List A)
chunks most xs = cut (length xs) most xs

-- Every piece but the last has `most` elements; the last has at most as many; none is empty.
unfoldable pub Full : {A : Type 0} → ℕ → List (List A) → Type 0
Full most [] = Unit
Full most (x ∷ []) = (0 < length x) × (length x ≤ most)
Full most (x ∷ y ∷ ys) = (0 < length x) × (length x ≡ most) × Full most (y ∷ ys)

-- Something holds of every element.
unfoldable pub Each : {A : Type 0} → (A → Type 0) → List A → Type 0
Each P [] = Unit
Each P (x ∷ xs) = P x × Each P xs

-- How many elements pass a test.
abbrev pub counted : {A : Type 0} → (A → Bool) → List A → ℕ
counted test xs = length (selected test xs)
