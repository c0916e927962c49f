-- Lists one after another: the words in which answers are put together.
use Rattle.std.specs.Prelude.{List, [], ◌∷◌, ◌++◌}

-- A list of each, one after another.
unfoldable pub joined : {A B : Type 0} → (A → List B) → List A → List B
joined f [] = []
joined f (x ∷ xs) = f x ++ joined f xs

-- Lists one after another.
abbrev pub flat : {A : Type 0} → List (List A) → List A
flat xs = joined (λ x. x) xs
