-- The laws of lists that are joined. Assumes nothing.
use mathlib.Core.Path.{◌≡◌, refl, sym, ap, ap₂, ◌∙◌}
use mathlib.Core.List.{List, [], ◌∷◌, ◌++◌, map, append_assoc, append-nil}
use native.Mathlib.Omega.{arith}
use lib.ListN.{length, length-append}
use Rattle.limits.specs.Test.{total}
use Rattle.asdu.specs.Joined.{joined}

module _ {A B : Type 0} (f : A → List B) where
  pub joined_one : (x : A) → joined f (x ∷ []) ≡ f x
  unfolding joined
  joined_one x = append-nil (f x)

  pub joined_append : (xs ys : List A) → joined f (xs ++ ys) ≡ joined f xs ++ joined f ys
  unfolding joined
  joined_append [] ys = refl
  joined_append (x ∷ xs) ys = ap (λ (l : List B). f x ++ l) (joined_append xs ys) ∙ sym (append_assoc (f x) (joined f xs) (joined f ys))

  pub length_joined : (xs : List A) → length (joined f xs) ≡ total (λ x. length (f x)) xs
  unfolding joined total
  length_joined [] = refl
  length_joined (x ∷ xs) =
      let ih : length (joined f xs) ≡ total (λ (y : A). length (f y)) xs = length_joined xs in
      simp length-append (omega arith)

  pub joined_map : {C : Type 0} (g : C → A) (xs : List C) → joined f (map g xs) ≡ joined (λ x. f (g x)) xs
  unfolding joined
  joined_map g [] = refl
  joined_map g (x ∷ xs) = ap (λ (l : List B). f (g x) ++ l) (joined_map g xs)

  pub joined_joined : {C : Type 0} (g : C → List A) (xs : List C) → joined f (joined g xs) ≡ joined (λ x. joined f (g x)) xs
  unfolding joined
  joined_joined g [] = refl
  joined_joined g (x ∷ xs) = joined_append (g x) (joined g xs) ∙ ap (λ (l : List B). joined f (g x) ++ l) (joined_joined g xs)

-- what is joined of equal lists is equal
pub joined_same : {A B : Type 0} (f g : A → List B) → ((x : A) → f x ≡ g x) → (xs : List A) → joined f xs ≡ joined g xs
unfolding joined
joined_same f g e [] = refl
joined_same f g e (x ∷ xs) = ap₂ (λ p q. p ++ q) (e x) (joined_same f g e xs)

pub map_joined : {A B C : Type 0} (f : B → C) (g : A → List B) (xs : List A) → map f (joined g xs) ≡ joined (λ x. map f (g x)) xs
unfolding joined
map_joined f g [] = refl
map_joined {C = C} f g (x ∷ xs) = map_append (g x) (joined g xs) ∙ ap (λ (l : List C). map f (g x) ++ l) (map_joined f g xs)
  where
    map_append : (ys zs : List _) → map f (ys ++ zs) ≡ map f ys ++ map f zs
    map_append [] zs = refl
    map_append (y ∷ ys) zs = ap (λ (l : List C). f y ∷ l) (map_append ys zs)
