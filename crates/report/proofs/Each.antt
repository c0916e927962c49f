-- What holds of every element of a list, through filtering, joining and cutting; and counting. Assumes nothing.
use mathlib.Core.Path.{◌≡◌, refl, sym, ap, ap₂, ◌∙◌}
use mathlib.Core.List.{List, [], ◌∷◌, ◌++◌, map}
use mathlib.Core.Bool.{Bool, true, false}
use Prim.Native.Nat.{ℕ, zero, suc, ◌+◌, ◌*◌, ◌≤◌, ◌<◌}
use native.Mathlib.Omega.{arith}
use native.Mathlib.Nat.{zero-mul, suc-mul}
use native.Mathlib.Numerals.{unary_clauses}
use lib.ListN.{length, take, drop, length-append}
use Rattle.limits.specs.Test.{◌&◌, pick, total}
use Rattle.report.specs.Packing.{selected, joined, cut, chunks, Full, Each, counted}

module _ {A : Type 0} (P : A → Type 0) where
  pub each_append : (xs ys : List A) → Each P xs → Each P ys → Each P (xs ++ ys)
  unfolding Each
  each_append [] ys a b = b
  each_append (x ∷ xs) ys a b = (a.0, each_append xs ys a.1 b)

  each_take : (k : ℕ) (xs : List A) → Each P xs → Each P (take k xs)
  unfolding Each
  each_take zero xs e = tt
  each_take (suc k) [] e = tt
  each_take (suc k) (x ∷ xs) e = (e.0, each_take k xs e.1)

  each_drop : (k : ℕ) (xs : List A) → Each P xs → Each P (drop k xs)
  unfolding Each
  each_drop zero xs e = e
  each_drop (suc k) [] e = tt
  each_drop (suc k) (x ∷ xs) e = each_drop k xs e.1

  each_cut : (f most : ℕ) (xs : List A) → Each P xs → Each (Each P) (cut f most xs)
  unfolding cut Each
  each_cut zero most xs e = tt
  each_cut (suc f) most [] e = tt
  each_cut (suc f) most (x ∷ xs) e = (each_take most (x ∷ xs) e, each_cut f most (drop most (x ∷ xs)) (each_drop most (x ∷ xs) e))

  pub each_chunks : (most : ℕ) (xs : List A) → Each P xs → Each (Each P) (chunks most xs)
  unfolding chunks
  each_chunks most xs e = each_cut (length xs) most xs e

  pub each_selected : (test : A → Bool) (xs : List A) → Each P xs → Each P (selected test xs)
  unfolding Each selected
  each_selected test [] e = tt
  each_selected test (x ∷ xs) e = go (test x) (each_selected test xs e.1)
    where
      go : (b : Bool) → Each P (selected test xs) → Each P (pick b (x ∷ selected test xs) (selected test xs))
      go true r = (e.0, r)
      go false r = r

  pub each_joined : {B : Type 0} (f : B → List A) → ((x : B) → Each P (f x)) → (xs : List B) → Each P (joined f xs)
  unfolding joined Each
  each_joined f h [] = tt
  each_joined f h (x ∷ xs) = each_append (f x) (joined f xs) (h x) (each_joined f h xs)

  pub each_of : ((x : A) → P x) → (xs : List A) → Each P xs
  unfolding Each
  each_of h [] = tt
  each_of h (x ∷ xs) = (h x, each_of h xs)

  pub each_both : (Q : A → Type 0) (xs : List A) → Each P xs → Each Q xs → Each (λ x. P x × Q x) xs
  unfolding Each
  each_both Q [] a b = tt
  each_both Q (x ∷ xs) a b = ((a.0, b.0), each_both Q xs a.1 b.1)

-- what follows of each from what holds of each
pub each_then : {A B : Type 0} (P : A → Type 0) (Q : B → Type 0) (f : A → B) → ((x : A) → P x → Q (f x)) → (xs : List A) → Each P xs → Each Q (map f xs)
unfolding Each
each_then P Q f h [] e = tt
each_then P Q f h (x ∷ xs) e = (h x e.0, each_then P Q f h xs e.1)

-- the same elements
pub each_so : {A : Type 0} (P Q : A → Type 0) → ((x : A) → P x → Q x) → (xs : List A) → Each P xs → Each Q xs
unfolding Each
each_so P Q h [] e = tt
each_so P Q h (x ∷ xs) e = (h x e.0, each_so P Q h xs e.1)

-- what is selected passes the test
pub selected_pass : {A : Type 0} (test : A → Bool) (xs : List A) → Each (λ x. test x ≡ true) (selected test xs)
unfolding Each selected
selected_pass test [] = tt
selected_pass test (x ∷ xs) = go (test x) refl (selected_pass test xs)
  where
    go : (b : Bool) → test x ≡ b → Each (λ y. test y ≡ true) (selected test xs) → Each (λ y. test y ≡ true) (pick b (x ∷ selected test xs) (selected test xs))
    go true e r = (e, r)
    go false e r = r

-- of full pieces none is empty, and none has more than the most
pub full_each : {A : Type 0} (most : ℕ) (xs : List (List A)) → Full most xs → Each (λ x. (0 < length x) × (length x ≤ most)) xs
unfolding Full Each
full_each most [] f = tt
full_each most (x ∷ []) f = ((f.0, f.1), tt)
full_each most (x ∷ y ∷ ys) f = ((f.0, omega (arith, f.1)), full_each most (y ∷ ys) f.2)

-- lists of w elements of each, one after another
pub length_even : {A B : Type 0} (f : A → List B) (w : ℕ) (xs : List A) → Each (λ x. length (f x) ≡ w) xs → length (joined f xs) ≡ length xs * w
unfolding joined Each
length_even f w [] e = sym (zero-mul w)
length_even f w (x ∷ xs) e =
    let ih : length (joined f xs) ≡ length xs * w = length_even f w xs e.1 in
    let h : length (f x) ≡ w = e.0 in
    let s : suc (length xs) * w ≡ length xs * w + w = suc-mul (length xs) w in
    simp length-append (omega arith)

-- a sum of equal numbers
pub total_same : {A : Type 0} (f g : A → ℕ) → ((x : A) → f x ≡ g x) → (xs : List A) → total f xs ≡ total g xs
unfolding total
total_same f g e [] = refl
total_same f g e (x ∷ xs) = ap₂ (λ (m n : ℕ). m + n) (e x) (total_same f g e xs)

-- a number more for each
pub total_more : {A : Type 0} (n : ℕ) (g : A → ℕ) (xs : List A) → total (λ x. n + g x) xs ≡ n * length xs + total g xs
unfolding total
total_more n g [] = let z : n * 0 ≡ 0 = omega arith in omega arith
total_more {A} n g (x ∷ xs) =
    let ih : total (λ (y : A). n + g y) xs ≡ n * length xs + total g xs = total_more n g xs in
    let s : n * suc (length xs) ≡ n * length xs + n = more n (length xs) in
    omega arith
  where
    more : (a b : ℕ) → a * suc b ≡ a * b + a
    more a b = simp unary_clauses

-- ---- counting

module _ {A : Type 0} (f : A → Bool) where
  pub selected_append : (xs ys : List A) → selected f (xs ++ ys) ≡ selected f xs ++ selected f ys
  unfolding selected
  selected_append [] ys = refl
  selected_append (x ∷ xs) ys = go (f x) (selected_append xs ys)
    where
      go : (b : Bool) → selected f (xs ++ ys) ≡ selected f xs ++ selected f ys
          → pick b (x ∷ selected f (xs ++ ys)) (selected f (xs ++ ys)) ≡ pick b (x ∷ selected f xs) (selected f xs) ++ selected f ys
      go true e = ap (λ (l : List A). x ∷ l) e
      go false e = e

  pub counted_append : (xs ys : List A) → counted f (xs ++ ys) ≡ counted f xs + counted f ys
  counted_append xs ys = ap length (selected_append xs ys) ∙ length-append (selected f xs) (selected f ys)

  -- one test after another
  pub selected_selected : (g : A → Bool) (xs : List A) → selected f (selected g xs) ≡ selected (λ x. g x & f x) xs
  unfolding selected ◌&◌
  selected_selected g [] = refl
  selected_selected g (x ∷ xs) = go (g x) (f x) refl (selected_selected g xs)
    where
      go : (a b : Bool) → f x ≡ b → selected f (selected g xs) ≡ selected (λ y. g y & f y) xs
          → selected f (pick a (x ∷ selected g xs) (selected g xs)) ≡ pick (a & b) (x ∷ selected (λ y. g y & f y) xs) (selected (λ y. g y & f y) xs)
      go true b q e = ap (λ (c : Bool). pick c (x ∷ selected f (selected g xs)) (selected f (selected g xs))) q ∙ ap (λ (l : List A). pick b (x ∷ l) l) e
      go false b q e = e

-- a test that is the same everywhere selects the same
pub selected_same : {A : Type 0} (f g : A → Bool) → ((x : A) → f x ≡ g x) → (xs : List A) → selected f xs ≡ selected g xs
unfolding selected
selected_same f g e [] = refl
selected_same {A} f g e (x ∷ xs) = ap₂ (λ (b : Bool) (l : List A). pick b (x ∷ l) l) (e x) (selected_same f g e xs)

-- none passes a test that fails at each
pub selected_none : {A : Type 0} (f : A → Bool) (xs : List A) → Each (λ x. f x ≡ false) xs → selected f xs ≡ []
unfolding selected Each
selected_none f [] e = refl
selected_none {A} f (x ∷ xs) e = ap₂ (λ (b : Bool) (l : List A). pick b (x ∷ l) l) e.0 (selected_none f xs e.1)
