-- The laws of cutting lists. Packing is proved here once, over the most objects of a piece. Assumes nothing.
use mathlib.Core.Path.{◌≡◌, refl, sym, ap, ap₂, ◌∙◌}
use mathlib.Core.List.{List, [], ◌∷◌, ◌++◌, map}
use Prim.Native.Nat.{ℕ, zero, suc, ◌+◌, ◌-◌, ◌/◌, ◌≤◌, ◌<◌, min}
use native.Mathlib.Omega.{arith}
use native.Mathlib.Numerals.{add-one}
use native.Mathlib.Decide.{dec_le}
use native.Mathlib.Nat.{not-suc-le-zero, add-div_right, div-eq_of_lt}
use lib.ListN.{length, take, drop, length-take, length-drop, length-map, take-append-drop}
use Rattle.limits.specs.Size.{asdus_of}
use Rattle.report.specs.Packing.{joined, flat, cut, chunks, Full}
-- the laws of joined lists, passed on
pub use Rattle.asdu.proofs.Joined.{joined_append, length_joined, joined_map, joined_joined, joined_same, map_joined}

-- ---- pieces

-- how many ASDUs n objects fill
module _ (most : ℕ) (pos : 0 < most) where
  pieces_none : 0 ≡ asdus_of most 0
  pieces_none = sym (div-eq_of_lt (omega arith))

  pieces_more : (n : ℕ) → 0 < n → asdus_of most n ≡ suc (asdus_of most (n - most))
  pieces_more n p =
      let e : n + (most - 1) ≡ (n - 1) + most = omega arith in
      ap (λ (x : ℕ). x / most) e ∙ add-div_right (n - 1) pos ∙ add-one ((n - 1) / most) ∙ ap suc (go (dec_le most n))
    where
      go : Dec (most ≤ n) → (n - 1) / most ≡ (n - most + (most - 1)) / most
      go (no l) =
          let e : n - most + (most - 1) ≡ most - 1 = omega arith in
          div-eq_of_lt (omega arith) ∙ sym (ap (λ (x : ℕ). x / most) e ∙ div-eq_of_lt (omega arith))
      go (yes l) =
          let e : n - 1 ≡ n - most + (most - 1) = omega arith in
          ap (λ (x : ℕ). x / most) e

module _ {A : Type 0} (most : ℕ) (pos : 0 < most) where
  -- the bound on the number of pieces does not show
  cut_enough : (f g : ℕ) (xs : List A) → length xs ≤ f → length xs ≤ g → cut f most xs ≡ cut g most xs
  unfolding cut
  cut_enough zero zero xs a b = refl
  cut_enough zero (suc g) [] a b = refl
  cut_enough zero (suc g) (x ∷ xs) a b = absurd (not-suc-le-zero a)
  cut_enough (suc f) zero [] a b = refl
  cut_enough (suc f) zero (x ∷ xs) a b = absurd (not-suc-le-zero b)
  cut_enough (suc f) (suc g) [] a b = refl
  cut_enough (suc f) (suc g) (x ∷ xs) a b =
      let l : length (drop most (x ∷ xs)) ≡ suc (length xs) - most = length-drop most (x ∷ xs) in
      ap (λ (r : List (List A)). take most (x ∷ xs) ∷ r) (cut_enough f g (drop most (x ∷ xs)) (omega arith) (omega arith))

  pub chunks_none : (xs : List A) → length xs ≡ 0 → chunks most xs ≡ []
  unfolding chunks cut
  chunks_none [] e = refl
  chunks_none (x ∷ xs) e = let b : ⊥ = omega arith in absurd b

  -- one piece, and the others
  pub chunks_more : (xs : List A) → 0 < length xs → chunks most xs ≡ take most xs ∷ chunks most (drop most xs)
  unfolding chunks cut
  chunks_more [] p = absurd (not-suc-le-zero p)
  chunks_more (x ∷ xs) p =
      let l : length (drop most (x ∷ xs)) ≡ suc (length xs) - most = length-drop most (x ∷ xs) in
      ap (λ (r : List (List A)). take most (x ∷ xs) ∷ r)
      (cut_enough (length xs) (length (drop most (x ∷ xs))) (drop most (x ∷ xs)) (omega arith) (omega arith))

  -- the pieces, one after another, are the list
  cut_flat : (f : ℕ) (xs : List A) → length xs ≤ f → flat (cut f most xs) ≡ xs
  unfolding cut joined
  cut_flat zero [] h = refl
  cut_flat zero (x ∷ xs) h = absurd (not-suc-le-zero h)
  cut_flat (suc f) [] h = refl
  cut_flat (suc f) (x ∷ xs) h =
      let l : length (drop most (x ∷ xs)) ≡ suc (length xs) - most = length-drop most (x ∷ xs) in
      ap (λ (r : List A). take most (x ∷ xs) ++ r) (cut_flat f (drop most (x ∷ xs)) (omega arith))
      ∙ take-append-drop most (x ∷ xs)

  pub chunks_flat : (xs : List A) → flat (chunks most xs) ≡ xs
  unfolding chunks
  chunks_flat xs = cut_flat (length xs) xs (omega arith)

  -- every piece but the last is full, and none is empty
  cut_full : (f : ℕ) (xs : List A) → length xs ≤ f → Full most (cut f most xs)
  unfolding cut Full
  cut_full zero xs h = tt
  cut_full (suc f) [] h = tt
  cut_full (suc f) (x ∷ xs) h = go f (drop most (x ∷ xs)) refl (cut_full f (drop most (x ∷ xs)) (omega (arith, length-drop most (x ∷ xs))))
    where
      long : length (take most (x ∷ xs)) ≡ min most (suc (length xs))
      long = length-take most (x ∷ xs)

      go : (g : ℕ) (ys : List A) → ys ≡ drop most (x ∷ xs) → Full most (cut g most ys) → Full most (take most (x ∷ xs) ∷ cut g most ys)
      go zero ys e w = (omega (arith, long), omega (arith, long))
      go (suc g) [] e w = (omega (arith, long), omega (arith, long))
      go (suc g) (y ∷ ys) e w =
          let d : suc (length ys) ≡ suc (length xs) - most = ap length e ∙ length-drop most (x ∷ xs) in
          (omega (arith, long), omega (arith, long), w)

  pub chunks_full : (xs : List A) → Full most (chunks most xs)
  unfolding chunks
  chunks_full xs = cut_full (length xs) xs (omega arith)

  -- how many pieces
  cut_count : (f : ℕ) (xs : List A) → length xs ≤ f → length (cut f most xs) ≡ asdus_of most (length xs)
  unfolding cut
  cut_count zero [] h = pieces_none most pos
  cut_count zero (x ∷ xs) h = absurd (not-suc-le-zero h)
  cut_count (suc f) [] h = pieces_none most pos
  cut_count (suc f) (x ∷ xs) h =
      let l : length (drop most (x ∷ xs)) ≡ suc (length xs) - most = length-drop most (x ∷ xs) in
      ap suc (cut_count f (drop most (x ∷ xs)) (omega arith) ∙ ap (asdus_of most) l) ∙ sym (pieces_more most pos (suc (length xs)) (omega arith))

  pub chunks_count : (xs : List A) → length (chunks most xs) ≡ asdus_of most (length xs)
  unfolding chunks
  chunks_count xs = cut_count (length xs) xs (omega arith)

-- the pieces of a mapped list are the pieces, mapped
module _ {A B : Type 0} (f : A → B) (most : ℕ) where
  map_take : (n : ℕ) (xs : List A) → map f (take n xs) ≡ take n (map f xs)
  map_take zero xs = refl
  map_take (suc n) [] = refl
  map_take (suc n) (x ∷ xs) = ap (λ (l : List B). f x ∷ l) (map_take n xs)

  map_drop : (n : ℕ) (xs : List A) → map f (drop n xs) ≡ drop n (map f xs)
  map_drop zero xs = refl
  map_drop (suc n) [] = refl
  map_drop (suc n) (x ∷ xs) = map_drop n xs

  map_cut : (n : ℕ) (xs : List A) → map (map f) (cut n most xs) ≡ cut n most (map f xs)
  unfolding cut
  map_cut zero xs = refl
  map_cut (suc n) [] = refl
  map_cut (suc n) (x ∷ xs) = ap₂ (λ (p : List B) (l : List (List B)). p ∷ l) (map_take most (x ∷ xs)) (map_cut n (drop most (x ∷ xs)) ∙ ap (cut n most) (map_drop most (x ∷ xs)))

  pub chunks_map : (xs : List A) → chunks most (map f xs) ≡ map (map f) (chunks most xs)
  unfolding chunks
  chunks_map xs = ap (λ (n : ℕ). cut n most (map f xs)) (length-map xs f) ∙ sym (map_cut (length xs) xs)
