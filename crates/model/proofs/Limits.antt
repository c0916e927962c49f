-- What the limits of a place say: a value's octets past its element are zero, and a counter group stands only on a counter. Assumes nothing.
use mathlib.Core.Path.{◌≡◌, refl, sym, ap, ◌∙◌}
use mathlib.Core.List.{List, [], ◌∷◌, ◌++◌, append_assoc}
use mathlib.Core.Bool.{Bool, true, false, ◌||◌}
use Prim.Native.Nat.{ℕ, zero, suc, ◌+◌, ◌*◌, ◌-◌, ◌≤◌, ◌<◌, min}
use native.Mathlib.Decide.{dec_le}
use native.Mathlib.Omega.{arith}
use lib.ListN.{length, get_or, set, replicate, length-append, length-replicate, get_or-append}
use lib.Seq.{get_or-append-add, set_at}
use lib.Dec.{leb, ltb, eqb}
use borrow.Author.Tests.{leb-true, le-leb, ltb-true, lt-ltb, le-ltb, eqb-true, eq-eqb}
use Rattle.limits.specs.Test.{◌&◌, pick}
use Rattle.limits.specs.Size.{point_octets, values_from, point_sizes}
use Rattle.limits.proofs.Tests.{both, join}
use Rattle.limits.proofs.Sizes.{length_values, values_at, point_at_most, point_sizes_lem}
use Rattle.octets.specs.Number.{Octets, four, eight, twelve, zeros, power}
use Rattle.octets.proofs.Zero.{zeros_split}
use Rattle.octets.proofs.Limit.{below_power, power_positive, four_number, eight_number}
use Rattle.model.specs.Place.{is_counter}
use Rattle.model.specs.Limits.{first_of, last_of, first_limit, last_limit, counter_limit, place_limits}

-- two tests that follow from each other are one
pub same : (x y : Bool) → (x ≡ true → y ≡ true) → (y ≡ true → x ≡ true) → x ≡ y
same true y f g = sym (f refl)
same false true f g = g refl
same false false f g = refl

-- ---- the table

module _ (k : ℕ) (h : k < 41) where
  pub first_at : get_or place_limits k 0 ≡ first_limit k
  unfolding place_limits
  first_at =
      get_or-append (values_from first_limit 0 41) (values_from last_limit 0 41 ++ values_from counter_limit 0 41) 0 k (omega (arith, length_values first_limit 0 41))
      ∙ values_at first_limit 41 k h

  after : (n : ℕ) (xs ys : List ℕ) → length xs ≡ 41 → get_or (xs ++ ys) (n + 41) 0 ≡ get_or ys n 0
  after n xs ys e = let i : n + 41 ≡ length xs + n = omega arith in ap (λ (j : ℕ). get_or (xs ++ ys) j 0) i ∙ get_or-append-add xs ys n 0

  pub last_at : get_or place_limits (k + 41) 0 ≡ last_limit k
  unfolding place_limits
  last_at =
      after k (values_from first_limit 0 41) (values_from last_limit 0 41 ++ values_from counter_limit 0 41) (length_values first_limit 0 41)
      ∙ get_or-append (values_from last_limit 0 41) (values_from counter_limit 0 41) 0 k (omega (arith, length_values last_limit 0 41))
      ∙ values_at last_limit 41 k h

  pub counter_at : get_or place_limits (k + 82) 0 ≡ counter_limit k
  unfolding place_limits
  counter_at =
      let i : k + 82 ≡ k + 41 + 41 = omega arith in
      ap (λ (j : ℕ). get_or (values_from first_limit 0 41 ++ (values_from last_limit 0 41 ++ values_from counter_limit 0 41)) j 0) i
      ∙ after (k + 41) (values_from first_limit 0 41) (values_from last_limit 0 41 ++ values_from counter_limit 0 41) (length_values first_limit 0 41)
      ∙ after k (values_from last_limit 0 41) (values_from counter_limit 0 41) (length_values last_limit 0 41)
      ∙ values_at counter_limit 41 k h

-- ---- how the table is made

-- the limits of the value filled in for the types below n
unfoldable pub filled : ℕ → List ℕ
filled n =
    values_from first_limit 0 n ++ (replicate (41 - n) 0 ++ (values_from last_limit 0 n ++ (replicate (41 - n) 0 ++ replicate 41 0)))

-- one value more
values_more : (f : ℕ → ℕ) (i n : ℕ) → values_from f i (suc n) ≡ values_from f i n ++ (f (i + n) ∷ [])
unfolding values_from
values_more f i zero = let z : i ≡ i + 0 = omega arith in ap (λ (x : ℕ). f x ∷ []) z
values_more f i (suc n) =
    let e : suc i + n ≡ i + suc n = omega arith in
    ap (λ (l : List ℕ). f i ∷ l) (values_more f (suc i) n ∙ ap (λ (x : ℕ). values_from f (suc i) n ++ (f x ∷ [])) e)

-- the two stores of a turn, on lists
two_stores : (F R L Z : List ℕ) (a b n : ℕ) → length F ≡ n → length L ≡ n → n + length R ≡ 40
    → set (set (F ++ ((0 ∷ R) ++ (L ++ ((0 ∷ R) ++ Z)))) n a) (n + 41) b ≡ (F ++ (a ∷ [])) ++ (R ++ ((L ++ (b ∷ [])) ++ (R ++ Z)))
two_stores F R L Z a b n e f g =
    let P : List ℕ = F ++ (a ∷ (R ++ L)) in
    let one : set (F ++ (0 ∷ (R ++ (L ++ (0 ∷ (R ++ Z)))))) n a ≡ F ++ (a ∷ (R ++ (L ++ (0 ∷ (R ++ Z))))) =
    set_at F 0 (R ++ (L ++ (0 ∷ (R ++ Z)))) a n e in
    let w : length P ≡ n + 41 = simp length-append (omega arith) in
    let two' : set (P ++ (0 ∷ (R ++ Z))) (n + 41) b ≡ P ++ (b ∷ (R ++ Z)) = set_at P 0 (R ++ Z) b (n + 41) w in
    let join : (x : List ℕ) → F ++ (a ∷ (R ++ (L ++ x))) ≡ P ++ x = λ x. simp append_assoc in
    let apart : P ++ (b ∷ (R ++ Z)) ≡ (F ++ (a ∷ [])) ++ (R ++ ((L ++ (b ∷ [])) ++ (R ++ Z))) = simp append_assoc in
    ap (λ (l : List ℕ). set l (n + 41) b) (one ∙ join (0 ∷ (R ++ Z))) ∙ two' ∙ apart

filled_more : (n : ℕ) → n < 41 → set (set (filled n) n (first_limit n)) (n + 41) (last_limit n) ≡ filled (n + 1)
unfolding filled
filled_more n h =
    let F : List ℕ = values_from first_limit 0 n in
    let L : List ℕ = values_from last_limit 0 n in
    let R : List ℕ = replicate (40 - n) 0 in
    let Z : List ℕ = replicate 41 0 in
    let i : 41 - n ≡ suc (40 - n) = omega arith in
    let k : n + 1 ≡ suc n = omega arith in
    let m : 41 - (n + 1) ≡ 40 - n = omega arith in
    let z : 0 + n ≡ n = omega arith in
    let r : length (replicate {A = ℕ} (40 - n) 0) ≡ 40 - n = length-replicate {A = ℕ} (40 - n) 0 in
    let f : values_from first_limit 0 (n + 1) ≡ F ++ (first_limit n ∷ []) =
    ap (values_from first_limit 0) k ∙ values_more first_limit 0 n ∙ ap (λ (x : ℕ). F ++ (first_limit x ∷ [])) z in
    let l : values_from last_limit 0 (n + 1) ≡ L ++ (last_limit n ∷ []) =
    ap (values_from last_limit 0) k ∙ values_more last_limit 0 n ∙ ap (λ (x : ℕ). L ++ (last_limit x ∷ [])) z in
    ap (λ (x : ℕ). set (set (F ++ (replicate x 0 ++ (L ++ (replicate x 0 ++ Z)))) n (first_limit n)) (n + 41) (last_limit n)) i
    ∙ two_stores F R L Z (first_limit n) (last_limit n) n (length_values first_limit 0 n) (length_values last_limit 0 n) (omega arith)
    ∙ sym (λ j. f j ++ (replicate (m j) 0 ++ (l j ++ (replicate (m j) 0 ++ Z))))

pub filled_none : replicate 123 0 ≡ filled 0
unfolding filled values_from
filled_none = refl

-- the table is whole with the two counters
filled_all : set (set (filled 41) 97 4) 119 4 ≡ place_limits
unfolding filled place_limits counter_limit values_from
filled_all = refl

pub filled_end : (l : List ℕ) (n : ℕ) → l ≡ filled n → n ≤ 41 → 41 ≤ n → set (set l 97 4) 119 4 ≡ place_limits
filled_end l n e a b = let f : n ≡ 41 = omega arith in ap (λ (x : List ℕ). set (set x 97 4) 119 4) (e ∙ ap filled f) ∙ filled_all

-- a size read from the list of sizes
module _ (sizes : List ℕ) (kind size : ℕ) (e : sizes ≡ point_sizes) (f : size ≡ get_or sizes kind 0) where
  size_is : size ≡ point_octets kind
  size_is = f ∙ ap (λ (l : List ℕ). get_or l kind 0) e ∙ point_sizes_lem kind

  pub size_small : size < 13
  size_small = omega (arith, size_is, point_at_most kind)

  -- a turn of the loop
  pub filled_turn : (l : List ℕ) → l ≡ filled kind → kind < 41
      → set (set l kind (get_or (values_from first_of 0 13) size 0)) (kind + 41) (get_or (values_from last_of 0 13) size 0) ≡ filled (kind + 1)
  unfolding first_limit last_limit
  filled_turn l g h =
      let x : get_or (values_from first_of 0 13) size 0 ≡ first_limit kind = values_at first_of 13 size size_small ∙ ap first_of size_is in
      let y : get_or (values_from last_of 0 13) size 0 ≡ last_limit kind = values_at last_of 13 size size_small ∙ ap last_of size_is in
      (λ j. set (set (g j) kind (x j)) (kind + 41) (y j)) ∙ filled_more kind h

-- ---- the value

-- a value of twelve octets at each index
get_twelve : (m : List ℕ) (at i : ℕ) → i < 12 → get_or (twelve m at) i 0 ≡ get_or m (at + i) 0
get_twelve m at zero h = let z : at ≡ at + 0 = omega arith in ap (λ (j : ℕ). get_or m j 0) z
get_twelve m at (suc zero) h = refl
get_twelve m at (suc (suc zero)) h = refl
get_twelve m at (suc (suc (suc zero))) h = refl
get_twelve m at (suc (suc (suc (suc zero)))) h = refl
get_twelve m at (suc (suc (suc (suc (suc zero))))) h = refl
get_twelve m at (suc (suc (suc (suc (suc (suc zero)))))) h = refl
get_twelve m at (suc (suc (suc (suc (suc (suc (suc zero))))))) h = refl
get_twelve m at (suc (suc (suc (suc (suc (suc (suc (suc zero)))))))) h = refl
get_twelve m at (suc (suc (suc (suc (suc (suc (suc (suc (suc zero))))))))) h = refl
get_twelve m at (suc (suc (suc (suc (suc (suc (suc (suc (suc (suc zero)))))))))) h = refl
get_twelve m at (suc (suc (suc (suc (suc (suc (suc (suc (suc (suc (suc zero))))))))))) h = refl
get_twelve m at (suc (suc (suc (suc (suc (suc (suc (suc (suc (suc (suc (suc i)))))))))))) h = absurd (omega arith)

pub zeros_twelve : (m : List ℕ) (at e n : ℕ) → e + n ≤ 12 → zeros (twelve m at) e n ≡ zeros m (at + e) n
unfolding zeros
zeros_twelve m at e zero h = refl
zeros_twelve m at e (suc n) h =
    let g : get_or (twelve m at) e 0 ≡ get_or m (at + e) 0 = get_twelve m at e (omega arith) in
    let z : zeros (twelve m at) (e + 1) n ≡ zeros m (at + (e + 1)) n = zeros_twelve m at (e + 1) n (omega arith) in
    let i : at + (e + 1) ≡ at + e + 1 = omega arith in
    λ j. eqb (g j) 0 & (z ∙ ap (λ (k : ℕ). zeros m k n) i) j

at_most_below : (x p : ℕ) → 0 < p → leb x (p - 1) ≡ ltb x p
at_most_below x p h = same (leb x (p - 1)) (ltb x p)
    (λ t. let w : x ≤ p - 1 = leb-true _ _ t in lt-ltb x p (omega arith))
    (λ t. let w : x < p = ltb-true _ _ t in le-leb x (p - 1) (omega arith))

-- zeros past the element, in the first eight octets and the last four
parts : (m : List ℕ) (at e : ℕ) → e ≤ 12 → (zeros m (at + min e 8) (8 - min e 8) & zeros m (at + 8 + (e - 8)) (4 - (e - 8))) ≡ zeros m (at + e) (12 - e)
unfolding zeros ◌&◌
parts m at e h = go (dec_le e 8)
  where
    go : Dec (e ≤ 8) → (zeros m (at + min e 8) (8 - min e 8) & zeros m (at + 8 + (e - 8)) (4 - (e - 8))) ≡ zeros m (at + e) (12 - e)
    go (yes l) =
        let a : min e 8 ≡ e = omega arith in
        let b : at + 8 + (e - 8) ≡ at + e + (8 - e) = omega arith in
        let c : 4 - (e - 8) ≡ 4 = omega arith in
        let d : 8 - e + 4 ≡ 12 - e = omega arith in
        (λ j. zeros m (at + a j) (8 - a j) & zeros m (b j) (c j)) ∙ sym (zeros_split m (at + e) (8 - e) 4) ∙ ap (zeros m (at + e)) d
    go (no l) =
        let a : min e 8 ≡ 8 = omega arith in
        let b : at + 8 + (e - 8) ≡ at + e = omega arith in
        let c : 4 - (e - 8) ≡ 12 - e = omega arith in
        λ j. zeros m (at + a j) (8 - a j) & zeros m (b j) (c j)

-- the limits hold exactly if the type is a point's and the octets past the element are zero
value_limit : (m : List ℕ) → Octets m → (at e : ℕ) → e ≤ 12
    → (leb (eight m at) (power (min e 8) - 1) & ltb (four m (at + 8)) (pick (leb 1 e) (power (e - 8)) 0)) ≡ (leb 1 e & zeros (twelve m at) e (12 - e))
unfolding ◌&◌
value_limit m o at e h =
    let a : leb (eight m at) (power (min e 8) - 1) ≡ zeros m (at + min e 8) (8 - min e 8) =
    at_most_below (eight m at) (power (min e 8)) (power_positive (min e 8))
    ∙ ap (λ (x : ℕ). ltb x (power (min e 8))) (eight_number m at)
    ∙ below_power m o (min e 8) at 8 in
    ap (λ (b : Bool). b & ltb (four m (at + 8)) (pick (leb 1 e) (power (e - 8)) 0)) a ∙ go (leb 1 e)
  where
    and_false : (b : Bool) → (b & false) ≡ false
    and_false b = same (b & false) false (λ t. (both b false t).1) (λ t. absurd (let z : ◌≡◌ {A = ℕ} 0 1 = cc in omega arith))

    go : (b : Bool) → (zeros m (at + min e 8) (8 - min e 8) & ltb (four m (at + 8)) (pick b (power (e - 8)) 0)) ≡ (b & zeros (twelve m at) e (12 - e))
    go true =
        let c : ltb (four m (at + 8)) (power (e - 8)) ≡ zeros m (at + 8 + (e - 8)) (4 - (e - 8)) =
        ap (λ (x : ℕ). ltb x (power (e - 8))) (four_number m (at + 8)) ∙ below_power m o (e - 8) (at + 8) 4 in
        ap (λ (b : Bool). zeros m (at + min e 8) (8 - min e 8) & b) c ∙ parts m at e h ∙ sym (zeros_twelve m at e (12 - e) (omega arith))
    go false = ap (λ (b : Bool). zeros m (at + min e 8) (8 - min e 8) & b) (le-ltb (four m (at + 8)) 0 (omega arith)) ∙ and_false (zeros m (at + min e 8) (8 - min e 8))

pub element_limit : (m : List ℕ) → Octets m → (at kind : ℕ)
    → (leb (eight m at) (first_limit kind) & ltb (four m (at + 8)) (last_limit kind))
    ≡ (leb 1 (point_octets kind) & zeros (twelve m at) (point_octets kind) (12 - point_octets kind))
unfolding first_limit last_limit first_of last_of
element_limit m o at kind = value_limit m o at (point_octets kind) (point_at_most kind)

-- ---- the counter group

counter_number : (c z : ℕ) (b : Bool) → leb (c + 256 * z) (pick b 4 0) ≡ (leb c 4 & (eqb c 0 || b) & eqb z 0)
counter_number c z true = same (leb (c + 256 * z) 4) (leb c 4 & (eqb c 0 || true) & eqb z 0)
    (λ t. let w : c + 256 * z ≤ 4 = leb-true _ _ t in join (le-leb c 4 (omega arith)) (join (or_true (eqb c 0)) (eq-eqb z 0 (omega arith))))
    (λ t.
    let t1 = both _ _ t in
    let a : c ≤ 4 = leb-true _ _ t1.0 in
    let b : z ≡ 0 = eqb-true _ _ (both _ _ t1.1).1 in
    le-leb (c + 256 * z) 4 (omega arith))
  where
    or_true : (b : Bool) → (b || true) ≡ true
    or_true true = refl
    or_true false = refl
counter_number c z false = same (leb (c + 256 * z) 0) (leb c 4 & (eqb c 0 || false) & eqb z 0)
    (λ t. let w : c + 256 * z ≤ 0 = leb-true _ _ t in join (le-leb c 4 (omega arith)) (join (or_false (eqb c 0) ∙ eq-eqb c 0 (omega arith)) (eq-eqb z 0 (omega arith))))
    (λ t.
    let t1 = both _ _ t in
    let t2 = both _ _ t1.1 in
    let a : c ≡ 0 = eqb-true _ _ (sym (or_false (eqb c 0)) ∙ t2.0) in
    let b : z ≡ 0 = eqb-true _ _ t2.1 in
    le-leb (c + 256 * z) 0 (omega arith))
  where
    or_false : (b : Bool) → (b || false) ≡ b
    or_false true = refl
    or_false false = refl

pub counter_limit_lem : (c z kind : ℕ) → leb (c + 256 * z) (counter_limit kind) ≡ (leb c 4 & (eqb c 0 || is_counter kind) & eqb z 0)
unfolding counter_limit
counter_limit_lem c z kind = counter_number c z (is_counter kind)
