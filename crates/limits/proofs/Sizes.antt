-- What sizes come to: a rule at each type is one computed test over document 01's lists, and packing is told once over the element size
-- and the length limit. Assumes nothing.
use mathlib.Core.Path.{◌≡◌, refl, sym, ap, subst, ◌∙◌}
use mathlib.Core.Bool.{Bool, true, false}
use mathlib.Core.List.{List, [], ◌∷◌, ◌++◌}
use Prim.Native.Nat.{ℕ, zero, suc, ◌+◌, ◌*◌, ◌-◌, ◌/◌, ◌≤◌, ◌<◌, min}
use native.Mathlib.Decide.{dec_le}
use native.Mathlib.Nat.{add-zero, zero-add, add-suc, suc-add, le_of_suc-le-suc, not-suc-le-zero, zero-mul, add-mul, div-zero, div-eq_of_lt, div-mul-le_self, add-div_right, le-div_iff_mul-le, mul-le-mul_right}
use native.Mathlib.Omega.{arith}
use lib.Dec.{eqb, leb, ltb}
use lib.ListN.{length, get_or, set, get_or-eq_default}
use lib.Seq.{ext_get_or, get_or-set_same, get_or-set_other}
use borrow.Author.Count.{below_more}
use borrow.Author.Tests.{ne_eqb, eqb-true, leb-true, le-ltb}
use Rattle.std.specs.Prelude.{Option, Some, None, ◌||◌}
use Rattle.limits.specs.Test.{◌&◌, pick, total}
use Rattle.limits.proofs.Tests.{both}
use Rattle.limits.specs.Size.{Kind, point_types, system_types, process_types, end_types, named_types, listed, octets_in, point_octets, element_octets, class_of, standard_limit, control_octets, header_octets, address_octets, most_objects, run_octets, values_from, point_sizes}
use Rattle.limits.specs.declared.size.Class.{Class}
use Rattle.limits.specs.declared.size.Class.TheVariants.{Point, System, Process, EndOfInitialization}

-- ---- a list of types

contrary : true ≡ false → ⊥
contrary e = let z : ◌≡◌ {A = ℕ} 0 1 = cc in omega arith

-- A type that is not listed has no octets there.
pub not_listed : (ks : List Kind) (n : ℕ) → listed ks n ≡ false → octets_in ks n ≡ 0
unfolding listed octets_in
not_listed [] n e = refl
not_listed (k ∷ ks) n e = go (eqb k.number n) e (λ f. not_listed ks n f)
  where
    go : (b : Bool) → pick b true (listed ks n) ≡ false → (listed ks n ≡ false → octets_in ks n ≡ 0) → pick b k.octets (octets_in ks n) ≡ 0
    go true f ih = absurd (contrary f)
    go false f ih = ih f

-- In two lists joined, the first that has the type counts.
pub octets_joined : (xs ys : List Kind) (n : ℕ) → octets_in (xs ++ ys) n ≡ pick (listed xs n) (octets_in xs n) (octets_in ys n)
unfolding listed octets_in
octets_joined [] ys n = refl
octets_joined (k ∷ xs) ys n = go (eqb k.number n) (octets_joined xs ys n)
  where
    go : (b : Bool) → octets_in (xs ++ ys) n ≡ pick (listed xs n) (octets_in xs n) (octets_in ys n)
        → pick b k.octets (octets_in (xs ++ ys) n) ≡ pick (pick b true (listed xs n)) (pick b k.octets (octets_in xs n)) (octets_in ys n)
    go true ih = refl
    go false ih = ih

-- What neither list has, both joined do not have.
pub listed_joined : (xs ys : List Kind) (n : ℕ) → listed (xs ++ ys) n ≡ false → (listed xs n ≡ false) × (listed ys n ≡ false)
unfolding listed
listed_joined [] ys n e = (refl, e)
listed_joined (k ∷ xs) ys n e = go (eqb k.number n) e (λ f. listed_joined xs ys n f)
  where
    go : (b : Bool) → pick b true (listed (xs ++ ys) n) ≡ false
        → (listed (xs ++ ys) n ≡ false → (listed xs n ≡ false) × (listed ys n ≡ false))
        → (pick b true (listed xs n) ≡ false) × (listed ys n ≡ false)
    go true f ih = absurd (contrary f)
    go false f ih = ih f

-- The test passes at each type of the list and its octets.
abbrev pub every_kind : (ℕ → ℕ → Bool) → List Kind → Bool
every_kind f [] = true
every_kind f (k ∷ ks) = f k.number k.octets & every_kind f ks

-- A computed test over a list is the rule at each type that it has.
pub each : (f : ℕ → ℕ → Bool) (ks : List Kind) → every_kind f ks ≡ true → (n : ℕ) → listed ks n ≡ true → f n (octets_in ks n) ≡ true
unfolding listed octets_in
each f [] t n e = absurd (contrary (sym e))
each f (k ∷ ks) t n e = go (eqb k.number n) refl e (λ h. each f ks (both _ _ t).1 n h)
  where
    go : (b : Bool) → eqb k.number n ≡ b → pick b true (listed ks n) ≡ true → (listed ks n ≡ true → f n (octets_in ks n) ≡ true)
        → f n (pick b k.octets (octets_in ks n)) ≡ true
    go true q h ih = subst (λ (x : ℕ). f x k.octets ≡ true) (eqb-true _ _ q) (both _ _ t).0
    go false q h ih = ih h

-- Where no type of the list has more octets, none has.
pub at_most : (m : ℕ) (ks : List Kind) → every_kind (λ n e. leb e m) ks ≡ true → (n : ℕ) → octets_in ks n ≤ m
at_most m ks t n = go (listed ks n) refl
  where
    go : (b : Bool) → listed ks n ≡ b → octets_in ks n ≤ m
    go true h = leb-true _ _ (each (λ n e. leb e m) ks t n h)
    go false h = let z : octets_in ks n ≡ 0 = not_listed ks n h in omega arith

-- Where every type of the list is below a number, none is listed from that number on.
pub beyond : (m : ℕ) (ks : List Kind) → every_kind (λ n e. ltb n m) ks ≡ true → (n : ℕ) → m ≤ n → listed ks n ≡ false
beyond m ks t n h = go (listed ks n) refl
  where
    go : (b : Bool) → listed ks n ≡ b → listed ks n ≡ false
    go true q = absurd (contrary (sym (each (λ n e. ltb n m) ks t n q) ∙ le-ltb n m h))
    go false q = q

-- ---- a list of a function's values

pub length_values : (f : ℕ → ℕ) (i n : ℕ) → length (values_from f i n) ≡ n
unfolding values_from
length_values f i zero = refl
length_values f i (suc n) = ap suc (length_values f (suc i) n)

pub values_from_lem : (f : ℕ → ℕ) (i n k : ℕ) → k < n → get_or (values_from f i n) k 0 ≡ f (i + k)
unfolding values_from
values_from_lem f i zero k h = absurd (not-suc-le-zero h)
values_from_lem f i (suc n) zero h = ap f (sym (add-zero i))
values_from_lem f i (suc n) (suc k) h = values_from_lem f (suc i) n k (le_of_suc-le-suc h) ∙ ap f (suc-add i k ∙ sym (add-suc i k))

pub values_at : (f : ℕ → ℕ) (n k : ℕ) → k < n → get_or (values_from f 0 n) k 0 ≡ f k
values_at f n k h = values_from_lem f 0 n k h ∙ ap f (zero-add k)

-- One value more is stored in its place.
pub one_more : (f : ℕ → ℕ) (l : List ℕ) (i x : ℕ) → i < length l → x ≡ f i
    → ((k : ℕ) → k < i → get_or l k 0 ≡ f k) → (k : ℕ) → k < i + 1 → get_or (set l i x) k 0 ≡ f k
one_more f l i x h e all =
    below_more (λ k. get_or (set l i x) k 0 ≡ f k) i (λ k b. get_or-set_other l i k x 0 (λ q. omega arith) ∙ all k b) (get_or-set_same l i x 0 h ∙ e)

-- A list of n with the value at each place is the list of values.
pub all_values : (f : ℕ → ℕ) (l : List ℕ) (n : ℕ) → length l ≡ n → ((k : ℕ) → k < n → get_or l k 0 ≡ f k) → l ≡ values_from f 0 n
all_values f l n e all =
    ext_get_or 0 l (values_from f 0 n) (e ∙ sym (length_values f 0 n))
    (λ k h. let b : k < n = omega arith in all k b ∙ sym (values_at f n k b))

-- ---- the types of document 01

-- No point's element is longer than twelve octets.
pub point_at_most : (k : ℕ) → point_octets k ≤ 12
unfolding point_octets point_types ◌&◌
point_at_most k = at_most 12 point_types refl k

-- No element is longer than twelve octets.
pub element_at_most : (k : ℕ) → element_octets k ≤ 12
unfolding element_octets named_types point_types system_types process_types end_types ◌&◌
element_at_most k = at_most 12 named_types refl k

-- Point types end at 40.
pub point_beyond : (k : ℕ) → 41 ≤ k → point_octets k ≡ 0
unfolding point_octets point_types ◌&◌
point_beyond k h = not_listed point_types k (beyond 41 point_types refl k h)

-- Read at a type's number, the list of sizes gives the point's element octets, at every number.
pub point_sizes_lem : (k : ℕ) → get_or point_sizes k 0 ≡ point_octets k
unfolding point_sizes
point_sizes_lem k = go (dec_le 41 k)
  where
    go : Dec (41 ≤ k) → get_or point_sizes k 0 ≡ point_octets k
    go (yes h) = get_or-eq_default point_sizes 0 {n = k} (omega (arith, length_values point_octets 0 41)) ∙ sym (point_beyond k h)
    go (no l) = values_at point_octets 41 k (omega arith)

-- In how many of document 01's lists a type stands.
abbrev pub lists_with : ℕ → ℕ
lists_with k = total (λ (ks : List Kind). pick (listed ks k) 1 0) (point_types ∷ system_types ∷ process_types ∷ end_types ∷ [])

-- A type that no list has, one after the other.
pub record Unnamed (k : ℕ) : Type 0 where
  pub point : listed point_types k ≡ false
  pub system : listed system_types k ≡ false
  pub process : listed process_types k ≡ false
  pub end : listed end_types k ≡ false

pub unnamed : (k : ℕ) → listed named_types k ≡ false → Unnamed k
unfolding named_types
unnamed k h =
    let p = listed_joined point_types (system_types ++ (process_types ++ end_types)) k h in
    let s = listed_joined system_types (process_types ++ end_types) k p.1 in
    let c = listed_joined process_types end_types k s.1 in
    record { point = p.0; system = s.0; process = c.0; end = c.1 }

-- A type is in at most one of the lists.
pub one_list : (k : ℕ) → lists_with k ≤ 1
unfolding total named_types point_types ◌&◌ listed system_types process_types end_types
one_list k = go (listed named_types k) refl
  where
    go : (b : Bool) → listed named_types k ≡ b → lists_with k ≤ 1
    go true h = leb-true _ _ (each (λ n e. leb (lists_with n) 1) named_types refl k h)
    go false h =
        let u = unnamed k h in
        simp (u.point, u.system, u.process, u.end) (omega arith)

-- Only a point type is of the class of points.
pub point_class : (k : ℕ) → class_of k ≡ Some Point → listed point_types k ≡ true
unfolding class_of
point_class k = go (listed point_types k) (listed system_types k) (listed process_types k) (listed end_types k)
  where
    go : (p s c e : Bool) → pick p (Some Point) (pick s (Some System) (pick c (Some Process) (pick e (Some EndOfInitialization) None))) ≡ Some Point → p ≡ true
    go true s c e q = refl
    go false true c e q = cc
    go false false true e q = cc
    go false false false true q = cc
    go false false false false q = cc

-- A point's element octets are those of its type.
pub point_element : (k : ℕ) → class_of k ≡ Some Point → element_octets k ≡ point_octets k
unfolding element_octets point_octets named_types
point_element k h =
    octets_joined point_types (system_types ++ (process_types ++ end_types)) k ∙ simp (point_class k h)

-- Every other type has no point's octets.
pub no_point : (k : ℕ) → (class_of k ≡ Some Point → ⊥) → point_octets k ≡ 0
unfolding point_octets class_of
no_point k f = go (listed point_types k) refl
  where
    go : (b : Bool) → listed point_types k ≡ b → octets_in point_types k ≡ 0
    go true h = absurd (f (simp h))
    go false h = not_listed point_types k h

-- Read at a type's number, the table gives the type's element octets.
pub elements_at : (k : ℕ) → k < 108 → get_or (values_from element_octets 0 108) k 0 ≡ element_octets k
elements_at k h = values_at element_octets 108 k h

-- No type from 108 on has an element.
pub element_beyond : (k : ℕ) → 108 ≤ k → element_octets k ≡ 0
unfolding element_octets named_types point_types system_types process_types end_types ◌&◌
element_beyond k h = not_listed named_types k (beyond 108 named_types refl k h)

-- ---- classes

-- A class as a number, so that a test over many types is computed.
unfoldable pub class_number : Option Class → ℕ
class_number None = 0
class_number (Some Point) = 1
class_number (Some System) = 2
class_number (Some Process) = 3
class_number (Some EndOfInitialization) = 4

-- The class of a number.
abbrev pub class_at : ℕ → Option Class
class_at n = pick (eqb n 1) (Some Point) (pick (eqb n 2) (Some System) (pick (eqb n 3) (Some Process) (pick (eqb n 4) (Some EndOfInitialization) None)))

numbered : (c : Option Class) → class_at (class_number c) ≡ c
unfolding class_number
numbered None = refl
numbered (Some Point) = refl
numbered (Some System) = refl
numbered (Some Process) = refl
numbered (Some EndOfInitialization) = refl

-- The test passes at n numbers from a on.
abbrev pub every_from : (ℕ → Bool) → ℕ → ℕ → Bool
every_from f a zero = true
every_from f a (suc n) = f a & every_from f (suc a) n

from_each : (f : ℕ → Bool) (a n : ℕ) → every_from f a n ≡ true → (k : ℕ) → a ≤ k → k < a + n → f k ≡ true
from_each f a zero t k h l = absurd (omega arith)
from_each f a (suc n) t k h l = go (dec_le (suc a) k) (λ m. from_each f (suc a) n (both _ _ t).1 k m (omega arith))
  where
    go : Dec (suc a ≤ k) → (suc a ≤ k → f k ≡ true) → f k ≡ true
    go (yes m) g = g m
    go (no m) g = let e : a ≡ k = omega arith in subst (λ (x : ℕ). f x ≡ true) e (both _ _ t).0

-- Below 41 the element octets of every type are a point's.
pub point_below : (k : ℕ) → k < 41 → element_octets k ≡ point_octets k
unfolding element_octets point_octets octets_in named_types point_types system_types process_types end_types ◌&◌
point_below k h = eqb-true _ _ (from_each (λ (n : ℕ). eqb (element_octets n) (point_octets n)) 0 41 refl k (omega arith) (omega arith))

-- A computed test over n types from a on is the class of each, but for the type x.
pub spans : (v x a n : ℕ) → every_from (λ k. eqb k x || eqb (class_number (class_of k)) v) a n ≡ true → (k : ℕ) → a ≤ k → k < a + n → (k ≡ x → ⊥)
    → class_at v ≡ class_of k
spans v x a n t k h l f =
    let p : (eqb k x || eqb (class_number (class_of k)) v) ≡ true = from_each (λ k. eqb k x || eqb (class_number (class_of k)) v) a n t k h l in
    let q : (false || eqb (class_number (class_of k)) v) ≡ true =
    subst (λ (b : Bool). (b || eqb (class_number (class_of k)) v) ≡ true) (ne_eqb k x f) p in
    ap class_at (sym (eqb-true _ _ q)) ∙ numbered (class_of k)

-- ---- packing, over all element sizes and length limits

-- Document 01's sentence, at the standard's limit: 243 divided by 3 and the element octets, at most 127.
pub standard_most : (element : ℕ) → most_objects standard_limit element ≡ min (243 / (3 + element)) 127
standard_most element = refl

-- Less room than an object's width holds none.
pub none_fits : (room width most : ℕ) → room < width → min (room / width) most ≡ 0
none_fits room width most h = let z : room / width ≡ 0 = div-eq_of_lt h in omega arith

-- Room for an object's width holds one.
pub some_fit : (room width most : ℕ) → 1 ≤ most → 1 ≤ width → width ≤ room → 1 ≤ min (room / width) most
some_fit room width most m p h =
    let d : 1 ≤ room / width = (le-div_iff_mul-le {k = width} {x = 1} {y = room} p).1 (omega arith) in
    omega arith

-- No more objects than fit take no more than the room.
pub fits : (room width most n : ℕ) → n ≤ min (room / width) most → n * width ≤ room
fits room width most n h =
    let a : n * width ≤ room / width * width = mul-le-mul_right width (omega arith) in
    omega (arith, div-mul-le_self room width)

-- At least one object fits where the limit leaves room for one.
pub one_object : (limit element : ℕ) → control_octets + header_octets + address_octets + element ≤ limit → 1 ≤ most_objects limit element
one_object limit element h = some_fit _ _ _ (omega arith) (omega arith) (omega arith)

-- At least one object of each point type fits, at every limit from 25 on.
pub one_fits : (limit element : ℕ) → 25 ≤ limit → element ≤ 12 → 1 ≤ most_objects limit element
one_fits limit element h e = one_object limit element (omega arith)

-- An ASDU of at most that many objects is no longer than the limit less its control octets.
pub asdu_fits : (limit element n : ℕ) → control_octets + header_octets ≤ limit → n ≤ most_objects limit element
    → header_octets + n * (address_octets + element) ≤ limit - control_octets
asdu_fits limit element n l h = omega (arith, fits _ _ _ n h)

-- No objects take no octets.
pub run_none : (limit element : ℕ) → run_octets limit element 0 ≡ 0
run_none limit element = go (most_objects limit element)
  where
    go : (most : ℕ) → 6 * ((0 + (most - 1)) / most) + 0 * (3 + element) ≡ 0
    go zero = let a : 0 * (3 + element) ≡ 0 = zero-mul (3 + element) in let d : (0 + (0 - 1)) / 0 ≡ 0 = div-zero (0 + (0 - 1)) in omega arith
    go (suc m) =
        let a : 0 * (3 + element) ≡ 0 = zero-mul (3 + element) in
        let d : (0 + (suc m - 1)) / suc m ≡ 0 = div-eq_of_lt (omega arith) in
        omega arith

-- A full ASDU, and the run of the rest.
pub run_more : (limit element n : ℕ) → 1 ≤ most_objects limit element
    → run_octets limit element (most_objects limit element + n)
    ≡ header_octets + most_objects limit element * (address_octets + element) + run_octets limit element n
run_more limit element n = go (most_objects limit element)
  where
    go : (most : ℕ) → 1 ≤ most
        → 6 * ((most + n + (most - 1)) / most) + (most + n) * (3 + element)
        ≡ 6 + most * (3 + element) + (6 * ((n + (most - 1)) / most) + n * (3 + element))
    go most h =
        let e : most + n + (most - 1) ≡ n + (most - 1) + most = omega arith in
        let d : (most + n + (most - 1)) / most ≡ (n + (most - 1)) / most + 1 =
        ap (λ (x : ℕ). x / most) e ∙ add-div_right (n + (most - 1)) h in
        let m : (most + n) * (3 + element) ≡ most * (3 + element) + n * (3 + element) = add-mul most n (3 + element) in
        omega arith

-- One ASDU, full or not.
pub run_last : (limit element n : ℕ) → 1 ≤ n → n ≤ most_objects limit element
    → run_octets limit element n ≡ header_octets + n * (address_octets + element)
run_last limit element n p = go (most_objects limit element)
  where
    go : (most : ℕ) → n ≤ most → 6 * ((n + (most - 1)) / most) + n * (3 + element) ≡ 6 + n * (3 + element)
    go most h =
        let e : n + (most - 1) ≡ n - 1 + most = omega arith in
        let z : (n - 1) / most ≡ 0 = div-eq_of_lt (omega arith) in
        let d : (n + (most - 1)) / most ≡ (n - 1) / most + 1 =
        ap (λ (x : ℕ). x / most) e ∙ add-div_right (n - 1) (omega arith) in
        omega arith
