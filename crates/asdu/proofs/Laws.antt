-- The octets of an ASDU: how many they are, and that what was written is read back. Assumes nothing.
use mathlib.Core.Path.{◌≡◌, refl, sym, ap, ◌∙◌}
use mathlib.Core.List.{List, [], ◌∷◌, ◌++◌, map}
use mathlib.Core.Bool.{Bool, true, false}
use Prim.Native.Nat.{ℕ, suc, ◌+◌, ◌*◌, ◌-◌, ◌/◌, ◌%◌, ◌≤◌, ◌<◌}
use native.Mathlib.Omega.{arith}
use lib.Dec.{leb}
use lib.ListN.{length, take, drop, get_or, length-drop}
use lib.Seq.{take_all, drop-cons}
use borrow.Author.Tests.{lt-leb, le-leb, leb-true, leb-false}
use Rattle.octets.specs.Number.{Octets, three}
use Rattle.asdu.specs.declared.header.Header.{Header}
use Rattle.asdu.specs.Joined.{joined}
use Rattle.asdu.specs.Header.{Object, Asdu, header, object_octets, asdu_octets, wire, cause_octet, header_in, sequence_in}
use Rattle.asdu.proofs.Joined.{joined_one, joined_append, joined_map}

-- ---- lengths

pub length_header : (h : Header) → length (header h) ≡ 6
unfolding header
length_header h = refl

pub length_object : (x : Object) → length (object_octets x) ≡ 3 + length x.element
unfolding object_octets
length_object x = omega arith

-- a header and octets after it
pub length_after : (h : Header) (objects : List ℕ) → length (header h ++ objects) ≡ 6 + length objects
unfolding header
length_after h objects = omega arith

pub length_asdu : (a : Asdu) → length (asdu_octets a) ≡ 6 + length (joined object_octets a.objects)
unfolding asdu_octets
length_asdu a = length_after a.header (joined object_octets a.objects)

-- ---- ASDUs one after another

pub wire_none : wire [] ≡ []
unfolding wire joined
wire_none = refl

pub wire_more : (a : Asdu) (xs : List Asdu) → wire (a ∷ xs) ≡ asdu_octets a ++ wire xs
unfolding wire joined
wire_more a xs = refl

pub wire_one : (a : Asdu) → wire (a ∷ []) ≡ asdu_octets a
unfolding wire
wire_one a = joined_one asdu_octets a

pub wire_append : (xs ys : List Asdu) → wire (xs ++ ys) ≡ wire xs ++ wire ys
unfolding wire
wire_append xs ys = joined_append asdu_octets xs ys

-- an ASDU of each
pub wire_map : {A : Type 0} (f : A → Asdu) (xs : List A) → wire (map f xs) ≡ joined (λ x. asdu_octets (f x)) xs
unfolding wire
wire_map f xs = joined_map asdu_octets f xs

-- confirmation, data, termination
pub wire_between : (a : Asdu) (xs : List Asdu) (b : Asdu) → wire (a ∷ (xs ++ (b ∷ []))) ≡ asdu_octets a ++ (wire xs ++ asdu_octets b)
wire_between a xs b =
    wire_more a (xs ++ (b ∷ []))
    ∙ ap (λ (l : List ℕ). asdu_octets a ++ l) (wire_append xs (b ∷ []) ∙ ap (λ (l : List ℕ). wire xs ++ l) (wire_one b))

-- all that lies from `from` on, as a part that is lent has it
pub lent_rest : (m : List ℕ) (from : ℕ) → take (length m - from) (drop from m) ≡ drop from m
lent_rest m from = take_all (length m - from) (drop from m) (simp length-drop (omega arith))

-- ---- what was written is read back

-- the three parts of the third octet
pub record CauseBack (cause : ℕ) (negative test : Bool) : Type 0 where
  pub is_cause : cause_octet cause negative test % 64 ≡ cause
  pub is_negative : leb 64 (cause_octet cause negative test % 128) ≡ negative
  pub is_test : leb 128 (cause_octet cause negative test) ≡ test

pub cause_back : (cause : ℕ) (negative test : Bool) → cause < 64 → CauseBack cause negative test
cause_back cause true true h =
    record {
      is_cause = omega arith;
      is_negative = le-leb 64 (cause_octet cause true true % 128) (omega arith);
      is_test = le-leb 128 (cause_octet cause true true) (omega arith);
    }
cause_back cause true false h =
    record {
      is_cause = omega arith;
      is_negative = le-leb 64 (cause_octet cause true false % 128) (omega arith);
      is_test = lt-leb 128 (cause_octet cause true false) (omega arith);
    }
cause_back cause false true h =
    record {
      is_cause = omega arith;
      is_negative = lt-leb 64 (cause_octet cause false true % 128) (omega arith);
      is_test = le-leb 128 (cause_octet cause false true) (omega arith);
    }
cause_back cause false false h =
    record {
      is_cause = omega arith;
      is_negative = lt-leb 64 (cause_octet cause false false % 128) (omega arith);
      is_test = lt-leb 128 (cause_octet cause false false) (omega arith);
    }

-- the fields of a header
pub header_back : (h : Header) (rest : List ℕ) → h.count < 128 → h.cause < 64 → header_in (header h ++ rest) ≡ h
unfolding header header_in
header_back h rest few low =
    let b = cause_back h.cause h.negative h.test low in
    let n : h.count % 128 ≡ h.count = omega arith in
    let a : h.ca % 256 + 256 * (h.ca / 256) ≡ h.ca = omega arith in
    λ j. record { kind = h.kind; count = n j; cause = b.is_cause j; negative = b.is_negative j; test = b.is_test j; originator = h.originator; ca = a j }

-- its sequence flag is clear
pub sequence_clear : (h : Header) (rest : List ℕ) → h.count < 128 → sequence_in (header h ++ rest) ≡ false
unfolding header
sequence_clear h rest few = lt-leb _ _ few

-- the address of an object
pub object_back : (x : Object) (rest : List ℕ) → x.ioa < 16777216 → three (object_octets x ++ rest) 0 ≡ x.ioa
unfolding object_octets
object_back x rest h = omega arith

-- ---- what was read is written again

-- the third octet, from its parts
pub cause_again : (x : ℕ) → x < 256 → cause_octet (x % 64) (leb 64 (x % 128)) (leb 128 x) ≡ x
cause_again x h = go (leb 64 (x % 128)) (leb 128 x) refl refl
  where
    go : (n t : Bool) → leb 64 (x % 128) ≡ n → leb 128 x ≡ t → cause_octet (x % 64) n t ≡ x
    go true true a b = omega (arith, leb-true 64 (x % 128) a, leb-true 128 x b)
    go true false a b = omega (arith, leb-true 64 (x % 128) a, leb-false 128 x b)
    go false true a b = omega (arith, leb-false 64 (x % 128) a, leb-true 128 x b)
    go false false a b = omega (arith, leb-false 64 (x % 128) a, leb-false 128 x b)

-- the first six octets, spelt out
six : (m : List ℕ) → 6 ≤ length m → m ≡ get_or m 0 0 ∷ get_or m 1 0 ∷ get_or m 2 0 ∷ get_or m 3 0 ∷ get_or m 4 0 ∷ get_or m 5 0 ∷ drop 6 m
six m h = next 0 (next 1 (next 2 (next 3 (next 4 (next 5 refl (omega arith)) (omega arith)) (omega arith)) (omega arith)) (omega arith)) (omega arith)
  where
    next : (i : ℕ) {l : List ℕ} → drop (suc i) m ≡ l → i < length m → drop i m ≡ get_or m i 0 ∷ l
    next i e k = drop-cons m i 0 k ∙ ap (λ (x : List ℕ). get_or m i 0 ∷ x) e

-- the octets of a header whose sequence flag is clear
pub header_again : (m : List ℕ) → Octets m → 6 ≤ length m → sequence_in m ≡ false → header (header_in m) ++ drop 6 m ≡ m
unfolding header header_in
header_again m octets h clear =
    let o1 = leb-false 128 (get_or m 1 0) clear in
    let o4 = octets 4 in
    let o5 = octets 5 in
    let n : get_or m 1 0 % 128 ≡ get_or m 1 0 = omega arith in
    let c = cause_again (get_or m 2 0) (octets 2) in
    let p : (get_or m 4 0 + 256 * get_or m 5 0) % 256 ≡ get_or m 4 0 = omega arith in
    let q : (get_or m 4 0 + 256 * get_or m 5 0) / 256 ≡ get_or m 5 0 = omega arith in
    (λ j. get_or m 0 0 ∷ n j ∷ c j ∷ get_or m 3 0 ∷ p j ∷ q j ∷ drop 6 m) ∙ sym (six m h)
