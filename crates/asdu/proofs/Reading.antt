-- What a reading tells: a command that was parsed is the one in the octets, which hold exactly its objects. Assumes nothing.
use mathlib.Core.Path.{◌≡◌, refl, sym, ap, ◌∙◌, subst}
use mathlib.Core.List.{List, ◌++◌}
use mathlib.Core.Bool.{Bool, true, false, not}
use Prim.Native.Nat.{ℕ, ◌+◌, ◌*◌, ◌/◌, ◌%◌, ◌≤◌, ◌<◌}
use native.Mathlib.Nat.{add-mul, mul-le-mul_right}
use native.Mathlib.Omega.{arith}
use lib.Dec.{eqb}
use lib.ListN.{length}
use borrow.Author.Tests.{leb-true, le-leb, eqb-true, eqb-false, eq-eqb, not-true, not-false}
use Rattle.limits.specs.Test.{pick}
use Rattle.limits.specs.Size.{class_of, element_octets}
use Rattle.limits.proofs.Tests.{both, join}
use Rattle.limits.proofs.Sizes.{element_at_most}
use Rattle.octets.specs.Number.{three}
use Rattle.asdu.specs.declared.header.Header.{Header}
use Rattle.asdu.specs.declared.command.Entry.{Entry}
use Rattle.asdu.specs.declared.command.Command.{Command}
use Rattle.std.specs.Prelude.{Ok, Err, Option, Some, None, is_some}
use Rattle.asdu.specs.declared.command.Unread.TheVariants.{LengthOutOfRange, TypeNotServed, ObjectsNotWhole}
use Rattle.asdu.specs.Header.{header, most_octets, kind_in, sequence_in}
use Rattle.asdu.specs.Command.{serves, length_ok, object_at, whole_objects, command_in, read_as, first_object}
use Rattle.asdu.proofs.Laws.{length_after, cause_back, sequence_clear}

-- a length that passed has room for the header
pub header_there : (limit n : ℕ) → length_ok limit n ≡ true → 6 ≤ n
header_there limit n e = leb-true 6 n (both _ _ e).0

-- ---- a command that was parsed

-- what is known of it
pub record WellRead (limit : ℕ) (entry : Entry) (m : List ℕ) (c : Command) : Type 0 where
  pub is : c ≡ command_in m
  pub least : 6 ≤ length m
  pub most : length m ≤ most_octets limit
  pub served : serves entry (class_of c.kind) ≡ true
  pub clear : sequence_in m ≡ false
  pub whole : length m ≡ object_at c.element c.count
  pub few : c.count < 128
  pub low : c.cause < 64
  pub small : c.element ≤ 12

-- all three tests held
passed : (a b d : Bool) (x c : Command) → pick a (pick b (pick d (Ok x) (Err ObjectsNotWhole)) (Err TypeNotServed)) (Err LengthOutOfRange) ≡ Ok c
    → (a ≡ true) × (b ≡ true) × (d ≡ true) × (c ≡ x)
passed true true true x c e = (refl, refl, refl, cc)
passed true true false x c e = let z : ◌≡◌ {A = ℕ} 0 1 = cc in absurd (omega arith)
passed true false d x c e = let z : ◌≡◌ {A = ℕ} 0 1 = cc in absurd (omega arith)
passed false b d x c e = let z : ◌≡◌ {A = ℕ} 0 1 = cc in absurd (omega arith)

pub parsed_is : (limit : ℕ) (entry : Entry) (m : List ℕ) (c : Command) → read_as limit entry m ≡ Ok c → WellRead limit entry m c
unfolding read_as
parsed_is limit entry m c e =
    let t = passed (length_ok limit (length m)) (serves entry (class_of (kind_in m))) (whole_objects m) (command_in m) c e in
    let l = both _ _ t.0 in
    let w = both _ _ t.2 in
    subst (λ (x : Command). WellRead limit entry m x) (sym t.3)
    record {
      is = refl;
      least = leb-true _ _ l.0;
      most = leb-true _ _ l.1;
      served = t.1;
      clear = not-true _ w.0;
      whole = eqb-true _ _ w.1;
      few = omega arith;
      low = omega arith;
      small = element_at_most (kind_in m);
    }

-- ---- the objects of a command

-- every object lies within the octets
pub object_there : (element count i : ℕ) (m : List ℕ) → object_at element count ≤ length m → i < count → object_at element i + (3 + element) ≤ length m
object_there element count i m h k =
    let p : (i + 1) * (3 + element) ≤ count * (3 + element) = mul-le-mul_right (3 + element) (omega arith) in
    let q : (i + 1) * (3 + element) ≡ i * (3 + element) + 1 * (3 + element) = add-mul i 1 (3 + element) in
    omega arith

-- so does the first one
pub first_there : (element count : ℕ) (m : List ℕ) → object_at element count ≤ length m → 0 < count → 9 + element ≤ length m
first_there element count m h k = let t = object_there element count 0 m h k in omega arith

-- there is one exactly where the count is not 0
first_some : (c : Command) (m : List ℕ) → is_some (first_object c m) ≡ not (eqb c.count 0)
first_some c m = go (eqb c.count 0)
  where
    go : (b : Bool) → is_some (pick {A = Option (ℕ × ℕ)} b None (Some (three m 6, 9))) ≡ not b
    go true = refl
    go false = refl

pub no_first : (c : Command) (m : List ℕ) → is_some (first_object c m) ≡ false → c.count ≡ 0
no_first c m e = eqb-true _ _ (not-false _ (sym (first_some c m) ∙ e))

pub has_first : (c : Command) (m : List ℕ) → is_some (first_object c m) ≡ true → 0 < c.count
has_first c m e = let n : c.count ≡ 0 → ⊥ = eqb-false _ _ (not-true _ (sym (first_some c m) ∙ e)) in omega arith

-- ---- a command that was written is read back

-- the command that a header is
abbrev pub command_of : Header → Command
command_of h =
    record {
      kind = h.kind;
      count = h.count;
      cause = h.cause;
      test = h.test;
      originator = h.originator;
      ca = h.ca;
      element = element_octets h.kind;
    }

pub read_written : (limit : ℕ) (entry : Entry) (h : Header) (objects : List ℕ) → h.count < 128 → h.cause < 64
    → 6 + length objects ≤ most_octets limit → serves entry (class_of h.kind) ≡ true → 6 + length objects ≡ object_at (element_octets h.kind) h.count
    → read_as limit entry (header h ++ objects) ≡ Ok (command_of h)
unfolding read_as header
read_written limit entry h objects few low fits served whole =
    let n : h.count % 128 ≡ h.count = omega arith in
    let b = cause_back h.cause h.negative h.test low in
    let a : h.ca % 256 + 256 * (h.ca / 256) ≡ h.ca = omega arith in
    let k : length (header h ++ objects) ≡ 6 + length objects = length_after h objects in
    let L : length_ok limit (length (header h ++ objects)) ≡ true = join (le-leb 6 (length (header h ++ objects)) (omega arith)) (le-leb (length (header h ++ objects)) (most_octets limit) (omega arith)) in
    let W : whole_objects (header h ++ objects) ≡ true =
    join (ap not (sequence_clear h objects few))
    (eq-eqb (length (header h ++ objects)) (object_at (element_octets h.kind) (h.count % 128)) (k ∙ whole ∙ sym (ap (object_at (element_octets h.kind)) n))) in
    simp (L, served, W)
    (λ j. Ok record { kind = h.kind; count = n j; cause = b.is_cause j; test = b.is_test j; originator = h.originator; ca = a j; element = element_octets h.kind })
