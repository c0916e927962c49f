-- The octets of an answer to a command: what they are, how many they are, and that it fits where the command did. Assumes nothing.
use mathlib.Core.Path.{◌≡◌, refl, ap, ap₂, ◌∙◌}
use mathlib.Core.List.{List, [], ◌∷◌, ◌++◌}
use mathlib.Core.Bool.{Bool}
use Prim.Native.Nat.{ℕ, ◌+◌, ◌/◌, ◌%◌, ◌≤◌, ◌<◌}
use native.Mathlib.Omega.{arith}
use lib.ListN.{length, take, drop, length-take, length-drop}
use Rattle.octets.specs.Number.{Octets}
use Rattle.asdu.specs.declared.command.Entry.{Entry}
use Rattle.asdu.specs.declared.command.Command.{Command}
use Rattle.asdu.specs.Joined.{joined}
use Rattle.asdu.specs.Header.{Object, header, object_octets, asdu_octets, most_octets}
use Rattle.asdu.specs.Command.{object_at}
use Rattle.asdu.specs.Confirmation.{reply_to, object_in, objects_in, objects_of, confirmation, echo, reply}
use Rattle.asdu.proofs.Joined.{joined_one}
use Rattle.asdu.proofs.Laws.{length_object, length_asdu}
use Rattle.asdu.proofs.Objects.{octets_drop, objects_count, whole_count, length_objects, object_again, whole_again, run_again}
use Rattle.asdu.proofs.Reading.{WellRead, first_there}

-- ---- the octets of an answer

pub reply_octets : (c : Command) (kind count cause : ℕ) (negative : Bool) (objects : List Object) (xs : List ℕ) → length objects ≡ count → joined object_octets objects ≡ xs
    → asdu_octets (reply c kind cause negative objects) ≡ header (reply_to c kind count cause negative) ++ xs
unfolding reply asdu_octets
reply_octets c kind count cause negative objects xs n e = ap₂ (λ (k : ℕ) (l : List ℕ). header (reply_to c kind k cause negative) ++ l) n e

-- a run of whole objects
pub reply_run : (c : Command) (kind cause : ℕ) (negative : Bool) (e : ℕ) (xs : List ℕ) → Octets xs → length xs % (3 + e) ≡ 0
    → asdu_octets (reply c kind cause negative (objects_of e xs)) ≡ header (reply_to c kind (length xs / (3 + e)) cause negative) ++ xs
reply_run c kind cause negative e xs o h =
    reply_octets c kind (length xs / (3 + e)) cause negative (objects_of e xs) xs (whole_count e xs) (run_again e xs o h)

-- THE OCTETS of a confirmation: its header, and the command's first object as it lay
pub confirmation_octets : (c : Command) (m : List ℕ) (cause : ℕ) (negative : Bool) → Octets m → 9 + c.element ≤ length m
    → asdu_octets (confirmation c m cause negative) ≡ header (reply_to c c.kind 1 cause negative) ++ take (3 + c.element) (drop 6 m)
unfolding confirmation
confirmation_octets c m cause negative o h =
    let x = object_in c.element (drop 6 m) in
    reply_octets c c.kind 1 cause negative (x ∷ []) (take (3 + c.element) (drop 6 m)) refl
    (joined_one object_octets x ∙ object_again c.element (drop 6 m) (octets_drop m 6 o) (simp length-drop (omega arith)))

-- of an echo: its header, and all octets after the command's own
pub echo_octets : (c : Command) (m : List ℕ) (cause : ℕ) (negative : Bool) → Octets m → length m ≡ object_at c.element c.count
    → asdu_octets (echo c m cause negative) ≡ header (reply_to c c.kind c.count cause negative) ++ drop 6 m
unfolding echo
echo_octets c m cause negative o h =
    reply_octets c c.kind c.count cause negative (objects_in c.element c.count (drop 6 m)) (drop 6 m) (objects_count c.element c.count (drop 6 m))
    (whole_again c.element c.count (drop 6 m) (octets_drop m 6 o) (simp length-drop (omega arith)))

-- ---- how many they are

pub length_reply : (c : Command) (kind cause : ℕ) (negative : Bool) (objects : List Object)
    → length (asdu_octets (reply c kind cause negative objects)) ≡ 6 + length (joined object_octets objects)
unfolding reply
length_reply c kind cause negative objects = length_asdu (record { header = reply_to c kind (length objects) cause negative; objects = objects })

pub length_confirmation : (c : Command) (m : List ℕ) (cause : ℕ) (negative : Bool) → 9 + c.element ≤ length m
    → length (asdu_octets (confirmation c m cause negative)) ≡ 9 + c.element
unfolding confirmation
length_confirmation c m cause negative h =
    let x = object_in c.element (drop 6 m) in
    let l = length_reply c c.kind cause negative (x ∷ []) in
    let n : length (joined object_octets (x ∷ [])) ≡ 3 + length x.element = ap length (joined_one object_octets x) ∙ length_object x in
    let k : length x.element ≡ c.element = simp (length-take, length-drop) (omega arith) in
    omega arith

pub length_echo : (c : Command) (m : List ℕ) (cause : ℕ) (negative : Bool) → length m ≡ object_at c.element c.count
    → length (asdu_octets (echo c m cause negative)) ≡ length m
unfolding echo
length_echo c m cause negative h =
    let n = length-drop 6 m in
    let l = length_reply c c.kind cause negative (objects_in c.element c.count (drop 6 m)) in
    let k = length_objects c.element c.count (drop 6 m) (omega arith) in
    omega arith

-- a confirmation or termination of a command that was read is no longer than an ASDU may be, 249 octets under the standard's limit
pub confirmation_fits : (limit : ℕ) (entry : Entry) (c : Command) (m : List ℕ) (cause : ℕ) (negative : Bool) → WellRead limit entry m c → 0 < c.count
    → length (asdu_octets (confirmation c m cause negative)) ≤ most_octets limit
confirmation_fits limit entry c m cause negative w some =
    let f = first_there c.element c.count m (omega arith) some in
    let l = length_confirmation c m cause negative f in
    omega arith

-- nor is an echo of it
pub echo_fits : (limit : ℕ) (entry : Entry) (c : Command) (m : List ℕ) (cause : ℕ) (negative : Bool) → WellRead limit entry m c
    → length (asdu_octets (echo c m cause negative)) ≤ most_octets limit
echo_fits limit entry c m cause negative w =
    let l = length_echo c m cause negative w.whole in
    omega arith
