-- The flat records of a list of points: each is read back as the point that it came from, and the records laid down are those of the points that found room.
-- Assumes nothing.
use mathlib.Core.Path.{◌≡◌, refl, sym, ap, ◌∙◌}
use mathlib.Core.List.{List, [], ◌∷◌, ◌++◌, map, append_assoc, append-nil}
use Prim.Native.Nat.{ℕ, ◌+◌, ◌*◌, ◌/◌, ◌%◌, ◌≤◌, ◌<◌}
use native.Mathlib.Omega.{arith}
use native.Mathlib.Nat.{add-zero, add_assoc}
use Rattle.std.proofs.lemmas.List.{take_more}
use lib.ListN.{length, take, drop, get_or, length-append}
use lib.Seq.{get_or-drop, drop-append_seam, take_all}
use Rattle.octets.specs.Number.{twelve}
use Rattle.octets.specs.Over.{over}
use Rattle.octets.proofs.Laws.{take_over}
use Rattle.std.specs.Prelude.{Option, Some, None}
use Rattle.model.specs.declared.Request.{Request}
use Rattle.model.specs.Request.{given_group, request_at, requests_at}
use Rattle.table.proofs.Points.{gets, gets_drop}
use Rattle.registry.specs.History.{Twelve, AllTwelve}
use Rattle.batch_records.specs.Records.{requests_in}
use Rattle.points.specs.Points.{has_of, number_in, flat_record, flat_records, whole, batch_of}

-- ---- a record is read back

-- a record is read from the list that starts there
request_drop : (m : List ℕ) (at : ℕ) → request_at m at ≡ request_at (drop at m) 0
request_drop m at = simp (get_or-drop, add-zero, add_assoc)

group_back : (g : Option ℕ) → given_group (has_of g) (number_in g) ≡ g
group_back None = refl
group_back (Some g) = refl

-- The record of a point is read back as the point.
pub record_law : (q : Request) (Y : List ℕ) → request_at (flat_record q ++ Y) 0 ≡ whole q
unfolding flat_record
record_law q Y =
    let c : q.ca % 256 + 256 * (q.ca / 256) ≡ q.ca = omega arith in
    let i : q.ioa % 256 + 256 * (q.ioa / 256 % 256 + 256 * (q.ioa / 65536 % 256 + 256 * (q.ioa / 16777216))) ≡ q.ioa = omega arith in
    λ j. record { ca = c j; ioa = i j; kind = q.kind; group = group_back q.group j; counter = group_back q.counter j; value = (whole q).value }

length_record : (q : Request) → length (flat_record q) ≡ 24
unfolding flat_record
length_record q = refl

length_records : (qs : List Request) → length (flat_records qs) ≡ 24 * length qs
unfolding flat_records
length_records [] = refl
length_records (q ∷ qs) =
    let e = length-append (flat_record q) (flat_records qs) in
    let r = length_record q in
    let s = length_records qs in
    omega arith

from_there : (pre : List ℕ) (qs : List Request) → requests_at (pre ++ flat_records qs) (length pre) (length qs) ≡ map whole qs
unfolding flat_records requests_at
from_there pre [] = refl
from_there pre (q ∷ qs) =
    let m = pre ++ (flat_record q ++ flat_records qs) in
    let here : request_at m (length pre) ≡ whole q = request_drop m (length pre) ∙ ap (λ (l : List ℕ). request_at l 0) (drop-append_seam pre (flat_record q ++ flat_records qs)) ∙ record_law q (flat_records qs) in
    let e : length (pre ++ flat_record q) ≡ length pre + 24 = length-append pre (flat_record q) ∙ ap (λ (n : ℕ). length pre + n) (length_record q) in
    let next : requests_at m (length pre + 24) (length qs) ≡ map whole qs =
    ap (λ (n : ℕ). requests_at m n (length qs)) (sym e) ∙ ap (λ (l : List ℕ). requests_at l (length (pre ++ flat_record q)) (length qs)) (sym (append_assoc pre (flat_record q) (flat_records qs))) ∙ from_there (pre ++ flat_record q) qs in
    ap (λ (z : Request). z ∷ requests_at m (length pre + 24) (length qs)) here ∙ ap (λ (l : List Request). whole q ∷ l) next

-- The requests of the records of a list of points are the points.
pub records_law : (qs : List Request) → requests_in (flat_records qs) ≡ map whole qs
records_law qs =
    let e = length_records qs in
    let n : length (flat_records qs) / 24 ≡ length qs = omega arith in
    ap (λ (k : ℕ). requests_at (flat_records qs) 0 k) n ∙ from_there [] qs

-- ---- what is laid down

flat_append : (x y : List Request) → flat_records (x ++ y) ≡ flat_records x ++ flat_records y
unfolding flat_records
flat_append [] y = refl
flat_append (q ∷ x) y = ap (λ (l : List ℕ). flat_record q ++ l) (flat_append x y) ∙ sym (append_assoc (flat_record q) (flat_records x) (flat_records y))

-- One record more is laid down after those of the first i points.
pub laid_more : (m : List ℕ) (ps : List Request) (i : ℕ) (d : Request) → 24 * i + 24 ≤ length m → i < length ps → take (24 * i) m ≡ flat_records (take i ps)
    → take (24 * (i + 1)) (over m (24 * i) (flat_record (get_or ps i d))) ≡ flat_records (take (i + 1) ps)
unfolding flat_records
laid_more m ps i d room within before =
    let q : Request = get_or ps i d in
    let r = length_record q in
    let e : 24 * (i + 1) ≡ 24 * i + length (flat_record q) = omega arith in
    let fits : 24 * i + length (flat_record q) ≤ length m = omega arith in
    ap (λ (n : ℕ). take n (over m (24 * i) (flat_record q))) e ∙ take_over m (flat_record q) (24 * i) fits ∙ ap (λ (l : List ℕ). l ++ flat_record q) before
    ∙ ap (λ (l : List ℕ). flat_records (take i ps) ++ l) (sym (append-nil (flat_record q))) ∙ sym (flat_append (take i ps) (q ∷ [])) ∙ ap flat_records (sym (take_more ps i d within))

-- Twelve octets, one by one.
pub twelve_is : (v : List ℕ) → length v ≡ 12 → twelve v 0 ≡ v
unfolding gets
twelve_is v e = gets_drop 0 12 v (omega arith) ∙ take_all 12 v (omega arith)

-- A point record that has twelve octets of value, as its type says, is whole; so is a list of them, and where there is room for all the batch is the list.
pub whole_is : (q : Request) → Twelve q → whole q ≡ q
whole_is q e = let v = twelve_is q.value (omega arith) in λ j. record { ca = q.ca; ioa = q.ioa; kind = q.kind; group = q.group; counter = q.counter; value = v j }

pub all_whole : (qs : List Request) → AllTwelve qs → map whole qs ≡ qs
unfolding AllTwelve
all_whole [] w = refl
all_whole (q ∷ qs) w = ap (λ (z : Request). z ∷ map whole qs) (whole_is q w.0) ∙ ap (λ (l : List Request). q ∷ l) (all_whole qs w.1)

pub batch_is : (room : ℕ) (qs : List Request) → AllTwelve qs → length qs ≤ room / 24 → batch_of room qs ≡ qs
batch_is room qs w h = ap (map whole) (take_all (room / 24) qs h) ∙ all_whole qs w

-- The requests of the records that were laid down are the batch.
pub laid_batch : (m : List ℕ) (room : ℕ) (ps : List Request) → m ≡ flat_records (take (room / 24) ps) → requests_in m ≡ batch_of room ps
laid_batch m room ps e = ap requests_in e ∙ records_law (take (room / 24) ps)
