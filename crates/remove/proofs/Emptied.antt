-- All points taken out: the memory after it is the image of the emptied table, which is good. Assumes nothing.
use mathlib.Core.Path.{◌≡◌, refl, sym, ap, ◌∙◌}
use mathlib.Core.List.{List, [], ◌∷◌, ◌++◌, map, append_assoc}
use mathlib.Core.Option.{some}
use Prim.Native.Nat.{ℕ, zero, suc, ◌+◌, ◌*◌, ◌-◌, ◌≤◌, ◌<◌}
use native.Mathlib.Omega.{arith}
use lib.ListN.{length, drop, replicate, length-append, length-replicate, replicate-append-replicate}
use Rattle.limits.specs.Test.{total}
use Rattle.octets.specs.Over.{over}
use Rattle.octets.specs.Number.{two, pair, Octets}
use Rattle.octets.proofs.Laws.{over_at}
use Rattle.model.specs.declared.Point.{Point}
use Rattle.table.specs.Table.{Station, Table, held, places_of, bodies, entries, head, image}
use Rattle.table.specs.Change.{with_points, emptied}
use Rattle.table.proofs.Stations.{length_bodies}
use Rattle.table.specs.Memory.{parse}
use Rattle.table.proofs.Parse.{Good, good_is, Laid, laid, parse_sound}
use Rattle.remove.specs.Remove.{none_held, all_taken_out}
use Rattle.table.proofs.Cut.{six, head_over}

-- ---- the turns of the loop over the stations

pub none_held_on : (m : List ℕ) (at n i : ℕ) → i < n
    → none_held m (at + 8 * i) (n - i) ≡ none_held (over m (at + 8 * i + 6) (pair 0)) (at + 8 * (i + 1)) (n - (i + 1))
unfolding none_held
none_held_on m at n i h =
    let e : n - i ≡ suc (n - (i + 1)) = omega arith in
    let f : at + 8 * i + 8 ≡ at + 8 * (i + 1) = omega arith in
    ap (none_held m (at + 8 * i)) e ∙ ap (λ (x : ℕ). none_held (over m (at + 8 * i + 6) (pair 0)) x (n - (i + 1))) f

pub none_held_end : (m : List ℕ) (at n i : ℕ) → n ≤ i → none_held m at (n - i) ≡ m
unfolding none_held
none_held_end m at n i h = let e : n - i ≡ zero = omega arith in ap (none_held m at) e

-- ---- the pieces of an emptied table's image

bare : Station → Station
bare s = with_points (λ (ps : List Point). []) s

bare_held : (ss : List Station) → total held (map bare ss) ≡ 0
unfolding total bare
bare_held [] = refl
bare_held (s ∷ ss) = let ih : total held (map bare ss) ≡ 0 = bare_held ss in omega arith

bare_bodies : (ss : List Station) → bodies (map bare ss) ≡ []
unfolding bodies places_of bare
bare_bodies [] = refl
bare_bodies (s ∷ ss) = bare_bodies ss

bare_length : (ss : List Station) → length (map bare ss) ≡ length ss
bare_length [] = refl
bare_length (s ∷ ss) = ap suc (bare_length ss)

-- The held of every station set to 0, wherever the stations lie.
none_held_entries : (X : List ℕ) (ss : List Station) (R : List ℕ) (at : ℕ) → length X ≡ at
    → none_held (X ++ (entries ss ++ R)) at (length ss) ≡ X ++ (entries (map bare ss) ++ R)
unfolding none_held entries bare six
none_held_entries X [] R at e = refl
none_held_entries X (s ∷ ss) R at e =
    let S : List ℕ = six s.ca s.reservation s.ceiling in
    let E : List ℕ = entries ss ++ R in
    let F : List ℕ = entries (map bare ss) ++ R in
    let l6 : length (X ++ S) ≡ at + 6 = simp length-append (omega arith) in
    let l8 : length (X ++ (S ++ pair 0)) ≡ at + 8 = simp length-append (omega arith) in
    let a : X ++ (S ++ (pair (held s) ++ E)) ≡ X ++ S ++ (pair (held s) ++ E) = sym (append_assoc X S (pair (held s) ++ E)) in
    let b : over (X ++ S ++ (pair (held s) ++ E)) (at + 6) (pair 0) ≡ X ++ S ++ (pair 0 ++ E) = over_at (X ++ S) (pair (held s)) E (pair 0) (at + 6) l6 refl in
    let c : X ++ S ++ (pair 0 ++ E) ≡ X ++ (S ++ pair 0) ++ E = append_assoc X S (pair 0 ++ E) ∙ sym (append_assoc X (S ++ pair 0) E) in
    ap (λ (l : List ℕ). none_held (over l (at + 6) (pair 0)) (at + 8) (length ss)) a
    ∙ ap (λ (l : List ℕ). none_held l (at + 8) (length ss)) (b ∙ c)
    ∙ none_held_entries (X ++ (S ++ pair 0)) ss R (at + 8) l8
    ∙ append_assoc X (S ++ pair 0) F

-- ---- the image

regroup : (H B Z E R : List ℕ) → (H ++ (B ++ (Z ++ E))) ++ R ≡ H ++ (B ++ (Z ++ (E ++ R)))
regroup H B Z E R = simp append_assoc

regroup_zeros : (H N Z E R : List ℕ) → (H ++ ((N ++ Z) ++ E)) ++ R ≡ H ++ (N ++ (Z ++ (E ++ R)))
regroup_zeros H N Z E R = simp append_assoc

seam : (H N Z Y : List ℕ) → H ++ (N ++ (Z ++ Y)) ≡ (H ++ (N ++ Z)) ++ Y
seam H N Z Y = simp append_assoc

-- Taking all points out of a table's image leaves the image of the emptied table.
pub all_taken_out_image : (t : Table) (rest : List ℕ) → Good t → all_taken_out (image t ++ rest) ≡ image (emptied t) ++ rest
unfolding all_taken_out image emptied bare
all_taken_out_image t rest g =
    let ss : List Station = t.stations in
    let K : ℕ = t.capacity in
    let n : ℕ = total held ss in
    let few : n ≤ K = g.few in
    let l : Laid (image t ++ rest) t = laid t rest g in
    let H : List ℕ = head t.settings K (length ss) n in
    let N : List ℕ = replicate (48 * n) 0 in
    let Z : List ℕ = replicate (48 * (K - n)) 0 in
    let E : List ℕ = entries (map bare ss) in
    let ln : length N ≡ 48 * n = length-replicate (48 * n) 0 in
    let lz : length Z ≡ 48 * (K - n) = length-replicate (48 * (K - n)) 0 in
    let lx : length (H ++ (N ++ Z)) ≡ 64 + 48 * K = simp length-append (omega arith) in
    let cleared : over (image t ++ rest) 64 N ≡ (H ++ (N ++ Z)) ++ (entries ss ++ rest) =
    ap (λ (x : List ℕ). over x 64 N) (regroup H (bodies ss) Z (entries ss) rest)
    ∙ over_at H (bodies ss) (Z ++ (entries ss ++ rest)) N 64 refl (length_bodies ss ∙ sym ln)
    ∙ seam H N Z (entries ss ++ rest) in
    let none : none_held ((H ++ (N ++ Z)) ++ (entries ss ++ rest)) (64 + 48 * K) (length ss) ≡ H ++ (N ++ (Z ++ (E ++ rest))) =
    none_held_entries (H ++ (N ++ Z)) ss rest (64 + 48 * K) lx ∙ sym (seam H N Z (E ++ rest)) in
    let h0 : total held (map bare ss) ≡ 0 = bare_held ss in
    let unused : 48 * (K - total held (map bare ss)) ≡ 48 * n + 48 * (K - n) = omega arith in
    let zeros : replicate {A = ℕ} (48 * (K - total held (map bare ss))) 0 ≡ N ++ Z =
    ap (λ (x : ℕ). replicate {A = ℕ} x 0) unused ∙ sym (replicate-append-replicate (48 * n) (48 * (K - n)) 0) in
    (λ j. over (none_held (over (image t ++ rest) 64 (replicate (48 * l.is_n j) 0)) (64 + 48 * l.is_k j) (l.is_s j)) 8 (pair 0))
    ∙ ap (λ (x : List ℕ). over (none_held x (64 + 48 * K) (length ss)) 8 (pair 0)) cleared
    ∙ ap (λ (x : List ℕ). over x 8 (pair 0)) none
    ∙ head_over t.settings K (length ss) n 0 (N ++ (Z ++ (E ++ rest)))
    ∙ sym ((λ j. (head t.settings K (bare_length ss j) (h0 j) ++ (bare_bodies ss j ++ (zeros j ++ E))) ++ rest) ∙ regroup_zeros (head t.settings K (length ss) 0) N Z E rest)

-- The same of a memory that holds a table, with the number of points: what lies past the table's octets stays.
pub all_taken_out_parsed : (m : List ℕ) (t : Table) → Octets m → parse m ≡ some t
    → (two m 8 ≡ total held t.stations) × (all_taken_out m ≡ image (emptied t) ++ drop (length (image t)) m)
all_taken_out_parsed m t o e =
    let q = parse_sound m t o e in
    let R : List ℕ = drop (length (image t)) m in
    let g : Good t = good_is t q.0 in (
      ap (λ (x : List ℕ). two x 8) q.1 ∙ (laid t R g).is_n,
      ap all_taken_out q.1 ∙ all_taken_out_image t R g,
    )

-- What `take_all_out` asks of the numbers.
pub take_all_out_bounds : (t : Table) (m : List ℕ) → Good t → Laid m t → (64 + 48 * two m 4 + 8 * two m 6 ≤ length m) × (two m 8 ≤ two m 4)
take_all_out_bounds t m g l =
    let e4 : two m 4 ≡ t.capacity = l.is_k in
    let e6 : two m 6 ≡ length t.stations = l.is_s in
    let e8 : two m 8 ≡ total held t.stations = l.is_n in
    let room : 64 + 48 * t.capacity + 8 * length t.stations ≤ length m = l.room in
    let few : total held t.stations ≤ t.capacity = g.few in
    (omega arith, omega arith)
