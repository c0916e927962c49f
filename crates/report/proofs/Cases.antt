-- The sets of types, and cases g and h of document 01, by computation. Assumes nothing.
use mathlib.Core.Path.{◌≡◌, refl}
use mathlib.Core.List.{List, [], ◌∷◌, map}
use mathlib.Core.Bool.{Bool, true}
use Prim.Native.Nat.{ℕ, zero, suc, ◌<◌}
use native.Mathlib.Omega.{arith}
use lib.ListN.{length, replicate}
use lib.Dec.{ltb}
use borrow.Author.Tests.{ltb-true}
use Rattle.limits.specs.Test.{◌&◌}
use Rattle.limits.proofs.Tests.{both}
use Rattle.limits.specs.Size.{point_types, listed, octets_in, point_octets, standard_limit}
use Rattle.asdu.specs.Header.{header, object_octets, asdu_octets}
use Rattle.model.specs.declared.Point.{Point}
use Rattle.report.specs.Packing.{selected, joined, chunks, cut}
use Rattle.report.specs.Selection.{interrogation_types, counter_types, Above, StrictlyAscending}
use Rattle.report.specs.Report.{object_of, run, report}

-- a test for ascent, for computing
ascends : ℕ → List ℕ → Bool
ascends low [] = true
ascends low (k ∷ ks) = ltb low k & ascends k ks

above_more : (low k : ℕ) (ks : List ℕ) → low < k → Above k ks → Above low ks
unfolding Above
above_more low k [] l a = tt
above_more low k (x ∷ ks) l a = (let h : k < x = a.0 in omega arith, above_more low k ks l a.1)

ascends_is : (low : ℕ) (ks : List ℕ) → ascends low ks ≡ true → Above low ks × StrictlyAscending ks
unfolding ascends Above StrictlyAscending
ascends_is low [] e = (tt, tt)
ascends_is low (k ∷ ks) e =
    let t = both _ _ e in
    let l : low < k = ltb-true low k t.0 in
    let r = ascends_is k ks t.1 in
    ((l, above_more low k ks l r.0), r)

pub interrogation_ascending : StrictlyAscending interrogation_types
unfolding ascends interrogation_types ◌&◌
interrogation_ascending = (ascends_is 0 interrogation_types refl).1

pub counter_ascending : StrictlyAscending counter_types
unfolding ascends counter_types ◌&◌
counter_ascending = (ascends_is 0 counter_types refl).1

-- numbers one after another
abbrev pub from : ℕ → ℕ → List ℕ
from i zero = []
from i (suc n) = i ∷ from (suc i) n

-- the types of an interrogation are the point types of document 01's list, in ascending order
pub interrogation_all : interrogation_types ≡ selected (listed point_types) (from 0 128)
unfolding interrogation_types selected listed point_types
interrogation_all = refl

-- n points of a type, from IOA i on
abbrev pub many : ℕ → ℕ → ℕ → List Point
many kind i zero = []
many kind i (suc n) = record { kind = kind; ioa = i; group = 0; counter = 0; value = replicate 12 0 } ∷ many kind (suc i) n

-- how many objects and octets each ASDU of a global interrogation has
abbrev pub shape : List Point → List (List ℕ)
shape ps = map (λ a. length a.objects ∷ length (asdu_octets a) ∷ []) (report standard_limit interrogation_types 20 7 ps)

-- g. 60 points of type 1: one ASDU of 246 octets; 61: 60 and 1
pub case_g : (shape (many 1 1 60) ≡ (60 ∷ 246 ∷ []) ∷ []) × (shape (many 1 1 61) ≡ (60 ∷ 246 ∷ []) ∷ (1 ∷ 10 ∷ []) ∷ [])
unfolding interrogation_types report run asdu_octets joined chunks cut selected point_octets octets_in point_types object_of object_octets header
case_g = (refl, refl)

-- h. 27 points of type 17: one ASDU of 249 octets; 28: 27 and 1
pub case_h : (shape (many 17 1 27) ≡ (27 ∷ 249 ∷ []) ∷ []) × (shape (many 17 1 28) ≡ (27 ∷ 249 ∷ []) ∷ (1 ∷ 15 ∷ []) ∷ [])
unfolding interrogation_types report run asdu_octets joined chunks cut selected point_octets octets_in point_types object_of object_octets header
case_h = (refl, refl)
