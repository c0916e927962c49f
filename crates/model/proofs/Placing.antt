-- The fields of a place written one after the other over zeros are its 48 octets. Assumes nothing.
use mathlib.Core.Path.{◌≡◌, sym, ap}
use mathlib.Core.List.{List, ◌∷◌, ◌++◌}
use Prim.Native.Nat.{ℕ}
use native.Mathlib.Omega.{arith}
use borrow.Rule.Slice.PartMut.{put_mid}
use lib.ListN.{length, set, replicate}
use lib.Seq.{take_all}
use Rattle.octets.specs.Over.{over}
use Rattle.octets.specs.Number.{pair, triple, twelve}
use Rattle.octets.proofs.Bytes.{twelve_is}
use Rattle.model.specs.Place.{place_of}
use Rattle.model.specs.declared.Point.{Point}

pub placed : (p : Point) (ca g : ℕ) (m n o v : List ℕ) → m ≡ over (p.kind ∷ replicate 47 0) 1 (pair ca) → n ≡ over m 3 (triple p.ioa) → o ≡ over n 6 (pair g)
    → g ≡ p.group → v ≡ p.value → length p.value ≡ 12 → put_mid 10 12 (set o 8 p.counter) v ≡ place_of ca p
unfolding over
placed p ca g m n o v h i j e f l =
    let t : p.value ≡ twelve p.value 0 = twelve_is p.value p.value 0 12 (omega arith) (omega arith) (sym (take_all 12 p.value (omega arith))) in
    rw (f, j, i, h, e) (ap (λ (x : List ℕ). p.kind ∷ (pair ca ++ (triple p.ioa ++ (pair p.group ++ (p.counter ∷ 0 ∷ (x ++ replicate 26 0)))))) t)
