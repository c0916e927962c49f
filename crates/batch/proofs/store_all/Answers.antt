-- Places, stations' numbers and number of points written one after another: `storable` has what each step asks and what they leave. Assumes nothing.
use native.Mathlib.Omega.{arith}
use mathlib.Core.Path.{◌≡◌, sym, ◌∙◌, subst}
use mathlib.Core.List.{List}
use Prim.Native.Nat.{ℕ, ◌+◌}
use lib.ListN.{take}
use Rattle.octets.specs.Over.{over}
use Rattle.octets.specs.Number.{pair}
use Rattle.layout.specs.Layout.{points_offset, capacity_in, stations_in, points_in, after_places, stations_from}
use Rattle.batch_records.specs.Records.{records_in}
use Rattle.sorting.specs.Sorted.{All, Ascending, sorted}
use Rattle.sorting.proofs.Sorted.{sorted_ascending, sorted_all}
use Rattle.merging.specs.Merge.{Rises, first_places, numbers_from, Fits, merged}
use Rattle.batch.specs.Raise.{raised, Raisable}
use Rattle.batch.proofs.Storing.{all_merged, storable}
use Rattle.batch.proofs.store_all.Goals as goal

pub capacity_of-k-requires : goal.capacity_of-k-requires
capacity_of-k-requires c =
    let long = (storable c.args.m.now _ _ (λ j. omega (arith, c.slice_known-1.given j)) c.requires.0 c.requires.1).length_is in
    omega arith

pub stations_of-stations-requires : goal.stations_of-stations-requires
stations_of-stations-requires c =
    let long = (storable c.args.m.now _ _ (λ j. omega (arith, c.slice_known-1.given j)) c.requires.0 c.requires.1).length_is in
    omega arith

pub points_of-n-requires : goal.points_of-n-requires
points_of-n-requires c =
    let long = (storable c.args.m.now _ _ (λ j. omega (arith, c.slice_known-1.given j)) c.requires.0 c.requires.1).length_is in
    omega arith

pub merge-requires : goal.merge-requires
merge-requires c =
    let a = c.args in
    let p = c.requires in
    let m = a.m.now in
    let r = a.records.now in
    let z = storable m r a.taken.now (λ j. omega (arith, c.slice_known-1.given j)) p.0 p.1 in
    let few = z.capacity in
    let free = z.free in
    let s : take (records_in r) a.numbers.now ≡ sorted (numbers_from r 0 (records_in r)) = p.3 (omega arith) in
    let numbers = numbers_from r 0 (records_in r) in
    let e : c.points_of-n.result ≡ points_in m = c.points_of-n.ensures.0 in
    let long = z.length_is in (
      omega arith,
      omega arith,
      (subst (λ (x : ℕ). Rises 0 (first_places m x)) (sym e) z.rises, subst Ascending (sym s) (sorted_ascending numbers), subst (All (Fits r)) (sym s) (sorted_all (Fits r) numbers z.records)),
    )

pub raise_held-requires : goal.raise_held-requires
raise_held-requires c =
    let a = c.args in
    let p = c.requires in
    let m = a.m.now in
    let r = a.records.now in
    let z = storable m r a.taken.now (λ j. omega (arith, c.slice_known-1.given j)) p.0 p.1 in
    let few = z.capacity in
    let free = z.free in
    let s : take (records_in r) a.numbers.now ≡ sorted (numbers_from r 0 (records_in r)) = p.3 (omega arith) in
    let e4 : c.capacity_of-k.result ≡ capacity_in m = c.capacity_of-k.ensures.0 in
    let e6 : c.stations_of-stations.result ≡ stations_in m = c.stations_of-stations.ensures.0 in
    let e8 : c.points_of-n.result ≡ points_in m = c.points_of-n.ensures.0 in
    let x = c.merge in
    let new : c.merge.new.m ≡ all_merged m r = x.ensures ∙ (λ j. merged m r (s j) (e8 j)) in
    let most = z.stations in
    let long = z.length_is in
    let raisable = subst (λ (y : ℕ). Raisable (all_merged m r) a.taken.now 0 (stations_from m) y) (sym e6) z.raisable in
    (omega arith, omega (arith, x.auto), subst (λ (y : List ℕ). Raisable y a.taken.now 0 (after_places c.capacity_of-k.result) c.stations_of-stations.result) (sym new) (subst (λ (y : ℕ). Raisable (all_merged m r) a.taken.now 0 (after_places y) c.stations_of-stations.result) (sym e4) raisable))

pub overflow_add-n : goal.overflow_add-n
overflow_add-n c =
    let a = c.args in
    let p = c.requires in
    let z = storable a.m.now _ _ (λ j. omega (arith, c.slice_known-1.given j)) p.0 p.1 in
    let e8 : c.points_of-n.result ≡ points_in a.m.now = c.points_of-n.ensures.0 in
    let few = z.capacity in
    let free = z.free in
    omega arith

pub put-requires : goal.put-requires
put-requires c =
    let a = c.args in
    let p = c.requires in
    let z = storable a.m.now _ _ (λ j. omega (arith, c.slice_known-1.given j)) p.0 p.1 in
    let e8 : c.points_of-n.result ≡ points_in a.m.now = c.points_of-n.ensures.0 in
    let few = z.capacity in
    let free = z.free in
    let long = z.length_is in
    (omega arith, omega (arith, c.raise_held.auto, c.merge.auto), omega arith)

pub returns : goal.returns
returns c =
    let a = c.args in
    let p = c.requires in
    let m = a.m.now in
    let r = a.records.now in
    let z = storable m r a.taken.now (λ j. omega (arith, c.slice_known-1.given j)) p.0 p.1 in
    let few = z.capacity in
    let free = z.free in
    let s : take (records_in r) a.numbers.now ≡ sorted (numbers_from r 0 (records_in r)) = p.3 (omega arith) in
    let e4 : c.capacity_of-k.result ≡ capacity_in m = c.capacity_of-k.ensures.0 in
    let e6 : c.stations_of-stations.result ≡ stations_in m = c.stations_of-stations.ensures.0 in
    let e8 : c.points_of-n.result ≡ points_in m = c.points_of-n.ensures.0 in
    let x = c.merge in
    let new : c.merge.new.m ≡ all_merged m r = x.ensures ∙ (λ j. merged m r (s j) (e8 j)) in
    let up = c.raise_held.ensures ∙ (λ j. raised (new j) a.taken.now 0 (after_places (e4 j)) (e6 j)) in
    c.put.ensures ∙ (λ j. over (up j) points_offset (pair (e8 j + records_in r))) ∙ z.memory
