-- What a report is made of, for any points in any order, any set of types and any length limit from 25 on:
-- its objects in order, its ASDUs full but for the last of a type, none empty, none too long; and its length. Assumes nothing.
use mathlib.Core.Path.{◌≡◌, refl, sym, ap, ap₂, ◌∙◌, subst}
use mathlib.Core.List.{List, [], ◌∷◌, map}
use mathlib.Core.Bool.{true}
use Prim.Native.Nat.{ℕ, ◌+◌, ◌*◌, ◌-◌, ◌≤◌, ◌<◌}
use native.Mathlib.Omega.{arith}
use lib.ListN.{length, take, length-map}
use lib.Seq.{length-take-le}
use lib.Dec.{eqb}
use borrow.Author.Tests.{eqb-true}
use Rattle.limits.specs.Test.{total}
use Rattle.limits.specs.Size.{point_octets, most_objects, asdus_of, run_octets}
use Rattle.limits.proofs.Sizes.{point_at_most, one_fits, asdu_fits}
use Rattle.asdu.specs.Header.{Object, Asdu, object_octets, asdu_octets, wire}
use Rattle.asdu.proofs.Laws.{length_asdu, length_object as object-octets}
use Rattle.model.specs.declared.Point.{Point}
use Rattle.report.specs.Packing.{joined, chunks, Full, Each}
use Rattle.report.specs.Report.{data_header, data_asdu, object_of, of_kind, ordered, run, report}
use Rattle.report.proofs.Packing.{joined_map, joined_joined, joined_same, map_joined, length_joined, chunks_flat, chunks_full, chunks_count}
use Rattle.report.proofs.Each.{each_chunks, each_both, each_so, each_of, each_then, each_joined, each_selected, selected_pass, full_each, length_even, total_more, total_same}

-- A point's value has twelve octets.
abbrev pub Whole : Point → Type 0
Whole p = length p.value ≡ 12

-- An object of a type: three octets of address and the element.
abbrev pub Sized : ℕ → Object → Type 0
Sized kind x = length (object_octets x) ≡ 3 + point_octets kind

pub length_object : (p : Point) → Whole p → Sized p.kind (object_of p)
unfolding object_of
length_object p w =
    let x : Object = record { ioa = p.ioa; element = take (point_octets p.kind) p.value } in
    let l : length (object_octets x) ≡ 3 + length x.element = object-octets x in
    let t : length (take (point_octets p.kind) p.value) ≡ point_octets p.kind =
    length-take-le (point_octets p.kind) p.value (omega (arith, point_at_most p.kind)) in
    omega arith

-- the objects of the points of a type
pub kind_sized : (kind : ℕ) (ps : List Point) → Each Whole ps → Each (Sized kind) (map object_of (of_kind kind ps))
kind_sized kind ps w =
    each_then (λ p. (eqb p.kind kind ≡ true) × Whole p) (Sized kind) object_of (λ p h. size p h) (of_kind kind ps)
    (each_both (λ p. eqb p.kind kind ≡ true) Whole (of_kind kind ps) (selected_pass (λ p. eqb p.kind kind) ps) (each_selected Whole (λ p. eqb p.kind kind) ps w))
  where
    size : (p : Point) → (eqb p.kind kind ≡ true) × Whole p → Sized kind (object_of p)
    size p h = subst (λ (k : ℕ). length (object_octets (object_of p)) ≡ 3 + point_octets k) (eqb-true p.kind kind h.0) (length_object p h.1)

-- An ASDU of data of a cause and a CA: its header says its type, and how many objects it has.
abbrev pub Data : ℕ → ℕ → Asdu → Type 0
Data cause ca a = a.header ≡ data_header a.header.kind (length a.objects) cause ca

-- An ASDU that is neither empty nor too long.
abbrev pub Short : ℕ → Asdu → Type 0
Short limit a = (0 < length a.objects) × (length (asdu_octets a) ≤ limit - 4)

module _ (limit : ℕ) (high : 25 ≤ limit) where
  -- at least one object of every type fits
  pub one_object : (kind : ℕ) → 0 < most_objects limit (point_octets kind)
  one_object kind = one_fits limit (point_octets kind) high (point_at_most kind)

  -- ---- the objects

  -- the objects of the ASDUs of a run are those of `chunks`
  pub run_chunks : (cause ca kind : ℕ) (xs : List Object) → map (λ a. a.objects) (run limit cause ca kind xs) ≡ chunks (most_objects limit (point_octets kind)) xs
  unfolding run
  run_chunks cause ca kind xs = same (chunks (most_objects limit (point_octets kind)) xs)
    where
      same : (cs : List (List Object)) → map (λ (a : Asdu). a.objects) (map (data_asdu kind cause ca) cs) ≡ cs
      same [] = refl
      same (c ∷ cs) = ap (λ (l : List (List Object)). c ∷ l) (same cs)

  -- the objects of a run, read in order, are those that went in
  pub run_objects : (cause ca kind : ℕ) (xs : List Object) → joined (λ a. a.objects) (run limit cause ca kind xs) ≡ xs
  unfolding run
  run_objects cause ca kind xs =
      joined_map (λ (a : Asdu). a.objects) (data_asdu kind cause ca) (chunks (most_objects limit (point_octets kind)) xs)
      ∙ chunks_flat (most_objects limit (point_octets kind)) (one_object kind) xs

  -- THE OBJECTS of a report, read in order, are those of the points of each type, one type after another
  pub report_objects : (types : List ℕ) (cause ca : ℕ) (ps : List Point) → joined (λ a. a.objects) (report limit types cause ca ps) ≡ map object_of (ordered types ps)
  unfolding report ordered
  report_objects types cause ca ps =
      joined_joined (λ (a : Asdu). a.objects) (λ (kind : ℕ). run limit cause ca kind (map object_of (of_kind kind ps))) types
      ∙ joined_same _ (λ (kind : ℕ). map object_of (of_kind kind ps)) (λ kind. run_objects cause ca kind (map object_of (of_kind kind ps))) types
      ∙ sym (map_joined object_of (λ (kind : ℕ). of_kind kind ps) types)

  -- the octets of a report are those of the runs of its types, one after another
  pub report_runs : (types : List ℕ) (cause ca : ℕ) (ps : List Point)
      → wire (report limit types cause ca ps) ≡ joined (λ kind. wire (run limit cause ca kind (map object_of (of_kind kind ps)))) types
  unfolding report wire
  report_runs types cause ca ps = joined_joined asdu_octets (λ (kind : ℕ). run limit cause ca kind (map object_of (of_kind kind ps))) types

  -- ---- full, none empty

  -- EVERY ASDU of a run is as full as allowed but the last, and none is empty
  pub run_full : (cause ca kind : ℕ) (xs : List Object) → Full (most_objects limit (point_octets kind)) (map (λ a. a.objects) (run limit cause ca kind xs))
  run_full cause ca kind xs = rw (run_chunks cause ca kind xs) (chunks_full (most_objects limit (point_octets kind)) (one_object kind) xs)

  -- ---- headers and lengths

  -- an ASDU of a run: it has its type, cause and CA, some objects and not too many, and it is not too long
  pub record Fits (cause ca kind : ℕ) (a : Asdu) : Type 0 where
    pub own : a.header.kind ≡ kind
    pub says : Data cause ca a
    pub some : 0 < length a.objects
    pub most : length a.objects ≤ most_objects limit (point_octets kind)
    pub short : length (asdu_octets a) ≤ limit - 4

  -- NONE of the ASDUs of a run is empty or longer than the limit less four octets
  pub run_fits : (cause ca kind : ℕ) (xs : List Object) → Each (Sized kind) xs → Each (Fits cause ca kind) (run limit cause ca kind xs)
  unfolding run
  run_fits cause ca kind xs w =
      each_then Cut (Fits cause ca kind) (data_asdu kind cause ca) fits cs
      (each_both (λ c. (0 < length c) × (length c ≤ most)) (Each (Sized kind)) cs
      (full_each most cs (chunks_full most (one_object kind) xs))
      (each_chunks (Sized kind) most xs w))
    where
      most : ℕ
      most = most_objects limit (point_octets kind)

      cs : List (List Object)
      cs = chunks most xs

      Cut : List Object → Type 0
      Cut c = ((0 < length c) × (length c ≤ most)) × Each (Sized kind) c

      fits : (c : List Object) → Cut c → Fits cause ca kind (data_asdu kind cause ca c)
      fits c h =
          let l : length (joined object_octets c) ≡ length c * (3 + point_octets kind) = length_even object_octets (3 + point_octets kind) c h.1 in
          let o : length (asdu_octets (data_asdu kind cause ca c)) ≡ 6 + length (joined object_octets c) = length_asdu (data_asdu kind cause ca c) in
          let f : 6 + length c * (3 + point_octets kind) ≤ limit - 4 = asdu_fits limit (point_octets kind) (length c) (omega arith) h.0.1 in
          record { own = refl; says = refl; some = h.0.0; most = h.0.1; short = omega arith }

  -- the octets of a run
  pub length_run : (cause ca kind : ℕ) (xs : List Object) → Each (Sized kind) xs
      → length (wire (run limit cause ca kind xs)) ≡ run_octets limit (point_octets kind) (length xs)
  unfolding run wire
  length_run cause ca kind xs w =
      let most : ℕ = most_objects limit (point_octets kind) in
      let cs : List (List Object) = chunks most xs in
      let j : length (joined asdu_octets (map (data_asdu kind cause ca) cs)) ≡ total (λ (c : List Object). 6 + length (joined object_octets c)) cs =
      ap length (joined_map asdu_octets (data_asdu kind cause ca) cs)
      ∙ length_joined (λ (c : List Object). asdu_octets (data_asdu kind cause ca c)) cs
      ∙ total_same (λ (c : List Object). length (asdu_octets (data_asdu kind cause ca c))) (λ (c : List Object). 6 + length (joined object_octets c)) (λ c. length_asdu (data_asdu kind cause ca c)) cs in
      let t : total (λ (c : List Object). 6 + length (joined object_octets c)) cs ≡ 6 * length cs + total (λ (c : List Object). length (joined object_octets c)) cs =
      total_more 6 (λ (c : List Object). length (joined object_octets c)) cs in
      let n : length cs ≡ asdus_of most (length xs) = chunks_count most (one_object kind) xs in
      let f : total (λ (c : List Object). length (joined object_octets c)) cs ≡ length (joined object_octets xs) =
      sym (length_joined (λ (c : List Object). joined object_octets c) cs)
      ∙ ap length (sym (joined_joined object_octets (λ (c : List Object). c) cs) ∙ ap (joined object_octets) (chunks_flat most (one_object kind) xs)) in
      let l : length (joined object_octets xs) ≡ length xs * (3 + point_octets kind) = length_even object_octets (3 + point_octets kind) xs w in
      j ∙ t ∙ ap₂ (λ (x y : ℕ). 6 * x + y) n (f ∙ l)

  -- the octets of a report
  pub length_report : (types : List ℕ) (cause ca : ℕ) (ps : List Point) → Each Whole ps
      → length (wire (report limit types cause ca ps)) ≡ total (λ kind. run_octets limit (point_octets kind) (length (of_kind kind ps))) types
  length_report types cause ca ps w =
      ap length (report_runs types cause ca ps)
      ∙ length_joined (λ (kind : ℕ). wire (run limit cause ca kind (map object_of (of_kind kind ps)))) types
      ∙ total_same _ (λ (kind : ℕ). run_octets limit (point_octets kind) (length (of_kind kind ps)))
      (λ kind. length_run cause ca kind (map object_of (of_kind kind ps)) (kind_sized kind ps w)
      ∙ ap (run_octets limit (point_octets kind)) (length-map (of_kind kind ps) object_of)) types

  -- EVERY ASDU of a report has the cause, the CA, and the count of its objects
  pub report_headers : (types : List ℕ) (cause ca : ℕ) (ps : List Point) → Each (Data cause ca) (report limit types cause ca ps)
  unfolding report run
  report_headers types cause ca ps =
      each_joined (Data cause ca) (λ (kind : ℕ). map (data_asdu kind cause ca) (chunks (most_objects limit (point_octets kind)) (map object_of (of_kind kind ps))))
      (λ kind. headers kind (chunks (most_objects limit (point_octets kind)) (map object_of (of_kind kind ps)))) types
    where
      headers : (kind : ℕ) (cs : List (List Object)) → Each (Data cause ca) (map (data_asdu kind cause ca) cs)
      headers kind cs = each_then (λ c. Unit) (Data cause ca) (data_asdu kind cause ca) (λ c h. refl) cs (each_of (λ c. Unit) (λ c. tt) cs)

  -- NO ASDU of a report is empty or longer than the limit less four octets
  pub report_fits : (types : List ℕ) (cause ca : ℕ) (ps : List Point) → Each Whole ps → Each (Short limit) (report limit types cause ca ps)
  unfolding report
  report_fits types cause ca ps w =
      each_joined (Short limit) (λ (kind : ℕ). run limit cause ca kind (map object_of (of_kind kind ps)))
      (λ kind.
      each_so (Fits cause ca kind) (Short limit) (λ a f. (f.some, f.short)) (run limit cause ca kind (map object_of (of_kind kind ps)))
      (run_fits cause ca kind (map object_of (of_kind kind ps)) (kind_sized kind ps w)))
      types
