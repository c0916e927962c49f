-- Storing a batch that passed every test: its places all_merged among the table's, the stations' numbers raised and the number of points written make
-- of the table's image the image of the table that the share rule left. Assumes nothing.
use mathlib.Core.Path.{◌≡◌, refl, sym, ap, ap₂, ◌∙◌, subst}
use mathlib.Core.List.{List, [], ◌++◌, map, append_assoc}
use mathlib.Core.Bool.{true}
use Prim.Native.Nat.{ℕ, ◌+◌, ◌*◌, ◌-◌, ◌/◌, ◌≤◌}
use native.Mathlib.Omega.{arith}
use lib.ListN.{length, drop, replicate, length-append, length-replicate, replicate-append-replicate}
use Rattle.limits.specs.Test.{total}
use Rattle.octets.specs.Over.{over}
use Rattle.octets.specs.Number.{two, pair, Octets}
use Rattle.octets.proofs.Laws.{over_at}
use Rattle.table.specs.Change.{with_stations}
use Rattle.table.specs.Table.{Station, Table, held, plan_ok, bodies, entries, head, image}
use Rattle.table.specs.Memory.{table_of}
use Rattle.table.proofs.Stations.{length_bodies}
use Rattle.table.proofs.Shares.{plan_of}
use Rattle.table.proofs.Parse.{Good, Laid, passed, printed, holds}
use Rattle.table.proofs.Cut.{head_over}
use Rattle.registry.specs.Effect.{holding}
use Rattle.registry.specs.Registry.{room_tests}
use Rattle.registry.specs.History.{holding_of}
use Rattle.registry.proofs.Batches.{Ready, own_tests_ready, room_settings}
use Rattle.batch_records.specs.Records.{records_in, requests_in}
use Rattle.layout.specs.Layout.{most_places, most_stations, points_offset, capacity_in, stations_in, points_in, stations_from, size_in}
use Rattle.sorting.specs.Sorted.{All, sorted}
use Rattle.merging.specs.Merge.{merged, first_places, Placed, with_places, places_octets, Rises, placed_from, numbers_from, placed_of, Fits}
use Rattle.merging.proofs.Joined.{join_sorted}
use Rattle.batch_room.specs.Room.{holding_with, TookIn}
use Rattle.batch.specs.Raise.{AllPass, raised, Raisable}
use Rattle.batch.proofs.Flat.{flat, flat_octets, flat_read, flat_rises}
use Rattle.batch.proofs.Ordered.{fits_all, apart_all, batch_numbers, batch_places}
use Rattle.batch.proofs.Raised.{same_stations, raise_entries, raisable_entries}

-- ---- the image, part by part

module _ (t : Table) (n c : ℕ) (ss ss' : List Station) (rest : List ℕ) (count : total held ss ≡ n) (more : total held ss' ≡ n + c) (room : n + c ≤ t.capacity) where
  abbrev k : ℕ
  k = t.capacity

  -- all that lies before the stations, with the new places
  front : List ℕ
  front = head t.settings k (length ss) n ++ (bodies ss' ++ replicate (48 * (k - (n + c))) 0)

  -- it ends where the stations begin
  front_length : length front ≡ 64 + 48 * k
  unfolding front
  front_length =
      let B : List ℕ = bodies ss' in
      let Z : List ℕ = replicate (48 * (k - (n + c))) 0 in
      let lb : length B ≡ 48 * (n + c) = length_bodies ss' ∙ ap (λ (x : ℕ). 48 * x) more in
      let lz : length Z ≡ 48 * (k - (n + c)) = length-replicate (48 * (k - (n + c))) 0 in
      let l : length (B ++ Z) ≡ length B + length Z = length-append B Z in
      length-append (head t.settings k (length ss) n) (B ++ Z) ∙ (omega arith)

  -- The new places written over the old ones and the unused places that they take.
  places_over : over (image (with_stations ss t) ++ rest) 64 (bodies ss') ≡ front ++ (entries ss ++ rest)
  unfolding front image
  places_over =
      let H : List ℕ = head t.settings k (length ss) n in
      let B : List ℕ = bodies ss in
      let B' : List ℕ = bodies ss' in
      let Z : List ℕ = replicate (48 * c) 0 in
      let Z' : List ℕ = replicate (48 * (k - (n + c))) 0 in
      let R : List ℕ = entries ss ++ rest in
      let f : 48 * (k - n) ≡ 48 * c + 48 * (k - (n + c)) = omega arith in
      let z : replicate {A = ℕ} (48 * (k - n)) 0 ≡ Z ++ Z' =
      ap (λ (x : ℕ). replicate {A = ℕ} x 0) f ∙ sym (replicate-append-replicate (48 * c) (48 * (k - (n + c))) 0) in
      let lb : length B ≡ 48 * n = length_bodies ss ∙ ap (λ (x : ℕ). 48 * x) count in
      let lb' : length B' ≡ 48 * (n + c) = length_bodies ss' ∙ ap (λ (x : ℕ). 48 * x) more in
      let lz : length Z ≡ 48 * c = length-replicate (48 * c) 0 in
      let lbz : length (B ++ Z) ≡ length B + length Z = length-append B Z in
      let e : image_of n (replicate (48 * (k - n)) 0) ≡ H ++ ((B ++ Z) ++ (Z' ++ R)) =
      ap (image_of n) z ∙ simp append_assoc in
      (λ j. over (image_of (count j) (replicate (48 * (k - count j)) 0)) 64 B')
      ∙ ap (λ (x : List ℕ). over x 64 B') e
      ∙ over_at H (B ++ Z) (Z' ++ R) B' 64 refl (omega arith)
      ∙ simp append_assoc
    where
      image_of : ℕ → List ℕ → List ℕ
      image_of x z = (head t.settings k (length ss) x ++ (bodies ss ++ (z ++ entries ss))) ++ rest

  -- Places, stations and the number of points written: the image of the table that holds more.
  pub stored_image : (taken : List ℕ) → map holding_of ss' ≡ holding_with ss taken 0
      → over (raised (over (image (with_stations ss t) ++ rest) 64 (bodies ss')) taken 0 (64 + 48 * k) (length ss)) 8 (pair (n + c))
      ≡ image (with_stations ss' t) ++ rest
  unfolding front image
  stored_image taken e =
      let S : ℕ = length ss in
      let B : List ℕ = bodies ss' in
      let Z : List ℕ = replicate (48 * (k - (n + c))) 0 in
      let E : List ℕ = entries ss' in
      let s : S ≡ length ss' = sym (same_stations ss ss' taken 0 e) in
      ap (λ (x : List ℕ). over (raised x taken 0 (64 + 48 * k) S) 8 (pair (n + c))) places_over
      ∙ ap (λ (x : List ℕ). over x 8 (pair (n + c))) (raise_entries front rest ss ss' taken 0 (64 + 48 * k) front_length e ∙ append_assoc (head t.settings k S n) (B ++ Z) (E ++ rest))
      ∙ head_over t.settings k S n (n + c) ((B ++ Z) ++ (E ++ rest))
      ∙ (λ j. head t.settings k (s j) (sym more j) ++ ((B ++ replicate (48 * (k - sym more j)) 0) ++ (E ++ rest)))
      ∙ simp append_assoc

  -- What raising the stations' numbers asks.
  pub stored_raisable : (taken : List ℕ) (low : ℕ) → k ≤ 4096 → map holding_of ss' ≡ holding_with ss taken 0 → plan_ok k low ss' ≡ true
      → Raisable (over (image (with_stations ss t) ++ rest) 64 (bodies ss')) taken 0 (64 + 48 * k) (length ss)
  stored_raisable taken low h e p =
      subst (λ (x : List ℕ). Raisable x taken 0 (64 + 48 * k) (length ss)) (sym places_over) (raisable_entries front rest k low ss ss' taken 0 (64 + 48 * k) front_length h p e)

-- ---- a memory that holds a table

-- The memory with the places of the records all_merged among its own.
abbrev pub all_merged : List ℕ → List ℕ → List ℕ
all_merged m r = merged m r (sorted (numbers_from r 0 (records_in r))) (points_in m)

-- What storing an accepted batch asks at each step, and the memory that it leaves.
pub record Storable (m r taken : List ℕ) : Type 0 where
  pub stations : stations_in m ≤ most_stations
  pub length_is : size_in m ≤ length m
  pub capacity : capacity_in m ≤ most_places
  pub free : points_in m + records_in r ≤ capacity_in m
  pub rises : Rises 0 (first_places m (points_in m))
  pub records : All (Fits r) (numbers_from r 0 (records_in r))
  pub raisable : Raisable (all_merged m r) taken 0 (stations_from m) (stations_in m)
  pub memory : over (raised (all_merged m r) taken 0 (stations_from m) (stations_in m)) points_offset (pair (points_in m + records_in r))
      ≡ holding m (table_of m) (room_tests (table_of m) 0 (requests_in r)).after

-- An accepted batch can be stored.
pub storable : (m r taken : List ℕ) → Octets m → AllPass m r → TookIn (table_of m) (requests_in r) taken → Storable m r taken
storable m r taken o (w, own, room) took =
    let t : Table = table_of m in
    let T : Table = (room_tests t 0 (requests_in r)).after in
    let c : ℕ = length r / 24 in
    let g : Good t = (holds m o w).0 in
    let l : Laid m t = (holds m o w).1 in
    let k4 : two m 4 ≡ t.capacity = l.is_k in
    let k6 : two m 6 ≡ length t.stations = l.is_s in
    let k8 : two m 8 ≡ total held t.stations = l.is_n in
    let ready : Ready t (requests_in r) = (own_tests_ready t [] 0 (requests_in r) own).0 in
    let n = batch_numbers r t 0 0 c g ready room in
    let cap : T.capacity ≡ t.capacity = n.1 in
    let more : total held T.stations ≡ total held t.stations + c = n.2 in
    let most : total held T.stations ≤ T.capacity = n.0.few in
    let high : t.capacity ≤ 4096 = g.k_high in
    let fits : total held t.stations + c ≤ t.capacity = omega arith in
    let few : 0 + c ≤ 4096 = omega arith in
    let apart = apart_all r t 0 0 c refl few ready in
    let rest : List ℕ = drop (length (image t)) m in
    let read : placed_from m 64 (two m 8) ≡ flat t.stations = ap (placed_from m 64) k8 ∙ flat_read m 64 t.stations l.places in
    let places : places_octets (with_places (placed_of r) (placed_from m 64 (two m 8)) (sorted (numbers_from r 0 c))) ≡ bodies T.stations =
    ap places_octets (ap (λ (x : List Placed). with_places (placed_of r) x (sorted (numbers_from r 0 c))) read ∙ join_sorted (placed_of r) (flat t.stations) (numbers_from r 0 c) apart
    ∙ sym (batch_places r t 0 0 c refl few g ready room apart)) ∙ flat_octets T.stations in
    let is_image : m ≡ image t ++ rest = printed m o (passed m w) in
    let new : all_merged m r ≡ over (image t ++ rest) 64 (bodies T.stations) = ap₂ (λ (x y : List ℕ). over x 64 y) is_image places in
    let lines = took room in
    let whole : 64 + 48 * two m 4 + 8 * two m 6 ≤ length m = (passed m w).top.room in
    let room-records : 24 * (0 + c) ≤ length r = omega arith in
    let raises : Raisable (over (image t ++ rest) 64 (bodies T.stations)) taken 0 (64 + 48 * t.capacity) (length t.stations) =
    stored_raisable t (total held t.stations) c t.stations T.stations rest refl more fits taken 1 high lines (ap (λ (x : ℕ). plan_ok x 1 T.stations) (sym cap) ∙ n.0.plan) in
    let image-is = stored_image t (total held t.stations) c t.stations T.stations rest refl more fits taken lines in
    record {
      stations = (passed m w).top.s_high;
      length_is = whole;
      capacity = (passed m w).top.k_high;
      free = omega arith;
      rises = subst (Rises 0) (sym read) (flat_rises t.capacity t.stations (plan_of _ _ _ g.plan).0 g.rises);
      records = fits_all r t 0 0 c refl few room-records ready;
      raisable = subst (λ (x : ℕ). Raisable (all_merged m r) taken 0 (64 + 48 * two m 4) x) (sym k6)
          (subst (λ (x : ℕ). Raisable (all_merged m r) taken 0 (64 + 48 * x) (length t.stations)) (sym k4)
          (subst (λ (x : List ℕ). Raisable x taken 0 (64 + 48 * t.capacity) (length t.stations)) (sym new) raises));
      memory = (λ j. over (raised (new j) taken 0 (64 + 48 * k4 j) (k6 j)) 8 (pair (k8 j + c)))
          ∙ image-is
          ∙ (λ j. image (record { settings = sym (room_settings t 0 (requests_in r)) j; capacity = sym cap j; stations = T.stations }) ++ rest);
    }
