-- One update after another, as the code goes: what one stores and tells, what a skipped one leaves, and the turns of the two loops. Assumes nothing.
use mathlib.Core.Path.{◌≡◌, refl, sym, ap, ap₂, ◌∙◌, subst}
use mathlib.Core.List.{List, [], ◌∷◌, ◌++◌}
use mathlib.Core.Bool.{true}
use mathlib.Core.Option.{Option, some}
use Prim.Native.Nat.{ℕ, suc, ◌+◌, ◌*◌, ◌-◌, ◌≤◌, ◌<◌}
use native.Mathlib.Omega.{arith}
use lib.ListN.{length, take, drop, get_or, length-append, take-append-drop}
use lib.Seq.{drop-append_seam}
use Rattle.std.specs.Prelude.{Some, None}
use Rattle.limits.specs.Test.{total}
use Rattle.limits.specs.Size.{point_octets}
use Rattle.limits.proofs.Sizes.{point_at_most}
use Rattle.octets.specs.Over.{over}
use Rattle.octets.specs.Number.{two, three, Octets}
use Rattle.model.specs.declared.Point.{Point}
use Rattle.model.specs.Place.{point_at}
use Rattle.table.specs.Table.{Table, image}
use Rattle.table.specs.Memory.{table_of, well_formed, parse}
use Rattle.table.proofs.Parse.{Good, is_good, passed, printed, holds, parsed, parse_complete}
use Rattle.octets.proofs.Log.{Log, log_step, log_room, log_end}
use Rattle.registry.specs.Effect.{holding}
use Rattle.asdu.specs.Cause.{spontaneous}
use Rattle.asdu.specs.Header.{asdu_octets, wire}
use Rattle.asdu.proofs.Laws.{wire_none, wire_one, wire_append}
use Rattle.report.specs.Single.{single}
use Rattle.answers.specs.Said.{size}
use Rattle.answers.specs.Process.{Update, update_octets, update_type_offset, update_value_offset, update_at, updates_at, update_of, table_with, table_after, told_of, told_by, revalued}
use Rattle.answers.proofs.Values.{point_in_lem}
use Rattle.answers.proofs.Quiet.{updates_whole, update_still}
use Rattle.updates.specs.Updates.{target_at, stored, told_one, left_one, told_by_all, left_by_all, Applies}
use Rattle.updates.proofs.Meant.{target_place, target_skipped}
use Rattle.updates.proofs.Stored.{stored_image}
use Rattle.updates.proofs.Told.{element_part, length_told}
use Rattle.updates.proofs.Sizes.{octets_told, length_told_by}

-- ---- one update

module _ (m us : List ℕ) (at : ℕ) (o : Octets m) (w : well_formed m ≡ true) where
  -- Skipped: nothing is told, and the memory is as it was.
  pub skipped_told : target_at m (update_at us at) ≡ None → told_one m us at ≡ []
  unfolding told_of
  skipped_told e = ap (λ (x : Option Point). wire (told_of (update_at us at) x)) (target_skipped m (update_at us at) o w e) ∙ wire_none

  pub skipped_left : target_at m (update_at us at) ≡ None → m ≡ left_one m us at
  unfolding table_with
  skipped_left e =
      printed m o (passed m w) ∙ ap (λ (x : Option Point). holding m (table_of m) (table_with (table_of m) (update_at us at) x)) (sym (target_skipped m (update_at us at) o w e))

  module _ (place : ℕ) (e : target_at m (update_at us at) ≡ Some place) where
    -- The place lies in the memory.
    pub place_inside : place + 48 ≤ length m
    place_inside = (target_place m (update_at us at) o w place e).inside

    found_ioa : (point_at m place).ioa ≡ three us (at + 2)
    found_ioa = let d = target_place m (update_at us at) o w place e in (point_in_lem 0 (update_at us at).ioa d.station.points (point_at m place) d.rises d.is_point).1

    -- So many octets are told.
    pub place_length : length (told_one m us at) ≡ 9 + point_octets (get_or us (at + update_type_offset) 0)
    place_length =
        let d = target_place m (update_at us at) o w place e in
        ap (λ (x : Option Point). size (told_of (update_at us at) x)) d.update
        ∙ length_told (update_at us at) (point_at m place) refl
        ∙ ap (λ (k : ℕ). 9 + point_octets k) d.is_kind

    -- What is stored leaves the image of the table with the new value, and the point at the place is the one that is told.
    stored_both : at + update_octets ≤ length us → (stored m place (get_or us (at + update_type_offset) 0) us (at + update_value_offset) ≡ left_one m us at)
        × (point_at (stored m place (get_or us (at + update_type_offset) 0) us (at + update_value_offset)) place ≡ revalued (point_at m place) (update_at us at).value)
    unfolding stored table_with
    stored_both h =
        let d = target_place m (update_at us at) o w place e in
        let t : Table = table_of m in
        let q : Point = point_at m place in
        let v : List ℕ = (update_at us at).value in
        let rest : List ℕ = drop (length (image t)) m in
        let x : take (point_octets (get_or us (at + update_type_offset) 0)) (drop (at + update_value_offset) us) ≡ take (point_octets q.kind) v =
        element_part us (at + update_value_offset) (point_octets (get_or us (at + update_type_offset) 0)) (omega arith) (point_at_most (get_or us (at + update_type_offset) 0))
        ∙ ap (λ (k : ℕ). take (point_octets k) v) (sym d.is_kind) in
        let b = stored_image t rest (update_at us at).ca (update_at us at).ioa d.station d.found q v place d.rises d.is_point found_ioa refl d.place in
        let s = ap₂ (λ (y z : List ℕ). over y (place + 10) z) (printed m o (passed m w)) x ∙ b.0 in
        (s ∙ ap (λ (y : Option Point). holding m t (table_with t (update_at us at) y)) (sym d.update), ap (λ (y : List ℕ). point_at y place) s ∙ b.1)

    pub place_left : at + update_octets ≤ length us → stored m place (get_or us (at + update_type_offset) 0) us (at + update_value_offset) ≡ left_one m us at
    place_left h = (stored_both h).0

    pub place_told : at + update_octets ≤ length us
        → asdu_octets (single spontaneous (two us at) (point_at (stored m place (get_or us (at + update_type_offset) 0) us (at + update_value_offset)) place)) ≡ told_one m us at
    unfolding told_of
    place_told h =
        let d = target_place m (update_at us at) o w place e in
        ap (λ (p : Point). asdu_octets (single spontaneous (two us at) p)) (stored_both h).1
        ∙ sym (ap (λ (x : Option Point). wire (told_of (update_at us at) x)) d.update ∙ wire_one _)

-- ---- the loop that sizes: of n updates the first i are done

updates_on : (us : List ℕ) (n i : ℕ) → i < n → updates_at us (update_octets * i) (n - i) ≡ update_at us (update_octets * i) ∷ updates_at us (update_octets * (i + 1)) (n - (i + 1))
unfolding updates_at
updates_on us n i h =
    let e : n - i ≡ suc (n - (i + 1)) = omega arith in
    let f : update_octets * i + update_octets ≡ update_octets * (i + 1) = omega arith in
    ap (updates_at us (update_octets * i)) e ∙ ap (λ (x : ℕ). update_at us (update_octets * i) ∷ updates_at us x (n - (i + 1))) f

updates_end : (us : List ℕ) (n i : ℕ) → n ≤ i → updates_at us (update_octets * i) (n - i) ≡ []
unfolding updates_at
updates_end us n i h = let e : n - i ≡ 0 = omega arith in ap (updates_at us (update_octets * i)) e

-- before the first
updates_start : (us : List ℕ) (n : ℕ) → updates_at us 0 n ≡ updates_at us (update_octets * 0) (n - 0)
updates_start us n = let e : n ≡ n - 0 = omega arith in ap (updates_at us 0) e

-- What is told of the updates that are left, one after another.
abbrev pub size_left : List ℕ → List ℕ → ℕ → ℕ → ℕ
size_left m us n i = octets_told (table_of m) (updates_at us (update_octets * i) (n - i))

pub size_on : (m us : List ℕ) (n i : ℕ) → i < n → size_left m us n i ≡ length (told_one m us (update_octets * i)) + size_left m us n (i + 1)
unfolding octets_told total
size_on m us n i h = ap (octets_told (table_of m)) (updates_on us n i h)

pub size_end : (m us : List ℕ) (n i : ℕ) → n ≤ i → size_left m us n i ≡ 0
unfolding octets_told total
size_end m us n i h = ap (octets_told (table_of m)) (updates_end us n i h)

-- What was added up is the length of all that will be told.
pub size_all : (m us : List ℕ) (n : ℕ) → length (told_by_all m us 0 n) ≡ size_left m us n 0
size_all m us n = length_told_by (table_of m) (updates_at us 0 n) (updates_whole us 0 n) ∙ ap (octets_told (table_of m)) (updates_start us n)

-- ---- the loop that stores and tells

-- After one of them the memory is well formed, and the rest go on from there.
pub record Turned (m us : List ℕ) (n i : ℕ) (m' : List ℕ) : Type 0 where
  pub formed : well_formed m' ≡ true
  pub leaves : left_by_all m us (update_octets * i) (n - i) ≡ left_by_all m' us (update_octets * (i + 1)) (n - (i + 1))
  pub tells : told_by_all m us (update_octets * i) (n - i) ≡ told_one m us (update_octets * i) ++ told_by_all m' us (update_octets * (i + 1)) (n - (i + 1))

pub turned : (m us : List ℕ) (n i : ℕ) (m' : List ℕ) → Octets m → well_formed m ≡ true → i < n → m' ≡ left_one m us (update_octets * i) → Turned m us n i m'
unfolding table_after told_by
turned m us n i m' o w h e =
    let t : Table = table_of m in
    let u : Update = update_at us (update_octets * i) in
    let t' : Table = table_with t u (update_of t u) in
    let g : Good t' = (update_still t u refl).is_good (holds m o w).0 in
    let p : parse m' ≡ some t' = ap parse e ∙ parse_complete t' (drop (length (image t)) m) (is_good t' g) in
    let f = parsed m' t' p in
    let s : updates_at us (update_octets * i) (n - i) ≡ u ∷ updates_at us (update_octets * (i + 1)) (n - (i + 1)) = updates_on us n i h in
    let past : drop (length (image t')) m' ≡ drop (length (image t)) m = ap (drop (length (image t'))) e ∙ drop-append_seam (image t') (drop (length (image t)) m) in
    record {
      formed = f.0;
      leaves =
          ap (λ (x : List Update). holding m t (table_after t x)) s
          ∙ ap (λ (y : List ℕ). image (table_after t' (updates_at us (update_octets * (i + 1)) (n - (i + 1)))) ++ y) (sym past)
          ∙ ap (λ (x : Table). holding m' x (table_after x (updates_at us (update_octets * (i + 1)) (n - (i + 1))))) (sym f.1);
      tells =
          ap (λ (x : List Update). wire (told_by t x)) s
          ∙ wire_append _ _
          ∙ ap (λ (x : Table). told_one m us (update_octets * i) ++ wire (told_by x (updates_at us (update_octets * (i + 1)) (n - (i + 1))))) (sym f.1);
    }

-- With none left the memory is as it was, and nothing is told.
pub left_end : (m us : List ℕ) (n i : ℕ) → Octets m → well_formed m ≡ true → n ≤ i → m ≡ left_by_all m us (update_octets * i) (n - i)
unfolding table_after
left_end m us n i o w h = printed m o (passed m w) ∙ ap (λ (x : List Update). holding m (table_of m) (table_after (table_of m) x)) (sym (updates_end us n i h))

pub told_end : (m us : List ℕ) (n i : ℕ) → n ≤ i → told_by_all m us (update_octets * i) (n - i) ≡ []
unfolding told_by
told_end m us n i h = ap (λ (x : List Update). wire (told_by (table_of m) x)) (updates_end us n i h) ∙ wire_none

-- Where the loop stands: the memory holds a table, what is left to do makes of it what all updates make of the first, and so with what is told.
pub record Going (m₀ us : List ℕ) (n : ℕ) (s₀ m s : List ℕ) (o i : ℕ) : Type 0 where
  pub octets : Octets m
  pub formed : well_formed m ≡ true
  pub same : length m ≡ length m₀
  pub leaves : left_by_all m₀ us 0 n ≡ left_by_all m us (update_octets * i) (n - i)
  pub log : Log s₀ 0 (told_by_all m₀ us 0 n) s o (told_by_all m us (update_octets * i) (n - i))

module _ (m₀ us : List ℕ) (n : ℕ) (s₀ m s : List ℕ) (o i : ℕ) (g : Going m₀ us n s₀ m s o i) where
  -- The next ASDU has room.
  pub going_room : i < n → length (told_by_all m₀ us 0 n) ≤ length s₀ → o + length (told_one m us (update_octets * i)) ≤ length s
  going_room h r =
      let t = turned m us n i (left_one m us (update_octets * i)) g.octets g.formed h refl in
      let a : o + length (told_by_all m us (update_octets * i) (n - i)) ≤ length s = log_room s₀ (told_by_all m₀ us 0 n) s (told_by_all m us (update_octets * i) (n - i)) 0 o g.log (omega arith) in
      let b : length (told_by_all m us (update_octets * i) (n - i)) ≡ length (told_one m us (update_octets * i)) + length (told_by_all (left_one m us (update_octets * i)) us (update_octets * (i + 1)) (n - (i + 1))) =
      ap length t.tells ∙ length-append (told_one m us (update_octets * i)) (told_by_all (left_one m us (update_octets * i)) us (update_octets * (i + 1)) (n - (i + 1))) in
      omega arith

  -- One turn.
  pub going_on : (m' s' : List ℕ) (o' : ℕ) → i < n → length (told_by_all m₀ us 0 n) ≤ length s₀ → Octets m' → length m' ≡ length m
      → o' ≡ o + length (told_one m us (update_octets * i)) → m' ≡ left_one m us (update_octets * i) → s' ≡ over s o (told_one m us (update_octets * i)) → Going m₀ us n s₀ m' s' o' (i + 1)
  going_on m' s' o' h r oc l eo em es =
      let t = turned m us n i m' g.octets g.formed h em in
      let A : List ℕ = told_one m us (update_octets * i) in
      let todo : List ℕ = told_by_all m' us (update_octets * (i + 1)) (n - (i + 1)) in
      let all : List ℕ = told_by_all m₀ us 0 n in
      let before : Log s₀ 0 all s o (A ++ todo) = subst (λ (x : List ℕ). Log s₀ 0 all s o x) t.tells g.log in
      let on : Log s₀ 0 all (over s o A) (o + length A) todo = log_step s₀ all s A todo 0 o before (going_room h r) in
      record {
        octets = oc;
        formed = t.formed;
        same = l ∙ g.same;
        leaves = g.leaves ∙ t.leaves;
        log = subst (λ (x : List ℕ). Log s₀ 0 all x o' todo) (sym es) (subst (λ (x : ℕ). Log s₀ 0 all (over s o A) x todo) (sym eo) on);
      }

  -- None left: all is stored and told.
  pub going_end : n ≤ i → Applies (left_by_all m₀ us 0 n) (told_by_all m₀ us 0 n) s₀ 0 o m s
  going_end h =
      let all : List ℕ = told_by_all m₀ us 0 n in
      let e = log_end s₀ all s 0 o (subst (λ (x : List ℕ). Log s₀ 0 all s o x) (told_end m us n i h) g.log) (omega arith) in
      record { memory = left_end m us n i g.octets g.formed h ∙ sym g.leaves; output = e }

-- Nothing written leaves a memory as it was.
pub over_none : (m : List ℕ) (o : ℕ) → m ≡ over m o []
unfolding over
over_none m o = let z : o + 0 ≡ o = omega arith in sym (ap (λ (n : ℕ). take o m ++ drop n m) z ∙ take-append-drop o m)
