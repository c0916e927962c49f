-- Every answer has far fewer octets than 2^32: thirty types, at most 4,096 points, at most 127 objects in an ASDU.
-- Assumes nothing.
use Prim.Native.Nat.{ℕ, zero, suc, ◌+◌, ◌*◌, ◌-◌, ◌≤◌, ◌<◌}
use mathlib.Core.Path.{◌≡◌, refl, ap, ◌∙◌, subst}
use mathlib.Core.List.{List, [], ◌∷◌, ◌++◌, map}
use mathlib.Core.Bool.{Bool, true, false, ◌||◌, not}
use mathlib.Core.Option.{Option, none, some}
use native.Mathlib.Omega.{arith}
use native.Mathlib.Nat.{mul-le-mul_right, div-le_self, min-le_right}
use lib.ListN.{length, length-append}
use lib.Dec.{eqb}
use borrow.Author.Tests.{eqb-false}
use Rattle.limits.specs.Test.{◌&◌, pick, total}
use Rattle.std.specs.Prelude.{Ok, Err, Some, None}
use Rattle.limits.specs.declared.outcome.Refusal.{Refusal}
use Rattle.limits.specs.Outcome.{Outcome, done, is_done}
use Rattle.limits.specs.declared.outcome.Refusal.TheVariants.{Silent, BadProposal}
use Rattle.asdu.specs.Command.{Reading, read_as}
use Rattle.asdu.specs.declared.command.Unread.TheVariants.{LengthOutOfRange, TypeNotServed, ObjectsNotWhole}
use Rattle.octets.specs.Number.{Octets}
use Rattle.limits.specs.Size.{point_octets, most_objects, asdus_of, run_octets, header_octets, address_octets}
use Rattle.limits.proofs.Sizes.{point_at_most}
use Rattle.limits.proofs.Tests.{both, total_append}
use Rattle.model.specs.declared.Point.{Point}
use Rattle.table.specs.Table.{Station, Table, held, all_rising}
use Rattle.table.specs.Settings.{limit_of}
use Rattle.table.specs.Change.{station_of, point_in}
use Rattle.table.specs.Memory.{parse}
use Rattle.table.proofs.Parse.{Good, good_is, is_good, parse_sound}
use Rattle.table.proofs.Settings.{limit_least, limit_most}
use Rattle.table.proofs.Change.{station_found, station_rises}
use Rattle.asdu.specs.declared.command.Command.{Command}
use Rattle.asdu.specs.declared.command.Entry.TheVariants.{SystemCommands}
use Rattle.asdu.proofs.Reading.{WellRead, parsed_is}
use Rattle.asdu.specs.Confirmation.{confirmation, echo}
use Rattle.asdu.proofs.Laws.{wire_none, wire_one, wire_append}
use Rattle.asdu.proofs.Lengths.{confirmation_fits, echo_fits}
use Rattle.report.specs.declared.Selection.{Selection}
use Rattle.report.specs.Packing.{selected, joined, Each}
use Rattle.report.specs.Selection.{selects, interrogation_types, interrogation_types_of, counter_types}
use Rattle.report.specs.Report.{of_kind, report}
use Rattle.report.specs.Order.{points_of, all_points, by_address, points_for}
use Rattle.asdu.specs.Header.{Asdu, global_address, asdu_octets, wire}
use Rattle.report.proofs.Packing.{length_joined}
use Rattle.report.proofs.Each.{each_append, each_selected}
use Rattle.report.proofs.Order.{length_sorted, sorted_each}
use Rattle.report.specs.Single.{requested_asdu, end_of_initialization_asdu, station_common_address}
use Rattle.report.proofs.Report.{Whole, length_report}
use Rattle.report.proofs.Single.{length_single, length_end}
use Rattle.answers.specs.System.{qualifier_of, confirmed, denied, echoed, terminated, reported, answer_to, interrogation_answer, counter_answer, counter_cause, chosen, interrogated, addresses_in, points_asked, points_read, read_answer, interrogation_type, counters_type, read_type, command_said, cause_taken, is_silent, system_from}
use Rattle.answers.specs.Choice.{Choice}
use Rattle.answers.specs.Said.{Said, Lent, size, unsaid, outcome_with, answered_from, answered_on}
use Rattle.answers.specs.Process.{Proposal, proposal_ok, process_cause_taken, process_reply, told_by, table_after, read_updates, process_from}
use Rattle.faithful.proofs.Theorem.{rising_whole}
use Rattle.commands.specs.Entry.{proposal_of}
use Rattle.answers.proofs.Proposals.{most_reply, whole_reply, length_confirmed}
use Rattle.khuvelter.specs.Interface.{narrowed, is_set}
use Rattle.khuvelter.specs.Calls.{Question, said_by}
use Rattle.khuvelter.specs.Calls.Question.{connection_started, system, process}
use Rattle.khuvelter.proofs.Whole.{whole}

-- A run of at most 4,096 objects.
run_small : (limit element n : ℕ) → element ≤ 12 → n ≤ 4096 → run_octets limit element n ≤ 100000
run_small limit element n e h =
    let most : most_objects limit element ≤ 127 = min-le_right _ _ in
    let d : asdus_of (most_objects limit element) n ≤ n + (most_objects limit element - 1) = div-le_self _ _ in
    let p : n * (3 + element) ≤ 4096 * (3 + element) = mul-le-mul_right (3 + element) h in
    omega arith

-- Runs of types, each so.
runs_small : (f : ℕ → ℕ) → ((kind : ℕ) → f kind ≤ 100000) → (types : List ℕ) → total f types ≤ 100000 * length types
unfolding total
runs_small f h [] = omega arith
runs_small f h (k ∷ ks) =
    let one = h k in
    let rest = runs_small f h ks in
    omega arith

-- What passes a test is no longer than the whole.
selected_shorter : {A : Type 0} (test : A → Bool) (xs : List A) → length (selected test xs) ≤ length xs
unfolding selected
selected_shorter test [] = omega arith
selected_shorter test (x ∷ xs) = by_test (selected_shorter test xs) (test x)
  where
    by_test : length (selected test xs) ≤ length xs → (b : Bool) → length (pick b (x ∷ selected test xs) (selected test xs)) ≤ suc (length xs)
    by_test ih true = omega arith
    by_test ih false = omega arith

-- A station of a good table has at most 4,096 points.
station_small : (t : Table) (ca : ℕ) (s : Station) → Good t → station_of ca t.stations ≡ some s → length s.points ≤ 4096
unfolding total
station_small t ca s g e =
    let w = station_found ca t.stations s e in
    let a : total held t.stations ≡ total held w.before + (length s.points + total held w.after) = ap (total held) w.split ∙ total_append held w.before (s ∷ w.after) in
    let few = g.few in
    let k = g.k_high in
    omega arith

-- The report of at most 4,096 points, by at most thirty types.
report_small : (limit : ℕ) → 25 ≤ limit → (types : List ℕ) (cause ca : ℕ) (ps : List Point) → length types ≤ 30 → Each Whole ps → length ps ≤ 4096
    → size (report limit types cause ca ps) ≤ 3000000
report_small limit least types cause ca ps few w h =
    let l = length_report limit (omega arith) types cause ca ps w in
    let b = runs_small (λ kind. run_octets limit (point_octets kind) (length (of_kind kind ps)))
    (λ kind.
    let q = selected_shorter (λ (x : Point). eqb x.kind kind) ps in
    run_small limit (point_octets kind) (length (of_kind kind ps)) (point_at_most kind) (omega arith)) types in
    omega arith

-- ---- the points of a good table

-- Points as described have twelve octets, and there are at most 4,096.
record Few (ps : List Point) : Type 0 where
  are_whole : Each Whole ps
  few : length ps ≤ 4096

few_selected : (test : Point → Bool) (ps : List Point) → Few ps → Few (selected test ps)
few_selected test ps f =
    let s = selected_shorter test ps in
    let n = f.few in
    record { are_whole = each_selected Whole test ps f.are_whole; few = omega arith }

few_own : (t : Table) (ca : ℕ) → Good t → (o : Option Station) → station_of ca t.stations ≡ o → Few (points_of o)
unfolding Each
few_own t ca g none e = record { are_whole = tt; few = omega arith }
few_own t ca g (some s) e =
    record { are_whole = rising_whole 0 s.points (station_rises t ca s g (station_found _ _ _ e)); few = station_small t ca s g e }

all_whole : (ss : List Station) → all_rising ss ≡ true → Each Whole (joined (λ s. s.points) ss)
unfolding all_rising joined Each
all_whole [] e = tt
all_whole (s ∷ ss) e = each_append Whole s.points (joined (λ s. s.points) ss) (rising_whole 0 s.points (both _ _ e).0) (all_whole ss (both _ _ e).1)

few_all : (t : Table) → Good t → Few (by_address (all_points t.stations))
unfolding all_points
few_all t g =
    let l = length_sorted (λ (p : Point). p.ioa) (joined (λ s. s.points) t.stations) in
    let n = length_joined (λ (s : Station). s.points) t.stations in
    let few = g.few in
    let k = g.k_high in
    record { are_whole = sorted_each (λ (p : Point). p.ioa) Whole (joined (λ s. s.points) t.stations) (all_whole t.stations g.rises); few = omega arith }

few_for : (t : Table) (ca : ℕ) → Good t → Few (points_for ca t.stations)
unfolding points_for
few_for t ca g = by_test (eqb ca global_address)
  where
    by_test : (b : Bool) → Few (pick b (by_address (all_points t.stations)) (points_of (station_of ca t.stations)))
    by_test true = few_all t g
    by_test false = few_own t ca g (station_of ca t.stations) refl

thirty : (t : Table) → length (interrogation_types_of t) ≤ 30
unfolding interrogation_types interrogation_types_of
thirty t = omega arith

ne_zero : (n : ℕ) → (n ≡ 0 → ⊥) → 0 < n
ne_zero zero h = absurd (h refl)
ne_zero (suc n) h = omega arith

-- ---- the points of a read command

-- What is found among points of which something holds is such a point.
each_found : (P : Point → Type 0) (ioa : ℕ) (ps : List Point) (p : Point) → Each P ps → point_in ioa ps ≡ some p → P p
unfolding Each point_in
each_found P ioa [] p h e = let z : ◌≡◌ {A = ℕ} 0 1 = cc in absurd (omega arith)
each_found P ioa (q ∷ qs) p h e = by_test (each_found P ioa qs p h.1) (eqb q.ioa ioa) e
  where
    by_test : (point_in ioa qs ≡ some p → P p) → (b : Bool) → pick b (some q) (point_in ioa qs) ≡ some p → P p
    by_test ih true f = let s : q ≡ p = cc in subst P s h.0
    by_test ih false f = ih f

-- Points of twelve octets, at most n of them; or none where an address is missing.
AskedFew : ℕ → Option (List Point) → Type 0
AskedFew n none = Unit
AskedFew n (some qs) = Each Whole qs × (length qs ≤ n)

asked_few : (as' : List ℕ) (ps : List Point) → Each Whole ps → AskedFew (length as') (points_asked as' ps)
unfolding AskedFew points_asked Each
asked_few [] ps w = (tt, omega arith)
asked_few (a ∷ as') ps w = by_point (point_in a ps) refl (points_asked as' ps) refl (asked_few as' ps w)
  where
    by_point : (o : Option Point) → point_in a ps ≡ o → (r : Option (List Point)) → points_asked as' ps ≡ r → AskedFew (length as') r
        → AskedFew (suc (length as')) (points_asked (a ∷ as') ps)
    by_point none e r f ih = simp e tt
    by_point (some p) e none f ih = simp (e, f) tt
    by_point (some p) e (some qs) f ih = simp (e, f) ((each_found Whole a ps p w e, ih.0), omega arith)

addresses_length : (m : List ℕ) (at n : ℕ) → length (addresses_in m at n) ≡ n
unfolding addresses_in
addresses_length m at zero = refl
addresses_length m at (suc n) = ap suc (addresses_length m (at + address_octets) n)

-- An ASDU, and others after it.
size_more : (a : Asdu) (as' : List Asdu) → size (a ∷ as') ≡ length (asdu_octets a) + size as'
unfolding wire joined
size_more a as' = length-append (asdu_octets a) (wire as')

size_one : (a : Asdu) → size (a ∷ []) ≡ length (asdu_octets a)
size_one a = ap length (wire_one a)

size_append : (xs ys : List Asdu) → size (xs ++ ys) ≡ size xs + size ys
size_append xs ys = ap length (wire_append xs ys) ∙ length-append (wire xs) (wire ys)

requested_small : (ca : ℕ) (qs : List Point) → Each Whole qs → size (map (requested_asdu ca) qs) ≤ 21 * length qs
unfolding Each
requested_small ca [] w = let n = ap length wire_none in omega arith
requested_small ca (q ∷ qs) w =
    let l = length_single 5 ca q w.0 in
    let e = point_at_most q.kind in
    let ih = requested_small ca qs w.1 in
    let a = size_more (requested_asdu ca q) (map (requested_asdu ca) qs) in
    omega arith

-- ---- every system command

-- An answer of at most 4,000,000 octets.
pub record Small (s : Said) : Type 0 where
  pub is_small : size s.answer ≤ 4000000

pick_small : (b : Bool) (x y : Said) → Small x → Small y → Small (pick b x y)
pick_small true x y p q = p
pick_small false x y p q = q

two_types : length counter_types ≤ 30
unfolding counter_types
two_types = omega arith

module _ (m : List ℕ) (c : Command) (t : Table) (g : Good t) (w : WellRead (limit_of t) SystemCommands m c) (some-object : 0 < c.count) where
  reply_small : (cause : ℕ) (negative : Bool) → length (asdu_octets (confirmation c m cause negative)) ≤ 249
  reply_small cause negative =
      let most = limit_most t (is_good t g) in
      let l = confirmation_fits (limit_of t) SystemCommands c m cause negative w some-object in
      omega arith

  reported_small : (types : List ℕ) (cause : ℕ) (sel : Selection) → length types ≤ 30 → size (reported t c m types cause sel) ≤ 4000000
  unfolding reported
  reported_small types cause sel few =
      let x : List Asdu = report (limit_of t) types cause c.ca (selected (selects sel) (points_for c.ca t.stations)) in
      let f = few_selected (selects sel) (points_for c.ca t.stations) (few_for t c.ca g) in
      let r = report_small (limit_of t) (limit_least t (is_good t g)) types cause c.ca (selected (selects sel) (points_for c.ca t.stations)) few f.are_whole f.few in
      let one = reply_small 7 false in
      let two = reply_small 10 false in
      let a = size_more (confirmed c m) (x ++ (terminated c m ∷ [])) in
      let b = size_append x (terminated c m ∷ []) in
      let d = size_one (terminated c m) in
      omega arith

  pub answer_small : (types : List ℕ) (cause : ℕ) (x : Choice) → length types ≤ 30 → size (answer_to t c m types cause x) ≤ 4000000
  unfolding answer_to
  answer_small types cause None few =
      let r = reply_small 7 true in
      let d = size_one (denied c m) in
      omega arith
  answer_small types cause (Some sel) few = reported_small types cause sel few

  pub interrogation_small : size (interrogation_answer c m t) ≤ 4000000
  unfolding interrogation_answer
  interrogation_small = answer_small (interrogation_types_of t) (qualifier_of m) (interrogated (qualifier_of m)) (thirty t)

  counter_small : size (counter_answer c m t) ≤ 4000000
  unfolding counter_answer
  counter_small = answer_small counter_types (counter_cause (qualifier_of m)) (chosen (qualifier_of m)) two_types

  echo_small : (cause : ℕ) (negative : Bool) → length (asdu_octets (echo c m cause negative)) ≤ 249
  echo_small cause negative =
      let most = limit_most t (is_good t g) in
      let l = echo_fits (limit_of t) SystemCommands c m cause negative w in
      omega arith

  read_small : (o : Option (List Point)) → AskedFew c.count o → size (read_answer c m o) ≤ 4000000
  unfolding read_answer AskedFew
  read_small none f =
      let e = echo_small 7 true in
      let d = size_one (echoed c m true) in
      omega arith
  read_small (some qs) f =
      let e = echo_small 7 false in
      let r = requested_small c.ca qs f.0 in
      let n = f.1 in
      let few = w.few in
      let a = size_more (echoed c m false) (map (requested_asdu c.ca) qs) in
      omega arith

  -- What a command that is taken says.
  command_small : (clock : List ℕ) → Small (command_said clock m c t)
  unfolding command_said
  command_small clock =
      let asked : AskedFew c.count (points_read c m t) =
      subst (λ (n : ℕ). AskedFew n (points_read c m t)) (addresses_length m header_octets c.count)
      (asked_few (addresses_in m header_octets c.count) (points_of (station_of c.ca t.stations)) (few_own t c.ca g (station_of c.ca t.stations) refl).are_whole) in
      let z = echo_small 7 false in
      let d = size_one (echoed c m false) in
      pick_small (eqb c.kind interrogation_type) _ _ (record { is_small = interrogation_small })
      (pick_small (eqb c.kind counters_type) _ _ (record { is_small = counter_small })
      (pick_small (eqb c.kind read_type) _ _ (record { is_small = read_small _ asked }) (record { is_small = omega arith })))

unsaid_small : (r : Refusal) (t : Table) (clock : List ℕ) → Small (unsaid r t clock)
unsaid_small r t clock = record { is_small = let n = ap length wire_none in omega arith }

-- What any system command says: at most 4,000,000 octets.
system_small : (clock m : List ℕ) (t : Table) → Good t → (r : Reading) → read_as (limit_of t) SystemCommands m ≡ r → Small (system_from clock m r t)
unfolding system_from is_silent
system_small clock m t g (Err unread) e = unsaid_small _ t clock
system_small clock m t g (Ok c) e = by_count (eqb c.count 0) refl
  where
    by_count : (b : Bool) → eqb c.count 0 ≡ b
        → Small (pick (b || (not (cause_taken c.kind c.cause) || (eqb c.kind interrogation_type & eqb (qualifier_of m) 0))) (unsaid Silent t clock) (command_said clock m c t))
    by_count true n = unsaid_small Silent t clock
    by_count false n =
        pick_small (not (cause_taken c.kind c.cause) || (eqb c.kind interrogation_type & eqb (qualifier_of m) 0)) (unsaid Silent t clock) (command_said clock m c t)
        (unsaid_small Silent t clock)
        (command_small m c t g (parsed_is (limit_of t) SystemCommands m c e) (ne_zero c.count (eqb-false _ _ n)) clock)

-- What any process command says to the answer memory.
process_small : (clock : List ℕ) (p : Proposal) (t : Table) → Good t → (r : Reading) → Small (process_from clock p r t)
unfolding process_from
process_small clock p t g (Err unread) = unsaid_small _ t clock
process_small clock p t g (Ok c) =
    pick_small (process_cause_taken c.cause) _ _ (by_proposal (proposal_ok (limit_of t) p.kind p.objects) refl) (unsaid_small Silent t clock)
  where
    by_proposal : (b : Bool) → proposal_ok (limit_of t) p.kind p.objects ≡ b
        → Small (pick b (record { outcome = done; answer = process_reply c p ∷ []; told = told_by t (read_updates p); after = table_after t (read_updates p); clock = clock }) (unsaid BadProposal t clock))
    by_proposal true e =
        let few = most_reply (limit_of t) p.kind p.objects e in
        let most = limit_most t (is_good t g) in
        let l = length_confirmed c p (whole_reply (limit_of t) p.kind p.objects e) in
        let d = size_one (process_reply c p) in
        record { is_small = omega arith }
    by_proposal false e = unsaid_small BadProposal t clock

-- What any question says to a good table.
pub question_small : (q : Question) (clock : List ℕ) (t : Table) → Good t → Small (said_by q clock t)
question_small connection_started clock t g = record { is_small = let l = length_end (station_common_address t.stations) in let d = size_one (end_of_initialization_asdu (station_common_address t.stations)) in omega arith }
question_small (system m) clock t g = system_small clock m t g _ refl
question_small (process m n k r us) clock t g = process_small clock (proposal_of (is_set n) k r us) t g _

-- What is small is reported whole in 32 bits, whatever is said to a good table.
pub small_whole : (f : Table → Said) (l : Lent) → Octets l.table → ((t : Table) → Good t → Small (f t)) → narrowed (answered_on f l).octets ≡ (answered_on f l).octets
unfolding answered_from
small_whole f l o s = of_parsed (parse l.table) refl
  where
    by_test : (b : Bool) (n : ℕ) → n ≤ 4000000 → narrowed (pick b n 0) ≡ pick b n 0
    by_test true n h = whole n (omega arith)
    by_test false n h = refl

    of_parsed : (x : Option Table) → parse l.table ≡ x → narrowed (answered_from f l x).octets ≡ (answered_from f l x).octets
    of_parsed none e = refl
    of_parsed (some t) e = by_test (is_done (outcome_with (f t) l)) (size (f t).answer) (s t (good_is t (parse_sound l.table t o e).0)).is_small
