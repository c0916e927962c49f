-- What the entry over a slice of points comes to: the effect of the batch of all of them. Assumes nothing.
use Rattle.std.proofs.Common.{◌≡◌, ℕ, ◌≤◌, ◌<◌, Bool, true, false, List, [], ◌∷◌, ◌++◌, map, reverse, length, take, drop, refl, sym, ap, subst, ◌∙◌, arith}
use Rattle.std.proofs.lemmas.List.{map-append, take-append-drop, take_all, length-take-le, length-map}
use lib.Dec.{ltb}
use borrow.Author.Tests.{lt-ltb, ltb-true, ltb-false}
use Rattle.limits.specs.Test.{pick}
use Rattle.std.specs.Prelude.{Err}
use Rattle.limits.specs.Outcome.{is_done, number_of}
use Rattle.limits.specs.declared.outcome.Refusal.TheVariants.{TableNotWellFormed}
use Rattle.limits.proofs.Outcomes.{done_is}
use Rattle.octets.specs.Number.{Octets}
use Rattle.model.specs.declared.Request.{Request}
use Rattle.table.specs.Table.{Table}
use Rattle.table.specs.Memory.{well_formed, table_of}
use Rattle.table.proofs.Parse.{Good, holds, parse_some, parse_none}
use Rattle.registry.specs.Effect.{Reply}
use Rattle.registry.specs.Effect.{Effect, holding, reply_from, memory_from, reply_on, memory_on}
use Rattle.registry.specs.History.{AllTwelve}
use Rattle.registry.specs.Registry.{own_tests, room_tests, registering_all}
use Rattle.registry.proofs.Batches.{own_tests_ready}
use Rattle.replies.specs.Replies.{Replies}
use Rattle.points.specs.Points.{whole, deciding_octets, batch_of}
use Rattle.point_lists.specs.Later.{after_faults, later_tests, answer_of}
use Rattle.point_lists.proofs.Turns.{told, ends}
use Rattle.point_lists.proofs.Longer.{tests_low, room_fits, room_high, after, fault_first, fault_after, no_fault}

all_twelve : (x : List Request) → AllTwelve (map whole x)
unfolding AllTwelve
all_twelve [] = tt
all_twelve (q ∷ x) = (refl, all_twelve x)

-- ---- the answer

-- the reply and the memory of an effect
abbrev reply_of : Effect → Reply
reply_of e = record { outcome = e.outcome; place = e.place }

abbrev memory_of : List ℕ → Table → Effect → List ℕ
memory_of m t e = pick (is_done e.outcome) (holding m t e.after) m

-- the reply for the first points with the fault of a later one is the reply for all, and so is the memory
abbrev Alike : List ℕ → Table → Reply → Effect → Effect → Type 0
Alike m t l x y = (answer_of l (reply_of x) ≡ reply_of y) × (memory_of m t x ≡ memory_of m t y)

answer_low : (l : Reply) (r : Reply) → number_of r.outcome < 19 → answer_of l r ≡ r
unfolding answer_of
answer_low l r h = simp (lt-ltb (number_of r.outcome) 19 h)

answer_none : (l r : Reply) → is_done l.outcome ≡ true → answer_of l r ≡ r
unfolding answer_of
answer_none l r d = ap (λ (c : Bool). pick (ltb (number_of r.outcome) 19) r (pick c r l)) d ∙ by_test (ltb (number_of r.outcome) 19)
  where
    by_test : (b : Bool) → pick b r r ≡ r
    by_test true = refl
    by_test false = refl

same_effect : (m : List ℕ) (t : Table) (l : Reply) (x y : Effect) → y ≡ x → answer_of l (reply_of x) ≡ reply_of x → Alike m t l x y
same_effect m t l x y e a = (a ∙ ap reply_of (sym e), ap (memory_of m t) (sym e))

module _ (m : List ℕ) (t : Table) (g : Good t) (l : Reply) (a b : List Request) (w : AllTwelve a) (long : length a ≡ 4097) (tells : l ≡ after t a b) where
  refused_own : is_done (own_tests t [] 0 a).outcome ≡ false → number_of (registering_all a t).outcome < 19
  unfolding registering_all
  refused_own d = simp d (tests_low t [] 0 a)

  passed_own : is_done (own_tests t [] 0 a).outcome ≡ true → registering_all a t ≡ room_tests t 0 a
  unfolding registering_all
  passed_own d = simp d

  -- 4,097 points find no room
  no_room : is_done (own_tests t [] 0 a).outcome ≡ true → is_done (room_tests t 0 a).outcome ≡ false
  no_room d = by_test (is_done (room_tests t 0 a).outcome) refl
    where
      by_test : (c : Bool) → is_done (room_tests t 0 a).outcome ≡ c → c ≡ false
      by_test true e = let n = room_fits t 0 a g (own_tests_ready t [] 0 a (done_is _ d)).0 w (done_is _ e) in absurd (omega arith)
      by_test false e = refl

  -- a later point has a fault
  late : is_done (own_tests t [] 0 a).outcome ≡ true → is_done (after t a b).outcome ≡ false → Alike m t l (registering_all a t) (registering_all (a ++ b) t)
  unfolding answer_of
  late d f =
      let x = passed_own d in
      let y = fault_after t a b d f in
      let high : ltb (number_of (registering_all a t).outcome) 19 ≡ false = ap (λ (e : Effect). ltb (number_of e.outcome) 19) x ∙ room_high t 0 a (own_tests_ready t [] 0 a (done_is _ d)).0 (no_room d) in
      let told : answer_of l (reply_of (registering_all a t)) ≡ after t a b =
      ap (λ (c : Bool). pick c (reply_of (registering_all a t)) (after_faults l (reply_of (registering_all a t)))) high
      ∙ ap (λ (o : Reply). after_faults o (reply_of (registering_all a t))) tells
      ∙ ap (λ (c : Bool). pick c (reply_of (registering_all a t)) (after t a b)) f in
      let kept : memory_of m t (registering_all a t) ≡ m = ap (memory_of m t) x ∙ simp (no_room d) in
      let kept' : memory_of m t (registering_all (a ++ b) t) ≡ m = ap (memory_of m t) y ∙ simp f in
      (told ∙ ap reply_of (sym y), kept ∙ sym kept')

  -- no later point has one
  none_late : is_done (after t a b).outcome ≡ true → answer_of l (reply_of (registering_all a t)) ≡ reply_of (registering_all a t)
  none_late f = answer_none l (reply_of (registering_all a t)) (ap (λ (r : Reply). is_done r.outcome) tells ∙ f)

  -- More than 4,096 points: the first of them with what testing told of the others.
  long_law : Alike m t l (registering_all a t) (registering_all (a ++ b) t)
  long_law = by_tests (is_done (own_tests t [] 0 a).outcome) refl (is_done (after t a b).outcome) refl
    where
      by_tests : (c : Bool) → is_done (own_tests t [] 0 a).outcome ≡ c → (k : Bool) → is_done (after t a b).outcome ≡ k → Alike m t l (registering_all a t) (registering_all (a ++ b) t)
      by_tests false d k f = same_effect m t l _ _ (fault_first t a b d) (answer_low l (reply_of (registering_all a t)) (refused_own d))
      by_tests true d true f = same_effect m t l _ _ (no_fault t a b d f (no_room d)) (none_late f)
      by_tests true d false f = late d f

module _ (ts : List ℕ) (ps : List Request) where
  abbrev x : List Request
  x = take 4097 ps

  abbrev y : List Request
  y = drop 4097 ps

  halves : map whole x ++ map whole y ≡ map whole ps
  halves = sym (map-append whole x y) ∙ ap (map whole) (take-append-drop 4097 ps)

  -- The first 4,097 points with what testing told of the others are answered as all of them.
  answer_law : Octets ts → well_formed ts ≡ true
      → Alike ts (table_of ts) (later_tests ts ps) (registering_all (map whole x) (table_of ts)) (registering_all (map whole ps) (table_of ts))
  answer_law o w = by_test (ltb 4097 (length ps)) refl
    where
      by_test : (c : Bool) → ltb 4097 (length ps) ≡ c → Alike ts (table_of ts) (later_tests ts ps) (registering_all (map whole x) (table_of ts)) (registering_all (map whole ps) (table_of ts))
      by_test true c =
          let h : 4097 < length ps = ltb-true _ _ c in
          let n : length (map whole x) ≡ 4097 = length-map x whole ∙ length-take-le 4097 ps (omega arith) in
          let tells : later_tests ts ps ≡ after (table_of ts) (map whole x) (map whole y) =
          sym (told ts ps w) ∙ ap (λ (k : ℕ). own_tests (table_of ts) (reverse (map whole x)) k (map whole y)) (sym n) in
          subst (λ (l : List Request). Alike ts (table_of ts) (later_tests ts ps) (registering_all (map whole x) (table_of ts)) (registering_all l (table_of ts))) halves
          (long_law ts (table_of ts) (holds ts o w).0 (later_tests ts ps) (map whole x) (map whole y) (all_twelve x) n tells)
      by_test false c =
          let h : length ps ≤ 4097 = ltb-false _ _ c in
          let passed : is_done (later_tests ts ps).outcome ≡ true = ap (λ (r : Reply). is_done r.outcome) (sym (told ts ps w) ∙ ends (table_of ts) ps 4097 h) in
          same_effect ts (table_of ts) (later_tests ts ps) _ _ (ap (λ (l : List Request). registering_all (map whole l) (table_of ts)) (sym (take_all 4097 ps h)))
          (answer_none (later_tests ts ps) (reply_of (registering_all (map whole x) (table_of ts))) passed)

  no_table_reply : (f : Table → Effect) → well_formed ts ≡ false → reply_on f ts ≡ record { outcome = (Err TableNotWellFormed); place = 0 }
  unfolding reply_from
  no_table_reply f w = ap (reply_from f) (parse_none ts w)

  no_table_memory : (f : Table → Effect) → well_formed ts ≡ false → memory_on f ts ≡ ts
  unfolding memory_from
  no_table_memory f w = ap (memory_from f ts) (parse_none ts w)

  table_reply : (f : Table → Effect) → well_formed ts ≡ true → reply_on f ts ≡ reply_of (f (table_of ts))
  unfolding reply_from
  table_reply f w = ap (reply_from f) (parse_some ts w)

  table_memory : (f : Table → Effect) → well_formed ts ≡ true → memory_on f ts ≡ memory_of ts (table_of ts) (f (table_of ts))
  unfolding memory_from
  table_memory f w = ap (memory_from f ts) (parse_some ts w)

  -- The reply for the first points, or the fault of a later one, and the memory that the first leave.
  pub comes : Octets ts → (l : Reply) (a z : Reply) (ts' : List ℕ) → l ≡ later_tests ts ps → Replies (registering_all (batch_of deciding_octets ps)) ts a ts' → z ≡ answer_of l a
      → Replies (registering_all (map whole ps)) ts z ts'
  comes o l a z ts' later first is = let r = by_test (well_formed ts) refl in (is ∙ ap (λ (x : Reply). answer_of x a) later ∙ r.0, r.1)
    where
      A : Table → Effect
      A = registering_all (map whole x)

      B : Table → Effect
      B = registering_all (map whole ps)

      by_test : (c : Bool) → well_formed ts ≡ c → Replies B ts (answer_of (later_tests ts ps) a) ts'
      by_test true w =
          let law = answer_law o w in
          (ap (answer_of (later_tests ts ps)) (first.0 ∙ table_reply A w) ∙ law.0 ∙ sym (table_reply B w), first.1 ∙ table_memory A w ∙ law.1 ∙ sym (table_memory B w))
      by_test false w =
          let r : a ≡ record { outcome = (Err TableNotWellFormed); place = 0 } = first.0 ∙ no_table_reply A w in (
            ap (answer_of (later_tests ts ps)) r ∙ answer_low (later_tests ts ps) (record { outcome = (Err TableNotWellFormed); place = 0 }) (ltb-true 3 19 refl) ∙ sym (no_table_reply B w),
            first.1 ∙ no_table_memory A w ∙ sym (no_table_memory B w),
          )
