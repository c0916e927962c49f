-- Demand 3: from a table opened under a valid plan, after any calls. Each call keeps the table good, the plan and K as they were, and the tally
-- of every station equal to what it holds; the history theorem is the induction over the calls. Assumes nothing.
use mathlib.Core.Path.{◌≡◌, refl, sym, ap, ◌∙◌, subst}
use mathlib.Core.List.{List, [], ◌∷◌, ◌++◌, map}
use mathlib.Core.Bool.{Bool, true, false}
use mathlib.Core.Option.{Option, none, some}
use Prim.Native.Nat.{ℕ, ◌+◌, ◌-◌, ◌≤◌, ◌<◌}
use native.Mathlib.Omega.{arith}
use lib.ListN.{length}
use lib.Dec.{eqb}
use borrow.Author.Tests.{leb-true}
use Rattle.limits.specs.Test.{◌&◌, pick}
use Rattle.std.specs.Prelude.{Ok, Err}
use Rattle.limits.specs.Outcome.{Outcome, done, is_done}
use Rattle.limits.specs.declared.outcome.Refusal.TheVariants.{CeilingReached, NotAdmitted}
use Rattle.limits.specs.Share.{admission_in, Sound}
use Rattle.limits.specs.declared.share.Share.{Share}
use Rattle.limits.proofs.Tests.{both}
use Rattle.limits.proofs.Outcomes.{not_both, first_done, done_is}
use Rattle.limits.proofs.Shares.{below_reservation_admitted}
use Rattle.model.specs.declared.Point.{Point}
use Rattle.model.specs.declared.Request.{Request}
use Rattle.table.specs.Table.{Station, Table, held, share_of, numbers_ok, plan_ok}
use Rattle.table.specs.Memory.{parse}
use Rattle.table.specs.Change.{station_of, in_station, with_points, changed, known, added, removed, emptied}
use Rattle.table.proofs.Parse.{Good, good_is, is_good}
use Rattle.table.proofs.Shares.{good_sound}
use Rattle.table.proofs.Change.{station_found, shares_split, good_removed, good_emptied}
use Rattle.registry.specs.Effect.{Effect, next, reply_from, reply_on, memory_on}
use Rattle.registry.specs.Registry.{is_registered, room_fault, request_outcome, with_request, own_tests, room_tests, registering, registering_all, unregistering, unregistering_all}
use Rattle.registry.specs.History.{Holding, holding_of, Line, line_of, Quiet, Twelve, AllTwelve, Call, effect_of, requests_of, Tally, granted_by, removed_by, counted, held_by, held_at, memory_after, tally_after}
use Rattle.registry.specs.History.Call.{register, register_all, unregister, unregister_all, command}
use Rattle.registry.proofs.Effects.{parse_after}
use Rattle.registry.proofs.Requests.{Accepted, accepted_good, held_added, held_removed, held_emptied, unregistered_is}
use Rattle.registry.proofs.Batches.{Passes, passes_accepted, own_tests_ready, room_tests_good}

-- ---- a station of a good table

-- Its numbers: held and reservation are within its ceiling.
pub record Numbers (s : Station) : Type 0 where
  pub reservation_within : s.reservation ≤ s.ceiling
  pub held_within : held s ≤ s.ceiling

plan_at_lem : (k low : ℕ) (before : List Station) (s : Station) (after : List Station) → plan_ok k low (before ++ (s ∷ after)) ≡ true → Numbers s
unfolding plan_ok numbers_ok
plan_at_lem k low [] s after p =
    let n3 = both _ _ (both _ _ (both _ _ (both _ _ p).0).1).1 in
    record { reservation_within = leb-true _ _ n3.0; held_within = leb-true _ _ (both _ _ n3.1).1 }
plan_at_lem k low (x ∷ before) s after p = plan_at_lem k (x.ca + 1) before s after (both _ _ p).1

pub station_numbers : (t : Table) (ca : ℕ) (s : Station) → Good t → station_of ca t.stations ≡ some s → Numbers s
station_numbers t ca s g e =
    let w = station_found ca t.stations s e in
    plan_at_lem t.capacity 1 w.before s w.after (ap (plan_ok t.capacity 1) (sym w.split) ∙ g.plan)

-- A station holding less than its reservation has room.
pub below_reservation_has_room : (t : Table) (ca : ℕ) (s : Station) → Good t → station_of ca t.stations ≡ some s → held s < s.reservation
    → room_fault t (station_of ca t.stations) ≡ done
unfolding room_fault
below_reservation_has_room t ca s g e h =
    let w = station_found ca t.stations s e in
    let k : ℕ = t.capacity in
    let B : List Share = map share_of w.before in
    let A : List Share = map share_of w.after in
    let split : map share_of t.stations ≡ B ++ (share_of s ∷ A) = ap (map share_of) w.split ∙ shares_split w.before s w.after in
    let sound : Sound k (B ++ (share_of s ∷ A)) = subst (Sound k) split (good_sound t g) in
    let n = station_numbers t ca s g e in
    let a : admission_in k (B ++ (share_of s ∷ A)) (share_of s) ≡ done = below_reservation_admitted k B (share_of s) A sound n.reservation_within h in
    let a' : admission_in k (map share_of t.stations) (share_of s) ≡ done = ap (λ (l : List Share). admission_in k l (share_of s)) split ∙ a in
    ap (room_fault t) e ∙ a'

-- A well-formed, unregistered point of a planned station holding less than its reservation is granted when registered alone.
pub granted_alone : (t : Table) (q : Request) (s : Station) → Good t → Passes t q → station_of q.ca t.stations ≡ some s → held s < s.reservation
    → (registering q t).outcome ≡ done
unfolding registering request_outcome
granted_alone t q s g p e h =
    let room = below_reservation_has_room t q.ca s g e h in
    let own = p.own in
    let new = p.new in
    simp (own, new, room)

-- ---- the plan and K stay

lines_in : (ca : ℕ) (f : List Point → List Point) (ss : List Station) → map line_of (in_station ca (with_points f) ss) ≡ map line_of ss
unfolding in_station
lines_in ca f [] = refl
lines_in ca f (s ∷ ss) = by_test (lines_in ca f ss) (eqb s.ca ca)
  where
    by_test : map line_of (in_station ca (with_points f) ss) ≡ map line_of ss → (b : Bool)
        → map line_of (pick b (with_points f s ∷ ss) (s ∷ in_station ca (with_points f) ss)) ≡ line_of s ∷ map line_of ss
    by_test ih true = refl
    by_test ih false = ap (λ (l : List Line). line_of s ∷ l) ih

lines_emptied : (ss : List Station) → map line_of (map (with_points (λ (ps : List Point). [])) ss) ≡ map line_of ss
lines_emptied [] = refl
lines_emptied (s ∷ ss) = ap (λ (l : List Line). line_of s ∷ l) (lines_emptied ss)

-- what a holding says of the plan
line_from : Holding → Line
line_from h = record { ca = h.ca; reservation = h.reservation; ceiling = h.ceiling }

lines_held : (ss : List Station) → map line_from (map holding_of ss) ≡ map line_of ss
unfolding line_from
lines_held [] = refl
lines_held (s ∷ ss) = ap (λ (l : List Line). line_of s ∷ l) (lines_held ss)

-- what the holdings say of one address
held_from : ℕ → List Holding → ℕ
held_from ca [] = 0
held_from ca (h ∷ hs) = pick (eqb h.ca ca) h.held (held_from ca hs)

held_is : (ca : ℕ) (ss : List Station) → held_from ca (map holding_of ss) ≡ held_by (station_of ca ss)
unfolding held_from held_by station_of
held_is ca [] = refl
held_is ca (s ∷ ss) = by_test (held_is ca ss) (eqb s.ca ca)
  where
    by_test : held_from ca (map holding_of ss) ≡ held_by (station_of ca ss) → (b : Bool)
        → pick b (length s.points) (held_from ca (map holding_of ss)) ≡ held_by (pick b (some s) (station_of ca ss))
    by_test ih true = refl
    by_test ih false = ih

-- The same plan and K.
pub record SamePlan (t u : Table) : Type 0 where
  pub capacity : u.capacity ≡ t.capacity
  pub lines : map line_of u.stations ≡ map line_of t.stations

pub same_plan_trans : {t u v : Table} → SamePlan t u → SamePlan u v → SamePlan t v
same_plan_trans a b = record { capacity = b.capacity ∙ a.capacity; lines = b.lines ∙ a.lines }

same_plan : (t : Table) → SamePlan t t
same_plan t = record { capacity = refl; lines = refl }

changed_plan : (t : Table) (ca : ℕ) (f : List Point → List Point) → SamePlan t (changed t ca f)
unfolding changed
changed_plan t ca f = record { capacity = refl; lines = lines_in ca f t.stations }

removed_plan : (t : Table) (ca ioa : ℕ) → SamePlan t (removed t ca ioa)
unfolding removed
removed_plan t ca ioa = changed_plan t ca _

added_plan : (t : Table) (q : Request) → SamePlan t (with_request t q)
unfolding added
added_plan t q = changed_plan t q.ca _

room_tests_plan : (t : Table) (i : ℕ) (qs : List Request) → SamePlan t (room_tests t i qs).after
unfolding room_tests
room_tests_plan t i [] = same_plan t
room_tests_plan t i (q ∷ qs) = by_test (room_tests_plan (with_request t q) (i + 1) qs) (is_done (room_fault t (station_of q.ca t.stations)))
  where
    by_test : SamePlan (with_request t q) (room_tests (with_request t q) (i + 1) qs).after → (b : Bool)
        → SamePlan t (pick b (room_tests (with_request t q) (i + 1) qs) (record { outcome = room_fault t (station_of q.ca t.stations); place = i; after = t })).after
    by_test ih true = same_plan_trans (added_plan t q) ih
    by_test ih false = same_plan t

-- ---- one call

-- What a call keeps: a good table, its plan and K, and each station's tally.
pub record Keeps (t : Table) (c : Call) : Type 0 where
  pub is_good : Good (next (effect_of c) t)
  pub plan : SamePlan t (next (effect_of c) t)
  pub tally : (ca g d : ℕ) → g ≡ held_at ca t + d
      → g + granted_by ca c (reply_from (effect_of c) (some t)) ≡ held_at ca (next (effect_of c) t) + (d + removed_by ca c (reply_from (effect_of c) (some t)) (g - d))

-- a call that was refused keeps everything
module _ (t : Table) (g : Good t) where
  keeps_quiet : (f : Table → Effect) (w : Quiet f) → Keeps t (command f w)
  keeps_quiet f w =
      let e = w.keeps_holdings t (is_good t g) in
      record {
        is_good = good_is _ (w.keeps_good t (is_good t g));
        plan = record {
          capacity = w.keeps_capacity t;
          lines = sym (lines_held (next f t).stations) ∙ ap (map line_from) e ∙ lines_held t.stations;
        };
        tally = λ ca x d h.
            let k : held_at ca (next f t) ≡ held_at ca t = sym (held_is ca (next f t).stations) ∙ ap (held_from ca) e ∙ held_is ca t.stations in
            omega arith;
      }

  keeps_all_out : Keeps t unregister_all
  unfolding unregistering_all emptied reply_from
  keeps_all_out =
      record {
        is_good = good_emptied t g;
        plan = record { capacity = refl; lines = lines_emptied t.stations };
        tally = λ ca x d h. let k = held_emptied t.stations ca in omega arith;
      }

  registered_station : (ca ioa : ℕ) → is_registered ioa (station_of ca t.stations) ≡ true
      → (s : Station) × (station_of ca t.stations ≡ some s) × (known ioa s.points ≡ true)
  unfolding is_registered
  registered_station ca ioa e = of_found (station_of ca t.stations) refl e
    where
      of_found : (o : Option Station) → station_of ca t.stations ≡ o → is_registered ioa o ≡ true
          → (s : Station) × (station_of ca t.stations ≡ some s) × (known ioa s.points ≡ true)
      of_found none p e' = not_both e'
      of_found (some s) p e' = (s, p, e')

  keeps_out : (ca ioa : ℕ) → Keeps t (unregister ca ioa)
  unfolding unregistering reply_from ◌&◌
  keeps_out ca ioa = by_test (is_registered ioa (station_of ca t.stations)) refl
    where
      by_test : (b : Bool) → is_registered ioa (station_of ca t.stations) ≡ b → Keeps t (unregister ca ioa)
      by_test true e =
          let s = registered_station ca ioa e in
          record {
            is_good = simp e (good_removed t ca ioa s.0 g (station_found _ _ _ s.1) s.2);
            plan = simp e (removed_plan t ca ioa);
            tally = λ other x d h. let k = held_removed t ca ioa other s.0 s.1 s.2 in simp e (omega arith);
          }
      by_test false e = record { is_good = simp e g; plan = simp e (same_plan t); tally = λ other x d h. simp e (omega arith) }

  request_accepted : (q : Request) → Twelve q → request_outcome t q (station_of q.ca t.stations) ≡ done → Accepted t q
  unfolding request_outcome
  request_accepted q w e =
      let f1 = first_done _ _ e in
      let f2 = first_done _ _ f1.1 in
      passes_accepted t q w (record { own = f1.0; new = unregistered_is q _ f2.0 }) f2.1

  keeps_in : (q : Request) (w : Twelve q) → Keeps t (register q w)
  unfolding registering reply_from ◌&◌
  keeps_in q w = by_test (is_done (request_outcome t q (station_of q.ca t.stations))) refl
    where
      by_test : (b : Bool) → is_done (request_outcome t q (station_of q.ca t.stations)) ≡ b → Keeps t (register q w)
      by_test true e =
          let a = request_accepted q w (done_is _ e) in
          record {
            is_good = simp e (accepted_good t q g a);
            plan = simp e (added_plan t q);
            tally = λ other x d h. let k = held_added t q other a.station a.found in simp e (omega arith);
          }
      by_test false e = record { is_good = simp e g; plan = simp e (same_plan t); tally = λ other x d h. simp e (omega arith) }

  -- what a batch that was done says
  batch_done : (qs : List Request) → AllTwelve qs → (registering_all qs t).outcome ≡ done
      → Good (registering_all qs t).after × SamePlan t (registering_all qs t).after × ((ca : ℕ) → held_at ca (registering_all qs t).after ≡ held_at ca t + requests_of ca qs)
  unfolding registering_all
  batch_done qs w e = by_test (is_done (own_tests t [] 0 qs).outcome) refl e
    where
      Goal : Effect → Type 0
      Goal z = Good z.after × SamePlan t z.after × ((ca : ℕ) → held_at ca z.after ≡ held_at ca t + requests_of ca qs)

      refusal : Effect
      refusal = record { outcome = (own_tests t [] 0 qs).outcome; place = (own_tests t [] 0 qs).place; after = t }

      by_test : (b : Bool) → is_done (own_tests t [] 0 qs).outcome ≡ b → (pick b (room_tests t 0 qs) refusal).outcome ≡ done → Goal (pick b (room_tests t 0 qs) refusal)
      by_test true d e' =
          let r = own_tests_ready t [] 0 qs (done_is _ d) in
          let z = room_tests_good t 0 qs g r.0 w e' in
          (z.0, room_tests_plan t 0 qs, z.1)
      by_test false d e' = not_both (sym d ∙ ap is_done e')

  keeps_batch : (qs : List Request) (w : AllTwelve qs) → Keeps t (register_all qs w)
  unfolding reply_from
  keeps_batch qs w = by_test (is_done (registering_all qs t).outcome) refl
    where
      by_test : (b : Bool) → is_done (registering_all qs t).outcome ≡ b → Keeps t (register_all qs w)
      by_test true e =
          let z = batch_done qs w (done_is _ e) in
          record {
            is_good = simp e z.0;
            plan = simp e z.1;
            tally = λ other x d h. let k = z.2 other in simp e (omega arith);
          }
      by_test false e = record { is_good = simp e g; plan = simp e (same_plan t); tally = λ other x d h. simp e (omega arith) }

  -- Every call keeps the table good, the plan and K, and the tallies.
  pub keeps : (c : Call) → Keeps t c
  keeps (register q w) = keeps_in q w
  keeps (register_all qs w) = keeps_batch qs w
  keeps (unregister ca ioa) = keeps_out ca ioa
  keeps unregister_all = keeps_all_out
  keeps (command f w) = keeps_quiet f w

-- ---- any calls

-- What holds after a history: the memory holds a good table under the plan it was opened with, and each station's tally is what it holds.
pub record After (k : ℕ) (lines : List Line) (m : List ℕ) (tally : ℕ → Tally) : Type 0 where
  pub table : Table
  pub read : parse m ≡ some table
  pub is_good : Good table
  pub capacity : table.capacity ≡ k
  pub plan : map line_of table.stations ≡ lines
  pub counts : (ca : ℕ) → (tally ca).granted ≡ held_at ca table + (tally ca).removed

-- The same of tallies that are equal.
pub recounted : (k : ℕ) (lines : List Line) (m : List ℕ) (f g : ℕ → Tally) → ((ca : ℕ) → f ca ≡ g ca) → After k lines m f → After k lines m g
recounted k lines m f g e a =
    record {
      table = a.table;
      read = a.read;
      is_good = a.is_good;
      capacity = a.capacity;
      plan = a.plan;
      counts = λ ca.
          ap (λ (n : Tally). n.granted) (sym (e ca)) ∙ a.counts ca ∙ ap (λ (n : Tally). held_at ca a.table + n.removed) (e ca);
    }

pub history : (k : ℕ) (lines : List Line) (m : List ℕ) (n : ℕ → Tally) (cs : List Call) → After k lines m n
    → After k lines (memory_after m cs) (λ ca. tally_after ca (n ca) m cs)
unfolding memory_after tally_after
history k lines m n [] a = a
history k lines m n (c ∷ cs) a =
    let t : Table = a.table in
    let g : Good t = a.is_good in
    let z = keeps t g c in
    let p : reply_on (effect_of c) m ≡ reply_from (effect_of c) (some t) = ap (reply_from (effect_of c)) a.read in
    history k lines (memory_on (effect_of c) m) (λ ca. counted ca c (reply_on (effect_of c) m) (n ca)) cs
    (record {
      table = next (effect_of c) t;
      read = parse_after (effect_of c) m t a.read (is_good _ z.is_good);
      is_good = z.is_good;
      capacity = z.plan.capacity ∙ a.capacity;
      plan = z.plan.lines ∙ a.plan;
      counts = λ ca. rw p (z.tally ca (n ca).granted (n ca).removed (a.counts ca));
    })
