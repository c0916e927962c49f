-- What a change of one station does to a table: the station is found once, the others are as they were, and a good table stays good
-- where the changed points rise and the new shares are sound. Assumes nothing.
use mathlib.Core.Path.{◌≡◌, refl, sym, ap, ◌∙◌, subst}
use mathlib.Core.List.{List, [], ◌∷◌, ◌++◌, map}
use mathlib.Core.Bool.{Bool, true, false}
use mathlib.Core.Option.{none, some}
use Prim.Native.Nat.{ℕ, suc, ◌+◌, ◌≤◌, ◌<◌}
use native.Mathlib.Omega.{arith}
use lib.ListN.{length, length-append}
use lib.Dec.{leb, eqb}
use borrow.Author.Tests.{lt-ltb, eqb-true, eqb-false, eq-eqb, ne_eqb, leb-true, leb-false, le-leb, lt-leb}
use Rattle.limits.specs.Test.{◌&◌, pick, total}
use Rattle.limits.specs.Share.{Sound, taken_in, let_go, admission_in, free_of, unmet_of}
use Rattle.limits.specs.declared.share.Share.{Share}
use Rattle.std.specs.Prelude.{Ok, Err}
use Rattle.limits.specs.Outcome.{Outcome, done}
use Rattle.limits.specs.declared.outcome.Refusal.TheVariants.{CeilingReached, NotAdmitted}
use Rattle.limits.proofs.Tests.{both, join}
use Rattle.limits.proofs.Shares.{admitted_only, take_in_keeps_sound, let_go_keeps_sound, fresh_plan_sound, NothingHeld, reservation_of}
use Rattle.model.specs.declared.Point.{Point}
use Rattle.model.specs.Place.{point_ok}
use Rattle.table.specs.Table.{Station, Table, highest_ca, held, share_of, reserved, rising, all_rising}
use Rattle.table.specs.Change.{station_of, in_station, with_points, changed, seek_in, known, insert_in, remove_in, added, removed, emptied}
use Rattle.table.proofs.Parse.{Good}
use Rattle.table.proofs.Shares.{planned, plan_of, shares_of, sound_numbers, good_sound, map_append}

-- ---- where a station stands

-- no station of the list has the address
pub data Absent (ca : ℕ) : List Station → Type 0 where
  absent_none : Absent ca []
  absent_more : {s : Station} {ss : List Station} → (s.ca ≡ ca → ⊥) → Absent ca ss → Absent ca (s ∷ ss)

-- the first station with the address, and what stands before and after it
pub record Found (ca : ℕ) (ss : List Station) (s : Station) : Type 0 where
  pub before : List Station
  pub after : List Station
  pub split : ss ≡ before ++ (s ∷ after)
  pub absent : Absent ca before
  pub is_ca : s.ca ≡ ca

pub station_found : (ca : ℕ) (ss : List Station) (s : Station) → station_of ca ss ≡ some s → Found ca ss s
unfolding station_of
station_found ca [] s e = let z : ◌≡◌ {A = ℕ} 0 1 = cc in absurd (omega arith)
station_found ca (x ∷ ss) s e = by_test (λ r. station_found ca ss s r) (eqb x.ca ca) refl e
  where
    by_test : (station_of ca ss ≡ some s → Found ca ss s) → (b : Bool) → eqb x.ca ca ≡ b → pick b (some x) (station_of ca ss) ≡ some s → Found ca (x ∷ ss) s
    by_test ih true t e' =
        let q : x ≡ s = cc in
        record { before = []; after = ss; split = ap (λ (y : Station). y ∷ ss) q; absent = absent_none; is_ca = ap (λ (y : Station). y.ca) (sym q) ∙ eqb-true _ _ t }
    by_test ih false t e' =
        let f = ih e' in
        record { before = x ∷ f.before; after = f.after; split = ap (λ (l : List Station). x ∷ l) f.split; absent = absent_more (eqb-false _ _ t) f.absent; is_ca = f.is_ca }

pub station_absent : (ca : ℕ) (ss : List Station) → station_of ca ss ≡ none → Absent ca ss
unfolding station_of
station_absent ca [] e = absent_none
station_absent ca (x ∷ ss) e = by_test (λ r. station_absent ca ss r) (eqb x.ca ca) refl e
  where
    by_test : (station_of ca ss ≡ none → Absent ca ss) → (b : Bool) → eqb x.ca ca ≡ b → pick b (some x) (station_of ca ss) ≡ none → Absent ca (x ∷ ss)
    by_test ih true t e' = let z : ◌≡◌ {A = ℕ} 0 1 = cc in absurd (omega arith)
    by_test ih false t e' = absent_more (eqb-false _ _ t) (ih e')

-- a change stands at the station found
pub in_split : (ca : ℕ) (f : Station → Station) (before : List Station) (s : Station) (after : List Station) → Absent ca before → s.ca ≡ ca
    → in_station ca f (before ++ (s ∷ after)) ≡ before ++ (f s ∷ after)
unfolding in_station
in_split ca f [] s after absent_none e = simp (eq-eqb _ _ e)
in_split ca f (x ∷ before) s after (absent_more n a) e = simp (ne_eqb _ _ n) (ap (λ (l : List Station). x ∷ l) (in_split ca f before s after a e))

pub stations_split : (t : Table) (ca : ℕ) (f : List Point → List Point) (s : Station) (w : Found ca t.stations s)
    → (changed t ca f).stations ≡ w.before ++ (with_points f s ∷ w.after)
unfolding changed
stations_split t ca f s w = ap (in_station ca (with_points f)) w.split ∙ in_split ca (with_points f) w.before s w.after w.absent w.is_ca

-- ---- what a change of one station's points leaves

plan_with : (k low : ℕ) (before : List Station) (s : Station) (after : List Station) (f : List Point → List Point)
    → planned k low (before ++ (with_points f s ∷ after)) ≡ planned k low (before ++ (s ∷ after))
unfolding planned
plan_with k low [] s after f = refl
plan_with k low (x ∷ before) s after f =
    ap (λ (b : Bool). leb low x.ca & leb x.ca highest_ca & leb x.reservation x.ceiling & leb x.ceiling k & b) (plan_with k (x.ca + 1) before s after f)

reserved_with : (before : List Station) (s : Station) (after : List Station) (f : List Point → List Point)
    → total reserved (before ++ (with_points f s ∷ after)) ≡ total reserved (before ++ (s ∷ after))
unfolding total
reserved_with [] s after f = refl
reserved_with (x ∷ before) s after f = ap (λ (n : ℕ). x.reservation + n) (reserved_with before s after f)

rises_at : (before : List Station) (s : Station) (after : List Station) → all_rising (before ++ (s ∷ after)) ≡ true → rising 0 s.points ≡ true
unfolding all_rising
rises_at [] s after r = (both _ _ r).0
rises_at (x ∷ before) s after r = rises_at before s after (both _ _ r).1

rises_with : (before : List Station) (s : Station) (after : List Station) (f : List Point → List Point)
    → all_rising (before ++ (s ∷ after)) ≡ true → rising 0 (f s.points) ≡ true → all_rising (before ++ (with_points f s ∷ after)) ≡ true
unfolding all_rising
rises_with [] s after f r h = join h (both _ _ r).1
rises_with (x ∷ before) s after f r h = join (both _ _ r).0 (rises_with before s after f (both _ _ r).1 h)

-- The points of a good table's station rise.
pub station_rises : (t : Table) (ca : ℕ) (s : Station) → Good t → Found ca t.stations s → rising 0 s.points ≡ true
station_rises t ca s g w = rises_at w.before s w.after (ap all_rising (sym w.split) ∙ g.rises)

-- The share of the station stands among the table's shares.
pub shares_split : (before : List Station) (s : Station) (after : List Station)
    → map share_of (before ++ (s ∷ after)) ≡ map share_of before ++ (share_of s ∷ map share_of after)
shares_split before s after = map_append before (s ∷ after)

-- A good table stays good under a change of one station's points that rise, if the new shares are sound.
pub good_changed : (t : Table) (ca : ℕ) (f : List Point → List Point) (s : Station) (w : Found ca t.stations s) → Good t
    → rising 0 (f s.points) ≡ true → Sound t.capacity (map share_of (w.before ++ (with_points f s ∷ w.after))) → Good (changed t ca f)
unfolding changed
good_changed t ca f s w g r sound =
    let ss' : List Station = w.before ++ (with_points f s ∷ w.after) in
    let e : in_station ca (with_points f) t.stations ≡ ss' = stations_split t ca f s w in
    let p : planned t.capacity 1 ss' ≡ true =
    plan_with _ 1 w.before s w.after f ∙ ap (planned t.capacity 1) (sym w.split) ∙ (plan_of _ _ _ g.plan).0 in
    let rv : total reserved ss' ≡ total reserved t.stations = reserved_with w.before s w.after f ∙ ap (total reserved) (sym w.split) in
    let fits : total reserved t.stations ≤ t.capacity = (shares_of _ _ _ _ g.shares).0 in
    let n = sound_numbers t.capacity 1 ss' p (omega arith) sound in
    let len : length ss' ≡ length t.stations =
    length-append w.before (with_points f s ∷ w.after) ∙ sym (length-append w.before (s ∷ w.after)) ∙ ap length (sym w.split) in
    let low : 1 ≤ length t.stations = g.s_low in
    let high : length t.stations ≤ 64 = g.s_high in
    let few = (shares_of _ _ _ _ n.1).1 in
    record {
      settings = g.settings;
      k_low = g.k_low;
      k_high = g.k_high;
      s_low = rw e (omega arith);
      s_high = rw e (omega arith);
      plan = rw e n.0;
      shares = rw e n.1;
      few = rw e few;
      rises = rw e (rises_with w.before s w.after f (ap all_rising (sym w.split) ∙ g.rises) r);
    }

-- ---- one more point

insert_first : (p q : Point) (qs : List Point) → p.ioa ≤ q.ioa → insert_in p (q ∷ qs) ≡ p ∷ (q ∷ qs)
unfolding insert_in seek_in
insert_first p q qs h = simp (le-leb _ _ h)

insert_later : (p q : Point) (qs : List Point) → q.ioa < p.ioa → insert_in p (q ∷ qs) ≡ q ∷ insert_in p qs
unfolding insert_in seek_in
insert_later p q qs h = simp (lt-leb _ _ h)

insert_none : (p : Point) → insert_in p [] ≡ p ∷ []
unfolding insert_in seek_in
insert_none p = refl

pub insert_length : (p : Point) (ps : List Point) → length (insert_in p ps) ≡ length ps + 1
insert_length p [] = rw (insert_none p)
insert_length p (q ∷ qs) = by_test (insert_length p qs) (leb p.ioa q.ioa) refl
  where
    by_test : length (insert_in p qs) ≡ length qs + 1 → (b : Bool) → leb p.ioa q.ioa ≡ b → length (insert_in p (q ∷ qs)) ≡ suc (length qs) + 1
    by_test ih true t = rw (insert_first p q qs (leb-true _ _ t)) (omega arith)
    by_test ih false t = rw (insert_later p q qs (leb-false _ _ t)) (omega arith)

pub insert_rises : (p : Point) (low : ℕ) (ps : List Point) → low ≤ p.ioa → point_ok p ≡ true → known p.ioa ps ≡ false → rising low ps ≡ true
    → rising low (insert_in p ps) ≡ true
unfolding rising known
insert_rises p low [] l o k r = rw (insert_none p) (join (le-leb _ _ l) (join o refl))
insert_rises p low (q ∷ qs) l o k r =
    by_test (λ h e. insert_rises p (q.ioa + 1) qs h o e (both _ _ (both _ _ r).1).1) (leb p.ioa q.ioa) refl (eqb q.ioa p.ioa) refl k
  where
    by_test : (q.ioa + 1 ≤ p.ioa → known p.ioa qs ≡ false → rising (q.ioa + 1) (insert_in p qs) ≡ true)
        → (b : Bool) → leb p.ioa q.ioa ≡ b → (d : Bool) → eqb q.ioa p.ioa ≡ d → pick d true (known p.ioa qs) ≡ false
        → rising low (insert_in p (q ∷ qs)) ≡ true
    by_test ih b t true u e = let z : ◌≡◌ {A = ℕ} 0 1 = cc in absurd (omega arith)
    by_test ih true t false u e =
        let h : p.ioa ≤ q.ioa = leb-true _ _ t in
        let n : q.ioa ≡ p.ioa → ⊥ = eqb-false _ _ u in
        let r1 = both _ _ r in
        let m : p.ioa + 1 ≤ q.ioa = omega arith in
        rw (insert_first p q qs h) (join (le-leb _ _ l) (join o (join (le-leb _ _ m) r1.1)))
    by_test ih false t false u e =
        let h : q.ioa < p.ioa = leb-false _ _ t in
        let r1 = both _ _ r in
        rw (insert_later p q qs h) (join r1.0 (join (both _ _ r1.1).0 (ih (omega arith) e)))

-- A point taken into a station that the share rule admits keeps the table good.
pub good_added : (t : Table) (ca : ℕ) (p : Point) (s : Station) → Good t → Found ca t.stations s → point_ok p ≡ true → known p.ioa s.points ≡ false
    → admission_in t.capacity (map share_of t.stations) (share_of s) ≡ done → Good (added t ca p)
unfolding added
good_added t ca p s g w o k a =
    let k' : ℕ = t.capacity in
    let B : List Share = map share_of w.before in
    let A : List Share = map share_of w.after in
    let e : map share_of t.stations ≡ B ++ (share_of s ∷ A) = ap (map share_of) w.split ∙ shares_split w.before s w.after in
    let sound : Sound k' (B ++ (share_of s ∷ A)) = subst (Sound k') e (good_sound t g) in
    let a' : admission_in k' (B ++ (share_of s ∷ A)) (share_of s) ≡ done = ap (λ (l : List Share). admission_in k' l (share_of s)) (sym e) ∙ a in
    let taken : Sound k' (B ++ (taken_in (share_of s) ∷ A)) = take_in_keeps_sound k' B (share_of s) A sound a' in
    let below : held s < s.ceiling = (admitted_only (share_of s) (free_of k' (B ++ (share_of s ∷ A))) (total unmet_of (B ++ (share_of s ∷ A))) a').below_ceiling in
    let more : (taken_in (share_of s)).held ≡ held (with_points (insert_in p) s) = simp (lt-ltb _ _ below) (sym (insert_length p s.points)) in
    let one : taken_in (share_of s) ≡ share_of (with_points (insert_in p) s) =
    λ j. record { held = more j; reservation = s.reservation; ceiling = s.ceiling } in
    let whole : B ++ (taken_in (share_of s) ∷ A) ≡ map share_of (w.before ++ (with_points (insert_in p) s ∷ w.after)) =
    ap (λ (x : Share). B ++ (x ∷ A)) one ∙ sym (shares_split w.before (with_points (insert_in p) s) w.after) in
    good_changed t ca (insert_in p) s w g (insert_rises p 0 s.points (omega arith) o k (station_rises t ca s g w)) (subst (Sound k') whole taken)

-- ---- one point less

remove_here : (ioa : ℕ) (q : Point) (qs : List Point) → q.ioa ≡ ioa → remove_in ioa (q ∷ qs) ≡ qs
unfolding remove_in
remove_here ioa q qs e = simp (eq-eqb _ _ e)

remove_later : (ioa : ℕ) (q : Point) (qs : List Point) → (q.ioa ≡ ioa → ⊥) → remove_in ioa (q ∷ qs) ≡ q ∷ remove_in ioa qs
unfolding remove_in
remove_later ioa q qs n = simp (ne_eqb _ _ n)

pub remove_length : (ioa : ℕ) (ps : List Point) → known ioa ps ≡ true → length (remove_in ioa ps) + 1 ≡ length ps
unfolding known
remove_length ioa [] k = let z : ◌≡◌ {A = ℕ} 0 1 = cc in absurd (omega arith)
remove_length ioa (q ∷ qs) k = by_test (λ e. remove_length ioa qs e) (eqb q.ioa ioa) refl k
  where
    by_test : (known ioa qs ≡ true → length (remove_in ioa qs) + 1 ≡ length qs) → (b : Bool) → eqb q.ioa ioa ≡ b → pick b true (known ioa qs) ≡ true
        → length (remove_in ioa (q ∷ qs)) + 1 ≡ suc (length qs)
    by_test ih true t e = rw (remove_here ioa q qs (eqb-true _ _ t)) (omega arith)
    by_test ih false t e = let i = ih e in rw (remove_later ioa q qs (eqb-false _ _ t)) (omega arith)

rising_from : (low high : ℕ) (ps : List Point) → low ≤ high → rising high ps ≡ true → rising low ps ≡ true
unfolding rising
rising_from low high [] h r = refl
rising_from low high (p ∷ ps) h r =
    let r1 = both _ _ r in
    let l : high ≤ p.ioa = leb-true _ _ r1.0 in
    let m : low ≤ p.ioa = omega arith in
    join (le-leb _ _ m) r1.1

pub remove_rises : (ioa low : ℕ) (ps : List Point) → rising low ps ≡ true → rising low (remove_in ioa ps) ≡ true
unfolding rising remove_in
remove_rises ioa low [] r = refl
remove_rises ioa low (q ∷ qs) r = by_test (remove_rises ioa (q.ioa + 1) qs (both _ _ (both _ _ r).1).1) (eqb q.ioa ioa) refl
  where
    by_test : rising (q.ioa + 1) (remove_in ioa qs) ≡ true → (b : Bool) → eqb q.ioa ioa ≡ b → rising low (pick b qs (q ∷ remove_in ioa qs)) ≡ true
    by_test ih true t =
        let r1 = both _ _ r in
        let l : low ≤ q.ioa = leb-true _ _ r1.0 in
        rising_from low (q.ioa + 1) qs (omega arith) (both _ _ r1.1).1
    by_test ih false t = let r1 = both _ _ r in join r1.0 (join (both _ _ r1.1).0 ih)

-- A point let go keeps the table good.
pub good_removed : (t : Table) (ca ioa : ℕ) (s : Station) → Good t → Found ca t.stations s → known ioa s.points ≡ true → Good (removed t ca ioa)
unfolding removed
good_removed t ca ioa s g w k =
    let k' : ℕ = t.capacity in
    let B : List Share = map share_of w.before in
    let A : List Share = map share_of w.after in
    let e : map share_of t.stations ≡ B ++ (share_of s ∷ A) = ap (map share_of) w.split ∙ shares_split w.before s w.after in
    let sound : Sound k' (B ++ (share_of s ∷ A)) = subst (Sound k') e (good_sound t g) in
    let gone : Sound k' (B ++ (let_go (share_of s) ∷ A)) = let_go_keeps_sound k' B (share_of s) A sound in
    let less : length (remove_in ioa s.points) + 1 ≡ held s = remove_length ioa s.points k in
    let some-held : 0 < held s = omega arith in
    let one_less : (let_go (share_of s)).held ≡ held (with_points (remove_in ioa) s) = simp (lt-ltb _ _ some-held) (omega arith) in
    let one : let_go (share_of s) ≡ share_of (with_points (remove_in ioa) s) =
    λ j. record { held = one_less j; reservation = s.reservation; ceiling = s.ceiling } in
    let whole : B ++ (let_go (share_of s) ∷ A) ≡ map share_of (w.before ++ (with_points (remove_in ioa) s ∷ w.after)) =
    ap (λ (x : Share). B ++ (x ∷ A)) one ∙ sym (shares_split w.before (with_points (remove_in ioa) s) w.after) in
    good_changed t ca (remove_in ioa) s w g (remove_rises ioa 0 s.points (station_rises t ca s g w)) (subst (Sound k') whole gone)

-- ---- no point left

none_left : List Station → List Station
none_left ss = map (with_points (λ (ps : List Point). [])) ss

empty_plan : (k low : ℕ) (ss : List Station) → planned k low (none_left ss) ≡ planned k low ss
unfolding planned none_left
empty_plan k low [] = refl
empty_plan k low (s ∷ ss) =
    ap (λ (b : Bool). leb low s.ca & leb s.ca highest_ca & leb s.reservation s.ceiling & leb s.ceiling k & b) (empty_plan k (s.ca + 1) ss)

empty_reserved : (ss : List Station) → total reserved (none_left ss) ≡ total reserved ss
unfolding total none_left
empty_reserved [] = refl
empty_reserved (s ∷ ss) = ap (λ (n : ℕ). s.reservation + n) (empty_reserved ss)

empty_length : (ss : List Station) → length (none_left ss) ≡ length ss
unfolding none_left
empty_length [] = refl
empty_length (s ∷ ss) = ap suc (empty_length ss)

empty_rises : (ss : List Station) → all_rising (none_left ss) ≡ true
unfolding all_rising rising none_left
empty_rises [] = refl
empty_rises (s ∷ ss) = join refl (empty_rises ss)

empty_shares : (ss : List Station) → NothingHeld (map share_of (none_left ss)) × (total reservation_of (map share_of (none_left ss)) ≡ total reserved ss)
unfolding NothingHeld total none_left
empty_shares [] = (tt, refl)
empty_shares (s ∷ ss) = let ih = empty_shares ss in ((refl, ih.0), ap (λ (n : ℕ). s.reservation + n) ih.1)

-- A table without its points is good.
pub good_emptied : (t : Table) → Good t → Good (emptied t)
unfolding emptied none_left
good_emptied t g =
    let ss : List Station = none_left t.stations in
    let k : ℕ = t.capacity in
    let fits : total reserved t.stations ≤ k = (shares_of _ _ _ _ g.shares).0 in
    let z = empty_shares t.stations in
    let sound : Sound k (map share_of ss) = fresh_plan_sound k (map share_of ss) z.0 (omega arith) in
    let p : planned k 1 ss ≡ true = empty_plan k 1 t.stations ∙ (plan_of _ _ _ g.plan).0 in
    let rv : total reserved ss ≡ total reserved t.stations = empty_reserved t.stations in
    let n = sound_numbers k 1 ss p (omega arith) sound in
    let len : length ss ≡ length t.stations = empty_length t.stations in
    let low : 1 ≤ length t.stations = g.s_low in
    let high : length t.stations ≤ 64 = g.s_high in
    record {
      settings = g.settings;
      k_low = g.k_low;
      k_high = g.k_high;
      s_low = omega arith;
      s_high = omega arith;
      plan = n.0;
      shares = n.1;
      few = (shares_of _ _ _ _ n.1).1;
      rises = empty_rises t.stations;
    }

-- ---- which stations and points a change touches

-- The changed station is found with its new points.
pub changed_station : (ca : ℕ) (f : List Point → List Point) (ss : List Station) (s : Station) → station_of ca ss ≡ some s
    → station_of ca (in_station ca (with_points f) ss) ≡ some (with_points f s)
unfolding station_of in_station
changed_station ca f [] s e = let z : ◌≡◌ {A = ℕ} 0 1 = cc in absurd (omega arith)
changed_station ca f (x ∷ ss) s e = by_test (λ r. changed_station ca f ss s r) (eqb x.ca ca) refl e
  where
    by_test : (station_of ca ss ≡ some s → station_of ca (in_station ca (with_points f) ss) ≡ some (with_points f s))
        → (b : Bool) → eqb x.ca ca ≡ b → pick b (some x) (station_of ca ss) ≡ some s
        → station_of ca (pick b (with_points f x ∷ ss) (x ∷ in_station ca (with_points f) ss)) ≡ some (with_points f s)
    by_test ih true t e' = let q : x ≡ s = cc in simp t (ap (λ (y : Station). some (with_points f y)) q)
    by_test ih false t e' = simp t (ih e')

-- Every other station is as it was.
pub other_station : (ca other : ℕ) (f : List Point → List Point) (ss : List Station) → (ca ≡ other → ⊥)
    → station_of other (in_station ca (with_points f) ss) ≡ station_of other ss
unfolding station_of in_station
other_station ca other f [] n = refl
other_station ca other f (x ∷ ss) n = by_test (other_station ca other f ss n) (eqb x.ca ca) refl (eqb x.ca other) refl
  where
    by_test : station_of other (in_station ca (with_points f) ss) ≡ station_of other ss
        → (b : Bool) → eqb x.ca ca ≡ b → (d : Bool) → eqb x.ca other ≡ d
        → station_of other (pick b (with_points f x ∷ ss) (x ∷ in_station ca (with_points f) ss)) ≡ pick d (some x) (station_of other ss)
    by_test ih true t true u =
        let p : x.ca ≡ ca = eqb-true _ _ t in
        let q : x.ca ≡ other = eqb-true _ _ u in
        absurd (n (sym p ∙ q))
    by_test ih true t false u = simp u
    by_test ih false t true u = simp u
    by_test ih false t false u = simp u ih

-- One more point is known, and what was known stays so.
pub known_insert : (p : Point) (ioa : ℕ) (ps : List Point) → known ioa (insert_in p ps) ≡ pick (eqb p.ioa ioa) true (known ioa ps)
unfolding known
known_insert p ioa [] = rw (insert_none p)
known_insert p ioa (q ∷ qs) = by_test (known_insert p ioa qs) (leb p.ioa q.ioa) refl (eqb p.ioa ioa) refl (eqb q.ioa ioa) refl
  where
    by_test : known ioa (insert_in p qs) ≡ pick (eqb p.ioa ioa) true (known ioa qs)
        → (b : Bool) → leb p.ioa q.ioa ≡ b → (d : Bool) → eqb p.ioa ioa ≡ d → (e : Bool) → eqb q.ioa ioa ≡ e
        → known ioa (insert_in p (q ∷ qs)) ≡ pick d true (pick e true (known ioa qs))
    by_test ih true t d u e v = rw (insert_first p q qs (leb-true _ _ t)) (simp (u, v))
    by_test ih false t true u true v = rw (insert_later p q qs (leb-false _ _ t)) (simp v)
    by_test ih false t true u false v = rw (insert_later p q qs (leb-false _ _ t)) (simp v (ih ∙ simp u))
    by_test ih false t false u e v = rw (insert_later p q qs (leb-false _ _ t)) (simp (v, ih, u))
