-- What the interface narrows to 32 bits arrives whole: the number of points removed and a station's share are at most K, and a place in a batch is
-- at most the number of its records. (Octets of answers: `promises`, proofs/Small.antt.)
-- Assumes nothing.
use mathlib.Core.Path.{◌≡◌, refl, sym, ap, ◌∙◌}
use mathlib.Core.List.{List, [], ◌∷◌, ◌++◌}
use mathlib.Core.Bool.{Bool, true, false}
use mathlib.Core.Option.{Option, none, some}
use Prim.Native.Nat.{ℕ, ◌+◌, ◌-◌, ◌≤◌, ◌<◌}
use native.Mathlib.Omega.{arith}
use lib.ListN.{length}
use borrow.Author.Tests.{leb-true}
use Rattle.limits.specs.Test.{pick}
use Rattle.std.specs.Prelude.{Result, Ok, Err}
use Rattle.limits.specs.declared.outcome.Refusal.{Refusal}
use Rattle.limits.specs.Outcome.{is_done}
use Rattle.limits.proofs.Tests.{both}
use Rattle.octets.specs.Number.{Octets}
use Rattle.model.specs.declared.Request.{Request}
use Rattle.table.specs.Table.{Station, Table, plan_ok, numbers_ok, shares_ok}
use Rattle.table.specs.Change.{station_of}
use Rattle.table.specs.Memory.{parse}
use Rattle.table.proofs.Parse.{Good, good_is, parse_sound}
use Rattle.table.proofs.Change.{station_found}
use Rattle.registry.specs.Effect.{Reply, Effect, reply_from, reply_on}
use Rattle.registry.specs.declared.StationShare.{StationShare}
use Rattle.registry.specs.Registry.{room_fault, with_request, batch_fault, own_tests, room_tests, registering_all, unregistering_all, share_in, share_from, share_on}
use Rattle.registry.proofs.Histories.{station_numbers}
use Rattle.khuvelter.specs.Interface.{narrowed}

-- A number below 4,294,967,296 is given as it is.
pub whole : (n : ℕ) → n < 4294967296 → narrowed n ≡ n
whole n below = omega arith

removed_from : (m : List ℕ) → Octets m → (t : Option Table) → parse m ≡ t → narrowed (reply_from unregistering_all t).place ≡ (reply_from unregistering_all t).place
unfolding reply_from unregistering_all
removed_from m o none e = refl
removed_from m o (some t) e =
    let g = good_is t (parse_sound m t o e).0 in
    let few = g.few in
    let high = g.k_high in
    whole _ (omega arith)

-- The number of points that the removal of all lets go.
pub removed_whole : (m : List ℕ) → Octets m → narrowed (reply_on unregistering_all m).place ≡ (reply_on unregistering_all m).place
removed_whole m o = removed_from m o (parse m) refl

-- ---- a batch

reply_place : (b : Bool) (x y : Reply) (n : ℕ) → x.place ≤ n → y.place ≤ n → (pick b x y).place ≤ n
reply_place true x y n p q = p
reply_place false x y n p q = q

effect_place : (b : Bool) (x y : Effect) (n : ℕ) → x.place ≤ n → y.place ≤ n → (pick b x y).place ≤ n
effect_place true x y n p q = p
effect_place false x y n p q = q

own_place : (t : Table) (earlier : List Request) (i : ℕ) (qs : List Request) → (own_tests t earlier i qs).place ≤ i + length qs
unfolding own_tests
own_place t earlier i [] = omega arith
own_place t earlier i (q ∷ qs) =
    let later = own_place t (q ∷ earlier) (i + 1) qs in
    reply_place (is_done (batch_fault t earlier q)) _ _ _ (omega arith) (omega arith)

room_place : (t : Table) (i : ℕ) (qs : List Request) → (room_tests t i qs).place ≤ i + length qs
unfolding room_tests
room_place t i [] = omega arith
room_place t i (q ∷ qs) =
    let later = room_place (with_request t q) (i + 1) qs in
    effect_place (is_done (room_fault t (station_of q.ca t.stations))) _ _ _ (omega arith) (omega arith)

batch_place : (qs : List Request) (t : Option Table) → (reply_from (registering_all qs) t).place ≤ length qs
unfolding reply_from registering_all
batch_place qs none = omega arith
batch_place qs (some t) =
    let own = own_place t [] 0 qs in
    let room = room_place t 0 qs in
    effect_place (is_done (own_tests t [] 0 qs).outcome) _ _ _ (omega arith) (omega arith)

-- The place of the faulty point of a batch of fewer than 4,294,967,296 points.
pub place_whole : (qs : List Request) (m : List ℕ) → length qs < 4294967296
    → narrowed (reply_on (registering_all qs) m).place ≡ (reply_on (registering_all qs) m).place
place_whole qs m few =
    let p = batch_place qs (parse m) in
    whole _ (omega arith)

-- ---- a share

-- Each number of a share is given as it is.
pub record Given (s : StationShare) : Type 0 where
  pub reservation_whole : narrowed s.share.reservation ≡ s.share.reservation
  pub ceiling_whole : narrowed s.share.ceiling ≡ s.share.ceiling
  pub held_whole : narrowed s.share.held ≡ s.share.held
  pub free_whole : narrowed s.free ≡ s.free
  pub unmet_whole : narrowed s.unmet ≡ s.unmet

-- The same of a share that may be refused.
pub GivenIfOk : Result StationShare Refusal → Type 0
GivenIfOk (Ok s) = Given s
GivenIfOk (Err r) = Unit

ceiling_within : (k low : ℕ) (before : List Station) (s : Station) (after : List Station) → plan_ok k low (before ++ (s ∷ after)) ≡ true → s.ceiling ≤ k
unfolding plan_ok numbers_ok
ceiling_within k low [] s after p =
    leb-true _ _ (both _ _ (both _ _ (both _ _ (both _ _ (both _ _ p).0).1).1).1).0
ceiling_within k low (x ∷ before) s after p = ceiling_within k (x.ca + 1) before s after (both _ _ p).1

unmet_within : (k r h u : ℕ) → shares_ok k r h u ≡ true → u ≤ k - h
unfolding shares_ok
unmet_within k r h u p = leb-true _ _ (both _ _ (both _ _ p).1).1

share_in_lem : (t : Table) → Good t → (ca : ℕ) (s : Option Station) → station_of ca t.stations ≡ s → GivenIfOk (share_in t s)
unfolding share_in GivenIfOk
share_in_lem t g ca none e = tt
share_in_lem t g ca (some s) e =
    let w = station_found ca t.stations s e in
    let n = station_numbers t ca s g e in
    let r = n.reservation_within in
    let h = n.held_within in
    let c = ceiling_within t.capacity 1 w.before s w.after (ap (plan_ok t.capacity 1) (sym w.split) ∙ g.plan) in
    let u = unmet_within _ _ _ _ g.shares in
    let k = g.k_high in
    record {
      reservation_whole = whole _ (omega arith);
      ceiling_whole = whole _ (omega arith);
      held_whole = whole _ (omega arith);
      free_whole = whole _ (omega arith);
      unmet_whole = whole _ (omega arith);
    }

share_from_lem : (ca : ℕ) (m : List ℕ) → Octets m → (t : Option Table) → parse m ≡ t → GivenIfOk (share_from ca t)
unfolding share_from GivenIfOk
share_from_lem ca m o none e = tt
share_from_lem ca m o (some t) e = share_in_lem t (good_is t (parse_sound m t o e).0) ca (station_of ca t.stations) refl

-- The share of a station.
pub share_whole : (ca : ℕ) (m : List ℕ) → Octets m → GivenIfOk (share_on ca m)
share_whole ca m o = share_from_lem ca m o (parse m) refl
