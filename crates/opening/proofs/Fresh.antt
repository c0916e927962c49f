-- A fresh table: nothing held, no places, its octets, good exactly if it opens, and read back from the memory it was opened in. Assumes nothing.
use mathlib.Core.Path.{◌≡◌, refl, sym, ap, ◌∙◌}
use mathlib.Core.List.{List, [], ◌∷◌, ◌++◌, map, append_assoc}
use mathlib.Core.Bool.{Bool, true, false}
use mathlib.Core.Option.{some}
use Prim.Native.Nat.{ℕ, ◌+◌, ◌*◌, ◌-◌, ◌%◌, ◌≤◌}
use native.Mathlib.Omega.{arith}
use native.Mathlib.Nat.{zero-add}
use lib.ListN.{length, drop, replicate, length-append, length-drop, length-replicate, replicate-append-replicate}
use borrow.Author.Tests.{eqb-true, eq-eqb, leb-true, le-leb}
use Rattle.limits.specs.Test.{◌&◌, pick, total}
use Rattle.limits.specs.Share.{Sound}
use Rattle.std.specs.Prelude.{Err}
use Rattle.limits.specs.Outcome.{done, number_of}
use Rattle.limits.specs.declared.outcome.Refusal.TheVariants.{InvalidPlan}
use Rattle.limits.proofs.Tests.{both, join}
use Rattle.limits.proofs.Shares.{NothingHeld}
use Rattle.octets.specs.Over.{over}
use Rattle.octets.proofs.Laws.{over_over, length_over}
use Rattle.table.specs.Table.{document01, held, unmet, reserved, share_of, rising, all_rising, plan_ok, places_of, bodies, entries, head, image, good}
use Rattle.table.specs.Memory.{parse}
use Rattle.table.proofs.Stations.{length_entries}
use Rattle.table.proofs.Parse.{good_is, is_good, length_image, parse_complete}
use Rattle.table.proofs.Shares.{good_sound, shares_of, shares_from}
use Rattle.registry.specs.Opening.{planned, valid_plan, table_octets, opens, fresh, open_outcome, opened_memory}
use Rattle.opening.specs.Head.{head_start}

-- ---- nothing is held

pub held_none : (plan : List ℕ) → total held (planned plan) ≡ 0
unfolding planned total
held_none [] = refl
held_none (a ∷ []) = refl
held_none (a ∷ (b ∷ [])) = refl
held_none (a ∷ (b ∷ (c ∷ rest))) = let ih : total held (planned rest) ≡ 0 = held_none rest in omega arith

-- Every station of a fresh table holds 0.
pub nothing_held : (plan : List ℕ) → NothingHeld (map share_of (planned plan))
unfolding planned NothingHeld
nothing_held [] = tt
nothing_held (a ∷ []) = tt
nothing_held (a ∷ (b ∷ [])) = tt
nothing_held (a ∷ (b ∷ (c ∷ rest))) = (refl, nothing_held rest)

-- so what is unmet is what is reserved
pub unmet_all : (plan : List ℕ) → total unmet (planned plan) ≡ total reserved (planned plan)
unfolding planned total
unmet_all [] = refl
unmet_all (a ∷ []) = refl
unmet_all (a ∷ (b ∷ [])) = refl
unmet_all (a ∷ (b ∷ (c ∷ rest))) = let ih : total unmet (planned rest) ≡ total reserved (planned rest) = unmet_all rest in omega arith

pub bodies_none : (plan : List ℕ) → bodies (planned plan) ≡ []
unfolding planned bodies places_of
bodies_none [] = refl
bodies_none (a ∷ []) = refl
bodies_none (a ∷ (b ∷ [])) = refl
bodies_none (a ∷ (b ∷ (c ∷ rest))) = bodies_none rest

pub rises_none : (plan : List ℕ) → all_rising (planned plan) ≡ true
unfolding planned all_rising rising ◌&◌
rises_none [] = refl
rises_none (a ∷ []) = refl
rises_none (a ∷ (b ∷ [])) = refl
rises_none (a ∷ (b ∷ (c ∷ rest))) = rises_none rest

-- ---- its octets

-- The image of a fresh table: the head's start, zeros, stations.
pub image_fresh : (k n : ℕ) (plan : List ℕ) → length (planned plan) ≡ n
    → image (fresh k plan) ≡ head_start k n ++ (replicate (50 + 48 * k) 0 ++ entries (planned plan))
unfolding image
image_fresh k n plan e =
    let E : List ℕ = entries (planned plan) in
    let h : total held (planned plan) ≡ 0 = held_none plan in
    let b : bodies (planned plan) ≡ [] = bodies_none plan in
    let z : k - 0 ≡ k = omega arith in
    (λ j. head document01 k (e j) (h j) ++ (b j ++ (replicate (48 * (k - h j)) 0 ++ E)))
    ∙ ap (λ (x : ℕ). head document01 k n 0 ++ (replicate (48 * x) 0 ++ E)) z
    ∙ ap (λ (l : List ℕ). head_start k n ++ l) (sym (append_assoc (replicate 50 0) (replicate (48 * k) 0) E))
    ∙ ap (λ (l : List ℕ). head_start k n ++ (l ++ E)) (replicate-append-replicate 50 (48 * k) 0)

-- What the code writes, one part after another, is the image.
pub written : (m : List ℕ) (k n : ℕ) (plan : List ℕ) → length (planned plan) ≡ n → 48 * k + 8 * n + 64 ≤ length m
    → over (over (over m 0 (head_start k n)) 14 (replicate (64 + 48 * k - 14) 0)) (64 + 48 * k) (entries (planned plan))
    ≡ over m 0 (image (fresh k plan))
written m k n plan e room =
    let H : List ℕ = head_start k n in
    let E : List ℕ = entries (planned plan) in
    let d : 64 + 48 * k - 14 ≡ 50 + 48 * k = omega arith in
    let Z : List ℕ = replicate (50 + 48 * k) 0 in
    let lz : length Z ≡ 50 + 48 * k = length-replicate {A = ℕ} (50 + 48 * k) 0 in
    let le : length E ≡ 8 * length (planned plan) = length_entries (planned plan) in
    let lm : length (over m 0 H) ≡ length m = length_over m H 0 (omega arith) in
    let lx : length (Z ++ E) ≡ length Z + length E = length-append Z E in
    ap (λ (x : ℕ). over (over (over m 0 H) 14 (replicate x 0)) (64 + 48 * k) E) d
    ∙ over_over (over m 0 H) Z E 14 (64 + 48 * k) (omega arith) (omega arith)
    ∙ over_over m H (Z ++ E) 0 14 refl (omega arith)
    ∙ ap (over m 0) (sym (image_fresh k n plan e))

-- octets laid over the front of a memory
pub over_front : (m xs : List ℕ) → over m 0 xs ≡ xs ++ drop (length xs) m
unfolding over
over_front m xs = rw zero-add

-- ---- when it opens

-- What holds where a table opens.
pub record Opens (k : ℕ) (plan : List ℕ) (octets : ℕ) : Type 0 where
  pub whole : length plan % 3 ≡ 0
  pub k_low : 1 ≤ k
  pub k_high : k ≤ 4096
  pub s_low : 1 ≤ length (planned plan)
  pub s_high : length (planned plan) ≤ 64
  pub numbers : plan_ok k 1 (planned plan) ≡ true
  pub fits : total reserved (planned plan) ≤ k
  pub room : table_octets k (length (planned plan)) ≤ octets

pub opens_is : (k : ℕ) (plan : List ℕ) (octets : ℕ) → opens k plan octets ≡ true → Opens k plan octets
unfolding opens valid_plan
opens_is k plan octets t =
    let t1 = both _ _ t in
    let t2 = both _ _ t1.1 in
    let v1 = both _ _ t2.0 in
    let v2 = both _ _ v1.1 in
    let v3 = both _ _ v2.1 in
    let v4 = both _ _ v3.1 in
    let v5 = both _ _ v4.1 in
    record {
      whole = eqb-true _ _ t1.0;
      k_low = leb-true _ _ v1.0;
      k_high = leb-true _ _ v2.0;
      s_low = leb-true _ _ v3.0;
      s_high = leb-true _ _ v4.0;
      numbers = v5.0;
      fits = leb-true _ _ v5.1;
      room = leb-true _ _ t2.1;
    }

pub is_opens : (k : ℕ) (plan : List ℕ) (octets : ℕ) → Opens k plan octets → opens k plan octets ≡ true
unfolding opens valid_plan
is_opens k plan octets o =
    join (eq-eqb _ _ o.whole)
    (join
    (join (le-leb _ _ o.k_low) (join (le-leb _ _ o.k_high) (join (le-leb _ _ o.s_low) (join (le-leb _ _ o.s_high) (join o.numbers (le-leb _ _ o.fits))))))
    (le-leb _ _ o.room))

-- ---- what was opened is good

-- A table that opens is good.
pub opens_good : (k : ℕ) (plan : List ℕ) (octets : ℕ) → opens k plan octets ≡ true → good (fresh k plan) ≡ true
opens_good k plan octets t =
    let o = opens_is k plan octets t in
    let h : total held (planned plan) ≡ 0 = held_none plan in
    let u : total unmet (planned plan) ≡ total reserved (planned plan) = unmet_all plan in
    let f : total reserved (planned plan) ≤ k = o.fits in
    is_good (fresh k plan)
    (record {
      settings = refl;
      k_low = o.k_low;
      k_high = o.k_high;
      s_low = o.s_low;
      s_high = o.s_high;
      plan = o.numbers;
      shares = shares_from _ _ _ _ f (omega arith) (omega arith);
      few = omega arith;
      rises = rises_none plan;
    })

-- And the other way: a fresh table that is good opens in every memory that is long enough, if its plan is whole stations.
pub good_opens : (k : ℕ) (plan : List ℕ) (octets : ℕ) → good (fresh k plan) ≡ true → length plan % 3 ≡ 0
    → table_octets k (length (planned plan)) ≤ octets → opens k plan octets ≡ true
good_opens k plan octets g w r =
    let h = good_is (fresh k plan) g in
    is_opens k plan octets
    (record {
      whole = w;
      k_low = h.k_low;
      k_high = h.k_high;
      s_low = h.s_low;
      s_high = h.s_high;
      numbers = h.plan;
      fits = (shares_of _ _ _ _ h.shares).0;
      room = r;
    })

-- The octets that number 10 asks for are those of the fresh table's image.
pub table_octets_lem : (k : ℕ) (plan : List ℕ) → length (image (fresh k plan)) ≡ table_octets k (length (planned plan))
table_octets_lem k plan =
    let h : total held (planned plan) ≡ 0 = held_none plan in
    let e : length (image (fresh k plan)) ≡ 64 + 48 * k + 8 * length (planned plan) = length_image (fresh k plan) (omega arith) in
    omega arith

-- A fresh table is good exactly if it opens in a memory of the octets that number 10 asks for, its plan being whole stations.
pub opens_exactly : (k : ℕ) (plan : List ℕ) → length plan % 3 ≡ 0
    → (good (fresh k plan) ≡ true → opens k plan (table_octets k (length (planned plan))) ≡ true)
    × (opens k plan (table_octets k (length (planned plan))) ≡ true → good (fresh k plan) ≡ true)
opens_exactly k plan w = (
  (λ g. good_opens k plan (table_octets k (length (planned plan))) g w (omega arith)),
  opens_good k plan (table_octets k (length (planned plan))),
)

-- ---- the memory after opening

-- Opened, the fresh table lies at its front; refused, all is as it was.
pub opened : (k : ℕ) (plan m : List ℕ) → opens k plan (length m) ≡ true
    → opened_memory k plan m ≡ image (fresh k plan) ++ drop (length (image (fresh k plan))) m
opened k plan m t = simp t

pub refused : (k : ℕ) (plan m : List ℕ) → opens k plan (length m) ≡ false → opened_memory k plan m ≡ m
refused k plan m t = simp t

-- Done is given exactly if the table opens.
pub done_opens : (k : ℕ) (plan m : List ℕ) → open_outcome k plan m ≡ done → opens k plan (length m) ≡ true
done_opens k plan m e = by_test (opens k plan (length m)) (ap number_of e)
  where
    by_test : (b : Bool) → number_of (pick b done (Err InvalidPlan)) ≡ 0 → b ≡ true
    by_test true f = refl
    by_test false f = absurd (omega arith)

pub opens_done : (k : ℕ) (plan m : List ℕ) → opens k plan (length m) ≡ true → open_outcome k plan m ≡ done
opens_done k plan m t = simp t

-- What was opened is read back as the fresh table.
pub opened_parses : (k : ℕ) (plan m : List ℕ) → opens k plan (length m) ≡ true → parse (opened_memory k plan m) ≡ some (fresh k plan)
opened_parses k plan m t =
    ap parse (opened k plan m t) ∙ parse_complete (fresh k plan) (drop (length (image (fresh k plan))) m) (opens_good k plan (length m) t)

-- Opening keeps the memory's length.
pub opened_length : (k : ℕ) (plan m : List ℕ) → length (opened_memory k plan m) ≡ length m
opened_length k plan m = by_test (opens k plan (length m)) refl
  where
    by_test : (b : Bool) → opens k plan (length m) ≡ b → length (opened_memory k plan m) ≡ length m
    by_test false t = ap length (refused k plan m t)
    by_test true t =
        let X : List ℕ = image (fresh k plan) in
        let r = (opens_is k plan (length m) t).room in
        let e : length X ≡ table_octets k (length (planned plan)) = table_octets_lem k plan in
        let a : length (X ++ drop (length X) m) ≡ length X + length (drop (length X) m) = length-append X (drop (length X) m) in
        let d : length (drop (length X) m) ≡ length m - length X = length-drop (length X) m in
        ap length (opened k plan m t) ∙ omega arith

-- The fresh table's shares are sound.
pub opened_sound : (k : ℕ) (plan : List ℕ) (octets : ℕ) → opens k plan octets ≡ true → Sound k (map share_of (planned plan))
opened_sound k plan octets t = good_sound (fresh k plan) (good_is (fresh k plan) (opens_good k plan octets t))
