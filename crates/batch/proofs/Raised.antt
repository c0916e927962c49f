-- The stations' numbers raised: over the octets of stations this writes those of stations that hold more. Assumes nothing.
use mathlib.Core.Path.{◌≡◌, refl, sym, ap, ◌∙◌, subst}
use mathlib.Core.List.{List, [], ◌∷◌, ◌++◌, map, append_assoc}
use mathlib.Core.Bool.{true}
use Prim.Native.Nat.{ℕ, zero, suc, ◌+◌, ◌*◌, ◌-◌, ◌/◌, ◌%◌, ◌≤◌, ◌<◌}
use native.Mathlib.Omega.{arith}
use lib.ListN.{length, drop, get_or, length-append}
use lib.Seq.{get_or-drop, drop_at}
use borrow.Author.Tests.{leb-true}
use Rattle.limits.proofs.Tests.{both}
use Rattle.octets.specs.Over.{over}
use Rattle.octets.specs.Number.{two, pair}
use Rattle.octets.proofs.Laws.{over_at, over_above}
use Rattle.table.specs.Table.{Station, held, numbers_ok, plan_ok, eight, entries}
use Rattle.table.proofs.Cut.{six}
use Rattle.registry.specs.History.{Holding, holding_of}
use Rattle.batch_room.specs.Room.{holding_with}
use Rattle.batch.specs.Raise.{raised, Raisable}

-- ---- on lists

-- two octets past a seam
two_past : (X Y : List ℕ) (at : ℕ) → length X ≡ at → two (X ++ Y) (at + 6) ≡ two Y 6
two_past X Y at e =
    let d : drop at (X ++ Y) ≡ Y = drop_at X Y at e in
    let a : get_or (X ++ Y) (at + 6) 0 ≡ get_or Y 6 0 = sym (get_or-drop at (X ++ Y) 6 0) ∙ ap (λ (l : List ℕ). get_or l 6 0) d in
    let f : at + 6 + 1 ≡ at + 7 = omega arith in
    let b : get_or (X ++ Y) (at + 6 + 1) 0 ≡ get_or Y 7 0 = ap (λ (i : ℕ). get_or (X ++ Y) i 0) f ∙ sym (get_or-drop at (X ++ Y) 7 0) ∙ ap (λ (l : List ℕ). get_or l 7 0) d in
    λ j. a j + 256 * b j

-- what a station holds is read from its octets
held_read : (X R : List ℕ) (s : Station) (ss : List Station) (at : ℕ) → length X ≡ at → two (X ++ (entries (s ∷ ss) ++ R)) (at + 6) ≡ held s
unfolding entries
held_read X R s ss at e =
    let w : held s % 256 + 256 * (held s / 256) ≡ held s = omega arith in
    two_past X (eight s.ca s.reservation s.ceiling (held s) ++ (entries ss ++ R)) at e ∙ w

-- a station's octets before those of the others
sewn : (X R : List ℕ) (s : Station) (ss : List Station)
    → (X ++ eight s.ca s.reservation s.ceiling (held s)) ++ (entries ss ++ R) ≡ X ++ (entries (s ∷ ss) ++ R)
unfolding entries
sewn X R s ss = append_assoc X (eight s.ca s.reservation s.ceiling (held s)) (entries ss ++ R)

-- one station's number written
write_held : (X R : List ℕ) (s : Station) (ss : List Station) (at v : ℕ) → length X ≡ at
    → over (X ++ (entries (s ∷ ss) ++ R)) (at + 6) (pair v) ≡ (X ++ eight s.ca s.reservation s.ceiling v) ++ (entries ss ++ R)
unfolding entries six
write_held X R s ss at v e =
    let S : List ℕ = six s.ca s.reservation s.ceiling in
    let Y : List ℕ = entries ss ++ R in
    let l : length (X ++ S) ≡ at + 6 = length-append X S ∙ (omega arith) in
    ap (λ (x : List ℕ). over x (at + 6) (pair v)) (sym (append_assoc X S (pair (held s) ++ Y)))
    ∙ over_at (X ++ S) (pair (held s)) Y (pair v) (at + 6) l refl
    ∙ append_assoc X S (pair v ++ Y)
    ∙ sym (append_assoc X (S ++ pair v) Y)

-- what equal lines say of the first station and of the others
lines_first : (s s' : Station) (ss ss' : List Station) (taken : List ℕ) (i : ℕ) → map holding_of (s' ∷ ss') ≡ holding_with (s ∷ ss) taken i
    → (holding_of s' ≡ record { ca = s.ca; reservation = s.reservation; ceiling = s.ceiling; held = held s + get_or taken i 0 })
    × (map holding_of ss' ≡ holding_with ss taken (i + 1))
unfolding holding_with
lines_first s s' ss ss' taken i e = (cc, cc)

-- no line for a station, no station for a line
no_station : (s' : Station) (ss' : List Station) (taken : List ℕ) (i : ℕ) → map holding_of (s' ∷ ss') ≡ holding_with [] taken i → ◌≡◌ {A = ℕ} 0 1
unfolding holding_with
no_station s' ss' taken i e = cc

no_line : (s : Station) (ss : List Station) (taken : List ℕ) (i : ℕ) → map holding_of [] ≡ holding_with (s ∷ ss) taken i → ◌≡◌ {A = ℕ} 0 1
unfolding holding_with
no_line s ss taken i e = cc

-- As many stations as before.
pub same_stations : (ss ss' : List Station) (taken : List ℕ) (i : ℕ) → map holding_of ss' ≡ holding_with ss taken i → length ss' ≡ length ss
same_stations [] [] taken i e = refl
same_stations [] (s' ∷ ss') taken i e = let z : ◌≡◌ {A = ℕ} 0 1 = no_station s' ss' taken i e in absurd (omega arith)
same_stations (s ∷ ss) [] taken i e = let z : ◌≡◌ {A = ℕ} 0 1 = no_line s ss taken i e in absurd (omega arith)
same_stations (s ∷ ss) (s' ∷ ss') taken i e = ap suc (same_stations ss ss' taken (i + 1) (lines_first s s' ss ss' taken i e).1)

-- The octets of the stations become those of the stations that hold more.
pub raise_entries : (X R : List ℕ) (ss ss' : List Station) (taken : List ℕ) (i at : ℕ) → length X ≡ at → map holding_of ss' ≡ holding_with ss taken i
    → raised (X ++ (entries ss ++ R)) taken i at (length ss) ≡ X ++ (entries ss' ++ R)
unfolding raised
raise_entries X R [] [] taken i at l e = refl
raise_entries X R [] (s' ∷ ss') taken i at l e = let z : ◌≡◌ {A = ℕ} 0 1 = no_station s' ss' taken i e in absurd (omega arith)
raise_entries X R (s ∷ ss) [] taken i at l e = let z : ◌≡◌ {A = ℕ} 0 1 = no_line s ss taken i e in absurd (omega arith)
raise_entries X R (s ∷ ss) (s' ∷ ss') taken i at l e =
    let f = lines_first s s' ss ss' taken i e in
    let h : two (X ++ (entries (s ∷ ss) ++ R)) (at + 6) + get_or taken i 0 ≡ held s + get_or taken i 0 = ap (λ (x : ℕ). x + get_or taken i 0) (held_read X R s ss at l) in
    let E : List ℕ = eight s.ca s.reservation s.ceiling (held s + get_or taken i 0) in
    let le : length (X ++ E) ≡ at + 8 = length-append X E ∙ (omega arith) in
    ap (λ (v : ℕ). raised (over (X ++ (entries (s ∷ ss) ++ R)) (at + 6) (pair v)) taken (i + 1) (at + 8) (length ss)) h
    ∙ ap (λ (x : List ℕ). raised x taken (i + 1) (at + 8) (length ss)) (write_held X R s ss at (held s + get_or taken i 0) l)
    ∙ raise_entries (X ++ E) R ss ss' taken (i + 1) (at + 8) le f.1
    ∙ ap (λ (z : Holding). (X ++ eight z.ca z.reservation z.ceiling z.held) ++ (entries ss' ++ R)) (sym f.0)
    ∙ sewn X R s' ss'

-- No number grows past two octets where the plan of the stations that hold more is sound.
pub raisable_entries : (X R : List ℕ) (cap low : ℕ) (ss ss' : List Station) (taken : List ℕ) (i at : ℕ) → length X ≡ at → cap ≤ 4096 → plan_ok cap low ss' ≡ true
    → map holding_of ss' ≡ holding_with ss taken i → Raisable (X ++ (entries ss ++ R)) taken i at (length ss)
unfolding Raisable plan_ok numbers_ok
raisable_entries X R cap low [] ss' taken i at l c p e = tt
raisable_entries X R cap low (s ∷ ss) [] taken i at l c p e = let z : ◌≡◌ {A = ℕ} 0 1 = no_line s ss taken i e in absurd (omega arith)
raisable_entries X R cap low (s ∷ ss) (s' ∷ ss') taken i at l c p e =
    let f = lines_first s s' ss ss' taken i e in
    let p1 = both _ _ p in
    let n4 = both _ _ (both _ _ (both _ _ (both _ _ p1.0).1).1).1 in
    let top : s'.ceiling ≤ cap = leb-true _ _ n4.0 in
    let most : held s' ≤ s'.ceiling = leb-true _ _ n4.1 in
    let h : held s' ≡ held s + get_or taken i 0 = ap (λ (z : Holding). z.held) f.0 in
    let r : two (X ++ (entries (s ∷ ss) ++ R)) (at + 6) ≡ held s = held_read X R s ss at l in
    let E : List ℕ = eight s.ca s.reservation s.ceiling (held s) in
    let le : length (X ++ E) ≡ at + 8 = length-append X E ∙ (omega arith) in
    (omega arith, subst (λ (x : List ℕ). Raisable x taken (i + 1) (at + 8) (length ss)) (sewn X R s ss) (raisable_entries (X ++ E) R cap (s'.ca + 1) ss ss' taken (i + 1) (at + 8) le c p1.1 f.1))

-- ---- the turns of the loop

-- what lies from b on is the same
two_same : (m m' : List ℕ) (b j : ℕ) → drop b m' ≡ drop b m → b ≤ j → two m' j ≡ two m j
two_same m m' b j e h =
    let x : b + (j - b) ≡ j = omega arith in
    let y : b + (j + 1 - b) ≡ j + 1 = omega arith in
    let at-is : (k i : ℕ) → b + k ≡ i → get_or m' i 0 ≡ get_or m i 0 =
    λ k i z. ap (λ (n : ℕ). get_or m' n 0) (sym z) ∙ sym (get_or-drop b m' k 0) ∙ ap (λ (l : List ℕ). get_or l k 0) e ∙ get_or-drop b m k 0 ∙ ap (λ (n : ℕ). get_or m n 0) z in
    let p = at-is (j - b) j x in
    let q = at-is (j + 1 - b) (j + 1) y in
    λ k. p k + 256 * q k

-- what can be raised from b on still can
raisable_past : (m m' taken : List ℕ) (b i at n : ℕ) → drop b m' ≡ drop b m → b ≤ at → Raisable m taken i at n → Raisable m' taken i at n
unfolding Raisable
raisable_past m m' taken b i at zero e h r = tt
raisable_past m m' taken b i at (suc n) e h r =
    (subst (λ (x : ℕ). x + get_or taken i 0 < 65536) (sym (two_same m m' b (at + 6) e (omega arith))) r.0, raisable_past m m' taken b (i + 1) (at + 8) n e (omega arith) r.1)

module _ (m taken : List ℕ) (at n : ℕ) where
  module _ (i : ℕ) (h : i < n) (room : at + 8 * n ≤ length m) where
    -- the next station's number written
    pub raise_on : raised m taken i (at + 8 * i) (n - i)
        ≡ raised (over m (at + 8 * i + 6) (pair (two m (at + 8 * i + 6) + get_or taken i 0))) taken (i + 1) (at + 8 * (i + 1)) (n - (i + 1))
    unfolding raised
    raise_on =
        let e : n - i ≡ suc (n - (i + 1)) = omega arith in
        let f : at + 8 * i + 8 ≡ at + 8 * (i + 1) = omega arith in
        ap (raised m taken i (at + 8 * i)) e
        ∙ ap (λ (x : ℕ). raised (over m (at + 8 * i + 6) (pair (two m (at + 8 * i + 6) + get_or taken i 0))) taken (i + 1) x (n - (i + 1))) f

    -- it is a number of two octets
    pub raise_fits : Raisable m taken i (at + 8 * i) (n - i) → two m (at + 8 * i + 6) + get_or taken i 0 < 65536
    unfolding Raisable
    raise_fits r =
        let e : n - i ≡ suc (n - (i + 1)) = omega arith in
        (subst (λ (x : ℕ). Raisable m taken i (at + 8 * i) x) e r).0

    -- the others still can be raised
    pub raisable_on : (v : ℕ) → Raisable m taken i (at + 8 * i) (n - i) → Raisable (over m (at + 8 * i + 6) (pair v)) taken (i + 1) (at + 8 * (i + 1)) (n - (i + 1))
    unfolding Raisable
    raisable_on v r =
        let e : n - i ≡ suc (n - (i + 1)) = omega arith in
        let f : at + 8 * i + 8 ≡ at + 8 * (i + 1) = omega arith in
        let s = (subst (λ (x : ℕ). Raisable m taken i (at + 8 * i) x) e r).1 in
        raisable_past m (over m (at + 8 * i + 6) (pair v)) taken (at + 8 * i + 8) (i + 1) (at + 8 * (i + 1)) (n - (i + 1))
        (over_above m (pair v) (at + 8 * i + 6) (at + 8 * i + 8) (omega arith) (omega arith)) (omega arith)
        (subst (λ (x : ℕ). Raisable m taken (i + 1) x (n - (i + 1))) f s)

  -- no station is left
  pub raise_end : (i : ℕ) → n ≤ i → raised m taken i (at + 8 * i) (n - i) ≡ m
  unfolding raised
  raise_end i h = let e : n - i ≡ 0 = omega arith in ap (raised m taken i (at + 8 * i)) e
