-- Each selected point exactly once and nothing else, by type and then by address: ordering is proved here once, over the set of types. Assumes nothing.
use mathlib.Core.Path.{◌≡◌, refl, sym, ap, ap₂, ◌∙◌}
use mathlib.Core.List.{List, [], ◌∷◌, ◌++◌}
use mathlib.Core.Bool.{Bool, true, false}
use mathlib.Core.Logic.{inl, inr}
use Prim.Native.Nat.{ℕ, suc, ◌+◌, ◌≤◌, ◌<◌}
use native.Mathlib.Omega.{arith}
use lib.ListN.{length}
use lib.Dec.{eqb}
use borrow.Author.Tests.{eqb-true, eqb-false, eq-eqb, ne_eqb, leb-true}
use Rattle.limits.specs.Test.{◌&◌, pick}
use Rattle.limits.proofs.Tests.{both, join}
use Rattle.model.specs.declared.Point.{Point}
use Rattle.table.specs.Table.{rising}
use Rattle.report.specs.Packing.{selected, joined, Each, counted}
use Rattle.report.specs.Selection.{among, Above, StrictlyAscending}
use Rattle.report.specs.Report.{of_kind, ordered}
use Rattle.report.specs.Order.{Before, InOrder, Climbing}
use Rattle.report.proofs.Each.{each_append, each_selected, each_so, each_both, each_joined, selected_pass, selected_none, selected_selected, counted_append}

-- ---- the set of types

-- a type that all of the set lie above is not in it
above_not : (low : ℕ) (ks : List ℕ) → Above low ks → among ks low ≡ false
unfolding Above among
above_not low [] a = refl
above_not low (k ∷ ks) a = rw (ne_eqb k low (λ e. let l : low < k = a.0 in omega arith)) (above_not low ks a.1)

-- what a set of types takes, one type after another
ordered_nil : (ps : List Point) → ordered [] ps ≡ []
unfolding ordered joined
ordered_nil ps = refl

ordered_cons : (k : ℕ) (ks : List ℕ) (ps : List Point) → ordered (k ∷ ks) ps ≡ of_kind k ps ++ ordered ks ps
unfolding ordered joined
ordered_cons k ks ps = refl

-- NOTHING ELSE: every point of the ordered list is one of those given, as far as any property tells, and has a type of the set
pub ordered_each : (P : Point → Type 0) (types : List ℕ) (ps : List Point) → Each P ps → Each P (ordered types ps)
unfolding ordered
ordered_each P types ps e = each_joined P (λ (kind : ℕ). of_kind kind ps) (λ kind. each_selected P (λ p. eqb p.kind kind) ps e) types

-- the first of a set, and the others
among_first : (k : ℕ) (ks : List ℕ) (p : Point) → eqb p.kind k ≡ true → among (k ∷ ks) p.kind ≡ true
unfolding among
among_first k ks p e = rw (eq-eqb k p.kind (sym (eqb-true p.kind k e)))

among_other : (k : ℕ) (ks : List ℕ) (p : Point) → among ks p.kind ≡ true → among (k ∷ ks) p.kind ≡ true
unfolding among
among_other k ks p e = go (eqb k p.kind)
  where
    go : (b : Bool) → pick b true (among ks p.kind) ≡ true
    go true = refl
    go false = e

pub ordered_among : (types : List ℕ) (ps : List Point) → Each (λ p. among types p.kind ≡ true) (ordered types ps)
unfolding ordered joined Each
ordered_among [] ps = tt
ordered_among (k ∷ ks) ps =
    each_append (λ p. among (k ∷ ks) p.kind ≡ true) (of_kind k ps) (joined (λ (kind : ℕ). of_kind kind ps) ks)
    (each_so (λ p. eqb p.kind k ≡ true) (λ p. among (k ∷ ks) p.kind ≡ true) (among_first k ks) (of_kind k ps) (selected_pass (λ p. eqb p.kind k) ps))
    (each_so (λ p. among ks p.kind ≡ true) (λ p. among (k ∷ ks) p.kind ≡ true) (among_other k ks) (joined (λ (kind : ℕ). of_kind kind ps) ks) (ordered_among ks ps))

-- ---- exactly once

-- of the points of a set, those of its first type and those of the others
counted_cons : (f : Point → Bool) (k : ℕ) (ks : List ℕ) → among ks k ≡ false → (ps : List Point)
    → counted (λ p. eqb p.kind k & f p) ps + counted (λ p. among ks p.kind & f p) ps ≡ counted (λ p. among (k ∷ ks) p.kind & f p) ps
unfolding selected among ◌&◌
counted_cons f k ks n [] = refl
counted_cons f k ks n (p ∷ ps) = go (eqb p.kind k) refl (f p) (counted_cons f k ks n ps)
  where
    of_first : List Point
    of_first = selected (λ (q : Point). eqb q.kind k & f q) ps

    of_others : List Point
    of_others = selected (λ (q : Point). among ks q.kind & f q) ps

    of_all : List Point
    of_all = selected (λ (q : Point). among (k ∷ ks) q.kind & f q) ps

    swap : (b : Bool) → eqb p.kind k ≡ b → eqb k p.kind ≡ b
    swap true e = eq-eqb k p.kind (sym (eqb-true p.kind k e))
    swap false e = ne_eqb k p.kind (λ q. eqb-false p.kind k e (sym q))

    two : (a b : Bool) → length of_first + length of_others ≡ length of_all
        → length of_first + length (pick (a & b) (p ∷ of_others) of_others) ≡ length (pick (a & b) (p ∷ of_all) of_all)
    two true true h = omega arith
    two true false h = h
    two false b h = h

    go : (a : Bool) → eqb p.kind k ≡ a → (b : Bool) → length of_first + length of_others ≡ length of_all
        → length (pick (a & b) (p ∷ of_first) of_first) + length (pick (among ks p.kind & b) (p ∷ of_others) of_others) ≡ length (pick (pick (eqb k p.kind) true (among ks p.kind) & b) (p ∷ of_all) of_all)
    go true e b h =
        let z : among ks p.kind ≡ false = ap (among ks) (eqb-true p.kind k e) ∙ n in
        let s : eqb k p.kind ≡ true = swap true e in
        ap₂ (λ (x y : Bool). length (pick b (p ∷ of_first) of_first) + length (pick (x & b) (p ∷ of_others) of_others)) z s ∙ one b h ∙ ap (λ (x : Bool). length (pick (pick x true (among ks p.kind) & b) (p ∷ of_all) of_all)) (sym s)
      where
        one : (c : Bool) → length of_first + length of_others ≡ length of_all → length (pick c (p ∷ of_first) of_first) + length of_others ≡ length (pick c (p ∷ of_all) of_all)
        one true g = omega arith
        one false g = g
    go false e b h =
        let s : eqb k p.kind ≡ false = swap false e in
        two (among ks p.kind) b h ∙ ap (λ (x : Bool). length (pick (pick x true (among ks p.kind) & b) (p ∷ of_all) of_all)) (sym s)

-- no type, no point
none_counted : (f : Point → Bool) (ps : List Point) → counted (λ p. among [] p.kind & f p) ps ≡ 0
unfolding selected among ◌&◌
none_counted f [] = refl
none_counted f (p ∷ ps) = none_counted f ps

-- EXACTLY ONCE: whatever test is asked, as many points of the ordered list pass as points of the list given that have a type of the set
pub ordered_counted : (f : Point → Bool) (types : List ℕ) → StrictlyAscending types → (ps : List Point)
    → counted f (ordered types ps) ≡ counted (λ p. among types p.kind & f p) ps
unfolding StrictlyAscending selected
ordered_counted f [] a ps = ap (counted f) (ordered_nil ps) ∙ sym (none_counted f ps)
ordered_counted f (k ∷ ks) a ps =
    ap (counted f) (ordered_cons k ks ps)
    ∙ counted_append f (of_kind k ps) (ordered ks ps)
    ∙ ap₂ (λ (x y : ℕ). x + y) (ap length (selected_selected f (λ (p : Point). eqb p.kind k) ps)) (ordered_counted f ks a.1 ps)
    ∙ counted_cons f k ks (above_not k ks a.0) ps

-- ---- in order

-- a station's points climb
rising_above : (low : ℕ) (ps : List Point) → rising low ps ≡ true → Each (λ q. low ≤ q.ioa) ps
unfolding rising Each
rising_above low [] e = tt
rising_above low (p ∷ ps) e =
    let a = both _ _ e in
    let l : low ≤ p.ioa = leb-true low p.ioa a.0 in
    (l, each_so (λ q. p.ioa + 1 ≤ q.ioa) (λ q. low ≤ q.ioa) (λ q h. omega arith) ps (rising_above (p.ioa + 1) ps (both _ _ a.1).1))

pub rising_climbs : (low : ℕ) (ps : List Point) → rising low ps ≡ true → Climbing ps
unfolding rising Climbing
rising_climbs low [] e = tt
rising_climbs low (p ∷ ps) e =
    let r = (both _ _ (both _ _ e).1).1 in
    (each_so (λ q. p.ioa + 1 ≤ q.ioa) (λ q. p.ioa < q.ioa) (λ q h. omega arith) ps (rising_above (p.ioa + 1) ps r), rising_climbs (p.ioa + 1) ps r)

-- and so do those that are selected
pub climbing_selected : (test : Point → Bool) (ps : List Point) → Climbing ps → Climbing (selected test ps)
unfolding selected Climbing
climbing_selected test [] c = tt
climbing_selected test (p ∷ ps) c = go (test p) (climbing_selected test ps c.1)
  where
    go : (b : Bool) → Climbing (selected test ps) → Climbing (pick b (p ∷ selected test ps) (selected test ps))
    go true r = (each_selected (λ q. p.ioa < q.ioa) test ps c.0, r)
    go false r = r

-- climbing points of one type, and then points of greater types in order
order_join : (k : ℕ) (xs ys : List Point) → Each (λ p. p.kind ≡ k) xs → Climbing xs → Each (λ q. k < q.kind) ys → InOrder ys → InOrder (xs ++ ys)
unfolding Each Climbing InOrder
order_join k [] ys e c g o = o
order_join k (x ∷ xs) ys e c g o = (
  each_append (Before x) xs ys
      (each_so (λ q. (x.ioa < q.ioa) × (q.kind ≡ k)) (Before x) (λ q h. inr (e.0 ∙ sym h.1, h.0)) xs (each_both (λ q. x.ioa < q.ioa) (λ q. q.kind ≡ k) xs c.0 e.1))
      (each_so (λ q. k < q.kind) (Before x) (λ q h. let a : x.kind ≡ k = e.0 in inl (omega arith)) ys g),
  order_join k xs ys e.1 c.1 g o,
)

-- what is in a set that lies above a type is above it
among_above : (low : ℕ) (ks : List ℕ) → Above low ks → (kind : ℕ) → among ks kind ≡ true → low < kind
unfolding Above among
among_above low [] a kind e = let z : ◌≡◌ {A = ℕ} 0 1 = cc in absurd (omega arith)
among_above low (k ∷ ks) a kind e = go (eqb k kind) refl e (λ h. among_above low ks a.1 kind h)
  where
    go : (b : Bool) → eqb k kind ≡ b → pick b true (among ks kind) ≡ true → (among ks kind ≡ true → low < kind) → low < kind
    go true q h r = let l : low < k = a.0 in let w : k ≡ kind = eqb-true k kind q in omega arith
    go false q h r = r h

nil_in_order : InOrder []
unfolding InOrder
nil_in_order = tt

-- IN ORDER: by ascending type, and within a type by ascending address
pub ordered_in_order : (types : List ℕ) → StrictlyAscending types → (ps : List Point) → Climbing ps → InOrder (ordered types ps)
unfolding StrictlyAscending
ordered_in_order [] a ps c = rw (ordered_nil ps) nil_in_order
ordered_in_order (k ∷ ks) a ps c =
    rw (ordered_cons k ks ps)
    (order_join k (of_kind k ps) (ordered ks ps)
    (each_so (λ p. eqb p.kind k ≡ true) (λ p. p.kind ≡ k) (λ p e. eqb-true p.kind k e) (of_kind k ps) (selected_pass (λ p. eqb p.kind k) ps))
    (climbing_selected (λ p. eqb p.kind k) ps c)
    (each_so (λ p. among ks p.kind ≡ true) (λ q. k < q.kind) (λ q e. among_above k ks a.0 q.kind e) (ordered ks ps) (ordered_among ks ps))
    (ordered_in_order ks a.1 ps c))

-- ---- a point given is there once

-- what holds of each holds of one
each_at : (P : Point → Type 0) (before : List Point) (p : Point) (after : List Point) → Each P (before ++ (p ∷ after)) → P p
unfolding Each
each_at P [] p after e = e.0
each_at P (x ∷ before) p after e = each_at P before p after e.1

-- of points that climb, none but itself has its address
alone : (f : Point → Bool) (p : Point) → f p ≡ true → ((q : Point) → f q ≡ true → q.ioa ≡ p.ioa) → (before after : List Point)
    → Climbing (before ++ (p ∷ after)) → counted f (before ++ (p ∷ after)) ≡ 1
unfolding Climbing selected
alone f p e u [] after c =
    ap (λ (b : Bool). length (pick b (p ∷ selected f after) (selected f after))) e
    ∙ ap (λ (l : List Point). suc (length l)) (selected_none f after (each_so (λ q. p.ioa < q.ioa) (λ q. f q ≡ false) (λ q h. fails q h) after c.0))
  where
    fails : (q : Point) → p.ioa < q.ioa → f q ≡ false
    fails q h = go (f q) refl
      where
        go : (b : Bool) → f q ≡ b → f q ≡ false
        go true w = let z : q.ioa ≡ p.ioa = u q w in absurd (omega arith)
        go false w = w
alone f p e u (x ∷ before) after c =
    ap (λ (b : Bool). length (pick b (x ∷ selected f (before ++ (p ∷ after))) (selected f (before ++ (p ∷ after))))) (fails (f x) refl)
    ∙ alone f p e u before after c.1
  where
    inside : (bs : List Point) → Each (λ q. x.ioa < q.ioa) (bs ++ (p ∷ after)) → x.ioa < p.ioa
    inside bs h = each_at (λ q. x.ioa < q.ioa) bs p after h

    fails : (b : Bool) → f x ≡ b → f x ≡ false
    fails true w = let z : x.ioa ≡ p.ioa = u x w in let l : x.ioa < p.ioa = inside before c.0 in absurd (omega arith)
    fails false w = w

-- EACH SELECTED POINT of a station whose type is in the set stands in the report exactly once
pub each_once : (test : Point → Bool) (types : List ℕ) → StrictlyAscending types → (before after : List Point) (p : Point)
    → Climbing (before ++ (p ∷ after)) → test p ≡ true → among types p.kind ≡ true
    → counted (λ q. eqb q.ioa p.ioa) (ordered types (selected test (before ++ (p ∷ after)))) ≡ 1
each_once test types a before after p c e m =
    ordered_counted (λ q. eqb q.ioa p.ioa) types a (selected test (before ++ (p ∷ after)))
    ∙ ap length (selected_selected (λ q. among types q.kind & eqb q.ioa p.ioa) test (before ++ (p ∷ after)))
    ∙ alone (λ q. test q & (among types q.kind & eqb q.ioa p.ioa)) p
    (join e (join m (eq-eqb p.ioa p.ioa refl)))
    (λ q h. eqb-true q.ioa p.ioa (both _ _ (both _ _ h).1).1)
    before after c
