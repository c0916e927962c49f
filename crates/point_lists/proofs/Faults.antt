-- The tests of one later point: those of the point alone, and whether its address stands earlier. Assumes nothing.
use Rattle.std.proofs.Common.{◌≡◌, ℕ, ◌<◌, ◌⊎◌, inl, inr, Bool, true, false, List, [], ◌∷◌, map, refl, sym, ap, ◌∙◌, arith}
use mathlib.Core.List.{reverse_aux}
use lib.Dec.{eqb}
use Rattle.limits.specs.Test.{◌&◌, pick}
use Rattle.std.specs.Prelude.{Err}
use Rattle.limits.specs.Outcome.{Outcome, done, is_done, number_of}
use Rattle.limits.specs.declared.outcome.Refusal.TheVariants.{AddressTwice, AlreadyRegistered}
use Rattle.limits.proofs.Outcomes.{not_both, done_is}
use Rattle.model.specs.declared.Request.{Request}
use Rattle.model.specs.Request.{own_fault}
use Rattle.table.specs.Table.{Table}
use Rattle.table.specs.Change.{station_of}
use Rattle.registry.specs.Effect.{Reply}
use Rattle.registry.specs.Effect.{first_fault}
use Rattle.registry.specs.Registry.{is_planned, is_registered, stands_in, batch_fault, own_tests}
use Rattle.batch_records.specs.Records.{requests_in}
use Rattle.points.specs.Points.{flat_record, whole}
use Rattle.point_lists.specs.Later.{last_first}
use Rattle.point_lists.proofs.Alone.{alone_law}
use Rattle.point_lists.proofs.Longer.{own_low}

-- an address stands in a list wherever it stands, in whatever order
stands_reversed : (q : Request) (x e : List Request) → stands_in q (reverse_aux x e) ≡ pick (stands_in q x) true (stands_in q e)
unfolding stands_in
stands_reversed q [] e = refl
stands_reversed q (p ∷ x) e = stands_reversed q x (p ∷ e) ∙ by_tests (eqb p.ca q.ca & eqb p.ioa q.ioa) (stands_in q x)
  where
    by_tests : (b c : Bool) → pick c true (pick b true (stands_in q e)) ≡ pick (pick b true c) true (stands_in q e)
    by_tests true true = refl
    by_tests true false = refl
    by_tests false true = refl
    by_tests false false = refl

stands_whole : (q : Request) (x : List Request) → stands_in (whole q) (map whole x) ≡ stands_in q x
unfolding stands_in
stands_whole q [] = refl
stands_whole q (p ∷ x) = ap (λ (b : Bool). pick (eqb p.ca q.ca & eqb p.ioa q.ioa) true b) (stands_whole q x)

-- An address stands among the earlier ones as it stands in the slice.
stands_earlier : (q : Request) (x : List Request) → stands_in (whole q) (last_first x) ≡ stands_in q x
unfolding stands_in
stands_earlier q x = stands_reversed (whole q) (map whole x) [] ∙ is_it (stands_in (whole q) (map whole x)) ∙ stands_whole q x
  where
    is_it : (b : Bool) → pick b true false ≡ b
    is_it true = refl
    is_it false = refl

-- ---- the fault of a point alone, and its fault in the batch

module _ (own : Outcome) (known : Bool) where
  -- the tests 11 to 15, then 16 where the address stands earlier, then 17
  abbrev in_batch : Bool → Outcome
  in_batch found = first_fault own (first_fault (pick found (Err AddressTwice) done) (pick known (Err AlreadyRegistered) done))

  own_done : (in_batch false ≡ done) ⊎ (in_batch false ≡ (Err AlreadyRegistered)) → number_of own < 16 → is_done own ≡ true
  own_done e low = by_test (is_done own) refl e
    where
      by_test : (b : Bool) → is_done own ≡ b → (pick b (pick known (Err AlreadyRegistered) done) own ≡ done) ⊎ (pick b (pick known (Err AlreadyRegistered) done) own ≡ (Err AlreadyRegistered)) → b ≡ true
      by_test true d f = refl
      by_test false d (inl f) = not_both (sym d ∙ ap is_done f)
      by_test false d (inr f) = let n : number_of own ≡ 17 = ap number_of f in absurd (omega arith)

  twice_found : (in_batch false ≡ done) ⊎ (in_batch false ≡ (Err AlreadyRegistered)) → number_of own < 16 → in_batch true ≡ (Err AddressTwice)
  twice_found e low = ap (λ (b : Bool). pick b (Err AddressTwice) own) (own_done e low)

  not_twice : (in_batch false ≡ done → ⊥) → (in_batch false ≡ (Err AlreadyRegistered) → ⊥) → (found : Bool) → in_batch found ≡ in_batch false
  not_twice n r found = by_tests (is_done own) known n r
    where
      by_tests : (b k : Bool) → (pick b (pick k (Err AlreadyRegistered) done) own ≡ done → ⊥) → (pick b (pick k (Err AlreadyRegistered) done) own ≡ (Err AlreadyRegistered) → ⊥)
          → pick b (first_fault (pick found (Err AddressTwice) done) (pick k (Err AlreadyRegistered) done)) own ≡ pick b (pick k (Err AlreadyRegistered) done) own
      by_tests true true n' r' = absurd (r' refl)
      by_tests true false n' r' = absurd (n' refl)
      by_tests false k n' r' = refl

-- The tests of the record of a point alone are those of the point.
pub alone : (t : Table) (p : Request) (m : List ℕ) (r : Reply) → m ≡ flat_record p → r ≡ own_tests t [] 0 (requests_in m) → r.outcome ≡ batch_fault t [] (whole p)
unfolding own_tests
alone t p m r f e = ap (λ (z : Reply). z.outcome) e ∙ ap (λ (l : List Request). (own_tests t [] 0 l).outcome) (ap requests_in f ∙ alone_law p) ∙ by_test (is_done (batch_fault t [] (whole p))) refl
  where
    passed : Reply
    passed = record { outcome = done; place = 0 }

    failed : Reply
    failed = record { outcome = batch_fault t [] (whole p); place = 0 }

    by_test : (b : Bool) → is_done (batch_fault t [] (whole p)) ≡ b → (pick b passed failed).outcome ≡ batch_fault t [] (whole p)
    by_test true d = sym (done_is _ d)
    by_test false d = refl

-- what the fault of a point alone makes of its fault in the batch
module _ (t : Table) (p : Request) (earlier : List Request) (o : Outcome) (is : o ≡ batch_fault t [] (whole p)) where
  abbrev own : Outcome
  own = own_fault (is_planned (station_of p.ca t.stations)) (whole p)

  abbrev known : Bool
  known = is_registered p.ioa (station_of p.ca t.stations)

  alone_is : o ≡ in_batch own known false
  unfolding batch_fault stands_in
  alone_is = is

  fault_is : batch_fault t (last_first earlier) (whole p) ≡ in_batch own known (stands_in p earlier)
  unfolding batch_fault
  fault_is = ap (in_batch own known) (stands_earlier p earlier)

  -- A point that only its address may refuse, which stands earlier.
  pub stands : (o ≡ done) ⊎ (o ≡ (Err AlreadyRegistered)) → stands_in p earlier ≡ true → (Err AddressTwice) ≡ batch_fault t (last_first earlier) (whole p)
  stands k s = sym (fault_is ∙ ap (in_batch own known) s ∙ twice_found own known (cases k) (own_low (is_planned (station_of p.ca t.stations)) (whole p)))
    where
      cases : (o ≡ done) ⊎ (o ≡ (Err AlreadyRegistered)) → (in_batch own known false ≡ done) ⊎ (in_batch own known false ≡ (Err AlreadyRegistered))
      cases (inl d) = inl (sym alone_is ∙ d)
      cases (inr d) = inr (sym alone_is ∙ d)

  -- One whose address does not.
  pub apart : stands_in p earlier ≡ false → o ≡ batch_fault t (last_first earlier) (whole p)
  apart s = alone_is ∙ sym (fault_is ∙ ap (in_batch own known) s)

  -- One with a fault that comes before.
  pub before : (o ≡ done → ⊥) → (o ≡ (Err AlreadyRegistered) → ⊥) → o ≡ batch_fault t (last_first earlier) (whole p)
  before n r = alone_is ∙ sym (fault_is ∙ not_twice own known (λ e. n (alone_is ∙ e)) (λ e. r (alone_is ∙ e)) (stands_in p earlier))
