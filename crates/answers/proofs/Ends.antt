-- The ways out of an entry that answers a command: no table, a refusal of the command's own, an answer that does not fit, and an answer given.
-- Each gives back what `answered_on` says and leaves the memories that `lent_after` says. Assumes nothing.
use mathlib.Core.Path.{◌≡◌, refl, sym, ap, ◌∙◌}
use mathlib.Core.List.{List, [], ◌∷◌, ◌++◌}
use mathlib.Core.Bool.{Bool, true, false}
use mathlib.Core.Option.{none, some}
use Prim.Native.Nat.{ℕ, ◌≤◌, ◌<◌}
use native.Mathlib.Omega.{arith}
use native.Mathlib.Nat.{zero-add}
use lib.ListN.{length, drop}
use borrow.Author.Tests.{le-leb, lt-leb, leb-true, leb-false}
use Rattle.limits.specs.Test.{pick}
use Rattle.std.specs.Prelude.{Result, Ok, Err, is_ok}
use Rattle.limits.specs.Outcome.{Outcome, done, is_done}
use Rattle.limits.specs.declared.outcome.Refusal.TheVariants.{TableNotWellFormed, AnswerShort}
use Rattle.limits.proofs.Outcomes.{not_both}
use Rattle.octets.specs.Number.{Octets}
use Rattle.octets.specs.Over.{over}
use Rattle.asdu.specs.Header.{Asdu, asdu_octets, wire}
use Rattle.asdu.specs.Joined.{joined}
use Rattle.asdu.proofs.Laws.{wire_one}
use Rattle.table.specs.Table.{Table}
use Rattle.table.specs.Memory.{table_of, well_formed, parse}
use Rattle.table.proofs.Parse.{passed, printed, parse_some, parse_none}
use Rattle.registry.specs.Effect.{holding}
use Rattle.answers.specs.declared.Written.{Written}
use Rattle.limits.specs.declared.outcome.Refusal.{Refusal}
use Rattle.answers.specs.Said.{Answered, answered, Said, Lent, lent, says, size, fits, fronted, outcome_with, answered_from, lent_from, Leaves, as_it_is, nothing, given, sent, left, Sends, with_table}

-- What is written at the front of a memory, in the words of `octets` and of `Said`.
pub front_is : (m : List ℕ) (xs : List Asdu) → over m 0 (wire xs) ≡ fronted xs m
unfolding over
front_is m xs = ap (λ (n : ℕ). wire xs ++ drop n m) (zero-add (size xs))

-- ---- an answer written whole or not at all

module _ (X : List Asdu) (m : List ℕ) where
  -- It does not fit.
  pub sends_nothing : length m < size X → Sends X m (nothing (Err AnswerShort)) m
  unfolding sent left
  sends_nothing h = record { answers = sym (simp (lt-leb _ _ h)); leaves = sym (simp (lt-leb _ _ h)) }

  -- It fits.
  pub sends_all : (n : ℕ) (m' : List ℕ) → size X ≤ length m → n ≡ size X → m' ≡ over m 0 (wire X) → Sends X m (given n) m'
  unfolding sent left
  sends_all n m' h e f = record { answers = ap given e ∙ sym (simp (le-leb _ _ h)); leaves = f ∙ front_is m X ∙ sym (simp (le-leb _ _ h)) }

-- The same of one ASDU.
module _ (a : Asdu) (m : List ℕ) where
  pub one_nothing : length m < length (asdu_octets a) → Sends (a ∷ []) m (nothing (Err AnswerShort)) m
  one_nothing h = sends_nothing (a ∷ []) m (rw (wire_one a) h)

  pub one_all : (n : ℕ) (m' : List ℕ) → length (asdu_octets a) ≤ length m → n ≡ length (asdu_octets a) → m' ≡ over m 0 (asdu_octets a) → Sends (a ∷ []) m (given n) m'
  one_all n m' h e f = sends_all (a ∷ []) m n m' (rw (wire_one a) h) (rw (wire_one a) e) (rw (wire_one a) f)

-- The same of answers that are equal.
pub sends_along : (X Y : List Asdu) (m m' : List ℕ) (r : Answered) → X ≡ Y → Sends X m r m' → Sends Y m r m'
sends_along X Y m m' r e s = record { answers = s.answers ∙ ap (λ (Z : List Asdu). sent Z m) e; leaves = s.leaves ∙ ap (λ (Z : List Asdu). left Z m) e }

-- The same of results that are equal.
pub sends_as : (X : List Asdu) (m m' : List ℕ) (r r' : Result Written Refusal) → r ≡ r' → Sends X m (answered r) m' → Sends X m (answered r') m'
sends_as X m m' r r' e s = record { answers = sym (ap answered e) ∙ s.answers; leaves = s.leaves }

-- What is seen of a result tells the result.
pub answered_tells : (a b : Result Written Refusal) → answered a ≡ answered b → a ≡ b
answered_tells (Ok w) (Ok x) e = ap (λ (r : Answered). Ok record { octets = r.octets; spontaneous = r.spontaneous }) e
answered_tells (Ok w) (Err s) e = not_both (sym (ap (λ (r : Answered). is_done r.outcome) e))
answered_tells (Err r) (Ok x) e = not_both (ap (λ (r : Answered). is_done r.outcome) e)
answered_tells (Err r) (Err s) e = ap told (ap (λ (r : Answered). r.outcome) e)
  where
    told : Outcome → Result Written Refusal
    told (Ok u) = Ok record { octets = 0; spontaneous = 0 }
    told (Err q) = Err q

-- Done and given are one.
pub done_given : (r : Result Written Refusal) → is_done (answered r).outcome ≡ is_ok r
done_given (Ok w) = refl
done_given (Err r) = refl

-- ---- the ways out of an entry

-- No table: 3.
pub ends_no_table : (f : Table → Said) (l : Lent) → well_formed l.table ≡ false → Leaves as_it_is f l (nothing (Err TableNotWellFormed)) l
unfolding answered_from lent_from
ends_no_table f l w =
    let p : parse l.table ≡ none = parse_none l.table w in
    record { answers = ap (answered_from f l) (sym p); leaves = ap (lent_from f l) (sym p) }

module _ (f : Table → Said) (l : Lent) (w : well_formed l.table ≡ true) where
  is_parsed : parse l.table ≡ some (table_of l.table)
  is_parsed = parse_some l.table w

  -- A number other than 0, of a table.
  pub ends_nothing : (o : Outcome) → outcome_with (f (table_of l.table)) l ≡ o → is_done o ≡ false → Leaves as_it_is f l (nothing o) l
  unfolding answered_from lent_from
  ends_nothing o e d =
      let d' : is_done (outcome_with (f (table_of l.table)) l) ≡ false = ap is_done e ∙ d in
      let r : answered_from f l (some (table_of l.table)) ≡ nothing o = simp d' (ap nothing e) in
      record { answers = sym (ap (answered_from f l) is_parsed ∙ r); leaves = sym (ap (lent_from f l) is_parsed ∙ simp d') }

  -- A refusal or silence of the command's own.
  pub ends_refused : (o : Outcome) → (f (table_of l.table)).outcome ≡ o → is_done o ≡ false → Leaves as_it_is f l (nothing o) l
  unfolding outcome_with
  ends_refused o e d = ends_nothing o (let d' : is_done (f (table_of l.table)).outcome ≡ false = ap is_done e ∙ d in simp d' e) d

  -- An answer that does not fit: 4.
  pub ends_short : (f (table_of l.table)).outcome ≡ done → (f (table_of l.table)).told ≡ [] → length l.answer < size (f (table_of l.table)).answer
      → Leaves as_it_is f l (nothing (Err AnswerShort)) l
  unfolding outcome_with wire joined
  ends_short e q h = ends_nothing (Err AnswerShort) (simp (e, q, le-leb 0 (length l.spontaneous) (omega arith), lt-leb _ _ h)) refl

  -- the outcome of an answer that fits
  fits_is : (f (table_of l.table)).outcome ≡ done → (f (table_of l.table)).told ≡ [] → size (f (table_of l.table)).answer ≤ length l.answer
      → outcome_with (f (table_of l.table)) l ≡ done
  unfolding outcome_with wire joined
  fits_is e q h = simp (e, q, le-leb 0 (length l.spontaneous) (omega arith), le-leb _ _ h)

  -- An answer that fits, n octets of it, from a command that tells nothing.
  pub ends_done : (n : ℕ) (l' : Lent) → (f (table_of l.table)).outcome ≡ done → (f (table_of l.table)).told ≡ []
      → n ≡ size (f (table_of l.table)).answer → n ≤ length l.answer
      → l' ≡ record {
        table = holding l.table (table_of l.table) (f (table_of l.table)).after;
        clock = (f (table_of l.table)).clock;
        answer = fronted (f (table_of l.table)).answer l.answer;
        spontaneous = l.spontaneous;
      }
      → Leaves as_it_is f l (record { outcome = done; octets = n; spontaneous = 0 }) l'
  unfolding answered_from lent_from wire joined
  ends_done n l' e q k h s =
      let d : outcome_with (f (table_of l.table)) l ≡ done = fits_is e q (omega arith) in
      record {
        answers = sym (ap (answered_from f l) is_parsed ∙ simp (d, q) (λ j. record { outcome = done; octets = sym k j; spontaneous = 0 }));
        leaves = s ∙ sym (ap (lent_from f l) is_parsed ∙ simp (d, q));
      }

  -- An answer X that was written whole or not at all; the table and the clock change only if it was.
  pub ends_sent : (X : List Asdu) → (f (table_of l.table)).outcome ≡ done → (f (table_of l.table)).told ≡ [] → (f (table_of l.table)).answer ≡ X
      → (r : Answered) (table clock answer : List ℕ) → Sends X l.answer r answer
      → table ≡ pick (is_done r.outcome) (holding l.table (table_of l.table) (f (table_of l.table)).after) l.table
      → clock ≡ pick (is_done r.outcome) (f (table_of l.table)).clock l.clock
      → Leaves as_it_is f l r (lent table clock answer l.spontaneous)
  unfolding sent left
  ends_sent X d q x r table clock answer s et ec = by_test (fits X l.answer) refl s.answers s.leaves
    where
      by_test : (b : Bool) → fits X l.answer ≡ b → r ≡ pick b (given (size X)) (nothing (Err AnswerShort)) → answer ≡ pick b (fronted X l.answer) l.answer
          → Leaves as_it_is f l r (lent table clock answer l.spontaneous)
      by_test true e er ea =
          let h : size X ≤ length l.answer = leb-true _ _ e in
          let D : is_done r.outcome ≡ true = ap (λ (y : Answered). is_done y.outcome) er in
          let et' : table ≡ holding l.table (table_of l.table) (f (table_of l.table)).after = simp D at et in
          let ec' : clock ≡ (f (table_of l.table)).clock = simp D at ec in
          let ea' : answer ≡ fronted (f (table_of l.table)).answer l.answer = ea ∙ ap (λ (v : List Asdu). fronted v l.answer) (sym x) in
          let z = ends_done (size X) (lent table clock answer l.spontaneous) d q (ap size (sym x)) h (λ j. lent (et' j) (ec' j) (ea' j) l.spontaneous) in
          record { answers = er ∙ z.answers; leaves = z.leaves }
      by_test false e er ea =
          let h : length l.answer < size X = leb-false _ _ e in
          let D : is_done r.outcome ≡ false = ap (λ (y : Answered). is_done y.outcome) er in
          let et' : table ≡ l.table = simp D at et in
          let ec' : clock ≡ l.clock = simp D at ec in
          let z = ends_short d q (rw x h) in
          record { answers = er ∙ z.answers; leaves = (λ j. lent (et' j) (ec' j) (ea j) l.spontaneous) ∙ z.leaves }

  -- The same of a command that leaves the table.
  pub ends_says : Octets l.table → (X : List Asdu) (clock : List ℕ) → f (table_of l.table) ≡ says X (table_of l.table) clock
      → (r : Answered) (clock' answer : List ℕ) → Sends X l.answer r answer → clock' ≡ pick (is_done r.outcome) clock l.clock
      → Leaves as_it_is f l r (lent l.table clock' answer l.spontaneous)
  ends_says o X clock e r clock' answer s ec =
      ends_sent X (ap (λ (y : Said). y.outcome) e) (ap (λ (y : Said). y.told) e) (ap (λ (y : Said). y.answer) e) r l.table clock' answer s
      (still (is_done r.outcome) ∙ ap (λ (u : Table). pick (is_done r.outcome) (holding l.table (table_of l.table) u) l.table) (sym (ap (λ (y : Said). y.after) e)))
      (ec ∙ ap (λ (k : List ℕ). pick (is_done r.outcome) k l.clock) (sym (ap (λ (y : Said). y.clock) e)))
    where
      still : (b : Bool) → l.table ≡ pick b (with_table (λ t. t) l.table) l.table
      still true = printed l.table o (passed l.table w)
      still false = refl

  -- What a call says to the table that is there is all that counts.
  pub ends_alike : (g : Table → Said) → f (table_of l.table) ≡ g (table_of l.table) → (r : Answered) (l' : Lent)
      → Leaves as_it_is f l r l' → Leaves as_it_is g l r l'
  unfolding answered_from lent_from
  ends_alike g e r l' z =
      let s : Said → Table → Said = λ x _. x in
      record {
        answers = z.answers ∙ ap (answered_from f l) is_parsed ∙ ap (λ (x : Said). answered_from (s x) l (some (table_of l.table))) e ∙ sym (ap (answered_from g l) is_parsed);
        leaves = z.leaves ∙ ap (lent_from f l) is_parsed ∙ ap (λ (x : Said). lent_from (s x) l (some (table_of l.table))) e ∙ sym (ap (lent_from g l) is_parsed);
      }
