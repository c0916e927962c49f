-- The ways out of an entry: no table, a refusal of the table's own, done. Assumes nothing.
use mathlib.Core.Path.{◌≡◌, refl, sym, ap, ◌∙◌}
use mathlib.Core.List.{List}
use mathlib.Core.Bool.{true, false}
use mathlib.Core.Option.{none, some}
use Prim.Native.Nat.{ℕ}
use Rattle.limits.specs.Test.{pick}
use Rattle.std.specs.Prelude.{Result, Ok, Err}
use Rattle.limits.specs.declared.outcome.Refusal.{Refusal}
use Rattle.limits.proofs.Outcomes.{not_both}
use Rattle.registry.specs.declared.Fault.{Fault}
use Rattle.limits.specs.Outcome.{Outcome, done, is_done}
use Rattle.limits.specs.declared.outcome.Refusal.TheVariants.{TableNotWellFormed}
use Rattle.table.specs.Table.{Table}
use Rattle.table.specs.Memory.{table_of, well_formed, parse}
use Rattle.table.proofs.Parse.{parse_some, parse_none}
use Rattle.registry.specs.Effect.{Reply, Effect, holding, reply_from, memory_from, reply_on, memory_on}
use Rattle.replies.specs.Replies.{Replies, placeless, numbered, placed}

-- ---- what is seen of a result tells the result

pub placeless_tells : (a b : Outcome) → placeless a ≡ placeless b → a ≡ b
placeless_tells a b e = ap (λ (r : Reply). r.outcome) e

pub numbered_tells : (a b : Result ℕ Refusal) → numbered a ≡ numbered b → a ≡ b
numbered_tells (Ok n) (Ok k) e = ap Ok (ap (λ (r : Reply). r.place) e)
numbered_tells (Ok n) (Err s) e = not_both (sym (ap (λ (r : Reply). is_done r.outcome) e))
numbered_tells (Err r) (Ok k) e = not_both (ap (λ (r : Reply). is_done r.outcome) e)
numbered_tells (Err r) (Err s) e = ap told (ap (λ (r : Reply). r.outcome) e)
  where
    told : Outcome → Result ℕ Refusal
    told (Ok u) = Ok 0
    told (Err q) = Err q

pub placed_tells : (a b : Result Unit Fault) → placed a ≡ placed b → a ≡ b
placed_tells (Ok u) (Ok v) e = refl
placed_tells (Ok u) (Err g) e = not_both (sym (ap (λ (r : Reply). is_done r.outcome) e))
placed_tells (Err f) (Ok v) e = not_both (ap (λ (r : Reply). is_done r.outcome) e)
placed_tells (Err f) (Err g) e = ap told e
  where
    told_by : Outcome → ℕ → Result Unit Fault
    told_by (Ok u) n = Ok tt
    told_by (Err q) n = Err record { refusal = q; place = n }

    told : Reply → Result Unit Fault
    told r = told_by r.outcome r.place

-- ---- the ways out

-- No table: 3, and the memory as it was.
pub no_table : (f : Table → Effect) (m : List ℕ) → well_formed m ≡ false → Replies f m (placeless (Err TableNotWellFormed)) m
unfolding reply_from memory_from
no_table f m w = let p : parse m ≡ none = parse_none m w in (ap (reply_from f) (sym p), ap (memory_from f m) (sym p))

module _ (f : Table → Effect) (m : List ℕ) (w : well_formed m ≡ true) where
  -- A table: its own reply, and its own memory.
  pub of_table : (reply_on f m ≡ record { outcome = (f (table_of m)).outcome; place = (f (table_of m)).place })
      × (memory_on f m ≡ pick (is_done (f (table_of m)).outcome) (holding m (table_of m) (f (table_of m)).after) m)
  unfolding reply_from memory_from
  of_table = let p : parse m ≡ some (table_of m) = parse_some m w in (ap (reply_from f) p, ap (memory_from f m) p)

  -- A refusal of the table's own.
  pub refused_by : (o : Outcome) → (f (table_of m)).outcome ≡ o → (f (table_of m)).place ≡ 0 → is_done o ≡ false → Replies f m (placeless o) m
  refused_by o e z d =
      let d' : is_done (f (table_of m)).outcome ≡ false = ap is_done e ∙ d in
      ((λ j. record { outcome = sym e j; place = sym z j }) ∙ sym of_table.0, sym (of_table.1 ∙ simp d'))

  -- Done, with the table after it stored.
  pub done_by : (n : ℕ) (m' : List ℕ) → (f (table_of m)).outcome ≡ done → (f (table_of m)).place ≡ n
      → m' ≡ holding m (table_of m) (f (table_of m)).after → Replies f m (record { outcome = done; place = n }) m'
  done_by n m' e z s =
      let d : is_done (f (table_of m)).outcome ≡ true = ap is_done e in
      ((λ j. record { outcome = sym e j; place = sym z j }) ∙ sym of_table.0, s ∙ sym (of_table.1 ∙ simp d))
