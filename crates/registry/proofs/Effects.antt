-- The common last step of every entry: a refusal leaves the memory as it was, and what is stored is read back. Assumes nothing.
use mathlib.Core.Path.{◌≡◌, refl, ap, ◌∙◌}
use mathlib.Core.List.{List}
use mathlib.Core.Bool.{Bool, true, false}
use mathlib.Core.Option.{Option, none, some}
use Prim.Native.Nat.{ℕ}
use lib.ListN.{length, drop}
use Rattle.limits.specs.Test.{pick}
use Rattle.limits.specs.Outcome.{is_done}
use Rattle.table.specs.Table.{Table, image, good}
use Rattle.table.specs.Memory.{parse}
use Rattle.table.proofs.Parse.{parse_complete}
use Rattle.registry.specs.Effect.{Effect, next, holding, reply_from, memory_from, reply_on, memory_on}

-- Every number but 0 leaves the memory as it was.
pub refusal_keeps_memory : (f : Table → Effect) (m : List ℕ) → is_done (reply_on f m).outcome ≡ false → memory_on f m ≡ m
unfolding reply_from memory_from
refusal_keeps_memory f m e = of_parsed (parse m) e
  where
    of_parsed : (o : Option Table) → is_done (reply_from f o).outcome ≡ false → memory_from f m o ≡ m
    of_parsed none e' = refl
    of_parsed (some t) e' = simp e'

-- What a call leaves is read back as the table after it.
pub parse_after : (f : Table → Effect) (m : List ℕ) (t : Table) → parse m ≡ some t → good (next f t) ≡ true → parse (memory_on f m) ≡ some (next f t)
unfolding memory_from
parse_after f m t p g = ap (λ (o : Option Table). parse (memory_from f m o)) p ∙ by_test (is_done (f t).outcome) refl g
  where
    by_test : (b : Bool) → is_done (f t).outcome ≡ b → good (pick b (f t).after t) ≡ true
        → parse (pick b (holding m t (f t).after) m) ≡ some (pick b (f t).after t)
    by_test true e g' = parse_complete (f t).after (drop (length (image t)) m) g'
    by_test false e g' = p
