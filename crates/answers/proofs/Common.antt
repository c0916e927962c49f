-- The common last step of every command: a refusal writes nothing and leaves every memory as it was; what is written stands at the front;
-- and a command is an effect on the table, so that histories have commands in them. Assumes nothing.
use mathlib.Core.Path.{◌≡◌, refl}
use mathlib.Core.List.{List}
use mathlib.Core.Bool.{Bool, true, false}
use mathlib.Core.Option.{Option, none, some}
use Prim.Native.Nat.{ℕ}
use lib.ListN.{drop}
use lib.Seq.{drop-append_seam}
use Rattle.limits.specs.Outcome.{is_done}
use Rattle.asdu.specs.Header.{Asdu, wire}
use Rattle.table.specs.Table.{Table}
use Rattle.table.specs.Memory.{parse}
use Rattle.registry.specs.Effect.{Effect, memory_from, memory_on, reply_from, reply_on}
use Rattle.answers.specs.Said.{Said, Lent, outcome_with, answered_from, lent_from, answered_on, lent_after, size, fronted}

module _ (f : Table → Said) (l : Lent) where
  -- Every number but 0 reports zero octets in both memories, and every memory is as it was.
  pub refused_says_nothing : is_done (answered_on f l).outcome ≡ false
      → ((answered_on f l).octets ≡ 0) × ((answered_on f l).spontaneous ≡ 0) × (lent_after f l ≡ l)
  unfolding answered_from lent_from
  refused_says_nothing e = of_parsed (parse l.table) e
    where
      of_parsed : (o : Option Table) → is_done (answered_from f l o).outcome ≡ false
          → ((answered_from f l o).octets ≡ 0) × ((answered_from f l o).spontaneous ≡ 0) × (lent_from f l o ≡ l)
      of_parsed none e' = (refl, refl, refl)
      of_parsed (some t) e' = (simp e', simp e', simp e')

-- Past the octets at its front a memory is as it was.
pub past_the_front : (asdus : List Asdu) (memory : List ℕ) → drop (size asdus) (fronted asdus memory) ≡ drop (size asdus) memory
past_the_front asdus memory = drop-append_seam (wire asdus) (drop (size asdus) memory)

-- With 0, memory past the reported octets is as it was, in the answer and in the spontaneous memory.
pub past_the_reported : (f : Table → Said) (l : Lent) → is_done (answered_on f l).outcome ≡ true
    → (drop (answered_on f l).octets (lent_after f l).answer ≡ drop (answered_on f l).octets l.answer)
    × (drop (answered_on f l).spontaneous (lent_after f l).spontaneous ≡ drop (answered_on f l).spontaneous l.spontaneous)
unfolding answered_from lent_from
past_the_reported f l e = of_parsed (parse l.table) e
  where
    of_parsed : (o : Option Table) → is_done (answered_from f l o).outcome ≡ true
        → (drop (answered_from f l o).octets (lent_from f l o).answer ≡ drop (answered_from f l o).octets l.answer)
        × (drop (answered_from f l o).spontaneous (lent_from f l o).spontaneous ≡ drop (answered_from f l o).spontaneous l.spontaneous)
    of_parsed none e' = (refl, refl)
    of_parsed (some t) e' = (simp e' (past_the_front (f t).answer l.answer), simp e' (past_the_front (f t).told l.spontaneous))

-- ---- a command as an effect on the table

-- What a command does to a table, its memories being lent.
unfoldable pub effect_in : (Table → Said) → Lent → Table → Effect
effect_in f l t = record { outcome = outcome_with (f t) l; place = 0; after = (f t).after }

-- The table's memory after a command is the memory after its effect, and the outcomes are the same.
pub command_effect : (f : Table → Said) (l : Lent)
    → ((lent_after f l).table ≡ memory_on (effect_in f l) l.table) × ((answered_on f l).outcome ≡ (reply_on (effect_in f l) l.table).outcome)
unfolding answered_from lent_from memory_from reply_from effect_in
command_effect f l = of_parsed (parse l.table)
  where
    of_parsed : (o : Option Table)
        → ((lent_from f l o).table ≡ memory_from (effect_in f l) l.table o) × ((answered_from f l o).outcome ≡ (reply_from (effect_in f l) o).outcome)
    of_parsed none = (refl, refl)
    of_parsed (some t) = by_test (is_done (outcome_with (f t) l)) refl
      where
        by_test : (b : Bool) → is_done (outcome_with (f t) l) ≡ b
            → ((lent_from f l (some t)).table ≡ memory_from (effect_in f l) l.table (some t)) × (outcome_with (f t) l ≡ outcome_with (f t) l)
        by_test true e = (simp e, refl)
        by_test false e = (simp e, refl)
