-- The effect of a call on a table, and what that makes of a memory that is lent to the call: the common last step of every entry.
-- Document 01, 'Numbers given back': every number but 0 writes nothing anywhere.
use Rattle.std.specs.Prelude.{ℕ, List, ◌++◌, length, drop, Err}
use Rattle.std.proofs.Math.Option.{Option, none, some}
use Rattle.limits.specs.Test.{pick}
use Rattle.limits.specs.Outcome.{Outcome, done, is_done}
use Rattle.limits.specs.declared.outcome.Refusal.TheVariants.{TableNotWellFormed}
use Rattle.table.specs.Table.{Table, image}
use Rattle.table.specs.Memory.{parse}

-- What a call says to a table: its outcome, the place or number that goes with it, and the table after it (which counts only with Done).
pub record Effect : Type 0 where
  pub outcome : Outcome
  pub place : ℕ
  pub after : Table

-- What a call that changes the table gives back: its outcome, and the place of the faulty point of a refused batch, or the number of points
-- that the removal of all let go, or 0.
pub record Reply : Type 0 where
  pub outcome : Outcome
  pub place : ℕ

-- A refusal.
abbrev pub refused : Outcome → ℕ → Table → Effect
refused o place t = record { outcome = o; place = place; after = t }

-- Done, with the table after it.
abbrev pub accepted : ℕ → Table → Effect
accepted place t = record { outcome = done; place = place; after = t }

-- The first fault counts.
abbrev pub first_fault : Outcome → Outcome → Outcome
first_fault a b = pick (is_done a) b a

-- The table after a call.
abbrev pub next : (Table → Effect) → Table → Table
next f t = pick (is_done (f t).outcome) (f t).after t

-- The memory that held t and now holds another table; what lies past the table's octets stays.
abbrev pub holding : List ℕ → Table → Table → List ℕ
holding m t t' = image t' ++ drop (length (image t)) m

unfoldable pub reply_from : (Table → Effect) → Option Table → Reply
reply_from f none = record { outcome = (Err TableNotWellFormed); place = 0 }
reply_from f (some t) = record { outcome = (f t).outcome; place = (f t).place }

unfoldable pub memory_from : (Table → Effect) → List ℕ → Option Table → List ℕ
memory_from f m none = m
memory_from f m (some t) = pick (is_done (f t).outcome) (holding m t (f t).after) m

-- What a call gives back on a lent memory: 3 where it holds no table.
abbrev pub reply_on : (Table → Effect) → List ℕ → Reply
reply_on f m = reply_from f (parse m)

-- The memory after the call: as it was with every number but 0.
abbrev pub memory_on : (Table → Effect) → List ℕ → List ℕ
memory_on f m = memory_from f m (parse m)
