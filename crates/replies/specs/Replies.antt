-- What a call that changes the table gives back and leaves: one relation for every entry.
use Rattle.std.specs.Prelude.{◌≡◌, List, ℕ, Result, Ok, Err}
use Rattle.limits.specs.declared.outcome.Refusal.{Refusal}
use Rattle.limits.specs.Outcome.{Outcome, done}
use Rattle.registry.specs.declared.Fault.{Fault}
use Rattle.table.specs.Table.{Table}
use Rattle.registry.specs.Effect.{Reply, Effect, reply_on, memory_on}

-- A call with this effect on a table, lent a memory m, gives r back and leaves m'.
abbrev pub Replies : (Table → Effect) → List ℕ → Reply → List ℕ → Type 0
Replies f m r m' = (r ≡ reply_on f m) × (m' ≡ memory_on f m)

-- An outcome with no place.
abbrev pub placeless : Outcome → Reply
placeless o = record { outcome = o; place = 0 }

-- A number that is given back, or a refusal with no place.
abbrev pub numbered : Result ℕ Refusal → Reply
numbered (Ok n) = record { outcome = done; place = n }
numbered (Err r) = record { outcome = Err r; place = 0 }

-- Done with no place, or a refusal with the place of the faulty point.
abbrev pub placed : Result Unit Fault → Reply
placed (Ok u) = record { outcome = done; place = 0 }
placed (Err f) = record { outcome = Err f.refusal; place = f.place }
