-- The memories that are lent to the entry for system commands, and what its code makes of a command.
use Rattle.std.specs.Prelude.{ℕ, List, [], Bool, ◌||◌, not, eqb}
use denote.Triple.Both.{Both}
use Rattle.std.specs.Borrow.{MutBor}
use Rattle.limits.specs.Test.{◌&◌}
use Rattle.asdu.specs.declared.command.Command.{Command}
use Rattle.answers.specs.Said.{Lent, lent}
use Rattle.answers.specs.System.{interrogation_type, cause_taken, qualifier_of}

-- Table and answer memory as a call finds them, with the last master clock; it has no spontaneous memory.
abbrev pub at_entry : Both (MutBor (List ℕ)) (MutBor (List ℕ)) → List ℕ → Both (MutBor (List ℕ)) (MutBor (List ℕ)) → Lent
at_entry table clock answer = lent table.entry.now clock answer.entry.now []

-- And as it leaves them, with the clock after it.
abbrev pub at_exit : Both (MutBor (List ℕ)) (MutBor (List ℕ)) → List ℕ → Both (MutBor (List ℕ)) (MutBor (List ℕ)) → Lent
at_exit table clock answer = lent table.exit.now clock answer.exit.now []

-- ---- as the code reads

-- a command with a first object that is answered by number 1
abbrev pub is_skipped : Command → List ℕ → Bool
is_skipped c m = not (cause_taken c.kind c.cause) || (eqb c.kind interrogation_type & eqb (qualifier_of m) 0)
