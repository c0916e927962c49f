-- What updates leave of a point: its type, address and groups stay, and its value is that of the last update that means it.
-- Document 01, 'What each command says': an unknown address or another type is skipped, else the value is stored.
use Rattle.std.specs.Prelude.{ℕ, List, [], ◌∷◌, Bool, eqb}
use Rattle.std.proofs.Math.Option.{Option, none, some}
use Rattle.limits.specs.Test.{◌&◌, pick}
use Rattle.model.specs.declared.Point.{Point}
use Rattle.answers.specs.Process.{Update, revalued}

-- Does an update mean this point of station ca: the address and the type are the same?
abbrev pub means : Update → ℕ → Point → Bool
means u ca p = eqb u.ca ca & eqb p.ioa u.ioa & eqb p.kind u.kind

-- A point after one update.
unfoldable pub renewed_by : Update → ℕ → Point → Point
renewed_by u ca p = pick (means u ca p) (revalued p u.value) p

-- A point after updates, in their order.
unfoldable pub renewed : List Update → ℕ → Point → Point
renewed [] ca p = p
renewed (u ∷ us) ca p = renewed us ca (renewed_by u ca p)

-- A point, if there is one, changed.
unfoldable pub each : (Point → Point) → Option Point → Option Point
each f none = none
each f (some p) = some (f p)
