-- What the handlers of the two interrogations ask of a cause.
use Rattle.std.specs.Prelude.{ℕ, ◌<◌, Some, None}
use Rattle.answers.specs.Choice.{Choice}

-- Data have a cause of six bits; what is denied has no data.
abbrev pub CauseOf : Choice → ℕ → Type 0
CauseOf None cause = Unit {0}
CauseOf (Some sel) cause = cause < 64
