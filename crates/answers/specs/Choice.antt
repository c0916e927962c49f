-- What a qualifier chooses.
use Rattle.std.specs.Prelude.{Option}
use Rattle.report.specs.declared.Selection.{Selection}

-- The points of a selection, or nothing that there is, which is denied.
abbrev pub Choice : Type 0
Choice = Option Selection
