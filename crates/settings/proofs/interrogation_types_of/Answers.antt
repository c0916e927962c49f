-- Today the types are document 01's. Assumes nothing.
use Rattle.report.specs.Selection.{interrogation_types, interrogation_types_of}
use borrow.Author.Rules.{rules}
use Rattle.settings.proofs.interrogation_types_of.Goals as goal

pub returns : goal.returns
unfolding interrogation_types interrogation_types_of
returns c = search rules
