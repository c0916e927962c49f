-- Today the limit is the standard's. Assumes nothing.
use Rattle.table.specs.Settings.{limit_of}
use borrow.Author.Rules.{rules}
use Rattle.settings.proofs.limit_of.Goals as goal

pub returns : goal.returns
unfolding limit_of
returns c = search rules
