-- What the entry gives back, in plain numbers. Assumes nothing.
use mathlib.Core.Path.{ap, ◌∙◌}
use Rattle.khuvelter.specs.Interface.{flat_share}
use Rattle.khuvelter.proofs.khuvelter_share.Goals as goal

pub returns : goal.returns
returns c = c.flat_share.ensures ∙ ap flat_share c.station_share.ensures
