-- The table's first 41 entries are the point's: computed over document 01's lists.
use mathlib.Core.Path.{refl, ◌∙◌}
use Rattle.limits.specs.Size.{point_sizes, values_from, point_octets, octets_in, point_types}
use Rattle.limits.proofs.size.point_sizes.Goals as goal

pub returns : goal.returns
unfolding point_sizes values_from point_octets octets_in point_types
returns c = c.copy_from_slice.ensures.after ∙ refl
