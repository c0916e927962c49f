-- A group that is given: a number below 1 is none, and from 1 on the most decides. Assumes nothing.
use Rattle.std.specs.Prelude.{◌≡◌, ℕ, ◌≤◌, ◌<◌, false, leb, Option, Some}
use mathlib.Core.Path.{ap, ◌∙◌}
use borrow.Author.Tests.{le-leb, lt-leb}
use Rattle.limits.specs.Test.{◌&◌}
use Rattle.model.specs.Request.{group_ok}

pub group_below : (most : ℕ) (x : Option ℕ) (g : ℕ) → x ≡ Some g → g < 1 → group_ok most x ≡ false
unfolding ◌&◌
group_below most x g e h = ap (group_ok most) e ∙ simp (lt-leb 1 g h)

pub group_from : (most : ℕ) (x : Option ℕ) (g : ℕ) → x ≡ Some g → 1 ≤ g → group_ok most x ≡ leb g most
unfolding ◌&◌
group_from most x g e h = ap (group_ok most) e ∙ simp (le-leb 1 g h)
