-- ---- as the code runs: nobody need believe what follows, the laws in proofs/Entry.antt tie it to `reset_at`
use Rattle.std.specs.Prelude.{ℕ, zero, suc, ◌+◌, List, Bool, get_or, replicate}
use Rattle.limits.specs.Test.{◌&◌, pick}
use Rattle.octets.specs.Over.{over}
use Rattle.layout.specs.Layout.{place_size, value_offset}
use Rattle.model.specs.Place.{is_counter, point_at}
use Rattle.report.specs.declared.Selection.{Selection}
use Rattle.report.specs.Selection.{selects}
use Rattle.answers.specs.System.{reading_octets}

-- is there a counter at the place, and does the selection take it?
unfoldable pub takes_at : Selection → List ℕ → ℕ → Bool
takes_at sel m at = is_counter (get_or m at 0) & selects sel (point_at m at)

-- the place at `at` with its counter's reading, the first four octets of its value, set to 0 where the selection takes it
unfoldable pub reset_place : Selection → List ℕ → ℕ → List ℕ
reset_place sel m at = pick (takes_at sel m at) (over m (at + value_offset) (replicate reading_octets 0)) m

-- the same of n places from `at`
unfoldable pub reset_places : Selection → List ℕ → ℕ → ℕ → List ℕ
reset_places sel m at zero = m
reset_places sel m at (suc n) = reset_places sel (reset_place sel m at) (at + place_size) n
