-- A plan's station as the code reads it, and the head of a fresh table as it writes it: nobody need believe this, the laws of proofs/ tie them to `planned` and `image`.
use Rattle.std.specs.Prelude.{ℕ, ◌+◌, List, ◌++◌, get_or}
use Rattle.octets.specs.Number.{pair}
use Rattle.layout.specs.Layout.{mark}
use Rattle.table.specs.Table.{document01, settings_octets}
use Rattle.opening.specs.declared.Planned.{Planned}

-- The station of a plan whose three numbers start at `at`.
abbrev pub planned_at : List ℕ → ℕ → Planned
planned_at plan at = record { ca = get_or plan at 0; reservation = get_or plan (at + 1) 0; ceiling = get_or plan (at + 2) 0 }

-- The octets of the head before those that are always zero: the mark, K, stations, no points, document 01's settings.
abbrev pub head_start : ℕ → ℕ → List ℕ
head_start k n = mark ++ (pair k ++ (pair n ++ (pair 0 ++ settings_octets document01)))
