-- What the start of a connection says. Document 01, 'Start of a connection'; the Rust's `end_of_initialization_asdu`.
use Rattle.std.specs.Prelude.{ℕ, List, [], ◌∷◌}
use Rattle.table.specs.Table.{Table}
use Rattle.report.specs.Single.{end_of_initialization_asdu, station_common_address}
use Rattle.answers.specs.Said.{Said, says}

-- The end of initialisation, of the smallest CA with a point, or of 0; nothing changes.
abbrev pub start_said : List ℕ → Table → Said
start_said clock t = says (end_of_initialization_asdu (station_common_address t.stations) ∷ []) t clock
