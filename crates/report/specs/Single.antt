-- ASDUs of one object: a point told spontaneously or on request, and the end of initialisation.
-- Document 01, 'What each command says'; the Rust's `spontaneous_asdu`, `monitoring_asdu_requested`, `end_of_initialization_asdu`, `station_common_address`.
use Rattle.std.specs.Prelude.{ℕ, List, [], ◌∷◌, eqb}
use Rattle.limits.specs.Test.{pick}
use Rattle.asdu.specs.Cause.{spontaneous, initiated, request}
use Rattle.asdu.specs.Identification.{end_of_initialization}
use Rattle.asdu.specs.Header.{Asdu}
use Rattle.model.specs.declared.Point.{Point}
use Rattle.table.specs.Table.{Station, held}
use Rattle.report.specs.Report.{object_of, data_asdu}

-- One point in an ASDU of its own.
unfoldable pub single : ℕ → ℕ → Point → Asdu
single cause ca p = data_asdu p.kind cause ca (object_of p ∷ [])

-- A value told because it changed: cause 3.
abbrev pub spontaneous_asdu : ℕ → Point → Asdu
spontaneous_asdu ca p = single spontaneous ca p

-- A value told because it was read: cause 5.
abbrev pub requested_asdu : ℕ → Point → Asdu
requested_asdu ca p = single request ca p

-- End of initialisation: type 70, cause 4, IOA 0, octet 0.
unfoldable pub end_of_initialization_asdu : ℕ → Asdu
end_of_initialization_asdu ca = data_asdu end_of_initialization initiated ca (record { ioa = 0; element = 0 ∷ [] } ∷ [])

-- The smallest CA with a point, or 0: stations stand in ascending order.
unfoldable pub station_common_address : List Station → ℕ
station_common_address [] = 0
station_common_address (s ∷ ss) = pick (eqb (held s) 0) (station_common_address ss) s.ca
