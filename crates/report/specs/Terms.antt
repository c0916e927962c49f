-- Where the places of a report lie, and which terms it may have.
use Rattle.std.specs.Prelude.{ℕ, ◌+◌, ◌*◌, ◌≤◌, ◌<◌, List, length}
use Rattle.limits.specs.Size.{standard_limit}
use Rattle.layout.specs.Layout.{place_size, most_places}
use Rattle.report.specs.declared.Reach.{Reach}
use Rattle.report.specs.declared.Terms.{Terms}

-- The places lie in the memory of a table.
abbrev pub PlacesIn : List ℕ → Reach → Type 0
PlacesIn m r = (r.base + place_size * r.n ≤ length m) × (r.n ≤ most_places)

-- A length limit under which an ASDU has room for an object of every type.
abbrev pub LimitOk : ℕ → Type 0
LimitOk limit = (25 ≤ limit) × (limit ≤ standard_limit)

-- Such a limit, and a cause of six bits.
abbrev pub TermsOk : Terms → Type 0
TermsOk t = LimitOk t.limit × (t.cause < 64)
