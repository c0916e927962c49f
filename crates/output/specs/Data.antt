-- The data that are read from places and reported, and what a call writes of them.
use Rattle.std.specs.Prelude.{ℕ, ◌+◌, ◌≤◌, ◌≡◌, List, Bool, length, ltb, Option, None, Some}
use Rattle.limits.specs.Test.{pick}
use Rattle.octets.specs.Over.{over}
use Rattle.asdu.specs.Header.{Asdu}
use Rattle.model.specs.declared.Point.{Point}
use Rattle.table.specs.Memory.{points_at}
use Rattle.report.specs.declared.Selection.{Selection}
use Rattle.report.specs.declared.Reach.{Reach}
use Rattle.report.specs.declared.Terms.{Terms}
use Rattle.report.specs.Packing.{selected}
use Rattle.report.specs.Selection.{selects}
use Rattle.report.specs.Report.{report}
use Rattle.report.specs.Order.{by_address}
use Rattle.chains.specs.Chain.{slots, Links}
use Rattle.chains.specs.Follow.{octets_on}
use Rattle.output.specs.Order.{places_in}
-- Type numbers that a chain can have, passed on.
unfoldable pub use Rattle.chains.specs.Chain.{Slots}

-- A set of types that the writer takes.
abbrev pub TypesOk : List ℕ → Type 0
TypesOk types = (length types ≤ slots) × Slots types

-- Points in the order of an answer: by address where it is every station's.
abbrev pub arranged : Bool → List Point → List Point
arranged every ps = pick every (by_address ps) ps

-- The report of the selected ones of the points of a reach.
unfoldable pub data_of : Terms → List ℕ → Selection → List ℕ → Reach → List Asdu
data_of t types s m r = report t.limit types t.cause t.ca (selected (selects s) (arranged r.every (points_at m r.base r.n)))

-- There is room for octets between what stands before and after them, or there is not.
unfoldable pub too_short : ℕ → ℕ → ℕ → List ℕ → Bool
too_short room before after xs = ltb room (before + (length xs + after))

-- What comes back: the octets, or none for want of room.
unfoldable pub wrote : ℕ → ℕ → ℕ → List ℕ → Option ℕ
wrote room before after xs = pick (too_short room before after xs) None (Some (length xs))

-- What the memory holds.
unfoldable pub written : List ℕ → ℕ → ℕ → List ℕ → List ℕ
written out before after xs = pick (too_short (length out) before after xs) out (over out before xs)

-- Both together.
abbrev pub Writes : ℕ → ℕ → List ℕ → List ℕ → Option ℕ → List ℕ → Type 0
Writes before after xs out r out' = (r ≡ wrote (length out) before after xs) × (out' ≡ written out before after xs)

-- ---- sizing, as the code runs

-- The chains of the selected places in the order of an answer, and the octets of their report.
abbrev pub SizedBy : Selection → ℕ → List ℕ → List ℕ → Reach → List ℕ → List ℕ → ℕ → List ℕ → List ℕ → List ℕ → Type 0
SizedBy s limit types m r h x octets heads next counts =
    Links s m r (places_in r.every m r.base r.n) h x heads next counts × (octets ≡ octets_on limit types counts) × (octets ≤ 134217728)
