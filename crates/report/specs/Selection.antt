-- Which points a command asks for: a selection is a test of a point, a set of types a list of type numbers in ascending order.
-- Document 01, 'What each command says'.
use Rattle.std.specs.Prelude.{ℕ, ◌<◌, List, [], ◌∷◌, Bool, true, false, eqb}
use Rattle.limits.specs.Test.{pick}
use Rattle.model.specs.declared.Point.{Point}
use Rattle.model.specs.Place.{integrated_totals, timed_integrated_totals}
use Rattle.table.specs.Table.{Table}
use Rattle.report.specs.declared.Selection.{Selection}
use Rattle.report.specs.declared.Selection.TheVariants.{Every, Group, CounterGroup}

-- Does a selection take a point? Group 1 is qualifier 21 of an interrogation; a counter group stands only on a counter.
abbrev pub selects : Selection → Point → Bool
selects Every p = true
selects (Group g) p = eqb p.group g
selects (CounterGroup g) p = eqb p.counter g

-- The types of a global or group interrogation: the 30 point types.
unfoldable pub interrogation_types : List ℕ
interrogation_types =
    1 ∷ 2 ∷ 3 ∷ 4 ∷ 5 ∷ 6 ∷ 7 ∷ 9 ∷ 10 ∷ 11 ∷ 12 ∷ 13 ∷ 14 ∷ 15 ∷ 17 ∷ 18 ∷ 19 ∷ 20 ∷ 21
    ∷ 30 ∷ 31 ∷ 32 ∷ 33 ∷ 34 ∷ 35 ∷ 36 ∷ 37 ∷ 38 ∷ 39 ∷ 40 ∷ []

-- The types of a global or group interrogation of a table.
unfoldable pub interrogation_types_of : Table → List ℕ
interrogation_types_of t = interrogation_types

-- The types of a counter interrogation.
unfoldable pub counter_types : List ℕ
counter_types = integrated_totals ∷ timed_integrated_totals ∷ []

-- Is a type in the set?
unfoldable pub among : List ℕ → ℕ → Bool
among [] kind = false
among (k ∷ ks) kind = pick (eqb k kind) true (among ks kind)

-- Every number is above `low`.
unfoldable pub Above : ℕ → List ℕ → Type 0
Above low [] = Unit
Above low (k ∷ ks) = (low < k) × Above low ks

-- Type numbers strictly ascending.
unfoldable pub StrictlyAscending : List ℕ → Type 0
StrictlyAscending [] = Unit
StrictlyAscending (k ∷ ks) = Above k ks × StrictlyAscending ks
