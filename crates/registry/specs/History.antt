-- Histories: any calls from an opened table on, each given the table as the call before left it, and the holdings counted from their answers.
-- Demand 3.
use Rattle.std.specs.Prelude.{◌≡◌, ℕ, ◌+◌, ◌-◌, List, [], ◌∷◌, map, true, length, eqb}
use Rattle.std.proofs.Math.Option.{Option, none, some}
use Rattle.limits.specs.Test.{◌&◌, pick}
use Rattle.limits.specs.Outcome.{is_done}
use Rattle.model.specs.declared.Request.{Request}
use Rattle.table.specs.Table.{Station, Table, good}
use Rattle.table.specs.Change.{station_of}
use Rattle.registry.specs.Effect.{Reply, Effect, next, reply_on, memory_on}
use Rattle.registry.specs.Registry.{registering, registering_all, unregistering, unregistering_all}

-- A station without its points' contents: its address, its numbers, and how many it holds.
pub record Holding : Type 0 where
  pub ca : ℕ
  pub reservation : ℕ
  pub ceiling : ℕ
  pub held : ℕ

abbrev pub holding_of : Station → Holding
holding_of s = record { ca = s.ca; reservation = s.reservation; ceiling = s.ceiling; held = length s.points }

-- A line of the plan: what a station was sold.
pub record Line : Type 0 where
  pub ca : ℕ
  pub reservation : ℕ
  pub ceiling : ℕ

abbrev pub line_of : Station → Line
line_of s = record { ca = s.ca; reservation = s.reservation; ceiling = s.ceiling }

-- A call that changes no holding: every good table stays good and every station holds what it held. So do all commands.
pub record Quiet (f : Table → Effect) : Type 0 where
  pub keeps_good : (t : Table) → good t ≡ true → good (next f t) ≡ true
  pub keeps_capacity : (t : Table) → (next f t).capacity ≡ t.capacity
  pub keeps_holdings : (t : Table) → good t ≡ true → map holding_of (next f t).stations ≡ map holding_of t.stations

-- A record as its type has it: twelve octets of value.
abbrev pub Twelve : Request → Type 0
Twelve q = length q.value ≡ 12

unfoldable pub AllTwelve : List Request → Type 0
AllTwelve [] = Unit
AllTwelve (q ∷ qs) = Twelve q × AllTwelve qs

-- A call on an opened table.
pub data Call : Type 0 where
  register : (q : Request) → Twelve q → Call
  register_all : (qs : List Request) → AllTwelve qs → Call
  unregister : ℕ → ℕ → Call
  unregister_all : Call
  command : (f : Table → Effect) → Quiet f → Call

abbrev pub effect_of : Call → Table → Effect
effect_of (register q w) = registering q
effect_of (register_all qs w) = registering_all qs
effect_of (unregister ca ioa) = unregistering ca ioa
effect_of unregister_all = unregistering_all
effect_of (command f w) = f

-- How many requests of a batch are a station's.
unfoldable pub requests_of : ℕ → List Request → ℕ
requests_of ca [] = 0
requests_of ca (q ∷ qs) = pick (eqb q.ca ca) 1 0 + requests_of ca qs

-- The points of one station granted and removed since the table was opened.
pub record Tally : Type 0 where
  pub granted : ℕ
  pub removed : ℕ

-- The points that a call grants to a station, by the call's answer.
abbrev pub granted_by : ℕ → Call → Reply → ℕ
granted_by ca (register q w) r = pick (is_done r.outcome & eqb q.ca ca) 1 0
granted_by ca (register_all qs w) r = pick (is_done r.outcome) (requests_of ca qs) 0
granted_by ca (unregister c ioa) r = 0
granted_by ca unregister_all r = 0
granted_by ca (command f w) r = 0

-- The points that a call removes from a station which has `left` of those granted, by the call's answer.
abbrev pub removed_by : ℕ → Call → Reply → ℕ → ℕ
removed_by ca (register q w) r left = 0
removed_by ca (register_all qs w) r left = 0
removed_by ca (unregister c ioa) r left = pick (is_done r.outcome & eqb c ca) 1 0
removed_by ca unregister_all r left = pick (is_done r.outcome) left 0
removed_by ca (command f w) r left = 0

-- One call and its answer, counted.
abbrev pub counted : ℕ → Call → Reply → Tally → Tally
counted ca c r n = record { granted = n.granted + granted_by ca c r; removed = n.removed + removed_by ca c r (n.granted - n.removed) }

-- What a station holds in a table; an address without a station holds nothing.
unfoldable pub held_by : Option Station → ℕ
held_by none = 0
held_by (some s) = length s.points

abbrev pub held_at : ℕ → Table → ℕ
held_at ca t = held_by (station_of ca t.stations)

-- The memory after a list of calls.
unfoldable pub memory_after : List ℕ → List Call → List ℕ
memory_after m [] = m
memory_after m (c ∷ cs) = memory_after (memory_on (effect_of c) m) cs

-- The tally of a station after a list of calls, from the calls' own answers.
unfoldable pub tally_after : ℕ → Tally → List ℕ → List Call → Tally
tally_after ca n m [] = n
tally_after ca n m (c ∷ cs) = tally_after ca (counted ca c (reply_on (effect_of c) m) n) (memory_on (effect_of c) m) cs

-- Nothing granted, nothing removed.
abbrev pub at_opening : Tally
at_opening = record { granted = 0; removed = 0 }
