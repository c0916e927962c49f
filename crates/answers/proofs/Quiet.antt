-- Commands are quiet: a good table stays good, and every station holds what it held. So the history of demand 3 has commands in it. Assumes nothing.
use mathlib.Core.Path.{◌≡◌, refl, ◌∙◌}
use mathlib.Core.List.{List, [], ◌∷◌, map}
use mathlib.Core.Bool.{Bool, true, false}
use mathlib.Core.Option.{Option, none, some}
use Prim.Native.Nat.{ℕ, zero, suc, ◌+◌}
use native.Mathlib.Omega.{arith}
use lib.ListN.{length}
use lib.Dec.{eqb}
use Rattle.limits.specs.Test.{pick}
use Rattle.std.specs.Prelude.{Ok, Err, Some, None}
use Rattle.limits.specs.Outcome.{is_done}
use Rattle.asdu.specs.Command.{Reading}
use Rattle.asdu.specs.declared.command.Unread.TheVariants.{LengthOutOfRange, TypeNotServed, ObjectsNotWhole}
use Rattle.model.specs.declared.Point.{Point}
use Rattle.table.specs.Table.{Station, Table, good, rising}
use Rattle.table.specs.Settings.{limit_of}
use Rattle.table.specs.Change.{station_of, with_points, with_stations, changed, point_in}
use Rattle.table.proofs.Parse.{Good, good_is, is_good}
use Rattle.table.proofs.Change.{station_found, station_rises}
use Rattle.registry.specs.History.{holding_of, Quiet}
use Rattle.registry.proofs.Gentle.{Gentle, gentle_here, gentle_everywhere}
use Rattle.asdu.specs.Header.{global_address}
use Rattle.asdu.specs.declared.command.Command.{Command}
use Rattle.report.specs.declared.Selection.{Selection}
use Rattle.report.specs.Order.{points_of}
use Rattle.answers.specs.Choice.{Choice}
use Rattle.answers.specs.Said.{Said, Lent, outcome_with}
use Rattle.answers.specs.System.{chosen, qualifier_of, reset_in, reset_at, reset_by, resets, after_counters, command_said, system_from, system_said, is_silent, interrogation_type, counters_type, read_type}
use Rattle.answers.specs.Process.{Update, Proposal, update_octets, updates_at, updated, update_of, replace_in, table_with, table_after, read_updates, process_cause_taken, proposal_ok, process_from, process_said}
use Rattle.answers.specs.Start.{start_said}
use Rattle.answers.proofs.Common.{effect_in}
use Rattle.answers.proofs.Values.{reset_gentle, point_in_lem, updated_ok, replace_gentle}

-- A table that is good and has the holdings of another.
pub record Still (t u : Table) : Type 0 where
  pub capacity : u.capacity ≡ t.capacity
  pub is_good : Good t → Good u
  pub holdings : Good t → map holding_of u.stations ≡ map holding_of t.stations

still_same : (t : Table) → Still t t
still_same t = record { capacity = refl; is_good = λ g. g; holdings = λ g. refl }

still_then : {t u v : Table} → Still t u → Still u v → Still t v
still_then a b =
    record {
      capacity = b.capacity ∙ a.capacity;
      is_good = λ g. b.is_good (a.is_good g);
      holdings = λ g. b.holdings (a.is_good g) ∙ a.holdings g;
    }

-- What leaves every table still is quiet, whatever its outcome.
pub still_quiet : (f : Table → Said) (l : Lent) → ((t : Table) → Still t (f t).after) → Quiet (effect_in f l)
unfolding effect_in
still_quiet f l s =
    record {
      keeps_good = λ t g. by_test_good t g (is_done (outcome_with (f t) l));
      keeps_capacity = λ t. by_test_capacity t (is_done (outcome_with (f t) l));
      keeps_holdings = λ t g. by_test_holdings t g (is_done (outcome_with (f t) l));
    }
  where
    by_test_good : (t : Table) → good t ≡ true → (b : Bool) → good (pick b (f t).after t) ≡ true
    by_test_good t g true = is_good _ ((s t).is_good (good_is t g))
    by_test_good t g false = g

    by_test_capacity : (t : Table) (b : Bool) → (pick b (f t).after t).capacity ≡ t.capacity
    by_test_capacity t true = (s t).capacity
    by_test_capacity t false = refl

    by_test_holdings : (t : Table) → good t ≡ true → (b : Bool) → map holding_of (pick b (f t).after t).stations ≡ map holding_of t.stations
    by_test_holdings t g true = (s t).holdings (good_is t g)
    by_test_holdings t g false = refl

-- ---- system commands

still_here : (t : Table) (ca : ℕ) (f : List Point → List Point) → Gentle f → Still t (changed t ca f)
unfolding changed
still_here t ca f w = record { capacity = refl; is_good = λ g. (gentle_here f w t ca g).0; holdings = λ g. (gentle_here f w t ca g).1 }

reset_still : (t : Table) (ca : ℕ) (sel : Selection) → Still t (reset_at t ca sel)
unfolding reset_at
reset_still t ca sel = by_test (eqb ca global_address)
  where
    by_test : (b : Bool) → Still t (pick b (with_stations (map (with_points (reset_in sel)) t.stations) t) (changed t ca (reset_in sel)))
    by_test true =
        record {
          capacity = refl;
          is_good = λ g. (gentle_everywhere (reset_in sel) (reset_gentle sel) t g).0;
          holdings = λ g. (gentle_everywhere (reset_in sel) (reset_gentle sel) t g).1;
        }
    by_test false = still_here t ca (reset_in sel) (reset_gentle sel)

choice_still : (t : Table) (ca : ℕ) (o : Choice) → Still t (reset_by t ca o)
unfolding reset_by
choice_still t ca None = still_same t
choice_still t ca (Some sel) = reset_still t ca sel

counters_still : (t : Table) (ca q : ℕ) → Still t (after_counters t ca q)
unfolding after_counters
counters_still t ca q = by_test (resets q)
  where
    by_test : (b : Bool) → Still t (pick b (reset_by t ca (chosen q)) t)
    by_test true = choice_still t ca (chosen q)
    by_test false = still_same t

pick_still : (t : Table) (b : Bool) (x y : Said) → Still t x.after → Still t y.after → Still t (pick b x y).after
pick_still t true x y p q = p
pick_still t false x y p q = q

command_still : (clock m : List ℕ) (c : Command) (t : Table) → Still t (command_said clock m c t).after
unfolding command_said
command_still clock m c t =
    pick_still t (eqb c.kind interrogation_type) _ _ (still_same t)
    (pick_still t (eqb c.kind counters_type) _ _ (counters_still t c.ca (qualifier_of m))
    (pick_still t (eqb c.kind read_type) _ _ (still_same t) (still_same t)))

system_still : (clock m : List ℕ) (r : Reading) (t : Table) → Still t (system_from clock m r t).after
unfolding system_from
system_still clock m (Err unread) t = still_same t
system_still clock m (Ok c) t = pick_still t (is_silent c m) _ _ (still_same t) (command_still clock m c t)

-- Every system command is quiet.
pub system_quiet : (m : List ℕ) (l : Lent) → Quiet (effect_in (system_said l.clock m) l)
system_quiet m l = still_quiet (system_said l.clock m) l (λ t. system_still l.clock m _ t)

-- ---- the start of a connection

-- It is quiet.
pub start_quiet : (l : Lent) → Quiet (effect_in (start_said l.clock) l)
start_quiet l = still_quiet (start_said l.clock) l still_same

-- ---- process commands

-- Updates as their records have them: twelve octets of value.
unfoldable pub AllWhole : List Update → Type 0
AllWhole [] = Unit
AllWhole (u ∷ us) = (length u.value ≡ 12) × AllWhole us

pub updates_whole : (m : List ℕ) (at n : ℕ) → AllWhole (updates_at m at n)
unfolding AllWhole updates_at
updates_whole m at zero = tt
updates_whole m at (suc n) = (refl, updates_whole m (at + update_octets) n)

-- the point that an update means in a good table, and what it becomes
update_ok : (t : Table) (u : Update) (p : Point) → Good t → length u.value ≡ 12 → update_of t u ≡ some p → Gentle (replace_in p)
unfolding updated point_in
update_ok t u p g w e = of_station (station_of u.ca t.stations) refl e
  where
    of_point : (s : Station) → station_of u.ca t.stations ≡ some s → (o : Option Point) → point_in u.ioa s.points ≡ o → updated u o ≡ some p → Gentle (replace_in p)
    of_point s f none k e' = let z : ◌≡◌ {A = ℕ} 0 1 = cc in absurd (omega arith)
    of_point s f (some q) k e' =
        let r : rising 0 s.points ≡ true = station_rises t u.ca s g (station_found _ _ _ f) in
        let o = point_in_lem 0 u.ioa s.points q r k in
        replace_gentle p (updated_ok u q p w o.0 e').0

    of_station : (o : Option Station) → station_of u.ca t.stations ≡ o → updated u (point_in u.ioa (points_of o)) ≡ some p → Gentle (replace_in p)
    of_station none f e' = let z : ◌≡◌ {A = ℕ} 0 1 = cc in absurd (omega arith)
    of_station (some s) f e' = of_point s f (point_in u.ioa s.points) refl e'

-- One update leaves a table still.
pub update_still : (t : Table) (u : Update) → length u.value ≡ 12 → Still t (table_with t u (update_of t u))
unfolding table_with changed
update_still t u w = of_update (update_of t u) refl
  where
    of_update : (o : Option Point) → update_of t u ≡ o → Still t (table_with t u o)
    of_update none e = still_same t
    of_update (some p) e =
        record {
          capacity = refl;
          is_good = λ g. (gentle_here (replace_in p) (update_ok t u p g w e) t u.ca g).0;
          holdings = λ g. (gentle_here (replace_in p) (update_ok t u p g w e) t u.ca g).1;
        }

updates_still : (t : Table) (us : List Update) → AllWhole us → Still t (table_after t us)
unfolding AllWhole table_after
updates_still t [] w = still_same t
updates_still t (u ∷ us) w = still_then (update_still t u w.0) (updates_still (table_with t u (update_of t u)) us w.1)

read_whole : (p : Proposal) → AllWhole p.updates → AllWhole (read_updates p)
unfolding AllWhole
read_whole p w = by_test p.negative
  where
    by_test : (b : Bool) → AllWhole (pick b [] p.updates)
    by_test true = tt
    by_test false = w

process_still : (clock : List ℕ) (p : Proposal) → AllWhole p.updates → (r : Reading) (t : Table) → Still t (process_from clock p r t).after
unfolding process_from
process_still clock p w (Err unread) t = still_same t
process_still clock p w (Ok c) t =
    pick_still t (process_cause_taken c.cause) _ _
    (pick_still t (proposal_ok (limit_of t) p.kind p.objects) _ _ (updates_still t (read_updates p) (read_whole p w)) (still_same t))
    (still_same t)

-- Every process command is quiet.
pub process_quiet : (p : Proposal) → AllWhole p.updates → (m : List ℕ) (l : Lent) → Quiet (effect_in (process_said l.clock p m) l)
process_quiet p w m l = still_quiet (process_said l.clock p m) l (λ t. process_still l.clock p w _ t)
