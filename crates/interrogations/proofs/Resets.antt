-- Resetting the places that a common address reaches resets the table's counters. Assumes nothing.
use Rattle.std.specs.Prelude.{Option, Some, None}
use mathlib.Core.Path.{◌≡◌, refl, sym, ap, ◌∙◌}
use mathlib.Core.List.{List}
use mathlib.Core.Bool.{Bool, true, false}
use Prim.Native.Nat.{ℕ}
use native.Mathlib.Omega.{arith}
use lib.Dec.{eqb}
use borrow.Author.Tests.{eqb-true, eqb-false}
use Rattle.limits.specs.Test.{pick}
use Rattle.octets.specs.Number.{two, Octets}
use Rattle.table.specs.Memory.{table_of, well_formed}
use Rattle.table.proofs.Parse.{passed}
use Rattle.asdu.specs.Header.{global_address}
use Rattle.lookup.specs.declared.Seat.{Seat}
use Rattle.lookup.specs.Seats.{seat_at}
use Rattle.report.specs.declared.Selection.{Selection}
use Rattle.report.specs.declared.Reach.{Reach}
use Rattle.output.specs.Reach.{seat_reach, reach_of}
use Rattle.registry.specs.Effect.{holding}
use Rattle.answers.specs.System.{reset_at}
use Rattle.resets.specs.Resets.{reset_places}
use Rattle.resets.proofs.Entry.{station_reset_law, every_reset_law, unplanned_reset_law}
use Rattle.resets.proofs.Turns.{reset_end}

module _ (m : List ℕ) (o : Octets m) (w : well_formed m ≡ true) where
  -- The selected counters at a CA are those of the places in r.
  abbrev Resets : ℕ → Selection → Reach → Type 0
  Resets ca sel r = reset_places sel m r.base r.n ≡ holding m (table_of m) (reset_at (table_of m) ca sel)

  at_seat : (ca : ℕ) (sel : Selection) → eqb ca global_address ≡ false → (s : Option Seat) → seat_at m ca ≡ s → Resets ca sel (seat_reach s)
  at_seat ca sel e (Some s) f = (station_reset_law m ca s.index s.first s.held sel o w f).memory
  at_seat ca sel e None f = let long = (passed m w).top.long in reset_end sel m 64 0 (omega arith) ∙ (unplanned_reset_law m ca sel o w f (eqb-false _ _ e)).1

  pub reach_reset : (ca : ℕ) (sel : Selection) → Resets ca sel (reach_of m ca)
  unfolding reach_of
  reach_reset ca sel = by_test (eqb ca global_address) refl
    where
      by_test : (b : Bool) → eqb ca global_address ≡ b → Resets ca sel (pick b (record { base = 64; n = two m 8; every = true }) (seat_reach (seat_at m ca)))
      by_test true e = (every_reset_law m sel o w).memory ∙ ap (λ (x : ℕ). holding m (table_of m) (reset_at (table_of m) x sel)) (sym (eqb-true _ _ e))
      by_test false e = at_seat ca sel e (seat_at m ca) refl
