-- Removal of one point and of all, and a station's share, as the code goes: each way out gives what the definition says. Assumes nothing.
use Rattle.std.specs.Prelude.{Some, None, Ok, Err}
use mathlib.Core.Path.{◌≡◌, refl, sym, ap, ◌∙◌}
use mathlib.Core.List.{List}
use mathlib.Core.Bool.{true, false}
use Prim.Native.Nat.{ℕ}
use Rattle.limits.specs.Outcome.{done}
use Rattle.limits.specs.declared.outcome.Refusal.TheVariants.{TableNotWellFormed, StationNotPlanned, NotRegistered}
use Rattle.octets.specs.Number.{Octets}
use Rattle.layout.specs.Layout.{points_in}
use Rattle.table.specs.Memory.{table_of, well_formed}
use Rattle.table.specs.Change.{station_of, known}
use Rattle.table.proofs.Parse.{parse_some, parse_none}
use Rattle.lookup.specs.declared.Seat.{Seat}
use Rattle.lookup.specs.Seats.{seat_at}
use Rattle.lookup.specs.Find.{find_at}
use Rattle.lookup.proofs.Laws.{seat_law, absent_law}
use Rattle.lookup.proofs.Halving.{missing_law}
use Rattle.remove.specs.Remove.{Removable, taken_out, all_taken_out}
use Rattle.remove.proofs.Entry.{take_out_law, take_all_out_law}
use Rattle.registry.specs.Effect.{Effect, refused}
use Rattle.registry.specs.Registry.{is_registered, unregistering, unregistering_all, share_in, share_from, share_on}
use Rattle.replies.specs.Replies.{Replies, placeless, numbered}
use Rattle.replies.proofs.Ways.{refused_by, done_by}
use Rattle.actor.specs.Actor.{station_share_at}
use Rattle.actor.proofs.Rooms.{station_share, free_is, unmet_is}

module _ (m : List ℕ) (w : well_formed m ≡ true) (ca ioa : ℕ) where
  not_registered : is_registered ioa (station_of ca (table_of m).stations) ≡ false → unregistering ca ioa (table_of m) ≡ refused (Err NotRegistered) 0 (table_of m)
  unfolding unregistering
  not_registered e = simp e

  out_refused : is_registered ioa (station_of ca (table_of m).stations) ≡ false → Replies (unregistering ca ioa) m (placeless (Err NotRegistered)) m
  out_refused e =
      let u = not_registered e in
      refused_by (unregistering ca ioa) m w (Err NotRegistered) (ap (λ (x : Effect). x.outcome) u) (ap (λ (x : Effect). x.place) u) refl

  -- The plan has no such station: 18.
  pub out_absent : seat_at m ca ≡ None → Replies (unregistering ca ioa) m (placeless (Err NotRegistered)) m
  unfolding is_registered
  out_absent e = out_refused (ap (is_registered ioa) (absent_law m ca e))

  module _ (o : Octets m) (seat : Seat) (e : seat_at m ca ≡ Some seat) where
    -- The station has no such point: 18.
    pub out_missing : (at : ℕ) → find_at m seat.first seat.held ioa ≡ Err at → Replies (unregistering ca ioa) m (placeless (Err NotRegistered)) m
    unfolding is_registered
    out_missing at p =
        let z = seat_law m ca seat.index seat.first seat.held o w e in
        let k : known ioa z.seat.s.points ≡ false = ap (known ioa) (sym z.points) ∙ (missing_law m seat.first seat.held ioa at (rw z.points z.rises) p).not_known in
        out_refused (ap (is_registered ioa) z.seat.is_station ∙ k)

    -- What `take_out` asks.
    pub out_bounds : (at : ℕ) → find_at m seat.first seat.held ioa ≡ Ok at → Removable m seat.index seat.held at
    out_bounds at p = (take_out_law m ca ioa seat.index seat.first seat.held at o w e p).bounds

    -- Done: the point is gone.
    pub out_done : (at : ℕ) → find_at m seat.first seat.held ioa ≡ Ok at → Replies (unregistering ca ioa) m (placeless done) (taken_out m seat.index seat.held at)
    unfolding unregistering is_registered
    out_done at p =
        let z = take_out_law m ca ioa seat.index seat.first seat.held at o w e p in
        let k : is_registered ioa (station_of ca (table_of m).stations) ≡ true = ap (is_registered ioa) z.is_station ∙ z.is_known in
        done_by (unregistering ca ioa) m w 0 _ (simp k) (simp k) (z.memory ∙ sym (simp k))

-- Done: all points are gone, and their number is given back.
pub all_done : (m : List ℕ) → Octets m → well_formed m ≡ true → Replies unregistering_all m (numbered (Ok (points_in m))) (all_taken_out m)
unfolding unregistering_all
all_done m o w =
    let z = take_all_out_law m o w in
    done_by unregistering_all m w (points_in m) _ refl (sym z.count) z.memory

-- ---- a station's share

pub share_no_table : (m : List ℕ) (ca : ℕ) → well_formed m ≡ false → Err TableNotWellFormed ≡ share_on ca m
unfolding share_from
share_no_table m ca w = sym (ap (share_from ca) (parse_none m w))

module _ (m : List ℕ) (w : well_formed m ≡ true) (ca : ℕ) where
  pub share_absent : seat_at m ca ≡ None → Err StationNotPlanned ≡ share_on ca m
  unfolding share_from share_in
  share_absent e = sym (ap (share_from ca) (parse_some m w) ∙ ap (share_in (table_of m)) (absent_law m ca e))

  pub share_found : (o : Octets m) (seat : Seat) → seat_at m ca ≡ Some seat → Ok (station_share_at m seat.index) ≡ share_on ca m
  unfolding station_share_at share_from share_in
  share_found o seat e =
      let z = seat_law m ca seat.index seat.first seat.held o w e in
      let s = station_share m o w ca seat.index seat.first seat.held e in
      let f = free_is m o w ca seat.index seat.first seat.held e in
      let u = unmet_is m o w ca seat.index seat.first seat.held e in
      (λ j. Ok record { share = s j; free = f j; unmet = u j })
      ∙ sym (ap (share_from ca) (parse_some m w) ∙ ap (share_in (table_of m)) z.seat.is_station)
