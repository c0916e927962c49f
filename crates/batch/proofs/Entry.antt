-- The entry's ways out: each gives the reply and leaves the memory that the effect of a batch says. Assumes nothing.
use mathlib.Core.Path.{◌≡◌, sym, ap, ◌∙◌}
use mathlib.Core.List.{List, []}
use mathlib.Core.Bool.{true, false}
use Prim.Native.Nat.{ℕ}
use Rattle.limits.specs.Test.{pick}
use Rattle.limits.specs.Outcome.{done, is_done}
use Rattle.limits.proofs.Outcomes.{done_is}
use Rattle.model.specs.declared.Request.{Request}
use Rattle.table.specs.Memory.{well_formed, table_of}
use Rattle.registry.specs.Effect.{Reply, Effect, holding, reply_on, memory_on}
use Rattle.replies.specs.Replies.{Replies}
use Rattle.replies.proofs.Ways.{of_table}
use Rattle.registry.specs.Registry.{own_tests, room_tests, registering_all}
use Rattle.batch_room.specs.Room.{room_reply}

module _ (m : List ℕ) (w : well_formed m ≡ true) (qs : List Request) where
  -- a point fails its own tests
  refused_own : is_done (own_tests (table_of m) [] 0 qs).outcome ≡ false
      → registering_all qs (table_of m) ≡ record { outcome = (own_tests (table_of m) [] 0 qs).outcome; place = (own_tests (table_of m) [] 0 qs).place; after = table_of m }
  unfolding registering_all
  refused_own d = simp d

  -- all pass
  passed_own : is_done (own_tests (table_of m) [] 0 qs).outcome ≡ true → registering_all qs (table_of m) ≡ room_tests (table_of m) 0 qs
  unfolding registering_all
  passed_own d = simp d

  -- Refused by 11 to 17.
  pub own_refusal : (x : Reply) → x ≡ own_tests (table_of m) [] 0 qs → is_done x.outcome ≡ false → Replies (registering_all qs) m x m
  own_refusal x e d =
      let t = of_table (registering_all qs) m w in
      let n : is_done (own_tests (table_of m) [] 0 qs).outcome ≡ false = ap (λ (y : Reply). is_done y.outcome) (sym e) ∙ d in
      let r = refused_own n in (
        e ∙ sym (t.0 ∙ ap (λ (f : Effect). record { outcome = f.outcome; place = f.place }) r),
        sym (t.1 ∙ ap (λ (f : Effect). pick (is_done f.outcome) (holding m (table_of m) f.after) m) r ∙ simp n),
      )

  module _ (p : is_done (own_tests (table_of m) [] 0 qs).outcome ≡ true) (x : Reply) (e : x ≡ room_reply (table_of m) qs) where
    -- the reply is the share rule's
    room_reply_lem : x ≡ reply_on (registering_all qs) m
    unfolding room_reply
    room_reply_lem = e ∙ sym ((of_table (registering_all qs) m w).0 ∙ ap (λ (f : Effect). record { outcome = f.outcome; place = f.place }) (passed_own p))

    room_outcome : x.outcome ≡ (room_tests (table_of m) 0 qs).outcome
    unfolding room_reply
    room_outcome = ap (λ (y : Reply). y.outcome) e

    room_memory : memory_on (registering_all qs) m ≡ pick (is_done (room_tests (table_of m) 0 qs).outcome) (holding m (table_of m) (room_tests (table_of m) 0 qs).after) m
    room_memory =
        (of_table (registering_all qs) m w).1 ∙ ap (λ (f : Effect). pick (is_done f.outcome) (holding m (table_of m) f.after) m) (passed_own p)

    -- Refused for room: 19, 20.
    pub room_refusal : is_done x.outcome ≡ false → Replies (registering_all qs) m x m
    room_refusal d =
        let n : is_done (room_tests (table_of m) 0 qs).outcome ≡ false = ap is_done (sym room_outcome) ∙ d in
        (room_reply_lem, sym (room_memory ∙ simp n))

    -- What the storing asks.
    pub has_room : is_done x.outcome ≡ true → (room_tests (table_of m) 0 qs).outcome ≡ done
    has_room d = sym room_outcome ∙ done_is _ d

    -- Done: all are stored.
    pub stored_all : is_done x.outcome ≡ true → (later : List ℕ) → later ≡ holding m (table_of m) (room_tests (table_of m) 0 qs).after
        → Replies (registering_all qs) m x later
    stored_all d later s =
        let n : is_done (room_tests (table_of m) 0 qs).outcome ≡ true = ap is_done (sym room_outcome) ∙ d in
        (room_reply_lem, s ∙ sym (room_memory ∙ simp n))
