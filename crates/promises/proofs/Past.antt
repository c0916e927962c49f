-- Memory past a table's own octets is the caller's: every call leaves it as it was, since a table under the same K and plan has as many octets.
-- Assumes nothing.
use Prim.Native.Nat.{ℕ}
use mathlib.Core.Path.{◌≡◌, refl, sym, ap, ◌∙◌, subst}
use mathlib.Core.List.{List, ◌++◌}
use mathlib.Core.Bool.{Bool, true, false}
use mathlib.Core.Option.{Option, some}
use native.Mathlib.Omega.{arith}
use lib.ListN.{length, drop, length-map}
use lib.Seq.{drop-append_seam}
use Rattle.limits.specs.Test.{pick}
use Rattle.limits.specs.Outcome.{is_done}
use Rattle.octets.specs.Number.{Octets}
use Rattle.model.specs.Request.{request_at}
use Rattle.table.specs.Table.{Table, image}
use Rattle.table.specs.Memory.{parse}
use Rattle.table.proofs.Parse.{Good, good_is, length_image, parse_sound}
use Rattle.registry.specs.Effect.{Effect, holding, memory_from, memory_on}
use Rattle.registry.specs.Opening.{planned, table_octets, opens, fresh, opened_memory}
use Rattle.registry.specs.History.{line_of, effect_of, Quiet}
use Rattle.registry.specs.History.Call.{register, register_all, unregister, command, unregister_all as remove_all}
use Rattle.registry.specs.History as registry
use Rattle.registry.proofs.Histories.{SamePlan, keeps}
use Rattle.opening.proofs.Fresh.{table_octets_lem}
use Rattle.batch_records.specs.Records.{requests_in}
use Rattle.batch_records.proofs.Laws.{all_twelve}
use Rattle.answers.specs.Said.{Lent}
use Rattle.answers.proofs.Common.{effect_in, command_effect}
use Rattle.answers.proofs.Quiet.{start_quiet, system_quiet, process_quiet, updates_whole}
use Rattle.commands.specs.Entry.{proposal_of}
use Rattle.khuvelter.specs.Interface.{is_set}
use Rattle.khuvelter.specs.Calls.{Change, Question, Call, effect_by, said_by, left_by}
use Rattle.khuvelter.specs.Calls.Change.{register_point, register_points, unregister_point, unregister_all}
use Rattle.khuvelter.specs.Calls.Question.{connection_started, system, process}
use Rattle.khuvelter.specs.Calls.Call.{open_table, change, ask}
use Rattle.promises.specs.Answers.{own_octets}

-- ---- the calls of the C interface as registry's

-- A change is one of its own.
abbrev pub registered : Change → registry.Call
registered (register_point q) = register (request_at q 0) refl
registered (register_points qs) = register_all (requests_in qs) (all_twelve qs 0 _)
registered (unregister_point ca ioa) = unregister ca ioa
registered unregister_all = remove_all

pub same_effect : (c : Change) → effect_of (registered c) ≡ effect_by c
same_effect (register_point q) = refl
same_effect (register_points qs) = refl
same_effect (unregister_point ca ioa) = refl
same_effect unregister_all = refl

-- A question is a command, since it is quiet.
pub quiet : (q : Question) (l : Lent) → Quiet (effect_in (said_by q l.clock) l)
quiet connection_started l = start_quiet l
quiet (system m) l = system_quiet m l
quiet (process m n k r us) l = process_quiet (proposal_of (is_set n) k r us) (updates_whole us 0 _) m l

-- ---- the octets of a table

-- The octets of a good table.
octets_are : (t : Table) → Good t → length (image t) ≡ table_octets t.capacity (length t.stations)
octets_are t g = let l = length_image t g.few in omega arith

-- A table under the same K and plan has as many.
same_octets : (t u : Table) → SamePlan t u → table_octets u.capacity (length u.stations) ≡ table_octets t.capacity (length t.stations)
same_octets t u s =
    let k = s.capacity in
    let n : length u.stations ≡ length t.stations = sym (length-map u.stations line_of) ∙ ap length s.lines ∙ length-map t.stations line_of in
    omega arith

-- Past what is written at its front a memory is as it was.
past_front : (n : ℕ) (xs ys m : List ℕ) → length xs ≡ n → length ys ≡ n → drop n (xs ++ drop (length ys) m) ≡ drop n m
past_front n xs ys m p q =
    subst (λ (k : ℕ). drop k (xs ++ drop (length ys) m) ≡ drop k m) p
    (drop-append_seam xs (drop (length ys) m) ∙ ap (λ (k : ℕ). drop k m) (q ∙ sym p))

module _ (m : List ℕ) (t : Table) (read : parse m ≡ some t) (g : Good t) where
  -- One of registry's calls.
  call_past : (c : registry.Call) → drop (table_octets t.capacity (length t.stations)) (memory_on (effect_of c) m) ≡ drop (table_octets t.capacity (length t.stations)) m
  unfolding memory_from
  call_past c =
      ap (λ (o : Option Table). drop (table_octets t.capacity (length t.stations)) (memory_from (effect_of c) m o)) read
      ∙ by_test (is_done (effect_of c t).outcome) (keeps t g c).is_good (keeps t g c).plan
    where
      by_test : (b : Bool) → Good (pick b (effect_of c t).after t) → SamePlan t (pick b (effect_of c t).after t)
          → drop (table_octets t.capacity (length t.stations)) (pick b (holding m t (effect_of c t).after) m) ≡ drop (table_octets t.capacity (length t.stations)) m
      by_test true h s = past_front _ (image (effect_of c t).after) (image t) m (octets_are _ h ∙ same_octets t _ s) (octets_are t g)
      by_test false h s = refl

-- An opening.
opening_past : (k : ℕ) (plan m : List ℕ) → drop (table_octets k (length (planned plan))) (opened_memory k plan m) ≡ drop (table_octets k (length (planned plan))) m
opening_past k plan m = by_test (opens k plan (length m))
  where
    by_test : (b : Bool) → drop (table_octets k (length (planned plan))) (pick b (image (fresh k plan) ++ drop (length (image (fresh k plan))) m) m)
        ≡ drop (table_octets k (length (planned plan))) m
    by_test true = past_front _ (image (fresh k plan)) (image (fresh k plan)) m (table_octets_lem k plan) (table_octets_lem k plan)
    by_test false = refl

-- Every call.
pub past_own : (c : Call) (l : Lent) → Octets l.table → (t : Table) → parse l.table ≡ some t → drop (own_octets c t) (left_by c l).table ≡ drop (own_octets c t) l.table
past_own (open_table k plan) l o t e = opening_past k plan l.table
past_own (change c) l o t e =
    subst (λ (f : Table → Effect). drop (table_octets t.capacity (length t.stations)) (memory_on f l.table) ≡ drop (table_octets t.capacity (length t.stations)) l.table)
    (same_effect c) (call_past l.table t e (good_is t (parse_sound l.table t o e).0) (registered c))
past_own (ask q) l o t e =
    ap (drop (table_octets t.capacity (length t.stations))) (command_effect (said_by q l.clock) l).0
    ∙ call_past l.table t e (good_is t (parse_sound l.table t o e).0) (command (effect_in (said_by q l.clock) l) (quiet q l))
