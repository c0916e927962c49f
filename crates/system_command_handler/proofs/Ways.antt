-- The ways through the entry: what was read fixes the sizes, each type leads to its answer, and what is no command or is passed over has its number.
-- Assumes nothing.
use mathlib.Core.Path.{◌≡◌, refl, sym, ap, ◌∙◌}
use mathlib.Core.List.{List, [], ◌∷◌}
use mathlib.Core.Bool.{Bool, true, false}
use Prim.Native.Nat.{ℕ, ◌≤◌, ◌<◌}
use Rattle.table.specs.Settings.{limit_of}
use Rattle.answers.specs.System.{echoed, points_read, qualifier_of, interrogation_answer, counter_answer, after_counters, read_answer, clock_from, is_silent, command_said, system_from, system_said}
use native.Mathlib.Omega.{arith}
use lib.ListN.{length}
use borrow.Author.Tests.{eq-eqb, ne_eqb}
use Rattle.limits.specs.Test.{pick}
use Rattle.std.specs.Prelude.{Ok, Err}
use Rattle.limits.specs.Outcome.{done}
use Rattle.limits.specs.declared.outcome.Refusal.TheVariants.{Silent}
use Rattle.asdu.specs.Command.{Reading, read_as, refusal_of, object_at}
use Rattle.asdu.specs.declared.command.Unread.{Unread}
use Rattle.limits.specs.Size.{element_octets, octets_in, named_types, point_types, system_types, process_types, end_types}
use Rattle.table.specs.Table.{Table}
use Rattle.asdu.specs.declared.command.Command.{Command}
use Rattle.asdu.specs.declared.command.Entry.TheVariants.{SystemCommands}
use Rattle.asdu.proofs.Reading.{parsed_is}
use Rattle.answers.specs.Said.{says}
use Rattle.system_command_handler.specs.Handler.{is_skipped}

-- ---- what was read

pub record Sizes (m : List ℕ) (c : Command) : Type 0 where
  pub small : c.element ≤ 12
  pub least : 6 ≤ length m
  pub few : c.count < 128
  pub octets : length m ≡ object_at c.element c.count
  pub element : c.element ≡ element_octets c.kind

pub sizes_of : (limit : ℕ) (m : List ℕ) (c : Command) → read_as limit SystemCommands m ≡ Ok c → Sizes m c
sizes_of limit m c e =
    let r = parsed_is limit SystemCommands m c e in
    record {
      small = r.small;
      least = r.least;
      few = r.few;
      octets = r.whole;
      element = ap (λ (x : Command). x.element) r.is ∙ sym (ap (λ (x : Command). element_octets x.kind) r.is);
    }

-- the octets of the elements that matter
pub element_is : (k e : ℕ) → element_octets k ≡ e → (c : Command) (m : List ℕ) → Sizes m c → c.kind ≡ k → (c.element ≡ e) × (length m ≡ object_at e c.count)
element_is k e d c m s q =
    let f : c.element ≡ e = s.element ∙ ap element_octets q ∙ d in
    (f, s.octets ∙ ap (λ (x : ℕ). object_at x c.count) f)

pub one_octet : (element_octets 100 ≡ 1) × (element_octets 101 ≡ 1) × (element_octets 102 ≡ 0) × (element_octets 103 ≡ 7)
unfolding element_octets octets_in named_types point_types system_types process_types end_types
one_octet = (refl, refl, refl, refl)

-- ---- what each type says

module _ (clock m : List ℕ) (c : Command) (t : Table) where
  pub said_interrogation : c.kind ≡ 100 → command_said clock m c t ≡ says (interrogation_answer c m t) t clock
  unfolding command_said
  said_interrogation e = simp (eq-eqb _ _ e)

  pub said_counters : (c.kind ≡ 100 → ⊥) → c.kind ≡ 101
      → command_said clock m c t ≡ record { outcome = done; answer = counter_answer c m t; told = []; after = after_counters t c.ca (qualifier_of m); clock = clock }
  unfolding command_said
  said_counters n e = simp (ne_eqb _ _ n, eq-eqb _ _ e)

  pub said_read : (c.kind ≡ 100 → ⊥) → (c.kind ≡ 101 → ⊥) → c.kind ≡ 102 → command_said clock m c t ≡ says (read_answer c m (points_read c m t)) t clock
  unfolding command_said
  said_read n₁ n₂ e = simp (ne_eqb _ _ n₁, ne_eqb _ _ n₂, eq-eqb _ _ e)

  module _ (n₁ : c.kind ≡ 100 → ⊥) (n₂ : c.kind ≡ 101 → ⊥) (n₃ : c.kind ≡ 102 → ⊥) where
    pub said_clock : c.kind ≡ 103 → command_said clock m c t ≡ says (echoed c m false ∷ []) t (clock_from m)
    unfolding command_said
    said_clock e = simp (ne_eqb _ _ n₁, ne_eqb _ _ n₂, ne_eqb _ _ n₃, eq-eqb _ _ e)

    pub said_echo : (c.kind ≡ 103 → ⊥) → command_said clock m c t ≡ says (echoed c m false ∷ []) t clock
    unfolding command_said
    said_echo e = simp (ne_eqb _ _ n₁, ne_eqb _ _ n₂, ne_eqb _ _ n₃, ne_eqb _ _ e)

-- A clock that stays.
pub same_clock : (b : Bool) (clock : List ℕ) → clock ≡ pick b clock clock
same_clock true clock = refl
same_clock false clock = refl

-- ---- silence

pub silent_none : (c : Command) (m : List ℕ) → c.count ≡ 0 → is_silent c m ≡ true
unfolding is_silent
silent_none c m e = simp (eq-eqb _ _ e)

pub silent_some : (c : Command) (m : List ℕ) → 0 < c.count → is_silent c m ≡ is_skipped c m
unfolding is_silent
silent_some c m h = let n : c.count ≡ 0 → ⊥ = λ q. omega arith in simp (ne_eqb _ _ n)

-- ---- what was read

module _ (clock m : List ℕ) (t : Table) where
  -- No command was read: its number.
  pub unread_says : (unread : Unread) → read_as (limit_of t) SystemCommands m ≡ Err unread → (system_said clock m t).outcome ≡ Err (refusal_of unread)
  unfolding system_from
  unread_says unread e = ap (λ (x : Reading). (system_from clock m x t).outcome) e

  module _ (c : Command) (e : read_as (limit_of t) SystemCommands m ≡ Ok c) where
    -- A command that is passed over.
    pub silent_says : is_silent c m ≡ true → (system_said clock m t).outcome ≡ Err Silent
    unfolding system_from
    silent_says s = ap (λ (r : Reading). (system_from clock m r t).outcome) e ∙ simp s

    -- A command that is taken says what its type says.
    pub taken_says : is_silent c m ≡ false → command_said clock m c t ≡ system_said clock m t
    unfolding system_from
    taken_says s = sym (ap (λ (r : Reading). system_from clock m r t) e ∙ simp s)
