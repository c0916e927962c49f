-- The clock as a record: the octets that stand for a clock of seven octets give it back, and so do eight octets that end in a flag their own; a system command
-- leaves such octets; two outcomes of the entry are one, and a refusal leaves the clock as it was. Assumes nothing.
use mathlib.Core.Path.{◌≡◌, refl, sym, ap, ◌∙◌}
use mathlib.Core.List.{List, [], ◌∷◌, ◌++◌}
use mathlib.Core.Bool.{Bool, true, false, not}
use mathlib.Core.Option.{Option, none, some}
use Prim.Native.Nat.{ℕ, ◌≤◌, ◌<◌}
use native.Mathlib.Omega.{arith}
use lib.ListN.{length, take, drop, get_or, length-append, length-take, get_or-eq_default}
use lib.Seq.{take-append_seam, get_or-append_seam, drop-length, split_at}
use lib.Dec.{leb, eqb}
use borrow.Author.Tests.{leb-true, leb-false, eqb-true, eqb-false}
use Rattle.limits.specs.Test.{pick}
use Rattle.std.specs.Prelude.{Ok, Err}
use Rattle.limits.specs.Outcome.{is_done}
use Rattle.asdu.specs.Command.{Reading, read_as}
use Rattle.table.specs.Table.{Table}
use Rattle.table.specs.Memory.{parse}
use Rattle.table.specs.Settings.{limit_of}
use Rattle.asdu.specs.declared.command.Command.{Command}
use Rattle.asdu.specs.declared.command.Entry.TheVariants.{SystemCommands}
use Rattle.answers.specs.Said.{Answered, Said, Lent, lent, outcome_with, lent_from, lent_after, Leaves, as_it_is}
use Rattle.answers.specs.System.{clock_from, is_silent, command_said, system_from, system_said}
use Rattle.answers.proofs.Common.{refused_says_nothing}
use Rattle.clock.specs.declared.Clock.{Clock}
use Rattle.clock.specs.Clock.{flag_of, with_flag, octets_of, clock_of}

-- the flag's octet says the flag
flag_says : (known : Bool) → not (eqb (flag_of known) 0) ≡ known
flag_says true = refl
flag_says false = refl

-- a clock of its parts
abbrev clock_with : List ℕ → Bool → Clock
clock_with time known = record { octets = time; known = known }

-- A clock of seven octets is the one that its octets stand for.
pub same_clock : (k : Clock) → length k.octets ≡ 7 → clock_of (octets_of k) ≡ k
same_clock k seven =
    let z = k.octets ++ (flag_of k.known ∷ []) in
    let front : take 7 z ≡ k.octets = ap (λ (n : ℕ). take n z) (sym seven) ∙ take-append_seam k.octets (flag_of k.known ∷ []) in
    let flag : get_or z 7 0 ≡ flag_of k.known = ap (λ (n : ℕ). get_or z n 0) (sym seven) ∙ get_or-append_seam k.octets (flag_of k.known) [] 0 in
    ap (λ (time : List ℕ). clock_with time (not (eqb (get_or z 7 0) 0))) front ∙ ap (clock_with k.octets) (ap (λ (n : ℕ). not (eqb n 0)) flag ∙ flag_says k.known)

-- ---- octets that stand for a clock

-- The last of eight octets is a flag.
pub Flagged : List ℕ → Type 0
Flagged x = get_or x 7 0 ≤ 1

flag_again : (f : ℕ) → f ≤ 1 → flag_of (not (eqb f 0)) ≡ f
flag_again f h = by_test (eqb f 0) refl
  where
    by_test : (b : Bool) → eqb f 0 ≡ b → flag_of (not b) ≡ f
    by_test true e = sym (eqb-true _ _ e)
    by_test false e = let n : f ≡ 0 → ⊥ = eqb-false _ _ e in omega (arith, n)

-- The clock that they stand for has these octets.
pub same_octets : (x : List ℕ) → length x ≡ 8 → Flagged x → octets_of (clock_of x) ≡ x
unfolding Flagged
same_octets x eight w =
    let n : 7 < length x = omega arith in
    let rest : drop 8 x ≡ [] = ap (λ (k : ℕ). drop k x) (sym eight) ∙ drop-length x in
    ap (λ (f : ℕ). take 7 x ++ (f ∷ [])) (flag_again (get_or x 7 0) w) ∙ ap (λ (y : List ℕ). take 7 x ++ (get_or x 7 0 ∷ y)) (sym rest) ∙ sym (split_at x 7 0 n)

flagged_end : (xs : List ℕ) (f : ℕ) → length xs ≤ 7 → f ≤ 1 → Flagged (xs ++ (f ∷ []))
unfolding Flagged
flagged_end xs f h e = by_test (leb 7 (length xs)) refl
  where
    by_test : (b : Bool) → leb 7 (length xs) ≡ b → get_or (xs ++ (f ∷ [])) 7 0 ≤ 1
    by_test true t =
        let k : 7 ≤ length xs = leb-true _ _ t in
        let n : length xs ≡ 7 = omega arith in
        let q : get_or (xs ++ (f ∷ [])) 7 0 ≡ f = ap (λ (i : ℕ). get_or (xs ++ (f ∷ [])) i 0) (sym n) ∙ get_or-append_seam xs f [] 0 in
        omega arith
    by_test false t =
        let k : length xs < 7 = leb-false _ _ t in
        let l : length (xs ++ (f ∷ [])) ≤ 7 = simp length-append (omega arith) in
        let q : get_or (xs ++ (f ∷ [])) 7 0 ≡ 0 = get_or-eq_default (xs ++ (f ∷ [])) 0 {n = 7} l in
        omega arith

-- The octets of a clock of seven octets.
pub flagged_clock : (time : List ℕ) (known : Bool) → length time ≡ 7 → Flagged (with_flag time known)
flagged_clock time known seven = flagged_end time (flag_of known) (omega arith) (either known)
  where
    either : (b : Bool) → flag_of b ≤ 1
    either true = omega arith
    either false = omega arith

-- ---- the clock that a system command leaves

flagged_pick : (b : Bool) (x y : Said) → Flagged x.clock → Flagged y.clock → Flagged (pick b x y).clock
flagged_pick true x y p q = p
flagged_pick false x y p q = q

module _ (clock m : List ℕ) (w : Flagged clock) where
  from_command : Flagged (clock_from m)
  from_command = flagged_end (take 7 (drop 9 m)) 1 (simp length-take (omega arith)) (omega arith)

  flagged_command : (c : Command) (t : Table) → Flagged (command_said clock m c t).clock
  unfolding command_said
  flagged_command c t =
      flagged_pick (eqb c.kind 100) _ _ w (flagged_pick (eqb c.kind 101) _ _ w (flagged_pick (eqb c.kind 102) _ _ w (either (eqb c.kind 103))))
    where
      either : (b : Bool) → Flagged (pick b (clock_from m) clock)
      either true = from_command
      either false = w

  flagged_read : (r : Reading) (t : Table) → Flagged (system_from clock m r t).clock
  unfolding system_from
  flagged_read (Err unread) t = w
  flagged_read (Ok c) t = flagged_pick (is_silent c m) _ _ w (flagged_command c t)

-- The clock that is left ends in a flag where the one before did.
pub flagged_after : (m : List ℕ) (l : Lent) → Flagged l.clock → Flagged (lent_after (system_said l.clock m) l).clock
unfolding lent_from
flagged_after m l w = of_parsed (parse l.table)
  where
    either : (b : Bool) (x y : Lent) → Flagged x.clock → Flagged y.clock → Flagged (pick b x y).clock
    either true x y p q = p
    either false x y p q = q

    of_parsed : (o : Option Table) → Flagged (lent_from (system_said l.clock m) l o).clock
    of_parsed none = w
    of_parsed (some t) = either (is_done (outcome_with (system_said l.clock m t) l)) _ _ (flagged_read l.clock m w (read_as (limit_of t) SystemCommands m) t) w

-- ---- what the entry's contract says

-- The octets of a clock tell it, whatever their number.
pub octets_tell : (k k' : Clock) → octets_of k ≡ octets_of k' → k ≡ k'
octets_tell k k' e =
    let n : length k.octets ≡ length k'.octets = omega (arith, simp length-append at (ap length e)) in
    let front : k.octets ≡ k'.octets =
    sym (take-append_seam k.octets (flag_of k.known ∷ [])) ∙ ap (take (length k.octets)) e
    ∙ ap (λ (i : ℕ). take i (octets_of k')) n ∙ take-append_seam k'.octets (flag_of k'.known ∷ []) in
    let flag : flag_of k.known ≡ flag_of k'.known =
    sym (get_or-append_seam k.octets (flag_of k.known) [] 0) ∙ ap (λ (x : List ℕ). get_or x (length k.octets) 0) e
    ∙ ap (λ (i : ℕ). get_or (octets_of k') i 0) n ∙ get_or-append_seam k'.octets (flag_of k'.known) [] 0 in
    let known : k.known ≡ k'.known = sym (flag_says k.known) ∙ ap (λ (x : ℕ). not (eqb x 0)) flag ∙ flag_says k'.known in
    (λ j. clock_with (front j) (known j))

-- Two outcomes that meet the entry's contract on the same inputs are equal: answer, clock, table and answer memory.
pub one_outcome : (f : Table → Said) (l : Lent) (r r' : Answered) (k k' : Clock) (t t' a a' s s' : List ℕ)
    → Leaves as_it_is f l r (lent t (octets_of k) a s) → Leaves as_it_is f l r' (lent t' (octets_of k') a' s') → (r ≡ r') × (k ≡ k') × (t ≡ t') × (a ≡ a')
one_outcome f l r r' k k' t t' a a' s s' p q =
    let e = p.leaves ∙ sym q.leaves in
    (p.answers ∙ sym q.answers, octets_tell k k' (ap (λ (z : Lent). z.clock) e), ap (λ (z : Lent). z.table) e, ap (λ (z : Lent). z.answer) e)

-- A refusal leaves the clock, the table and the answer memory as they were.
pub refusal_leaves_all : (f : Table → Said) (k : Clock) (t a s : List ℕ) (r : Answered) (k' : Clock) (t' a' s' : List ℕ)
    → Leaves as_it_is f (lent t (octets_of k) a s) r (lent t' (octets_of k') a' s') → is_done r.outcome ≡ false → (k' ≡ k) × (t' ≡ t) × (a' ≡ a)
refusal_leaves_all f k t a s r k' t' a' s' p e =
    let l = lent t (octets_of k) a s in
    let z = p.leaves ∙ (refused_says_nothing f l (ap (λ (x : Answered). is_done x.outcome) (sym p.answers) ∙ e)).2 in
    (octets_tell k' k (ap (λ (x : Lent). x.clock) z), ap (λ (x : Lent). x.table) z, ap (λ (x : Lent). x.answer) z)
