-- Two parts written one after another are the whole; and so the echo and the requested ASDUs are the answer to a read command. Assumes nothing.
use mathlib.Core.Path.{◌≡◌, refl, sym, ap, ap₂, ◌∙◌}
use mathlib.Core.List.{List, [], ◌∷◌, ◌++◌, append_assoc, map}
use Prim.Native.Nat.{ℕ, ◌+◌, ◌-◌, ◌≤◌, ◌<◌}
use native.Mathlib.Omega.{arith}
use lib.ListN.{length, take, drop, length-append, length-drop, take-append-drop}
use lib.Seq.{length-take-le}
use Rattle.octets.specs.Over.{over}
use Rattle.octets.proofs.Laws.{over_at}
use mathlib.Core.Bool.{true, false}
use mathlib.Core.Option.{Option, none}
use Rattle.std.specs.Prelude.{Err}
use Rattle.limits.specs.declared.outcome.Refusal.TheVariants.{AnswerShort}
use Rattle.model.specs.declared.Point.{Point}
use Rattle.table.specs.Memory.{table_of}
use Rattle.asdu.specs.Header.{asdu_octets, wire}
use Rattle.asdu.specs.Joined.{joined}
use Rattle.asdu.specs.Puts.{PutsAt}
use Rattle.asdu.specs.Command.{object_at}
use Rattle.asdu.specs.declared.command.Command.{Command}
use Rattle.asdu.proofs.Lengths.{length_echo}
use Rattle.report.specs.Single.{requested_asdu}
use Rattle.answers.specs.Said.{Answered, size, nothing, given, Sends}
use Rattle.answers.specs.System.{echoed, points_read, read_answer}
use Rattle.answers.proofs.Ends.{sends_nothing, sends_all, sends_along}
use Rattle.read_data.specs.Reads.{requested_by}
use Rattle.read_data.proofs.Entry.{Requested}

-- Two parts, one after another.
pub one_after_another : (m E D : List ℕ) (e : ℕ) → length E ≡ e → e + length D ≤ length m → over (over m 0 E) e D ≡ over m 0 (E ++ D)
one_after_another m E D e le h =
    let A : List ℕ = take e m in
    let m1 : List ℕ = drop e m in
    let d : ℕ = length D in
    let B : List ℕ = take d m1 in
    let R : List ℕ = drop d m1 in
    let l1 : length m1 ≡ length m - e = length-drop e m in
    let la : length A ≡ e = length-take-le e m (omega arith) in
    let lb : length B ≡ d = length-take-le d m1 (omega arith) in
    let split : m ≡ A ++ (B ++ R) = sym (take-append-drop e m) ∙ ap (λ (x : List ℕ). A ++ x) (sym (take-append-drop d m1)) in
    let s1 : over m 0 E ≡ E ++ (B ++ R) = ap (λ (x : List ℕ). over x 0 E) split ∙ over_at [] A (B ++ R) E 0 refl (la ∙ sym le) in
    let s2 : over (over m 0 E) e D ≡ E ++ (D ++ R) = ap (λ (x : List ℕ). over x e D) s1 ∙ over_at E B R D e le lb in
    let w : length (A ++ B) ≡ length (E ++ D) = length-append A B ∙ ap₂ (λ (x y : ℕ). x + y) (la ∙ sym le) lb ∙ sym (length-append E D) in
    let s3 : over m 0 (E ++ D) ≡ (E ++ D) ++ R =
    ap (λ (x : List ℕ). over x 0 (E ++ D)) (split ∙ sym (append_assoc A B R)) ∙ over_at [] (A ++ B) R (E ++ D) 0 refl w in
    s2 ∙ sym (append_assoc E D R) ∙ sym s3

-- ---- the answer to a read command

-- An address is missing.
pub read_denied : (c : Command) (asdu out : List ℕ) (q : Option (List Point)) → q ≡ none → (r : Answered) (out' : List ℕ)
    → Sends (echoed c asdu true ∷ []) out r out' → Sends (read_answer c asdu q) out r out'
unfolding read_answer
read_denied c asdu out q e r out' s = sends_along _ _ out out' r (sym (ap (read_answer c asdu) e)) s

-- Every address is known.
module _ (m : List ℕ) (first h : ℕ) (c : Command) (asdu out : List ℕ) (octets : ℕ) (z : Requested m first h c asdu octets)
    (whole : length asdu ≡ object_at c.element c.count) where
  wire_read : wire (read_answer c asdu (points_read c asdu (table_of m))) ≡ asdu_octets (echoed c asdu false) ++ wire (map (requested_asdu c.ca) z.points)
  unfolding read_answer wire joined
  wire_read = ap (λ (q : Option (List Point)). wire (read_answer c asdu q)) z.is_asked

  size_read : size (read_answer c asdu (points_read c asdu (table_of m))) ≡ length asdu + octets
  size_read =
      let e = length_echo c asdu 7 false whole in
      let k = z.is_octets in
      ap length wire_read ∙ simp length-append (omega arith)

  -- There is no room.
  pub read_short : length out < length asdu + octets → Sends (read_answer c asdu (points_read c asdu (table_of m))) out (nothing (Err AnswerShort)) out
  read_short h' = let l = size_read in sends_nothing _ out (omega arith)

  -- The echo, then the requested ASDUs.
  pub read_written : length asdu + octets ≤ length out → (out₁ out₂ : List ℕ) (r : ℕ) → out₁ ≡ over out 0 (asdu_octets (echoed c asdu false))
      → PutsAt (length asdu) (wire (requested_by m first h c asdu)) out₁ r out₂ → Sends (read_answer c asdu (points_read c asdu (table_of m))) out (given r) out₂
  read_written fit out₁ out₂ r e₁ e₂ =
      let E : List ℕ = asdu_octets (echoed c asdu false) in
      let D : List ℕ = wire (map (requested_asdu c.ca) z.points) in
      let l = size_read in
      let k = z.is_octets in
      let d = ap wire z.is_data in
      let n = e₂.0 ∙ ap (λ (x : List ℕ). length asdu + length x) d in
      let o = e₂.1 ∙ (λ j. over (e₁ j) (length asdu) (d j)) in
      sends_all _ out r out₂ (omega arith) (omega arith)
      (o ∙ one_after_another out E D (length asdu) (length_echo c asdu 7 false whole) (omega arith) ∙ ap (over out 0) (sym wire_read))
