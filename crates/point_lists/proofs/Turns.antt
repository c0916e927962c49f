-- The own tests from the i-th point of a list on: what one turn of the loop over them does. Lists and definitions alone, nothing of the code.
-- Assumes nothing.
use Rattle.std.proofs.Common.{◌≡◌, ℕ, ◌+◌, ◌<◌, ◌≤◌, suc, Bool, true, false, List, [], ◌∷◌, map, reverse, length, get_or, take, drop, sym, ap, ◌∙◌, arith}
use Rattle.std.proofs.lemmas.List.{take_more, map-append, reverse-append, drop_all}
use lib.Seq.{drop-cons}
use Rattle.limits.specs.Test.{pick}
use Rattle.limits.specs.Outcome.{Outcome, done, is_done}
use Rattle.model.specs.declared.Request.{Request}
use Rattle.table.specs.Table.{Table}
use Rattle.table.specs.Memory.{well_formed, table_of}
use Rattle.registry.specs.Effect.{Reply}
use Rattle.registry.specs.Registry.{batch_fault, own_tests}
use Rattle.points.specs.Points.{whole, deciding}
use Rattle.replies.specs.Replies.{placeless}
use Rattle.point_lists.specs.Later.{last_first, later_tests}

-- The own tests that are left from the i-th point on, all before it having passed.
abbrev pub left : Table → List Request → ℕ → Reply
left t ps i = own_tests t (last_first (take i ps)) i (map whole (drop i ps))

module _ (t : Table) (ps : List Request) (i : ℕ) (d : Request) where
  abbrev pub fault : Outcome
  fault = batch_fault t (last_first (take i ps)) (whole (get_or ps i d))

  one_more : i < length ps → last_first (take (i + 1) ps) ≡ whole (get_or ps i d) ∷ last_first (take i ps)
  one_more h =
      ap last_first (take_more ps i d h) ∙ ap reverse (map-append whole (take i ps) (get_or ps i d ∷ [])) ∙ reverse-append (map whole (take i ps)) (whole (get_or ps i d) ∷ [])

  turn : i < length ps → left t ps i ≡ pick (is_done fault) (left t ps (i + 1)) (record { outcome = fault; place = i })
  unfolding own_tests
  turn h =
      let more = λ (es : List Request) (n : ℕ). pick (is_done fault) (own_tests t es (i + 1) (map whole (drop n ps))) (record { outcome = fault; place = i }) in
      ap (λ (l : List Request). own_tests t (last_first (take i ps)) i (map whole l)) (drop-cons ps i d h)
      ∙ ap (λ (n : ℕ). more (whole (get_or ps i d) ∷ last_first (take i ps)) n) (let z : suc i ≡ i + 1 = omega arith in z)
      ∙ ap (λ (es : List Request). more es (i + 1)) (sym (one_more h))

  module _ (o : Outcome) (is : o ≡ fault) (h : i < length ps) where
    abbrev named : Reply
    named = record { outcome = o; place = i }

    turn_of : left t ps i ≡ pick (is_done o) (left t ps (i + 1)) named
    turn_of = turn h ∙ ap (λ (x : Outcome). pick (is_done x) (left t ps (i + 1)) (record { outcome = x; place = i })) (sym is)

    -- A point that passes leaves the tests of the next ones.
    pub passes : is_done o ≡ true → left t ps i ≡ left t ps (i + 1)
    passes e = turn_of ∙ ap (λ (b : Bool). pick b (left t ps (i + 1)) named) e

    -- One that does not is named.
    pub fails : is_done o ≡ false → left t ps i ≡ named
    fails e = turn_of ∙ ap (λ (b : Bool). pick b (left t ps (i + 1)) named) e

-- Past the last point nothing is left.
pub ends : (t : Table) (ps : List Request) (i : ℕ) → length ps ≤ i → left t ps i ≡ record { outcome = done; place = 0 }
unfolding own_tests
ends t ps i h = ap (λ (l : List Request). own_tests t (last_first (take i ps)) i (map whole l)) (drop_all i ps h)

-- Where there is a table, what is left from the first later point on is what the tests of the later ones give.
pub told : (m : List ℕ) (ps : List Request) → well_formed m ≡ true → left (table_of m) ps deciding ≡ later_tests m ps
unfolding later_tests
told m ps w = sym (ap (λ (b : Bool). pick b (left (table_of m) ps deciding) (placeless done)) w)
