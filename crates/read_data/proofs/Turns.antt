-- The turns of the two loops over a command's addresses, and where a place found lies. Assumes nothing.
use mathlib.Core.Path.{◌≡◌, refl, sym, ap, ◌∙◌}
use mathlib.Core.List.{List, [], ◌++◌}
use mathlib.Core.Bool.{Bool, true, false}
use Prim.Native.Nat.{ℕ, suc, ◌+◌, ◌*◌, ◌-◌, ◌≤◌, ◌<◌}
use native.Mathlib.Omega.{arith}
use lib.ListN.{get_or}
use lib.Dec.{ltb, eqb}
use borrow.Author.Tests.{ltb-true}
use Rattle.std.specs.Prelude.{Option, Some, None, Result, Ok, Err}
use Rattle.limits.specs.Test.{◌&◌, pick}
use Rattle.limits.specs.Size.{point_octets}
use Rattle.limits.proofs.Tests.{both}
use Rattle.limits.proofs.Sizes.{point_at_most}
use Rattle.octets.specs.Number.{three}
use Rattle.asdu.specs.Header.{wire}
use Rattle.asdu.proofs.Laws.{wire_none, wire_append}
use Rattle.lookup.specs.Find.{ioa_at, halve, spot_at, find_at}
use Rattle.read_data.specs.Reads.{asked_of, together, asked_at, requested_of, requested_at}

-- ---- one address

-- A place found lies among those asked, whatever they hold.
pub held_inside : (m : List ℕ) (first n ioa at : ℕ) → find_at m first n ioa ≡ Ok at → at + 48 ≤ first + 48 * n
unfolding find_at spot_at
held_inside m first n ioa at e = by_test (ltb j n & eqb (ioa_at m first j) ioa) refl e
  where
    j : ℕ
    j = halve (ioa_at m first) ioa 0 n n

    by_test : (b : Bool) → ltb j n & eqb (ioa_at m first j) ioa ≡ b → pick b (Ok (first + 48 * j)) (Err (first + 48 * j)) ≡ Ok at → at + 48 ≤ first + 48 * n
    by_test true t f =
        let p : first + 48 * j ≡ at = cc in
        let l : j < n = ltb-true _ _ (both _ _ t).0 in
        omega arith
    by_test false t f = let z : ◌≡◌ {A = ℕ} 0 1 = cc in absurd (omega arith)

-- An ASDU of one point has at most 21 octets.
pub asked_small : (m : List ℕ) (x : Result ℕ ℕ) (k : ℕ) → Some k ≡ asked_of m x → k ≤ 21
unfolding asked_of
asked_small m (Ok at) k e =
    let p = point_at_most (get_or m at 0) in
    let q : k ≡ 9 + point_octets (get_or m at 0) = cc in
    omega arith
asked_small m (Err at) k e = let z : ◌≡◌ {A = ℕ} 0 1 = cc in absurd (omega arith)

-- ---- the octets

pub together_none : (r : Option ℕ) → together (Some 0) r ≡ r
together_none (Some k) = let e : 0 + k ≡ k = omega arith in ap Some e
together_none None = refl

together_more : (a b : ℕ) (r : Option ℕ) → together (Some a) (together (Some b) r) ≡ together (Some (a + b)) r
together_more a b (Some k) = let e : a + (b + k) ≡ a + b + k = omega arith in ap Some e
together_more a b None = refl

-- the n addresses of a command from octet `at` on, of which the first i are done
module _ (m : List ℕ) (first h : ℕ) (asdu : List ℕ) (at n i : ℕ) where
  module _ (more : i < n) where
    one_more : n - i ≡ suc (n - (i + 1))
    one_more = omega arith

    further : at + 3 * i + 3 ≡ at + 3 * (i + 1)
    further = omega arith

    pub asked_on : (octets k : ℕ) → Some k ≡ asked_of m (find_at m first h (three asdu (at + 3 * i)))
        → together (Some octets) (asked_at m first h asdu (at + 3 * i) (n - i)) ≡ together (Some (octets + k)) (asked_at m first h asdu (at + 3 * (i + 1)) (n - (i + 1)))
    unfolding asked_at
    asked_on octets k e =
        ap (λ (x : ℕ). together (Some octets) (asked_at m first h asdu (at + 3 * i) x)) one_more
        ∙ (λ j. together (Some octets) (together (sym e j) (asked_at m first h asdu (further j) (n - (i + 1)))))
        ∙ together_more octets k (asked_at m first h asdu (at + 3 * (i + 1)) (n - (i + 1)))

    pub asked_missing : (octets : ℕ) → None ≡ asked_of m (find_at m first h (three asdu (at + 3 * i)))
        → together (Some octets) (asked_at m first h asdu (at + 3 * i) (n - i)) ≡ None
    unfolding asked_at
    asked_missing octets e =
        ap (λ (x : ℕ). together (Some octets) (asked_at m first h asdu (at + 3 * i) x)) one_more
        ∙ ap (λ (x : Option ℕ). together (Some octets) (together x (asked_at m first h asdu (at + 3 * i + 3) (n - (i + 1))))) (sym e)

    pub requested_on : (ca : ℕ)
        → wire (requested_at m first h ca asdu (at + 3 * i) (n - i))
        ≡ wire (requested_of m ca (find_at m first h (three asdu (at + 3 * i)))) ++ wire (requested_at m first h ca asdu (at + 3 * (i + 1)) (n - (i + 1)))
    unfolding requested_at
    requested_on ca =
        ap (λ (x : ℕ). wire (requested_at m first h ca asdu (at + 3 * i) x)) one_more
        ∙ wire_append (requested_of m ca (find_at m first h (three asdu (at + 3 * i)))) (requested_at m first h ca asdu (at + 3 * i + 3) (n - (i + 1)))
        ∙ ap (λ (x : ℕ). wire (requested_of m ca (find_at m first h (three asdu (at + 3 * i)))) ++ wire (requested_at m first h ca asdu x (n - (i + 1)))) further

  pub asked_end : (octets : ℕ) → n ≤ i → together (Some octets) (asked_at m first h asdu (at + 3 * i) (n - i)) ≡ Some octets
  unfolding asked_at
  asked_end octets e =
      let z : n - i ≡ 0 = omega arith in
      let o : octets + 0 ≡ octets = omega arith in
      ap (λ (x : ℕ). together (Some octets) (asked_at m first h asdu (at + 3 * i) x)) z ∙ ap Some o

  pub requested_end : (ca : ℕ) → n ≤ i → wire (requested_at m first h ca asdu (at + 3 * i) (n - i)) ≡ []
  unfolding requested_at
  requested_end ca e = let z : n - i ≡ 0 = omega arith in ap (λ (x : ℕ). wire (requested_at m first h ca asdu (at + 3 * i) x)) z ∙ wire_none
