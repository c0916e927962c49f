-- The turns of the loop that writes: each requested ASDU goes in where the one before ended. Assumes nothing.
use mathlib.Core.Path.{◌≡◌, sym, ap, ◌∙◌, subst}
use mathlib.Core.List.{List, [], ◌++◌}
use Prim.Native.Nat.{ℕ, ◌+◌, ◌*◌, ◌-◌, ◌≤◌, ◌<◌}
use native.Mathlib.Omega.{arith}
use native.Mathlib.Nat.{add-zero}
use lib.ListN.{length, length-append, take-append-drop}
use Rattle.std.specs.Prelude.{Result, Ok, Err}
use Rattle.octets.specs.Over.{over}
use Rattle.octets.specs.Number.{three}
use Rattle.asdu.specs.Header.{asdu_octets, wire}
use Rattle.asdu.specs.Puts.{PutsAt}
use Rattle.asdu.proofs.Laws.{wire_none, wire_one}
use Rattle.answers.specs.Said.{size}
use Rattle.octets.proofs.Log.{Log, log_step, log_room, log_end}
use Rattle.model.specs.Place.{point_at}
use Rattle.lookup.specs.Find.{find_at}
use Rattle.report.specs.Single.{requested_asdu}
use Rattle.read_data.specs.Reads.{requested_of, requested_at}
use Rattle.read_data.proofs.Turns.{requested_on, requested_end}

-- a place found
pub found_is : (m : List ℕ) (ca at : ℕ) (x : Result ℕ ℕ) → x ≡ Ok at → wire (requested_of m ca x) ≡ asdu_octets (requested_asdu ca (point_at m at))
unfolding requested_of
found_is m ca at x e = ap (λ (y : Result ℕ ℕ). wire (requested_of m ca y)) e ∙ wire_one (requested_asdu ca (point_at m at))

-- none found: nothing is written
pub nothing_found : (m : List ℕ) (ca at : ℕ) (x : Result ℕ ℕ) → x ≡ Err at → wire (requested_of m ca x) ≡ []
unfolding requested_of
nothing_found m ca at x e = ap (λ (y : Result ℕ ℕ). wire (requested_of m ca y)) e ∙ wire_none

pub over_nothing : (out : List ℕ) (o : ℕ) → over out o [] ≡ out
unfolding over
over_nothing out o = rw (add-zero o) (take-append-drop o out)

module _ (m : List ℕ) (first h ca : ℕ) (asdu out₀ whole out : List ℕ) (at n i from o : ℕ)
    (log : Log out₀ from whole out o (wire (requested_at m first h ca asdu (at + 3 * i) (n - i)))) (fits : from + length whole ≤ length out₀) where
  module _ (more : i < n) where
    abbrev next : List ℕ
    next = wire (requested_of m ca (find_at m first h (three asdu (at + 3 * i))))

    -- The next one fits.
    pub next_fits : o + size (requested_of m ca (find_at m first h (three asdu (at + 3 * i)))) ≤ length out
    next_fits =
        let r : o + size (requested_at m first h ca asdu (at + 3 * i) (n - i)) ≤ length out = log_room out₀ whole out _ from o log (omega arith) in
        let e : size (requested_at m first h ca asdu (at + 3 * i) (n - i)) ≡ length next + size (requested_at m first h ca asdu (at + 3 * (i + 1)) (n - (i + 1))) =
        ap length (requested_on m first h asdu at n i more ca) ∙ length-append next _ in
        omega arith

    -- It goes in.
    pub next_in : (ioa r : ℕ) (out' : List ℕ) → ioa ≡ three asdu (at + 3 * i) → PutsAt o (wire (requested_of m ca (find_at m first h ioa))) out r out'
        → Log out₀ from whole out' r (wire (requested_at m first h ca asdu (at + 3 * (i + 1)) (n - (i + 1))))
    next_in ioa r out' q p =
        let todo : List ℕ = wire (requested_at m first h ca asdu (at + 3 * (i + 1)) (n - (i + 1))) in
        let l : Log out₀ from whole out o (next ++ todo) = subst (λ (x : List ℕ). Log out₀ from whole out o x) (requested_on m first h asdu at n i more ca) log in
        let s : Log out₀ from whole (over out o next) (o + length next) todo = log_step out₀ whole out next todo from o l next_fits in
        let er' : r ≡ o + length next = p.0 ∙ ap (λ (x : ℕ). o + size (requested_of m ca (find_at m first h x))) q in
        let eo' : out' ≡ over out o next = p.1 ∙ ap (λ (x : ℕ). over out o (wire (requested_of m ca (find_at m first h x)))) q in
        subst (λ (x : ℕ). Log out₀ from whole out' x todo) (sym er') (subst (λ (x : List ℕ). Log out₀ from whole x (o + length next) todo) (sym eo') s)

  -- All is in.
  pub all_in : n ≤ i → PutsAt from whole out₀ o out
  all_in none_left =
      let l : Log out₀ from whole out o [] = subst (λ (x : List ℕ). Log out₀ from whole out o x) (requested_end m first h asdu at n i ca none_left) log in
      let e = log_end out₀ whole out from o l (omega arith) in
      (let z = e.0 in omega arith, e.1)
