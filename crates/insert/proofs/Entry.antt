-- What an entry has of the share rule before it puts a point in: there is an unused place. Assumes nothing.
use mathlib.Core.Path.{◌≡◌, sym, ap, ◌∙◌, subst}
use mathlib.Core.List.{List, ◌∷◌, ◌++◌, map}
use Prim.Native.Nat.{ℕ, ◌<◌}
use native.Mathlib.Omega.{arith}
use Rattle.limits.specs.Test.{total}
use Rattle.limits.specs.Share.{held_of, admission_in, Sound}
use Rattle.limits.specs.declared.share.Share.{Share}
use Rattle.std.specs.Prelude.{Ok, Err}
use Rattle.limits.specs.Outcome.{Outcome, done}
use Rattle.limits.specs.declared.outcome.Refusal.TheVariants.{CeilingReached, NotAdmitted}
use Rattle.limits.proofs.Shares.{admitted_has_place}
use Rattle.table.specs.Table.{Station, Table, held, share_of}
use Rattle.table.proofs.Parse.{Good}
use Rattle.table.proofs.Shares.{good_sound, total_held}
use Rattle.table.proofs.Change.{Found, shares_split}

-- Whoever is admitted finds an unused place.
pub admitted_room : (t : Table) (ca : ℕ) (s : Station) → Good t → Found ca t.stations s
    → admission_in t.capacity (map share_of t.stations) (share_of s) ≡ done → total held t.stations < t.capacity
admitted_room t ca s g w a =
    let k : ℕ = t.capacity in
    let B : List Share = map share_of w.before in
    let A : List Share = map share_of w.after in
    let e : map share_of t.stations ≡ B ++ (share_of s ∷ A) = ap (map share_of) w.split ∙ shares_split w.before s w.after in
    let place : total held_of (B ++ (share_of s ∷ A)) < k =
    admitted_has_place k B (share_of s) A (subst (Sound k) e (good_sound t g)) (ap (λ (l : List Share). admission_in k l (share_of s)) (sym e) ∙ a) in
    let h : total held t.stations ≡ total held_of (B ++ (share_of s ∷ A)) = sym (total_held t.stations) ∙ ap (total held_of) e in
    omega arith
