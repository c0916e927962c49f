-- Asked of each place of the list, the test is the recursion of `stands_before`. Assumes nothing.
use native.Mathlib.Omega.{arith}
use mathlib.Core.Path.{refl, ◌∙◌}
use Prim.Native.Nat.{ℕ, ◌*◌}
use Rattle.std.proofs.Common.{rules, tests}
use Rattle.std.proofs.lemmas.Iterator.{YieldsList-from_range}
use Rattle.std.proofs.lemmas.Iterator.Search.{any_from_yields_List}
use Rattle.batch_records.specs.Records.{has_address}
use Rattle.batch_records.proofs.Laws.{stands_any}
use Rattle.batch_records.proofs.stands_before.Goals as goal

pub returns : goal.returns
returns c =
    let a = c.args in
    let m = a.records.now in
    any_from_yields_List (λ (i : ℕ). has_address m (24 * i) a.ca a.ioa) _ _ c.any.result c.any.ensures.ran (YieldsList-from_range 0 a.n a.n refl (omega arith)) (λ x b q k. search (rules, tests))
    ∙ stands_any m a.ca a.ioa a.n
