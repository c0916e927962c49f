-- The library's word on `any` is the definition of standing in a list. Assumes nothing.
use Rattle.std.proofs.Common.{◌≡◌, Bool, true, false, List, [], ◌∷◌, ◌||◌, refl, ap, ◌∙◌, rules, tests}
use Rattle.std.specs.List.{list_any}
use Rattle.std.proofs.lemmas.Iterator.{YieldsList-from_slice}
use Rattle.std.proofs.lemmas.Iterator.Search.{any_from_yields_List}
use lib.Dec.{eqb}
use Rattle.limits.specs.Test.{◌&◌, pick}
use Rattle.model.specs.declared.Request.{Request}
use Rattle.registry.specs.Registry.{stands_in}
use Rattle.among.proofs.stands_in.Goals as goal

abbrev test : Request → Request → Bool
test q p = eqb p.ca q.ca & eqb p.ioa q.ioa

or_pick : (a b : Bool) → (a || b) ≡ pick a true b
or_pick true b = refl
or_pick false b = refl

any_stands : (q : Request) (ps : List Request) → list_any (test q) ps ≡ stands_in q ps
unfolding stands_in
any_stands q [] = refl
any_stands q (p ∷ ps) = ap (λ b. test q p || b) (any_stands q ps) ∙ or_pick (test q p) (stands_in q ps)

pub returns : goal.returns
unfolding ◌&◌
returns c =
    let q = c.args.point.now in
    any_from_yields_List (test q) _ _ _ c.any.ensures.ran (YieldsList-from_slice c.args.points.now cc) (λ x b q k. search (rules, tests)) ∙ any_stands q c.args.points.now
