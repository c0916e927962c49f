-- A test that fails contradicts what a good place is within; where all pass, the spare octets decide.
use mathlib.Core.Path.{◌≡◌, ap, ◌∙◌}
use mathlib.Core.Bool.{false}
use Prim.Native.Nat.{◌+◌}
use Rattle.octets.specs.Number.{Octets}
use Rattle.octets.proofs.Bytes.{eight_is}
use Rattle.model.specs.Place.{place_ok}
use Rattle.model.specs.Limits.{first_limit, last_limit, counter_limit}
use Rattle.model.proofs.Within.{Within, refused, accepted}
use native.Mathlib.Omega.{arith}
use Rattle.model.proofs.places.PlaceLimits.place_ok.Goals as goal
use Rattle.model.proofs.places.PlaceLimits.place_ok.Goals.{After-from-kind}

-- the memory's octets
octets_in : (c : After-from-kind) → Octets c.args.m.now
octets_in c = λ i. omega (arith, c.type_inv.m i)

-- what a test that fails says of the place
no_place : (c : After-from-kind) → (Within c.args.m.now c.args.at c.args.ca c.args.low → ⊥) → false ≡ place_ok c.args.m.now c.args.at c.args.ca c.args.low
no_place c = refused c.args.m.now (octets_in c) c.args.at c.args.ca c.args.low

pub returns-then-kind-ge-TYPES : goal.returns-then-kind-ge-TYPES
returns-then-kind-ge-TYPES c = no_place (goal.at.returns-then-kind-ge-TYPES c).After-from-kind (λ w. omega arith)

pub returns-then-number_at-ca : goal.returns-then-number_at-ca
returns-then-number_at-ca c = no_place (goal.at.returns-then-number_at-ca c).After-from-kind (λ w. omega arith)

pub returns-then-number_at-low : goal.returns-then-number_at-low
returns-then-number_at-low c = no_place (goal.at.returns-then-number_at-low c).After-from-kind (λ w. omega arith)

pub returns-then-number_at-gt-GROUP_LIMIT : goal.returns-then-number_at-gt-GROUP_LIMIT
returns-then-number_at-gt-GROUP_LIMIT c = no_place (goal.at.returns-then-number_at-gt-GROUP_LIMIT c).After-from-kind (λ w. omega arith)

pub returns-then-counter-number_at : goal.returns-then-counter-number_at
returns-then-counter-number_at c =
    let most = c.counter.ensures ∙ ap counter_limit c.from-kind.ensures in
    no_place (goal.at.returns-then-counter-number_at c).After-from-kind (λ w. omega arith)

pub returns-then-first-number_at : goal.returns-then-first-number_at
returns-then-first-number_at c =
    let most = c.first.ensures ∙ ap first_limit c.from-kind.ensures in
    let eight = eight_is c.args.m.now (c.args.at + 10) in
    no_place (goal.at.returns-then-first-number_at c).After-from-kind (λ w. omega arith)

pub returns-then-last-number_at : goal.returns-then-last-number_at
returns-then-last-number_at c =
    let below = c.last.ensures ∙ ap last_limit c.from-kind.ensures in
    no_place (goal.at.returns-then-last-number_at c).After-from-kind (λ w. omega arith)

pub returns : goal.returns
returns c =
    let m = c.args.m.now in
    let at = c.args.at in
    let within : Within m at c.args.ca c.args.low =
    record {
      kind = omega arith;
      station = omega arith;
      order = omega arith;
      group = omega arith;
      counter = omega (arith, c.counter.ensures ∙ ap counter_limit c.from-kind.ensures);
      first = omega (arith, c.first.ensures ∙ ap first_limit c.from-kind.ensures, eight_is m (at + 10));
      last = omega (arith, c.last.ensures ∙ ap last_limit c.from-kind.ensures);
    } in
    c.spare_zero.ensures ∙ accepted m (octets_in (goal.at.returns c).After-from-kind) at c.args.ca c.args.low within
