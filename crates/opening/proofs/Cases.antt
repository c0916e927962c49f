-- Plans on paper, computed: document 01's gateway, its case i, and the nearest plans that number 10 refuses. Assumes nothing.
use mathlib.Core.Path.{◌≡◌, refl}
use mathlib.Core.List.{[], ◌∷◌}
use mathlib.Core.Bool.{true, false}
use Rattle.limits.specs.Test.{◌&◌, total}
use Rattle.table.specs.Table.{numbers_ok, plan_ok}
use Rattle.registry.specs.Opening.{planned, valid_plan, opens}

-- The gateway on paper, K 8 and station 7 with r 2 and c 4, opens in 456 octets and in no fewer.
pub gateway_opens : opens 8 (7 ∷ 2 ∷ 4 ∷ []) 456 ≡ true
unfolding opens valid_plan planned plan_ok numbers_ok total ◌&◌
gateway_opens = refl

pub one_octet_short : opens 8 (7 ∷ 2 ∷ 4 ∷ []) 455 ≡ false
unfolding opens valid_plan planned plan_ok numbers_ok total ◌&◌
one_octet_short = refl

-- Case i, K 5 with A (r 2, c 5) and B (r 2, c 2); with r 3 and r 3 the reservations are above K.
pub two_stations_open : opens 5 (1 ∷ 2 ∷ 5 ∷ 2 ∷ 2 ∷ 2 ∷ []) 320 ≡ true
unfolding opens valid_plan planned plan_ok numbers_ok total ◌&◌
two_stations_open = refl

pub reservations_above_capacity : opens 5 (1 ∷ 3 ∷ 5 ∷ 2 ∷ 3 ∷ 3 ∷ []) 320 ≡ false
unfolding opens valid_plan planned plan_ok numbers_ok total ◌&◌
reservations_above_capacity = refl

-- The same CA twice, CA 0, CA 65,535, no station, K 0, K 4,097, two numbers too many.
pub same_address_lem : opens 5 (1 ∷ 2 ∷ 5 ∷ 1 ∷ 2 ∷ 2 ∷ []) 320 ≡ false
unfolding opens valid_plan planned plan_ok numbers_ok total ◌&◌
same_address_lem = refl

pub address_zero : opens 8 (0 ∷ 2 ∷ 4 ∷ []) 456 ≡ false
unfolding opens valid_plan planned plan_ok numbers_ok total ◌&◌
address_zero = refl

pub broadcast_address : opens 8 (65535 ∷ 2 ∷ 4 ∷ []) 456 ≡ false
unfolding opens valid_plan planned plan_ok numbers_ok total ◌&◌
broadcast_address = refl

pub no_station : opens 8 [] 456 ≡ false
unfolding opens valid_plan planned plan_ok numbers_ok total ◌&◌
no_station = refl

pub no_capacity : opens 0 (7 ∷ 0 ∷ 0 ∷ []) 456 ≡ false
unfolding opens valid_plan planned plan_ok numbers_ok total ◌&◌
no_capacity = refl

pub capacity_too_large : opens 4097 (7 ∷ 2 ∷ 4 ∷ []) 1000000 ≡ false
unfolding opens valid_plan planned plan_ok numbers_ok total ◌&◌
capacity_too_large = refl

pub not_whole_stations : opens 8 (7 ∷ 2 ∷ 4 ∷ 8 ∷ 0 ∷ []) 1000 ≡ false
unfolding opens valid_plan planned plan_ok numbers_ok total ◌&◌
not_whole_stations = refl
