-- From the sums of the table's shares on, with nothing taken in, the turns give the table's answer. Assumes nothing.
use native.Mathlib.Omega.{arith}
use Rattle.batch_room.proofs.Laws.{room_fresh, took_in}
use Rattle.batch_room.proofs.room_tests.Goals as goal

pub returns : goal.returns
returns c = (grind (arith, room_fresh), λ d. grind (arith, took_in))
