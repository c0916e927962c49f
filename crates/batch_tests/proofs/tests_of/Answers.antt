use native.Mathlib.Omega.{arith}
use Rattle.batch_tests.proofs.Laws.{own_stop}
use Rattle.batch_tests.proofs.tests_of.Goals as goal

pub returns-in_err-map_err : goal.returns-in_err-map_err
returns-in_err-map_err c = grind (arith, own_stop)
