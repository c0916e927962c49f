-- The fault that the tests of a list of one give is the point's. Assumes nothing.
use Rattle.std.proofs.Common.{◌≡◌, ◌∙◌, rules}
use Rattle.table.specs.Memory.{table_of}
use Rattle.replies.specs.Replies.{placed}
use Rattle.point_lists.proofs.Faults.{alone}
use Rattle.point_lists.proofs.fault_alone.Goals as goal

pub returns : goal.returns
returns c =
    let a = c.args in
    let e : c.map_err.result ≡ (placed c.own_tests.result).outcome = search rules in
    e ∙ alone (table_of a.m.now) a.point _ _ c.record_of-record.ensures c.own_tests.ensures
