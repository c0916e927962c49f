-- The fields of the place, one after the other, over zeros.
use Rattle.std.proofs.Common.{rules}
use Rattle.model.proofs.Placing.{placed}
use Rattle.model.proofs.place.place_of.Goals as goal

pub returns : goal.returns
returns c =
    let a = c.args in
    placed a.p a.ca c.from.result c.put.new.m c.put-2.new.m c.put-3.new.m c.copy_from_slice.new.self c.put.ensures c.put-2.ensures c.put-3.ensures c.from.ensures
    c.copy_from_slice.ensures.after (search rules)
