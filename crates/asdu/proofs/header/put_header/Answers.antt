-- The six octets of the header go to the front.
use mathlib.Core.Path.{sym, ap}
use lib.ListN.{length}
use Rattle.asdu.proofs.Laws.{length_header}
use native.Mathlib.Omega.{arith}
use Rattle.asdu.proofs.header.put_header.Goals as goal

pub copy_in-requires : goal.copy_in-requires
copy_in-requires c =
    let n = length_header c.args.h in
    let e = ap length c.header_octets-octets.ensures in
    omega arith

pub returns : goal.returns
returns c =
    let a = c.args in
    (sym (length_header a.h), cc)
