-- The header goes to the front, the objects after it.
use borrow.Author.Rules.{rules}
use mathlib.Core.Path.{◌≡◌, sym, ◌∙◌}
use Rattle.octets.specs.Over.{over}
use Rattle.octets.proofs.Laws.{over_over}
use Rattle.asdu.specs.Header.{header}
use Rattle.asdu.proofs.Laws.{length_header, length_after}
use native.Mathlib.Omega.{arith}
use Rattle.asdu.proofs.header.put_asdu.Goals as goal

pub put_header-requires : goal.put_header-requires
put_header-requires c = (search rules, omega arith)

pub returns : goal.returns
returns c =
    let a = c.args in
    let k = length_header a.h in
    let n = length_after a.h a.objects.now in
    let e : c.copy_in.new.dst ≡ over (over a.out.now 0 (header a.h)) 6 a.objects.now = cc in
    (sym n, e ∙ over_over a.out.now (header a.h) a.objects.now 0 6 (omega arith) (omega arith))
