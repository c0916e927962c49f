-- The header is the one of `reply_to`.
use native.Mathlib.Omega.{arith}
use mathlib.Core.Path.{◌≡◌, ap}
use Rattle.asdu.specs.declared.header.Header.{Header}
use Rattle.asdu.proofs.confirmation.put_reply.Goals as goal

pub put_asdu-requires : goal.put_asdu-requires
put_asdu-requires c =
    let h : Header = c.reply_header-h.result in
    let e : h.cause ≡ c.args.cause = ap (λ (x : Header). x.cause) c.reply_header-h.ensures in
    (omega arith, c.requires.1)

pub returns : goal.returns
returns c =
    let h = c.reply_header-h.ensures in
    let p = c.put_asdu.ensures in
    (cc, cc)
