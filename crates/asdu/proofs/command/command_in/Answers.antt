-- Each field is the one of `command_in`.
use Rattle.asdu.specs.Header.{kind_in, count_in, cause_in, test_in, originator_in}
use Rattle.asdu.proofs.command.command_in.Goals as goal

pub returns : goal.returns
returns c =
    let m = c.args.asdu.now in
    let ca = c.number_at.ensures.0 in
    let element = c.element_octets.ensures.0 in
    λ j. record { kind = kind_in m; count = count_in m; cause = cause_in m; test = test_in m; originator = originator_in m; ca = ca j; element = element j }
