-- Each return computes `read_as` by the tests that led there; a length that passed leaves six octets to read.
use mathlib.Core.Path.{sym, ap, ◌∙◌}
use lib.ListN.{length}
use Rattle.std.specs.Prelude.{Ok}
use Rattle.asdu.specs.Command.{read_as}
use Rattle.asdu.proofs.Reading.{header_there}
use native.Mathlib.Omega.{arith}
use Rattle.asdu.proofs.command.parse.Goals as goal

pub returns-then-not-is_length : goal.returns-then-not-is_length
unfolding read_as
returns-then-not-is_length c =
    let L = sym c.is_length.ensures ∙ c.if-not-is_length.true in
    simp L

pub bounds-asdu-0 : goal.bounds-asdu-0
bounds-asdu-0 c =
    let h = header_there c.args.limit (length c.args.asdu.now) (sym c.is_length.ensures ∙ c.if-not-is_length.false) in
    omega arith

pub returns-then-not-is_served : goal.returns-then-not-is_served
unfolding read_as
returns-then-not-is_served c =
    let L = sym c.is_length.ensures ∙ c.if-not-is_length.false in
    let S = sym c.is_served.ensures ∙ c.if-not-is_served.true in
    simp (L, S)

pub has_whole_objects-requires : goal.has_whole_objects-requires
has_whole_objects-requires c =
    let h = header_there c.args.limit (length c.args.asdu.now) (sym c.is_length.ensures ∙ c.if-not-is_length.false) in
    omega arith

pub returns-then-not-has_whole_objects : goal.returns-then-not-has_whole_objects
unfolding read_as
returns-then-not-has_whole_objects c =
    let L = sym c.is_length.ensures ∙ c.if-not-is_length.false in
    let S = sym c.is_served.ensures ∙ c.if-not-is_served.false in
    let W = sym c.has_whole_objects.ensures ∙ c.if-not-has_whole_objects.true in
    simp (L, S, W)

pub command_in-requires : goal.command_in-requires
command_in-requires c =
    let h = header_there c.args.limit (length c.args.asdu.now) (sym c.is_length.ensures ∙ c.if-not-is_length.false) in
    omega arith

pub returns : goal.returns
unfolding read_as
returns c =
    let L = sym c.is_length.ensures ∙ c.if-not-is_length.false in
    let S = sym c.is_served.ensures ∙ c.if-not-is_served.false in
    let W = sym c.has_whole_objects.ensures ∙ c.if-not-has_whole_objects.false in
    simp (L, S, W) (ap Ok c.command_in.ensures)
