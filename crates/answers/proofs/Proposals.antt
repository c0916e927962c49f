-- A good proposal: how many octets its reply has, and its confirmation. Assumes nothing.
use mathlib.Core.Path.{◌≡◌}
use mathlib.Core.List.{List}
use mathlib.Core.Bool.{true}
use Prim.Native.Nat.{ℕ, ◌+◌, ◌-◌, ◌/◌, ◌%◌, ◌≤◌}
use native.Mathlib.Omega.{arith}
use native.Mathlib.Nat.{div-add-mod'}
use lib.ListN.{length}
use borrow.Author.Tests.{leb-true, eqb-true}
use Rattle.limits.specs.Size.{control_octets, header_octets, address_octets, element_octets}
use Rattle.limits.proofs.Tests.{both}
use Rattle.asdu.specs.declared.command.Command.{Command}
use Rattle.asdu.specs.Header.{asdu_octets}
use Rattle.asdu.specs.Confirmation.{objects_of}
use Rattle.asdu.proofs.Objects.{length_objects}
use Rattle.asdu.proofs.Lengths.{length_reply}
use Rattle.answers.specs.Process.{Proposal, proposal_ok, confirmation_cause, process_reply}

-- A good proposal has no more octets of objects than the length limit leaves.
pub most_reply : (limit kind : ℕ) (objects : List ℕ) → proposal_ok limit kind objects ≡ true → length objects ≤ limit - (control_octets + header_octets)
unfolding proposal_ok
most_reply limit kind objects ok = leb-true _ _ (both _ _ (both _ _ ok).1).0

-- They are whole objects.
pub whole_reply : (limit kind : ℕ) (objects : List ℕ) → proposal_ok limit kind objects ≡ true → length objects % (address_octets + element_octets kind) ≡ 0
unfolding proposal_ok
whole_reply limit kind objects ok = eqb-true _ _ (both _ _ (both _ _ ok).1).1

-- So the confirmation has as many octets as they have, and its header.
pub length_confirmed : (c : Command) (p : Proposal) → length p.objects % (address_octets + element_octets p.kind) ≡ 0
    → length (asdu_octets (process_reply c p)) ≡ header_octets + length p.objects
unfolding objects_of
length_confirmed c p h =
    let e = element_octets p.kind in
    let d = div-add-mod' (length p.objects) (address_octets + e) in
    let l = length_reply c p.kind (confirmation_cause c.cause) p.negative (objects_of e p.objects) in
    let k = length_objects e (length p.objects / (address_octets + e)) p.objects (omega arith) in
    omega arith
