-- Each field is read where the record has it.
use Rattle.model.proofs.registration.request_at.Goals as goal

pub returns : goal.returns
returns c = cc
