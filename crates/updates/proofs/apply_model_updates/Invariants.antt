-- One update after another: the memory holds a table at every turn, and what is told follows what was told before. Assumes nothing.
use Rattle.updates.proofs.Turns.{Going}
use Rattle.updates.proofs.apply_model_updates.Given as goal

abbrev pub invariant-loop-i : goal.invariant-loop-i
invariant-loop-i l = Going l.initial.m l.updates l.n l.initial.out l.m l.out l.o l.i
