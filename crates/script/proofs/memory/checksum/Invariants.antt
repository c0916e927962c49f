-- The sum stays below the modulus.
use Rattle.std.proofs.Common.{◌<◌}
use Rattle.script.proofs.memory.checksum.Given as goal

abbrev pub invariant-loop-octet : goal.invariant-loop-octet
invariant-loop-octet l = l.sum < 4294967291
