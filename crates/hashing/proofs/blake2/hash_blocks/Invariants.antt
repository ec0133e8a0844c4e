use Rattle.std.proofs.Common.{◌≡◌}
use Rattle.hashing.specs.Blake2.{padded, state_after}
use Rattle.hashing.proofs.blake2.hash_blocks.Given as goal

abbrev pub invariant-loop-i : goal.invariant-loop-i
invariant-loop-i l = l.h ≡ state_after l.i (padded l.message)
