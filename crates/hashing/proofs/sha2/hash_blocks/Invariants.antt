use Rattle.std.proofs.Common.{◌≡◌}
use Rattle.hashing.specs.Sha2.{padded, hash_after}
use Rattle.hashing.proofs.sha2.hash_blocks.Given as goal

abbrev pub invariant-loop-i : goal.invariant-loop-i
invariant-loop-i l = l.h ≡ hash_after l.i (padded l.message)
