use Rattle.std.proofs.Common.{◌≡◌}
use Rattle.sealing.proofs.Sums.{partly_sum}
use Rattle.sealing.proofs.bytes.add.Given as goal

abbrev pub invariant-loop-i : goal.invariant-loop-i
invariant-loop-i l = l.to ≡ partly_sum l.initial.to l.initial.to l.x l.i
