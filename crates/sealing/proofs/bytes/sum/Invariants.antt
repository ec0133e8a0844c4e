use Rattle.std.proofs.Common.{◌≡◌}
use Rattle.sealing.proofs.Sums.{partly_sum}
use Rattle.sealing.proofs.bytes.sum.Given as goal

abbrev pub invariant-loop-i : goal.invariant-loop-i
invariant-loop-i l = l.place ≡ partly_sum l.initial.place l.x l.y l.i
