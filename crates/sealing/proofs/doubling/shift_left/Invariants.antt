use Rattle.std.proofs.Common.{◌≡◌}
use Rattle.sealing.proofs.Doubled.{partly}
use Rattle.sealing.proofs.doubling.shift_left.Given as goal

abbrev pub invariant-loop-i : goal.invariant-loop-i
invariant-loop-i l = l.s ≡ partly l.initial.s l.i
