use mathlib.Core.List.{zip_with}
use Rattle.std.proofs.Common.{◌<◌, length, refl, add-one, arith}
use Rattle.sealing.proofs.Sums.{sum_more}
use Rattle.sealing.proofs.bytes.sum.Goals as goal

pub loop-i-init : goal.loop-i-init
unfolding zip_with
loop-i-init c = refl

pub loop-i-preserved : goal.loop-i-preserved
loop-i-preserved c =
    let h : c.loop-i.i < length c.args.place.now = omega arith in
    simp (c.loop-i.invariant, add-one) (sum_more _ _ _ _ h c.requires.0 c.requires.1)
