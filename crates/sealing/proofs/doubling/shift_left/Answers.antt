use Rattle.std.proofs.Common.{◌≡◌, ℕ, suc, ◌-◌, ◌<◌, length, add-one, arith}
use Rattle.sealing.proofs.Doubled.{shift_more, shift_all}
use Rattle.sealing.proofs.doubling.shift_left.Goals as goal

pub loop-i-preserved : goal.loop-i-preserved
loop-i-preserved c =
    let h : c.loop-i.i < length c.args.s.now = omega arith in
    simp (c.shifted.ensures, c.loop-i.invariant, add-one) (shift_more _ _ h)

pub returns : goal.returns
returns c =
    let n : ℕ = length c.args.s.now in
    let h : n ≡ suc (n - 1) = omega arith in
    let e : c.loop-i.i ≡ n - 1 = omega arith in
    simp (c.shifted-2.ensures, c.loop-i.invariant, e) (shift_all _ _ h)
