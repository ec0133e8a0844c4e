use mathlib.Core.List.{zip_with}
use Rattle.std.proofs.Common.{ℕ, ◌<◌, List, length, get_or, set, refl, add-one, ap, ap₂, ◌∙◌, arith}
use lib.Bits.{bit_xor}
use Rattle.sealing.proofs.Sums.{sum_more, next_byte}
use Rattle.sealing.proofs.bytes.add.Goals as goal

pub loop-i-init : goal.loop-i-init
unfolding zip_with
loop-i-init c = refl

pub loop-i-preserved : goal.loop-i-preserved
loop-i-preserved c =
    let xs : List ℕ = c.args.to.now in
    let ys : List ℕ = c.args.x.now in
    let i : ℕ = c.loop-i.i in
    let inv = c.loop-i.invariant in
    let h : i < length xs = omega arith in
    rw add-one (ap₂ (λ zs x. set zs i (bit_xor x (get_or ys i 0))) inv (ap (λ zs. get_or zs i 0) inv ∙ next_byte xs ys i h c.requires)
    ∙ sum_more xs xs ys i h refl c.requires)
