use Rattle.std.proofs.Common.{◌≡◌, ℕ, ◌-◌, ◌^◌, ◌<◌, ◌≤◌, subst, arith}
use lib.Count.{count_leading_zeros, leading_length}
use Rattle.sealing.proofs.BlockNumbers.{bits_at_most}
use Rattle.sealing.proofs.masks.rows_needed.Goals as goal

pub returns : goal.returns
returns c =
    let most : ℕ = c.args.most in
    let low = c.requires in
    let word : most < 2 ^ 64 = omega arith in
    let bits = leading_length 64 most word in
    let count : bits.0 ≡ 64 - count_leading_zeros 64 most = omega (arith, bits.1) in
    record {
      enough = subst (λ n. most < 2 ^ n) count bits.2;
      few = subst (λ n. n ≤ 12) count (bits_at_most 12 bits.0 (omega (arith, bits.3)));
    }
