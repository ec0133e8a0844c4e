use Rattle.std.proofs.Common.{◌+◌, get_or, bit_xor, rules}
use Rattle.compression.specs.Blake2b.{folded}
use Rattle.compression.proofs.FromCalls.{from_calls}
use Rattle.compression.proofs.blake2b.fold.Goals as goal

pub returns : goal.returns
unfolding folded
returns c =
    let h = c.args.h.now in
    let v = c.args.v.now in
    from_calls _ _ (λ i. bit_xor (bit_xor (get_or h i 0) (get_or v i 0)) (get_or v (i + 8) 0)) (λ i y q k. search rules) 8 c.from_fn.result c.from_fn.ensures.items
