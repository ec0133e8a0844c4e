use Rattle.std.proofs.Common.{replicate, ap, ◌∙◌, ap₂, arith}
use Rattle.refusal.specs.Verdict.{left}
use Rattle.compression.specs.Keyed.{sha256, keyed_block}
use Rattle.compression.specs.Sha256.{hashed}
use Rattle.hashing.proofs.Blocks.{split_block}
use Rattle.hashing.proofs.sha2.absorb.Goals as goal

pub returns : goal.returns
unfolding sha256
returns c =
    let h = c.args.h.now in
    c.compress.ensures.after
    ∙ ap (λ r. left r (replicate 32 0) (hashed h (keyed_block 32 c.split_at.result.0.now c.split_at.result.1.now))) c.unwrap.ensures
    ∙ ap (hashed h) (ap₂ (keyed_block 32) c.split_at.ensures.front c.split_at.ensures.back ∙ split_block 32 c.args.block.now (omega arith))
