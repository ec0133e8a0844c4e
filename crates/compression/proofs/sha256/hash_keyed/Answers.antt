use Rattle.std.proofs.Common.{ap, ◌∙◌}
use Rattle.compression.specs.Keyed.{keyed_block, sha256}
use Rattle.compression.specs.Sha256.{hashed}
use Rattle.compression.proofs.sha256.hash_keyed.Goals as goal

pub returns : goal.returns
unfolding sha256
returns c =
    c.hash_block.ensures
    ∙ ap (hashed c.args.chaining.now) (c.keyed.ensures ∙ ap (λ n. keyed_block n c.args.key.now c.args.message.now) c.requires.1.1.0)
