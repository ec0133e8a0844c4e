use Rattle.std.proofs.Common.{false, ap, ◌∙◌}
use Rattle.compression.specs.Keyed.{keyed_block, blake2b}
use Rattle.compression.specs.Blake2b.{compressed}
use Rattle.compression.proofs.blake2b.f_keyed.Goals as goal

pub returns : goal.returns
unfolding blake2b
returns c =
    c.f_bytes.ensures
    ∙ ap (λ x. compressed c.args.chaining.now x 128 false) (c.keyed.ensures ∙ ap (λ n. keyed_block n c.args.key.now c.args.message.now) c.requires.1.1.0)
