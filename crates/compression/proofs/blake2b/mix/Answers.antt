use Rattle.compression.specs.Blake2b.{G}
use Rattle.compression.proofs.blake2b.mix.Goals as goal

pub returns : goal.returns
unfolding G
returns c = cc
