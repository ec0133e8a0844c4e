use Rattle.compression.specs.Blake2b.{half}
use Rattle.compression.proofs.blake2b.mix_half.Goals as goal

pub returns : goal.returns
unfolding half
returns g c = cc
