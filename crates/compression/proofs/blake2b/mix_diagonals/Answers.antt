use Rattle.compression.specs.Blake2b.{diagonals}
use Rattle.compression.proofs.blake2b.mix_diagonals.Goals as goal

pub returns : goal.returns
unfolding diagonals
returns c = cc
