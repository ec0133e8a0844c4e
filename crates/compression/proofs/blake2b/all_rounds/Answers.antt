use Rattle.compression.specs.Blake2b.{rounds}
use Rattle.compression.proofs.blake2b.all_rounds.Goals as goal

pub returns : goal.returns
unfolding rounds
returns c = cc
