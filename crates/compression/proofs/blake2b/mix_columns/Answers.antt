use Rattle.compression.specs.Blake2b.{columns}
use Rattle.compression.proofs.blake2b.mix_columns.Goals as goal

pub returns : goal.returns
unfolding columns
returns c = cc
