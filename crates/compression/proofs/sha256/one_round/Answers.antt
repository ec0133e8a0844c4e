use Rattle.compression.specs.Sha256.{round, T1, T2}
use Rattle.compression.proofs.sha256.one_round.Goals as goal

pub returns : goal.returns
unfolding round T1 T2
returns c = cc
