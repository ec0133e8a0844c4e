use Rattle.std.proofs.Common.{arith}
use Rattle.compression.specs.Blake2b.{work}
use Rattle.compression.proofs.WordBytes.{eight}
use Rattle.compression.proofs.blake2b.work_vector.Goals as goal

pub returns : goal.returns
unfolding work
returns c = eight c.args.h.now _ (omega arith)
