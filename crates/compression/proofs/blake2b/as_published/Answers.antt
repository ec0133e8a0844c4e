use Rattle.std.proofs.Common.{refl}
use Rattle.compression.specs.Words.{words}
use Rattle.compression.specs.Blake2b.{SIGMA, half, G, picked, columns, diagonals, rounds, work, start, folded, F, compressed}
use Rattle.compression.proofs.Constants.{IV_roots}
use Rattle.compression.proofs.blake2b.as_published.Goals as goal

pub returns : goal.returns
unfolding words SIGMA half G picked columns diagonals rounds work start folded F compressed
returns c = record { roots = IV_roots; example = refl }
