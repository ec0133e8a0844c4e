use Rattle.std.proofs.Common.{refl}
use Rattle.compression.specs.Words.{words}
use Rattle.compression.specs.Sha256.{next, schedule, T1, T2, round, rounds, next_hash, hashed}
use Rattle.compression.proofs.Constants.{K_roots, H0_roots, first_64_primes}
use Rattle.compression.proofs.sha256.as_published.Goals as goal

pub returns : goal.returns
unfolding words next schedule T1 T2 round rounds next_hash hashed
returns c = record { roots = K_roots; start = H0_roots; primes = first_64_primes; example = refl }
