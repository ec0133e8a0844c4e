-- The length of the padded message of BLAKE2b. Assumes nothing.
use Rattle.std.proofs.Common.{◌≡◌, ℕ, ◌+◌, ◌-◌, ◌*◌, ◌/◌, List, length, arith, length-append}
use lib.ListN.{length-replicate}
use Rattle.std.proofs.lemmas.Bool.Decides.{nat_tests}
use Rattle.hashing.specs.Blake2.{zeros, padded}

-- a whole number of blocks, at least one
whole : (n : ℕ) → n + zeros n ≡ 128 * ((n - 1) / 128 + 1)
whole n = grind (arith, nat_tests)

pub padded_length : (m : List ℕ) → length (padded m) ≡ 128 * ((length m - 1) / 128 + 1)
unfolding padded
padded_length m = simp (length-append, length-replicate) (whole (length m))
