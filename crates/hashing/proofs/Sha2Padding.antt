-- The padded message of SHA-256: its length, and its last eight bytes. Assumes nothing.
use Rattle.std.proofs.Common.{◌≡◌, ℕ, ◌+◌, ◌-◌, ◌*◌, ◌%◌, ◌^◌, ◌<◌, List, length, get_or, arith, length-append}
use lib.ListN.{length-replicate}
use Rattle.std.proofs.lemmas.Grind.{common_steps}
use Rattle.compression.specs.Words.{to_be}
use Rattle.hashing.specs.Sha2.{zeros, padded}

module _ (m : List ℕ) where
  pub padded_length : length (padded m) ≡ length m + (zeros (length m) + 9)
  unfolding padded
  padded_length = simp (length-append, length-replicate) (omega arith)

  pub in_length : (k : ℕ) → length m < k → zeros (length m) < k - length m → get_or (to_be 8 (length m * 8 % 2 ^ 64)) (k - length m - zeros (length m) - 1) 0 ≡ get_or (padded m) k 0
  unfolding padded
  in_length k low high = grind (arith, common_steps)
