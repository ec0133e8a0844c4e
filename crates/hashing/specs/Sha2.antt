-- SHA-256 of a whole message, as FIPS 180-4 (Secure Hash Standard) defines it. Assumes nothing.
-- The sections named are those of FIPS 180-4.
use Rattle.std.specs.Prelude.{ℕ, zero, suc, ◌-◌, ◌*◌, ◌/◌, ◌%◌, ◌^◌, List, ◌∷◌, ◌++◌, length, take, drop, replicate}
use Rattle.std.specs.List.{flat_map}
use Rattle.compression.specs.Words.{to_be}
use Rattle.compression.specs.Sha256.{H0, hashed}

-- 5.1.1: the zero bytes of the padding, which bring n + 1 bytes to 56 modulo 64
abbrev pub zeros : ℕ → ℕ
zeros n = (119 - n % 64) % 64

-- a bit 1, zeros, and the length in bits as a number of 64 bits
unfoldable pub padded : List ℕ → List ℕ
padded m = m ++ ((0x80 ∷ replicate (zeros (length m)) 0) ++ to_be 8 (length m * 8 % 2 ^ 64))

-- 5.2.1: the block i, of 64 bytes
abbrev pub block : List ℕ → ℕ → List ℕ
block p i = take 64 (drop (64 * i) p)

-- 6.2.2: the hash value after the first n blocks
unfoldable pub hash_after : ℕ → List ℕ → List ℕ
hash_after zero p = flat_map (to_be 4) H0
hash_after (suc n) p = hashed (hash_after n p) (block p n)

-- the digest
abbrev pub sha256 : List ℕ → List ℕ
sha256 m = hash_after (length (padded m) / 64) (padded m)
