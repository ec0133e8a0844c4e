-- What the compressions of kinds 1 and 2 mean. Assumes nothing.
use Rattle.std.specs.Prelude.{ℕ, ◌-◌, false, List, ◌++◌, length, replicate}
use Rattle.compression.specs.Sha256.{hashed}
use Rattle.compression.specs.Blake2b.{compressed}

-- The key, zero bytes up to b, and the message block.
unfoldable pub keyed_block : (b : ℕ) → (key message : List ℕ) → List ℕ
keyed_block b key message = key ++ (replicate (b - length key) 0 ++ message)

-- Kind 1: the compression function of SHA-256.
unfoldable pub sha256 : (key chaining message : List ℕ) → List ℕ
sha256 key chaining message = hashed chaining (keyed_block 32 key message)

-- Kind 2: function F of BLAKE2b at the offset counter 128, which is no last block.
unfoldable pub blake2b : (key chaining message : List ℕ) → List ℕ
blake2b key chaining message = compressed chaining (keyed_block 64 key message) 128 false
