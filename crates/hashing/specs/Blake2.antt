-- BLAKE2b-512 of a whole message without a key, as RFC 7693 (The BLAKE2 Cryptographic Hash and MAC) defines it.
-- Assumes nothing. The sections named are those of RFC 7693.
use Rattle.std.specs.Prelude.{ℕ, zero, suc, ◌+◌, ◌-◌, ◌*◌, ◌/◌, ◌%◌, true, false, if◌then◌else◌, List, ◌++◌, length, take, drop, replicate, ◌==◌}
use Rattle.std.specs.List.{flat_map}
use Rattle.compression.specs.Words.{to_le}
use Rattle.compression.specs.Blake2b.{h0, compressed}

-- 3.3: the zero bytes up to a whole number of blocks of 128 bytes; the empty message is one block of zeros
abbrev pub zeros : ℕ → ℕ
zeros n = if n == 0 then 128 else ((128 - n % 128) % 128)

unfoldable pub padded : List ℕ → List ℕ
padded m = m ++ replicate (zeros (length m)) 0

-- the block i
abbrev pub block : List ℕ → ℕ → List ℕ
block p i = take 128 (drop (128 * i) p)

-- the state after the first n blocks, where more follow
unfoldable pub state_after : ℕ → List ℕ → List ℕ
state_after zero p = flat_map (to_le 8) h0
state_after (suc n) p = compressed (state_after n p) (block p n) (128 * (n + 1)) false

-- the state after the block `last`, the last one, of a message of n bytes
unfoldable pub final_state : (last n : ℕ) → List ℕ → List ℕ
final_state last n p = compressed (state_after last p) (block p last) n true

-- the digest
abbrev pub blake2b : List ℕ → List ℕ
blake2b m = final_state (length (padded m) / 128 - 1) (length m) (padded m)
