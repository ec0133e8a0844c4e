-- Strings of bytes, as OMD takes them apart and adds them. Assumes nothing.
use Rattle.std.specs.Prelude.{ℕ, zero, suc, ◌+◌, ◌-◌, ◌*◌, ◌/◌, List, [], ◌∷◌, ◌++◌, map, length, take, drop, replicate, bit_xor}
use mathlib.Core.List.{zip_with}
use Rattle.std.specs.List.{range_with_len}

infixl 20 ◌⊕◌
-- The exclusive or of two strings, as far as the shorter one goes.
abbrev pub ◌⊕◌ : List ℕ → List ℕ → List ℕ
xs ⊕ ys = zip_with bit_xor xs ys

-- n zero bytes.
abbrev pub zeros : ℕ → List ℕ
zeros n = replicate n 0

-- A string, the byte 0x80, and zero bytes up to n.
unfoldable pub padded : ℕ → List ℕ → List ℕ
padded n xs = xs ++ (0x80 ∷ zeros (n - length xs - 1))

-- A string is split into blocks of n bytes. Only the last may be shorter, and the empty string is one empty block. The
-- first block is the block 0, and this is the last.
abbrev pub last_block : ℕ → List ℕ → ℕ
last_block n xs = (length xs - 1) / n

-- How many blocks there are.
abbrev pub block_count : ℕ → List ℕ → ℕ
block_count n xs = last_block n xs + 1

-- The block i of a string.
abbrev pub block : ℕ → List ℕ → ℕ → List ℕ
block n xs i = take n (drop (i * n) xs)

-- All its blocks.
abbrev pub blocks : ℕ → List ℕ → List (List ℕ)
blocks n xs = map (block n xs) (range_with_len 0 (block_count n xs))

-- f 0, f 1 and so on to f (n - 1), one behind the other.
unfoldable pub chained : (ℕ → List ℕ) → ℕ → List ℕ
chained f zero = []
chained f (suc n) = chained f n ++ f n

-- The same strings of b bytes, added up.
unfoldable pub summed : ℕ → (ℕ → List ℕ) → ℕ → List ℕ
summed b f zero = zeros b
summed b f (suc n) = summed b f n ⊕ f n
