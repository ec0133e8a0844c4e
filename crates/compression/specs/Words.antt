-- Words: how they lie in bytes, and the operations on words of w bits. Assumes nothing.
use Rattle.std.specs.Prelude.{ℕ, zero, suc, ◌+◌, ◌-◌, ◌*◌, ◌/◌, ◌%◌, ◌^◌, List, [], ◌∷◌, map, reverse, take, drop, bit_or}
use Rattle.std.specs.List.{range_with_len}
use Rattle.std.specs.Int.Digits.{number_from_digits}

-- The number that bytes stand for, the highest byte first (big-endian).
abbrev pub from_be : List ℕ → ℕ
from_be bs = number_from_digits 256 bs

-- The same, the lowest byte first (little-endian).
abbrev pub from_le : List ℕ → ℕ
from_le bs = from_be (reverse bs)

-- The n bytes of a number, the highest first.
abbrev pub to_be : ℕ → ℕ → List ℕ
to_be zero x = []
to_be (suc n) x = x / 256 ^ n % 256 ∷ to_be n x

-- The same, the lowest first.
abbrev pub to_le : ℕ → ℕ → List ℕ
to_le n x = reverse (to_be n x)

-- The i-th word of n bytes in a string of bytes, in the byte order `from`.
abbrev pub word : {W : Type 0} (from : List ℕ → W) (n : ℕ) → List ℕ → ℕ → W
word from n bs i = from (take n (drop (n * i) bs))

-- The first k such words.
unfoldable pub words : {W : Type 0} (from : List ℕ → W) (n k : ℕ) → List ℕ → List W
words from n k bs = map (word from n bs) (range_with_len 0 k)

-- x + y modulo 2 ^ w.
abbrev pub plus : (w : ℕ) → ℕ → ℕ → ℕ
plus w x y = (x + y) % 2 ^ w

-- x rotated to the right by n of its w bits, 0 < n < w.
abbrev pub rotate : (w n : ℕ) → ℕ → ℕ
rotate w n x = bit_or (x / 2 ^ n) (x * 2 ^ (w - n) % 2 ^ w)
