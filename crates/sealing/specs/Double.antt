-- Doubling of strings of 32 and of 64 bytes, which is multiplication by x in the fields of 2^256 and of 2^512 elements. The
-- first bit of a string is the highest bit of its first byte, so a string stands for a number in big-endian. Assumes nothing.
use Rattle.std.specs.Prelude.{ℕ, ◌*◌, ◌%◌, ◌^◌, cond, List, length, ◌==◌, bit_xor, nat_lt}
use Rattle.compression.specs.Words.{from_be, to_be}
use Rattle.sealing.specs.Strings.{◌⊕◌}

-- What a bit that falls out comes back as: the polynomial of the field, x^256 + x^10 + x^5 + x^2 + 1 for 32 bytes and
-- x^512 + x^8 + x^5 + x^2 + 1 for 64, without its highest term.
abbrev pub reduction : ℕ → ℕ
reduction n = cond (n == 32) 0x425 0x125

-- Twice a number of n bytes; where it does not fit into n bytes, its rest with the reduction added.
unfoldable pub doubled : (n v : ℕ) → ℕ
doubled n v = bit_xor (2 * v % 256 ^ n) (cond (nat_lt (2 * v) (256 ^ n)) 0 (reduction n))

-- Two times a string.
unfoldable pub double : List ℕ → List ℕ
double xs = to_be (length xs) (doubled (length xs) (from_be xs))

-- Three times a string.
abbrev pub triple : List ℕ → List ℕ
triple xs = double xs ⊕ xs
