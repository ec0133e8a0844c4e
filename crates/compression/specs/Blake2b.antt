-- Function F of BLAKE2b, as RFC 7693 (The BLAKE2 Cryptographic Hash and MAC) defines it. Assumes nothing.
-- The sections named are those of RFC 7693.
use Rattle.std.specs.Prelude.{ℕ, zero, suc, ◌+◌, ◌-◌, ◌/◌, ◌%◌, ◌^◌, Bool, cond, List, [], ◌∷◌, ◌++◌, map, get_or, bit_xor, slice_index, slice_index_or, slice_set}
use Rattle.std.specs.List.{range_with_len, flat_map}
use Rattle.compression.specs.Words.{from_le, to_le, words, plus, rotate}

infixl 20 ◌⊞◌
-- 2.3: the sum of words of 64 bits
abbrev pub ◌⊞◌ : ℕ → ℕ → ℕ
x ⊞ y = plus 64 x y

-- 2.6: the initial value
abbrev pub IV : List ℕ
IV =
    0x6a09e667f3bcc908 ∷ 0xbb67ae8584caa73b ∷ 0x3c6ef372fe94f82b ∷ 0xa54ff53a5f1d36f1
    ∷ 0x510e527fade682d1 ∷ 0x9b05688c2b3e6c1f ∷ 0x1f83d9abfb41bd6b ∷ 0x5be0cd19137e2179
    ∷ []

-- 2.7: the message word schedule; the rounds 10 and 11 take the rows 0 and 1 again
unfoldable pub SIGMA : List (List ℕ)
SIGMA =
    (0 ∷ 1 ∷ 2 ∷ 3 ∷ 4 ∷ 5 ∷ 6 ∷ 7 ∷ 8 ∷ 9 ∷ 10 ∷ 11 ∷ 12 ∷ 13 ∷ 14 ∷ 15 ∷ [])
    ∷ (14 ∷ 10 ∷ 4 ∷ 8 ∷ 9 ∷ 15 ∷ 13 ∷ 6 ∷ 1 ∷ 12 ∷ 0 ∷ 2 ∷ 11 ∷ 7 ∷ 5 ∷ 3 ∷ [])
    ∷ (11 ∷ 8 ∷ 12 ∷ 0 ∷ 5 ∷ 2 ∷ 15 ∷ 13 ∷ 10 ∷ 14 ∷ 3 ∷ 6 ∷ 7 ∷ 1 ∷ 9 ∷ 4 ∷ [])
    ∷ (7 ∷ 9 ∷ 3 ∷ 1 ∷ 13 ∷ 12 ∷ 11 ∷ 14 ∷ 2 ∷ 6 ∷ 5 ∷ 10 ∷ 4 ∷ 0 ∷ 15 ∷ 8 ∷ [])
    ∷ (9 ∷ 0 ∷ 5 ∷ 7 ∷ 2 ∷ 4 ∷ 10 ∷ 15 ∷ 14 ∷ 1 ∷ 11 ∷ 12 ∷ 6 ∷ 8 ∷ 3 ∷ 13 ∷ [])
    ∷ (2 ∷ 12 ∷ 6 ∷ 10 ∷ 0 ∷ 11 ∷ 8 ∷ 3 ∷ 4 ∷ 13 ∷ 7 ∷ 5 ∷ 15 ∷ 14 ∷ 1 ∷ 9 ∷ [])
    ∷ (12 ∷ 5 ∷ 1 ∷ 15 ∷ 14 ∷ 13 ∷ 4 ∷ 10 ∷ 0 ∷ 7 ∷ 6 ∷ 3 ∷ 9 ∷ 2 ∷ 8 ∷ 11 ∷ [])
    ∷ (13 ∷ 11 ∷ 7 ∷ 14 ∷ 12 ∷ 1 ∷ 3 ∷ 9 ∷ 5 ∷ 0 ∷ 15 ∷ 4 ∷ 8 ∷ 6 ∷ 2 ∷ 10 ∷ [])
    ∷ (6 ∷ 15 ∷ 14 ∷ 9 ∷ 11 ∷ 3 ∷ 0 ∷ 8 ∷ 12 ∷ 2 ∷ 13 ∷ 7 ∷ 1 ∷ 4 ∷ 10 ∷ 5 ∷ [])
    ∷ (10 ∷ 2 ∷ 8 ∷ 4 ∷ 7 ∷ 6 ∷ 1 ∷ 5 ∷ 15 ∷ 11 ∷ 9 ∷ 14 ∷ 3 ∷ 12 ∷ 13 ∷ 0 ∷ [])
    ∷ []

-- 3.1: the mixing function G, of two halves that differ in the message word x and in the rotations p and q:
--   v[a] := v[a] + v[b] + x; v[d] := (v[d] ^ v[a]) >>> p; v[c] := v[c] + v[d]; v[b] := (v[b] ^ v[c]) >>> q
abbrev pub add_word : List ℕ → (a b x : ℕ) → List ℕ
add_word v a b x = slice_set v a ((get_or v a 0 ⊞ get_or v b 0) ⊞ x)

abbrev pub add : List ℕ → (c d : ℕ) → List ℕ
add v c d = slice_set v c (get_or v c 0 ⊞ get_or v d 0)

abbrev pub turn : ℕ → List ℕ → (d a : ℕ) → List ℕ
turn n v d a = slice_set v d (rotate 64 n (bit_xor (slice_index v d) (slice_index v a)))

unfoldable pub half : (p q : ℕ) → List ℕ → (a b c d x : ℕ) → List ℕ
half p q v a b c d x = turn q (add (turn p (add_word v a b x) d a) c d) b c

unfoldable pub G : List ℕ → (a b c d x y : ℕ) → List ℕ
G v a b c d x y = half 16 63 (half 32 24 v a b c d x) a b c d y

-- 3.2: the compression function F

-- the message word that SIGMA gives the round i at j
unfoldable pub picked : List ℕ → (i j : ℕ) → ℕ
picked m i j = slice_index m (slice_index (slice_index_or SIGMA (i % 10) []) j)

-- the round i: G on the columns, then on the diagonals
unfoldable pub columns : (m v : List ℕ) (i : ℕ) → List ℕ
columns m v i =
    G (G (G (G v 0 4 8 12 (picked m i 0) (picked m i 1))
    1 5 9 13 (picked m i 2) (picked m i 3))
    2 6 10 14 (picked m i 4) (picked m i 5))
    3 7 11 15 (picked m i 6) (picked m i 7)

unfoldable pub diagonals : (m v : List ℕ) (i : ℕ) → List ℕ
diagonals m v i =
    G (G (G (G v 0 5 10 15 (picked m i 8) (picked m i 9))
    1 6 11 12 (picked m i 10) (picked m i 11))
    2 7 8 13 (picked m i 12) (picked m i 13))
    3 4 9 14 (picked m i 14) (picked m i 15)

-- the rounds 0 to n - 1
unfoldable pub rounds : ℕ → (m v : List ℕ) → List ℕ
rounds zero m v = v
rounds (suc n) m v = diagonals m (columns m (rounds n m v) n) n

-- the work vector at the start: h and the initial value, three words of which are xored with the low and the high
-- word of the offset counter and with the flag
unfoldable pub work : List ℕ → (low high flag : ℕ) → List ℕ
work h low high flag =
    h ++ (slice_index IV 0 ∷ slice_index IV 1 ∷ slice_index IV 2 ∷ slice_index IV 3
    ∷ bit_xor (slice_index IV 4) low ∷ bit_xor (slice_index IV 5) high ∷ bit_xor (slice_index IV 6) flag ∷ slice_index IV 7 ∷ [])

-- for the offset counter t, and with all bits of the flag set where f says that this is the last block
unfoldable pub start : List ℕ → ℕ → Bool → List ℕ
start h t f = work h (t % 2 ^ 64) (t / 2 ^ 64) (cond f (2 ^ 64 - 1) 0)

-- h xored with the two halves of the work vector
unfoldable pub folded : (h v : List ℕ) → List ℕ
folded h v = map (λ i. bit_xor (bit_xor (slice_index h i) (slice_index v i)) (slice_index v (i + 8))) (range_with_len 0 8)

-- the state h of eight words after the block of sixteen words m
unfoldable pub F : (h m : List ℕ) → ℕ → Bool → List ℕ
F h m t f = folded h (rounds 12 m (start h t f))

-- the same in bytes: 64 of a state and 128 of a block, words little-endian
unfoldable pub compressed : (chaining block : List ℕ) → ℕ → Bool → List ℕ
compressed chaining block t f = flat_map (to_le 8) (F (words from_le 8 8 chaining) (words from_le 8 16 block) t f)

-- 2.5 and 3.3: the state before the first block, for a digest of 64 bytes and without a key
abbrev pub h0 : List ℕ
h0 = slice_set IV 0 (bit_xor (slice_index IV 0) 0x01010040)
