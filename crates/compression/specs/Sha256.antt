-- The compression function of SHA-256, as FIPS 180-4 (Secure Hash Standard) defines it. Assumes nothing.
-- The sections named are those of FIPS 180-4.
use Rattle.std.specs.Prelude.{ℕ, zero, suc, ◌+◌, ◌-◌, ◌/◌, ◌^◌, List, [], ◌∷◌, ◌++◌, bit_and, bit_xor, slice_index, slice_index_or}
use Rattle.std.specs.List.{flat_map}
use Rattle.compression.specs.declared.sha256.Variables.{Variables}
use Rattle.compression.specs.Words.{from_be, to_be, words, plus, rotate}

infixl 20 ◌⊞◌
-- 2.2.2 and 3.2: operations on words of 32 bits, of which ⊞ is the addition
abbrev pub ◌⊞◌ : ℕ → ℕ → ℕ
x ⊞ y = plus 32 x y

abbrev pub ROTR : ℕ → ℕ → ℕ
ROTR n x = rotate 32 n x

abbrev pub SHR : ℕ → ℕ → ℕ
SHR n x = x / 2 ^ n

abbrev pub complement : ℕ → ℕ
complement x = 2 ^ 32 - 1 - x

-- 4.1.2: functions
abbrev pub Ch : ℕ → ℕ → ℕ → ℕ
Ch x y z = bit_xor (bit_and x y) (bit_and (complement x) z)

abbrev pub Maj : ℕ → ℕ → ℕ → ℕ
Maj x y z = bit_xor (bit_xor (bit_and x y) (bit_and x z)) (bit_and y z)

abbrev pub Σ0 : ℕ → ℕ
Σ0 x = bit_xor (bit_xor (ROTR 2 x) (ROTR 13 x)) (ROTR 22 x)

abbrev pub Σ1 : ℕ → ℕ
Σ1 x = bit_xor (bit_xor (ROTR 6 x) (ROTR 11 x)) (ROTR 25 x)

abbrev pub σ0 : ℕ → ℕ
σ0 x = bit_xor (bit_xor (ROTR 7 x) (ROTR 18 x)) (SHR 3 x)

abbrev pub σ1 : ℕ → ℕ
σ1 x = bit_xor (bit_xor (ROTR 17 x) (ROTR 19 x)) (SHR 10 x)

-- 4.2.2: constants
abbrev pub K : List ℕ
K =
    0x428a2f98 ∷ 0x71374491 ∷ 0xb5c0fbcf ∷ 0xe9b5dba5 ∷ 0x3956c25b ∷ 0x59f111f1 ∷ 0x923f82a4 ∷ 0xab1c5ed5
    ∷ 0xd807aa98 ∷ 0x12835b01 ∷ 0x243185be ∷ 0x550c7dc3 ∷ 0x72be5d74 ∷ 0x80deb1fe ∷ 0x9bdc06a7 ∷ 0xc19bf174
    ∷ 0xe49b69c1 ∷ 0xefbe4786 ∷ 0x0fc19dc6 ∷ 0x240ca1cc ∷ 0x2de92c6f ∷ 0x4a7484aa ∷ 0x5cb0a9dc ∷ 0x76f988da
    ∷ 0x983e5152 ∷ 0xa831c66d ∷ 0xb00327c8 ∷ 0xbf597fc7 ∷ 0xc6e00bf3 ∷ 0xd5a79147 ∷ 0x06ca6351 ∷ 0x14292967
    ∷ 0x27b70a85 ∷ 0x2e1b2138 ∷ 0x4d2c6dfc ∷ 0x53380d13 ∷ 0x650a7354 ∷ 0x766a0abb ∷ 0x81c2c92e ∷ 0x92722c85
    ∷ 0xa2bfe8a1 ∷ 0xa81a664b ∷ 0xc24b8b70 ∷ 0xc76c51a3 ∷ 0xd192e819 ∷ 0xd6990624 ∷ 0xf40e3585 ∷ 0x106aa070
    ∷ 0x19a4c116 ∷ 0x1e376c08 ∷ 0x2748774c ∷ 0x34b0bcb5 ∷ 0x391c0cb3 ∷ 0x4ed8aa4a ∷ 0x5b9cca4f ∷ 0x682e6ff3
    ∷ 0x748f82ee ∷ 0x78a5636f ∷ 0x84c87814 ∷ 0x8cc70208 ∷ 0x90befffa ∷ 0xa4506ceb ∷ 0xbef9a3f7 ∷ 0xc67178f2
    ∷ []

-- 5.3.3: the hash value before the first block of a message
abbrev pub H0 : List ℕ
H0 = 0x6a09e667 ∷ 0xbb67ae85 ∷ 0x3c6ef372 ∷ 0xa54ff53a ∷ 0x510e527f ∷ 0x9b05688c ∷ 0x1f83d9ab ∷ 0x5be0cd19 ∷ []

-- 6.2.2, step 1: the message schedule. `next t W` is the word Wₜ after the words W of which there are t.
unfoldable pub next : ℕ → List ℕ → ℕ
next t W = ((σ1 (slice_index W (t - 2)) ⊞ slice_index_or W (t - 7) 0) ⊞ σ0 (slice_index W (t - 15))) ⊞ slice_index_or W (t - 16) 0

-- the 16 words of the block and the n words that follow
unfoldable pub schedule : ℕ → List ℕ → List ℕ
schedule zero M = M
schedule (suc n) M = schedule n M ++ (next (n + 16) (schedule n M) ∷ [])

-- step 2: the working variables a to h, which are the fields of `Variables`, from the hash value before
abbrev pub variables : List ℕ → Variables
variables H =
    record { a = slice_index H 0; b = slice_index H 1; c = slice_index H 2; d = slice_index H 3; e = slice_index H 4; f = slice_index H 5; g = slice_index H 6; h = slice_index H 7 }

-- step 3: the rounds
unfoldable pub T1 : Variables → ℕ → ℕ → ℕ
T1 v k w = (((v.h ⊞ Σ1 v.e) ⊞ Ch v.e v.f v.g) ⊞ k) ⊞ w

unfoldable pub T2 : Variables → ℕ
T2 v = Σ0 v.a ⊞ Maj v.a v.b v.c

unfoldable pub round : Variables → ℕ → ℕ → Variables
round v k w =
    record { a = T1 v k w ⊞ T2 v; b = v.a; c = v.b; d = v.c; e = v.d ⊞ T1 v k w; f = v.e; g = v.f; h = v.g }

-- the rounds 0 to n - 1
unfoldable pub rounds : ℕ → List ℕ → Variables → Variables
rounds zero W v = v
rounds (suc n) W v = round (rounds n W v) (slice_index K n) (slice_index W n)

-- step 4: the hash value after, from the variables v at the start and u after the rounds
abbrev pub sums : Variables → Variables → List ℕ
sums v u =
    (v.a ⊞ u.a) ∷ (v.b ⊞ u.b) ∷ (v.c ⊞ u.c) ∷ (v.d ⊞ u.d) ∷ (v.e ⊞ u.e) ∷ (v.f ⊞ u.f) ∷ (v.g ⊞ u.g) ∷ (v.h ⊞ u.h) ∷ []

-- the hash value of eight words after the block of sixteen words M, from H before it
unfoldable pub next_hash : (H M : List ℕ) → List ℕ
next_hash H M = sums (variables H) (rounds 64 (schedule 48 M) (variables H))

-- the same in bytes: 32 of a hash value and 64 of a block, words big-endian
unfoldable pub hashed : (chaining block : List ℕ) → List ℕ
hashed chaining block = flat_map (to_be 4) (next_hash (words from_be 4 8 chaining) (words from_be 4 16 block))
