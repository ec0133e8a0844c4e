-- Where the constants of SHA-256 and BLAKE2b come from: roots of the first primes. Assumes nothing.
use Rattle.std.specs.Prelude.{◌≡◌, ℕ, ◌+◌, ◌*◌, ◌%◌, ◌^◌, ◌<◌, ◌≤◌, List, [], ◌∷◌, length, ◌≢◌, slice_index}
use Rattle.compression.specs.Sha256.{K, H0}
use Rattle.compression.specs.Blake2b.{IV}

-- n is above 1, and no number between 1 and n divides it.
pub record Prime (n : ℕ) : Type 0 where
  pub above_one : 1 < n
  pub undivided : (d : ℕ) → 1 < d → d < n → n % d ≢ 0

unfoldable pub primes : List ℕ
primes =
    2 ∷ 3 ∷ 5 ∷ 7 ∷ 11 ∷ 13 ∷ 17 ∷ 19 ∷ 23 ∷ 29 ∷ 31 ∷ 37 ∷ 41 ∷ 43 ∷ 47 ∷ 53
    ∷ 59 ∷ 61 ∷ 67 ∷ 71 ∷ 73 ∷ 79 ∷ 83 ∷ 89 ∷ 97 ∷ 101 ∷ 103 ∷ 107 ∷ 109 ∷ 113 ∷ 127 ∷ 131
    ∷ 137 ∷ 139 ∷ 149 ∷ 151 ∷ 157 ∷ 163 ∷ 167 ∷ 173 ∷ 179 ∷ 181 ∷ 191 ∷ 193 ∷ 197 ∷ 199 ∷ 211 ∷ 223
    ∷ 227 ∷ 229 ∷ 233 ∷ 239 ∷ 241 ∷ 251 ∷ 257 ∷ 263 ∷ 269 ∷ 271 ∷ 277 ∷ 281 ∷ 283 ∷ 293 ∷ 307 ∷ 311
    ∷ []

-- The list `primes` is the first 64 primes in order: 64 rising primes, and no prime up to the last of them is missing.
pub record First64Primes : Type 0 where
  pub count : length primes ≡ 64
  pub prime : (i : ℕ) → i < 64 → Prime (slice_index primes i)
  pub rising : (i : ℕ) → i < 63 → slice_index primes i < slice_index primes (i + 1)
  pub none_missing : (n : ℕ) → n ≤ slice_index primes 63 → Prime n → (i : ℕ) × (i < 64) × (slice_index primes i ≡ n)

-- k is the first w bits of the fractional part of the e-th root of p: for a whole number q, q + k / 2 ^ w is at most
-- that root, and q + (k + 1) / 2 ^ w is more. (Both sides are raised to the power e and freed of fractions.)
pub record RootFraction (e w p k : ℕ) : Type 0 where
  pub q : ℕ
  pub fits : k < 2 ^ w
  pub at_most : (q * 2 ^ w + k) ^ e ≤ p * 2 ^ (w * e)
  pub more : p * 2 ^ (w * e) < (q * 2 ^ w + k + 1) ^ e

-- FIPS 180-4, 4.2.2: the round constants are from the cube roots of the first 64 primes.
abbrev pub KFromCubeRoots : Type 0
KFromCubeRoots = (i : ℕ) → i < 64 → RootFraction 3 32 (slice_index primes i) (slice_index K i)

-- FIPS 180-4, 5.3.3: the first hash value is from the square roots of the first eight primes.
abbrev pub H0FromSquareRoots : Type 0
H0FromSquareRoots = (i : ℕ) → i < 8 → RootFraction 2 32 (slice_index primes i) (slice_index H0 i)

-- RFC 7693, 2.6: the initial value is from the square roots of the first eight primes.
abbrev pub IVFromSquareRoots : Type 0
IVFromSquareRoots = (i : ℕ) → i < 8 → RootFraction 2 64 (slice_index primes i) (slice_index IV i)
