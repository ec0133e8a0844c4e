-- SHA-256's choice between two words with one operation less, at any width. Assumes nothing.
use Rattle.std.proofs.Common.{◌≡◌, ℕ, zero, suc, ◌-◌, ◌*◌, ◌/◌, ◌%◌, ◌^◌, ◌<◌, refl, pow-suc, arith}
use lib.Bits.{bit_and, bit_xor, and_shr, and_mod, xor_shr, xor_mod}

-- one bit
two : (P : ℕ → Type 0) → P 0 → P 1 → (n : ℕ) → n < 2 → P n
two P p q zero h = p
two P p q (suc zero) h = q
two P p q (suc (suc n)) h = absurd (omega arith)

choose_bit : (x y z : ℕ) → x < 2 → y < 2 → z < 2 → bit_xor (bit_and x y) (bit_and (1 - x) z) ≡ bit_xor z (bit_and x (bit_xor y z))
choose_bit x y z hx hy hz =
    two (λ x. bit_xor (bit_and x y) (bit_and (1 - x) z) ≡ bit_xor z (bit_and x (bit_xor y z)))
    (two (λ z. bit_and 1 z ≡ bit_xor z 0) refl refl z hz)
    (two (λ y. bit_xor (bit_and 1 y) 0 ≡ bit_xor z (bit_and 1 (bit_xor y z))) (two (λ z. 0 ≡ bit_xor z (bit_and 1 z)) refl refl z hz) (two (λ z. 1 ≡ bit_xor z (bit_and 1 (bit_xor 1 z))) refl refl z hz) y hy) x hx

-- the higher bits and the lowest bit apart
and_half : (a b : ℕ) → bit_and a b / 2 ≡ bit_and (a / 2) (b / 2)
and_half a b = and_shr a b 1

xor_half : (a b : ℕ) → bit_xor a b / 2 ≡ bit_xor (a / 2) (b / 2)
xor_half a b = xor_shr a b 1

and_odd : (a b : ℕ) → bit_and a b % 2 ≡ bit_and (a % 2) (b % 2)
and_odd a b = and_mod a b 1

xor_odd : (a b : ℕ) → bit_xor a b % 2 ≡ bit_xor (a % 2) (b % 2)
xor_odd a b = xor_mod a b 1

same : (a b : ℕ) → a / 2 ≡ b / 2 → a % 2 ≡ b % 2 → a ≡ b
same a b e f = omega arith

pub choose : (k x y z : ℕ) → x < 2 ^ k → z < 2 ^ k → bit_xor (bit_and x y) (bit_and (2 ^ k - 1 - x) z) ≡ bit_xor z (bit_and x (bit_xor y z))
choose zero x y z hx hz =
    let x₀ : x ≡ 0 = omega arith in
    let z₀ : z ≡ 0 = omega arith in
    rw (x₀, z₀)
choose (suc k) x y z hx hz =
    let twice : 2 ^ suc k ≡ 2 ^ k * 2 = pow-suc 2 k in
    let high : (2 ^ suc k - 1 - x) / 2 ≡ 2 ^ k - 1 - x / 2 = omega arith in
    let low : (2 ^ suc k - 1 - x) % 2 ≡ 1 - x % 2 = omega arith in
    same _ _
    (simp (xor_half, and_half, high) (choose k (x / 2) (y / 2) (z / 2) (omega arith) (omega arith)))
    (simp (xor_odd, and_odd, low) (choose_bit (x % 2) (y % 2) (z % 2) (omega arith) (omega arith) (omega arith)))
