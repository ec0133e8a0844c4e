-- Which mask a block's number selects. Assumes nothing.
use Rattle.std.proofs.Common.{◌≡◌, ℕ, zero, suc, ◌*◌, ◌/◌, ◌%◌, ◌^◌, ◌<◌, ◌≤◌, refl, inl, inr, pow-suc, arith, pow_mono}
use lib.Count.{count_trailing_zeros, under}
use Rattle.std.proofs.lemmas.Bool.{cases_lt}

under_lt : (r t n : ℕ) → (r ≡ 0 → t < n) → under r t < suc n
under_lt zero t n h = let l : t < n = h refl in omega arith
under_lt (suc r) t n h = omega arith

-- a number below 2 ^ n has fewer than n zero bits at its end
pub few_zeros : (k n i : ℕ) → 0 < i → i < 2 ^ n → count_trailing_zeros k i < n
unfolding count_trailing_zeros
few_zeros k zero i low high = absurd (omega arith)
few_zeros zero (suc n) i low high = omega arith
few_zeros (suc k) (suc n) i low high =
    let double : i < 2 ^ n * 2 = rw pow-suc at high in
    under_lt (i % 2) (count_trailing_zeros k (i / 2)) n (λ even. few_zeros k n (i / 2) (omega arith) (omega arith))

-- a power of 2 below 2 ^ (n + 1) has at most the exponent n
pub bits_at_most : (n m : ℕ) → 2 ^ m < 2 ^ suc n → m ≤ n
bits_at_most n m h =
    elim (cases_lt n m) [ inr le ↦ le | inl gt ↦ absurd (let more : 2 ^ suc n ≤ 2 ^ m = pow_mono gt in omega arith) ]
