-- A block at the front of a buffer of 64 bytes. Assumes nothing.
use Rattle.std.proofs.Common.{◌≡◌, ℕ, ◌≤◌, ◌⊎◌, take, replicate, ap, ◌∙◌, inl, inr, arith}
use Rattle.std.proofs.lemmas.List.{take-replicate}
use Rattle.sealing.specs.Strings.{zeros}

-- every block fits, and is no empty string
pub fits : (b : ℕ) → (b ≡ 32) ⊎ (b ≡ 64) → (16 ≤ b) × (b ≤ 64)
fits b w = elim w [ inl e ↦ (omega arith, omega arith) | inr e ↦ (omega arith, omega arith) ]

-- the front of a buffer of zeros, where n is the code's number for the b bytes of a block
pub zeros_front : (n b : ℕ) → n ≡ b → b ≤ 64 → take n (replicate 64 0) ≡ zeros b
zeros_front n b e fit = ap (λ k. take k (replicate 64 0)) e ∙ take-replicate b 64 0 fit
