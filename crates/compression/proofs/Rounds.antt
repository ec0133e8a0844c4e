-- One round of SHA-256 more. Assumes nothing.
use Rattle.std.proofs.Common.{◌≡◌, ℕ, ◌+◌, List, get_or, ◌∙◌, subst, ap₂, add-one}
use Rattle.compression.specs.declared.sha256.Variables.{Variables}
use Rattle.compression.specs.Sha256.{round, rounds, K}

pub rounds_more : (W : List ℕ) (v₀ v u : Variables) (k n m : ℕ) → n + 1 ≡ m → v ≡ rounds n W v₀ → k ≡ get_or K n 0 → u ≡ round v k (get_or W n 0) → u ≡ rounds m W v₀
unfolding rounds
rounds_more W v₀ v u k n m e before constant step = subst (λ j. u ≡ rounds j W v₀) e (rw add-one (step ∙ ap₂ (λ x y. round x y (get_or W n 0)) before constant))
