-- The masks of OMD, as the code works them out. Assumes nothing.
use Rattle.std.proofs.Common.{◌≡◌, ℕ, zero, suc, ◌+◌, List, refl, ap, add-one}
use Rattle.sealing.specs.Strings.{◌⊕◌}
use Rattle.sealing.specs.Double.{double}
use Rattle.sealing.specs.Omd.{L⋆, L, Δ, ntz}
use Rattle.sealing.specs.Parts.{doublings}

module _ (b : ℕ) (F : List ℕ → List ℕ → List ℕ) where
  pub L_is : (i : ℕ) → doublings i (double (L⋆ b F)) ≡ L b F i
  unfolding L doublings
  L_is zero = refl
  L_is (suc i) = ap double (L_is i)

  -- the next mask
  pub Δ_more : (start : List ℕ) (i : ℕ) → Δ b F start i ⊕ L b F (ntz (i + 1)) ≡ Δ b F start (i + 1)
  unfolding Δ
  Δ_more start i = rw add-one
