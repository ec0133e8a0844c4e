-- Blocks of a padded message: one made by calls of a closure, and one taken apart as key and message block. Assumes nothing.
use Rattle.std.proofs.Common.{◌≡◌, ℕ, ◌+◌, ◌≤◌, List, length, get_or, take, drop, sym, ◌∙◌, arith}
use denote.Param.Members.{Mut, Called}
use Rattle.std.specs.Array.{IsFromFnResult}
use Rattle.std.proofs.lemmas.Grind.{common_steps}
use Rattle.compression.proofs.FromCalls.{from_calls}
use Rattle.compression.proofs.WordBytes.{cut}
use Rattle.compression.specs.Keyed.{keyed_block}

-- a key of the whole length b leaves no room for zeros
pub split_block : (b : ℕ) (x : List ℕ) → b ≤ length x → keyed_block b (take b x) (drop b x) ≡ x
unfolding keyed_block
split_block b x fits = grind (arith, common_steps)

-- where each call gives the byte of p that is j further on, the block is that part of p
module _ {F : Type 0} (g : Mut F (ℕ × Unit {0}) ℕ) (f : F) (p : List ℕ) (j : ℕ) (gives : (i y : ℕ) (q : F) → Called g f (i, tt) y q → (y ≡ get_or p (j + i) 0) × (q ≡ f)) where
  pub filled : (w : ℕ) (block : List ℕ) → IsFromFnResult g f block w → j + w ≤ length p → block ≡ take w (drop j p)
  filled w block is fits = from_calls g f (λ k. get_or p (j + k) 0) gives w block is ∙ sym (cut w j p fits)
