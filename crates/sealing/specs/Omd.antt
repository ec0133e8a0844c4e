-- OMD, the mode of operation of "OMD: A Compression Function Mode of Operation for Authenticated Encryption" (Cogliani,
-- Maimuț, Naccache, Portella do Canto, Reyhanitabar, Vaudenay, Vizár; SAC 2014), as the pseudocode in the appendix of
-- "Speeding Up OMD Instantiations in Hardware" (Maimuț, Mega) has it. Names are theirs. Assumes nothing.
use Rattle.std.specs.Prelude.{ℕ, zero, suc, ◌+◌, ◌*◌, cond, List, length, take, drop, Some, None, Option, ◌==◌}
use Rattle.std.specs.Int.Count.{count_trailing_zeros}
use Rattle.std.specs.Str.{bytes_eq}
use Rattle.compression.specs.Words.{to_be}
use Rattle.sealing.specs.declared.omd.Way.{Way}
use Rattle.sealing.specs.declared.omd.Way.TheVariants.{Sealing, Opening}
use Rattle.sealing.specs.Strings.{◌⊕◌, zeros, padded, last_block, block_count, block, chained, summed}
use Rattle.sealing.specs.Double.{double, triple}

-- The number of trailing zero bits of a block's number, which is a machine word of 64 bits.
abbrev pub ntz : ℕ → ℕ
ntz i = count_trailing_zeros 64 i

-- The message block, where the chaining value is H and the text, the message or the ciphertext, has the block X.
abbrev pub plain : Way → (H X : List ℕ) → List ℕ
plain Sealing H X = X
plain Opening H X = H ⊕ X

-- A compression of blocks of b bytes under a key: a function of a chaining block and a message block.
module _ (b : ℕ) (F : List ℕ → List ℕ → List ℕ) where
  -- INITIALIZE: L⋆, and L(0), L(1), .. of which the masks are sums
  unfoldable pub L⋆ : List ℕ
  L⋆ = F (zeros b) (zeros b)

  unfoldable pub L : ℕ → List ℕ
  L zero = double (double L⋆)
  L (suc i) = double (L i)

  -- The mask after i blocks, from what it starts with: the block number i adds L(ntz(i)).
  unfoldable pub Δ : (start : List ℕ) → ℕ → List ℕ
  Δ start zero = start
  Δ start (suc i) = Δ start i ⊕ L (ntz (suc i))

  -- HASH: the halves of a block X of 2 b bytes, under a mask
  abbrev pub halves : (X mask : List ℕ) → List ℕ
  halves X mask = F (take b X ⊕ mask) (drop b X)

  -- what the block i of the associated data A gives: a shorter one is padded, and its mask has L⋆ in place of an L(i)
  unfoldable pub absorbed : (A : List ℕ) → ℕ → List ℕ
  absorbed A i =
      cond (length (block (2 * b) A i) == 2 * b)
      (halves (block (2 * b) A i) (Δ (zeros b) (suc i)))
      (halves (padded (2 * b) (block (2 * b) A i)) (Δ (zeros b) i ⊕ L⋆))

  unfoldable pub HASH : (A : List ℕ) → List ℕ
  HASH A = summed b (absorbed A) (block_count (2 * b) A)

  -- Both ways through a text X, which is the message or the ciphertext, under the nonce N and for a tag of t bytes:

  -- the mask before the first block
  unfoldable pub Δ₀ : (N : List ℕ) → List ℕ
  Δ₀ N = F (padded b N) (zeros b)

  -- the chaining value at the block i, the first being 0
  unfoldable pub chaining_at : Way → (N : List ℕ) (t : ℕ) (X : List ℕ) → ℕ → List ℕ
  chaining_at way N t X zero = F (Δ (Δ₀ N) 1) (to_be b (8 * t))
  chaining_at way N t X (suc i) =
      F (chaining_at way N t X i ⊕ Δ (Δ₀ N) (i + 2)) (plain way (chaining_at way N t X i) (block b X i))

  -- the block i of the other text, and that text: the ciphertext of a message, or the message of a ciphertext
  abbrev pub crossed : Way → (N : List ℕ) (t : ℕ) (X : List ℕ) → ℕ → List ℕ
  crossed way N t X i = chaining_at way N t X i ⊕ block b X i

  unfoldable pub other_text : Way → (N : List ℕ) (t : ℕ) (X : List ℕ) → List ℕ
  other_text way N t X = chained (crossed way N t X) (block_count b X)

  -- what the tag has of the message, from the mask, the chaining value H and the message block M at the last block
  abbrev pub ended : (mask H M : List ℕ) → List ℕ
  ended mask H M =
      cond (length M == b) (F (H ⊕ (mask ⊕ double L⋆)) M)
      (cond (length M == 0) H
      (F (H ⊕ (mask ⊕ triple L⋆)) (padded b M)))

  -- the same of a text whose last block is the block l
  abbrev pub ended_at : Way → (N : List ℕ) (t : ℕ) (X : List ℕ) (l : ℕ) → List ℕ
  ended_at way N t X l =
      ended (Δ (Δ₀ N) (l + 1)) (chaining_at way N t X l) (plain way (chaining_at way N t X l) (block b X l))

  unfoldable pub Tag : Way → (N A : List ℕ) (t : ℕ) (X : List ℕ) → List ℕ
  Tag way N A t X = take t (ended_at way N t X (last_block b X) ⊕ HASH A)

  -- Encryption: the ciphertext and the tag of the message M.
  abbrev pub sealed : (N A M : List ℕ) (t : ℕ) → List ℕ × List ℕ
  sealed N A M t = (other_text Sealing N t M, Tag Sealing N A t M)

  -- Decryption: the message that a ciphertext C with a tag of t bytes stands for, and what the tag T says of it: it is the
  -- message, where T is the right tag.
  abbrev pub deciphered : (N : List ℕ) (t : ℕ) (C : List ℕ) → List ℕ
  deciphered N t C = other_text Opening N t C

  abbrev pub opened : (N A C T : List ℕ) → Option (List ℕ)
  opened N A C T = cond (bytes_eq (Tag Opening N A (length T) C) T) (Some (deciphered N (length T) C)) None
