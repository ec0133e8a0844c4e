-- Blocks of a string, and strings chained: a string is its blocks chained, and what is chained has these blocks. Assumes nothing.
use Rattle.std.proofs.Common.{◌≡◌, ℕ, zero, suc, ◌+◌, ◌-◌, ◌*◌, ◌/◌, ◌<◌, ◌≤◌, List, ◌++◌, length, take, drop, refl, ap, ◌∙◌, ap₂, inl, inr, le_trans, mul-le-mul_right, suc-mul, zero-mul, div-mul-le_self, add-one, arith, length-append, length-drop, length-take, take-add}
use native.Mathlib.Nat.{lt-div-mul-add}
use Rattle.std.specs.Int.Digits.{AllBelowBase}
use Rattle.std.proofs.ByRecursion.{All-append, All-take, All-drop}
use Rattle.std.proofs.lemmas.List.{take_all, take-append-le, drop-append-le, drop_at, length-take-le}
use Rattle.std.proofs.lemmas.Bool.{cases_lt}
use Rattle.sealing.specs.Strings.{last_block, block_count, block, chained}

pub chained_more : (f : ℕ → List ℕ) (k : ℕ) → chained f (k + 1) ≡ chained f k ++ f k
unfolding chained
chained_more f k = rw add-one

pub chained_same : (f g : ℕ → List ℕ) (k : ℕ) → ((i : ℕ) → i < k → f i ≡ g i) → chained f k ≡ chained g k
unfolding chained
chained_same f g zero same = refl
chained_same f g (suc k) same = ap₂ ◌++◌ (chained_same f g k (λ i h. same i (omega arith))) (same k (omega arith))

pub under_chained : (c : ℕ) (f : ℕ → List ℕ) (k : ℕ) → ((i : ℕ) → AllBelowBase c (f i)) → AllBelowBase c (chained f k)
unfolding chained
under_chained c f zero each = tt
under_chained c f (suc k) each = All-append (λ d. d < c) (chained f k) (f k) (under_chained c f k each) (each k)

module _ (n : ℕ) (xs : List ℕ) where
  pub under_block : (c i : ℕ) → AllBelowBase c xs → AllBelowBase c (block n xs i)
  under_block c i h = All-take (λ d. d < c) n (drop (i * n) xs) (All-drop (λ d. d < c) (i * n) xs h)

  -- the blocks before the last one lie within the string
  pub blocks_within : (k : ℕ) → k ≤ last_block n xs → k * n ≤ length xs
  blocks_within k h = le_trans (le_trans (mul-le-mul_right n h) (div-mul-le_self (length xs - 1) n)) (omega arith)

  -- and the last one reaches its end
  last_reaches : 0 < n → length xs ≤ (length xs - 1) / n * n + n
  last_reaches pos = omega (arith, lt-div-mul-add {a = length xs - 1} pos)

  pub length_block_le : (i : ℕ) → length (block n xs i) ≤ n
  length_block_le i = simp length-take (omega arith)

  pub chained_blocks_front : (k : ℕ) → chained (block n xs) k ≡ take (k * n) xs
  unfolding chained
  chained_blocks_front zero = rw zero-mul
  chained_blocks_front (suc k) = rw (suc-mul, take-add, chained_blocks_front k)

  pub chained_blocks : 0 < n → chained (block n xs) (block_count n xs) ≡ xs
  chained_blocks pos =
      let l : ℕ = (length xs - 1) / n in
      chained_blocks_front (l + 1) ∙ take_all ((l + 1) * n) xs (simp (add-one, suc-mul) (omega (arith, last_reaches pos)))

-- Strings as long as the blocks of another.
module _ (n : ℕ) (xs : List ℕ) (f : ℕ → List ℕ) (sized : (i : ℕ) → i < block_count n xs → length (f i) ≡ length (block n xs i)) where
  length_like : (k : ℕ) → k ≤ block_count n xs → length (chained f k) ≡ length (chained (block n xs) k)
  unfolding chained
  length_like zero h = refl
  length_like (suc k) h = simp length-append (ap₂ ◌+◌ (length_like k (omega arith)) (sized k (omega arith)))

  pub length_chained : 0 < n → length (chained f (block_count n xs)) ≡ length xs
  length_chained pos = length_like (block_count n xs) (omega arith) ∙ ap length (chained_blocks n xs pos)

  pub length_chained_front : (k : ℕ) → k ≤ last_block n xs → length (chained f k) ≡ k * n
  length_chained_front k h =
      length_like k (omega arith) ∙ ap length (chained_blocks_front n xs k) ∙ length-take-le (k * n) xs (blocks_within n xs k h)

  block_upto : (k i : ℕ) → k ≤ block_count n xs → i < k → block n (chained f k) i ≡ f i
  unfolding chained
  block_upto zero i h l = absurd (omega arith)
  block_upto (suc k) i h l =
      let long : length (chained f k) ≡ k * n = length_chained_front k (omega arith) in
      elim (cases_lt i k) [
        | inl below ↦
            let fits : i * n + n ≤ k * n = rw suc-mul at (mul-le-mul_right n below) in
            ap (take n) (drop-append-le (i * n) (chained f k) (f k) (omega arith))
            ∙ take-append-le n (drop (i * n) (chained f k)) (f k) (simp length-drop (omega arith))
            ∙ block_upto k i (omega arith) below
        | inr past ↦
            let here : i ≡ k = omega arith in
            rw here (ap (take n) (drop_at (chained f k) (f k) (k * n) long)
            ∙ take_all n (f k) (omega (arith, sized k h, length_block_le n xs k)))
      ]

  pub block_chained : (i : ℕ) → i < block_count n xs → block n (chained f (block_count n xs)) i ≡ f i
  block_chained i h = block_upto (block_count n xs) i (omega arith) h
