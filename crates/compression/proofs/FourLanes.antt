-- Vectors of four lanes, loaded from a list and stored into it. Assumes nothing.
use Rattle.std.proofs.Common.{◌≡◌, ℕ, ◌+◌, ◌-◌, ◌≤◌, List, [], ◌∷◌, ◌++◌, length, get_or, take, drop, refl, ap, ◌∙◌, append_assoc, arith, take-add}
use borrow.Rule.Slice.PartMut.{mid_of, put_mid, mid_len}
use lib.Lanes.{put_chunk}
use Rattle.std.proofs.lemmas.List.FromFn.{fill_by_all}
use Rattle.std.proofs.lemmas.Simd.{put_chunk_whole}
use Rattle.std.proofs.lemmas.Slice.{take-put_mid}

-- a vector is its lanes in order
abbrev pub lanes : List ℕ → List ℕ
lanes x = get_or x 0 0 ∷ get_or x 1 0 ∷ get_or x 2 0 ∷ get_or x 3 0 ∷ []

pub four : (x : List ℕ) → length x ≡ 4 → x ≡ lanes x
four x long = fill_by_all (λ k. get_or x k 0) x 4 0 long (λ k _. refl)

module _ (w : List ℕ) (t : ℕ) where
  -- the sixteen words before the word t are four vectors
  pub loaded : 16 ≤ t → take t w ≡ take (t - 16) w ++ (take 4 (drop (t - 16) w) ++ take 4 (drop (t - 12) w) ++ take 4 (drop (t - 8) w) ++ take 4 (drop (t - 4) w))
  loaded low =
      let more : (i j : ℕ) → j ≡ i + 4 → take j w ≡ take i w ++ take 4 (drop i w) = λ i j e. ap (λ n. take n w) e ∙ take-add i 4 w in
      more (t - 4) t (omega arith)
      ∙ rw (more (t - 8) (t - 4) (omega arith), more (t - 12) (t - 8) (omega arith), more (t - 16) (t - 12) (omega arith)) (simp append_assoc)

  -- a vector is stored from the word t on
  pub stored : (x : List ℕ) → length x ≡ 4 → t + 4 ≤ length w → take (t + 4) (put_mid t (t + 4 - t) w (put_chunk 0 (mid_of t (t + 4 - t) w) x)) ≡ take t w ++ x
  stored x long fits =
      let whole : put_chunk 0 (mid_of t (t + 4 - t) w) x ≡ x = put_chunk_whole _ x (mid_len t (t + 4) w fits ∙ omega arith) in
      rw whole (take-put_mid t (t + 4 - t) w x (t + 4) (omega arith) (omega arith))
