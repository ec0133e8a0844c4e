-- Lists that are known place by place. Assumes nothing.
use Rattle.std.proofs.Common.{◌≡◌, ℕ, ◌+◌, ◌<◌, ◌≤◌, List, [], ◌∷◌, ◌++◌, map, length, get_or, take, drop, sym, refl, ap, ◌∙◌, arith}
use Rattle.std.specs.List.{range_with_len}
use Rattle.std.proofs.lemmas.List.FromFn.{fill_by_all}
use Rattle.std.proofs.lemmas.List.{get_or-take, get_or-drop, length-drop, length-take-le}

-- a list that has f k at each place k below n
pub filled : {X : Type 0} (f : ℕ → X) (xs : List X) (n : ℕ) → length xs ≡ n → ((k : ℕ) (d : X) → k < n → get_or xs k d ≡ f k) → xs ≡ map f (range_with_len 0 n)
filled f [] n long h = ap (λ j. map f (range_with_len 0 j)) long
filled f (x ∷ xs) n long h = fill_by_all f (x ∷ xs) n x long (λ k. h k x)

-- n bytes from the place j on, byte by byte
pub cut : (n j : ℕ) (xs : List ℕ) → j + n ≤ length xs → take n (drop j xs) ≡ map (λ k. get_or xs (j + k) 0) (range_with_len 0 n)
cut n j xs fits =
    fill_by_all (λ k. get_or xs (j + k) 0) (take n (drop j xs)) n 0 (length-take-le n (drop j xs) (simp length-drop (omega arith)))
    (λ k h. get_or-take n (drop j xs) k 0 h ∙ get_or-drop j xs k 0)

-- eight words are those at the places 0 to 7
pub eight : (h rest : List ℕ) → length h ≡ 8 → get_or h 0 0 ∷ get_or h 1 0 ∷ get_or h 2 0 ∷ get_or h 3 0 ∷ get_or h 4 0 ∷ get_or h 5 0 ∷ get_or h 6 0 ∷ get_or h 7 0 ∷ rest ≡ h ++ rest
eight h rest long = ap (λ x. x ++ rest) (sym (fill_by_all (λ k. get_or h k 0) h 8 0 long (λ k _. refl)))
