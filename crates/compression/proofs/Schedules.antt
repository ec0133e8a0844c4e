-- SHA-256's schedule, continued from its last words alone. Assumes nothing.
use Rattle.std.proofs.Common.{◌≡◌, ℕ, zero, suc, ◌+◌, ◌-◌, ◌≤◌, List, [], ◌∷◌, ◌++◌, length, get_or, sym, refl, ap, ◌∙◌, ap₂, append_assoc, arith}
use Rattle.std.proofs.lemmas.List.{get_or-append_right}
use Rattle.compression.specs.Sha256.{◌⊞◌, next, schedule}

module _ (p : List ℕ) (n : ℕ) (long : length p ≡ n) where
  -- a word is read from the sixteen words before it
  next_after : (q : List ℕ) (t : ℕ) → 16 ≤ t → next (n + t) (p ++ q) ≡ next t q
  unfolding next
  next_after q t low =
      let at : (j : ℕ) → j ≤ t → get_or (p ++ q) (n + t - j) 0 ≡ get_or q (t - j) 0 =
      λ j h. get_or-append_right p q n (n + t - j) 0 long (omega arith) ∙ ap (λ i. get_or q i 0) (omega arith) in
      rw (at 2 (omega arith), at 7 (omega arith), at 15 (omega arith), at 16 (omega arith))

  -- so the schedule goes on from its last words as from a block
  pub schedule_after : (q m : List ℕ) → p ++ q ≡ schedule n m → (k j : ℕ) → n + k ≡ j → p ++ schedule k q ≡ schedule j m
  unfolding schedule
  schedule_after q m e zero j s = let i : n ≡ j = omega arith in e ∙ ap (λ i. schedule i m) i
  schedule_after q m e (suc k) j s =
      let ih = schedule_after q m e k (n + k) refl in
      let i : suc (n + k) ≡ j = omega arith in
      let t : n + (k + 16) ≡ n + k + 16 = omega arith in
      sym (append_assoc p (schedule k q) _)
      ∙ ap₂ (λ x v. x ++ (v ∷ [])) ih (sym (next_after (schedule k q) (k + 16) (omega arith)) ∙ ap₂ next t ih)
      ∙ ap (λ i. schedule i m) i

module _ (m : List ℕ) where
  -- one word more
  more : (n : ℕ) (w : List ℕ) (x : ℕ) → w ≡ schedule n m → x ≡ next (n + 16) w → w ++ (x ∷ []) ≡ schedule (suc n) m
  unfolding schedule
  more n w x e f = ap₂ (λ w v. w ++ (v ∷ [])) e (f ∙ ap (next (n + 16)) e)

  -- four words more, each from those before it
  pub schedule_four : (x y z u : ℕ) → x ≡ next 16 m → y ≡ next 17 (m ++ (x ∷ [])) → z ≡ next 18 ((m ++ (x ∷ [])) ++ (y ∷ [])) → u ≡ next 19 (((m ++ (x ∷ [])) ++ (y ∷ [])) ++ (z ∷ [])) → (((m ++ (x ∷ [])) ++ (y ∷ [])) ++ (z ∷ [])) ++ (u ∷ []) ≡ schedule 4 m
  unfolding schedule
  schedule_four x y z u e f g h = more 3 _ u (more 2 _ z (more 1 _ y (more 0 m x refl e) f) g) h

-- the sum of a word, in the order of the vectors and in that of `next`
pub turned : (x y z u : ℕ) → ((x ⊞ y) ⊞ z) ⊞ u ≡ ((u ⊞ z) ⊞ y) ⊞ x
turned x y z u = omega arith
