-- Functions that are changed at one number, sums, and counts. Assumes nothing.
use Rattle.std.proofs.Common.{◌≡◌, ℕ, zero, suc, ◌+◌, ◌<◌, ◌≤◌, Bool, true, false, cond, eqb, ◌≢◌, List, length, get_or, take, sym, refl, ap, subst, ⊎_elim, add-one, arith}
use Rattle.std.proofs.lemmas.Bool.{eqb-true, eqb-false, eq-eqb, ne_eqb, cond-true, cond-false, cond_both, cases_eq}
use Rattle.std.specs.List.{sum_by}
use Rattle.std.proofs.lemmas.List.Sums.{sum_by_more}
use Rattle.counter.specs.Ledger.{put, total, count}

pub put_at : {A : Type 0} (P : A → Type 0) (f : ℕ → A) (k : ℕ) (a : A) (j : ℕ) → (j ≡ k → P a) → ((j ≡ k → ⊥) → P (f j)) → P (put f k a j)
put_at P f k a j at_k off_k = cond_both (eqb j k) a (f j) P (λ e. at_k (eqb-true j k e)) (λ e. off_k (eqb-false j k e))

pub put_same : {A : Type 0} (f : ℕ → A) (k : ℕ) (a : A) → put f k a k ≡ a
put_same f k a = cond-true (eqb k k) a (f k) (eq-eqb k k refl)

pub put_other : {A : Type 0} (f : ℕ → A) (k : ℕ) (a : A) (j : ℕ) → (j ≡ k → ⊥) → put f k a j ≡ f j
put_other f k a j ne = cond-false (eqb j k) a (f j) (ne_eqb j k ne)

module _ {A : Type 0} (g : ℕ → A → ℕ) (f : ℕ → A) (k : ℕ) (a : A) where
  total_below : (m : ℕ) → m < k → total (λ j. g j (put f k a j)) m ≡ total (λ j. g j (f j)) m
  total_below zero lt = refl
  total_below (suc m) lt =
      let ih = total_below m (omega arith) in
      let e : g (suc m) (put f k a (suc m)) ≡ g (suc m) (f (suc m)) = ap (g (suc m)) (put_other f k a (suc m) (omega arith)) in
      omega (arith, ih, e)

  pub total_put : (m : ℕ) → 1 ≤ k → k ≤ m → total (λ j. g j (put f k a j)) m + g k (f k) ≡ total (λ j. g j (f j)) m + g k a
  total_put zero one le = absurd (omega arith)
  total_put (suc m) one le = ⊎_elim
      (λ (e : suc m ≡ k).
      let P : ℕ → Type 0 = λ n. g n (put f k a n) + g k (f k) ≡ g n (f n) + g k a in
      let here : g k (put f k a k) + g k (f k) ≡ g k (f k) + g k a = omega (arith, ap (g k) (put_same f k a)) in
      omega (arith, total_below m (omega arith), subst P (sym e) here))
      (λ (ne : suc m ≢ k). omega (arith, total_put m one (omega arith), ap (g (suc m)) (put_other f k a (suc m) ne)))
      (cases_eq (suc m) k)

pub total_same : (f g : ℕ → ℕ) (m : ℕ) → ((j : ℕ) → 1 ≤ j → j ≤ m → f j ≡ g j) → total f m ≡ total g m
total_same f g zero e = refl
total_same f g (suc m) e = omega (arith, total_same f g m (λ j one le. e j one (omega arith)), e (suc m) (omega arith) (omega arith))

pub total_le : (f g : ℕ → ℕ) (m : ℕ) → ((j : ℕ) → f j ≤ g j) → total f m ≤ total g m
total_le f g zero le = omega arith
total_le f g (suc m) le = omega (arith, total_le f g m le, le (suc m))

pub total_none : (m : ℕ) → total (λ _. 0) m ≡ 0
total_none zero = refl
total_none (suc m) = omega (arith, total_none m)

-- A sum over a list, by places.
pub total_list : {A : Type 0} (f : ℕ → ℕ) (g : A → ℕ) (xs : List A) (d : A) (m : ℕ) → m ≤ length xs → ((i : ℕ) → i < m → f (suc i) ≡ g (get_or xs i d)) → total f m ≡ sum_by g (take m xs)
total_list f g xs d zero le e = refl
total_list f g xs d (suc m) le e = omega (arith, total_list f g xs d m (omega arith) (λ i lt. e i (omega arith)), e m (omega arith), sum_by_more g xs m d (omega arith), ap (λ j. sum_by g (take j xs)) (add-one m))

pub count_most : (test : ℕ → Bool) (m : ℕ) → count test m ≤ m
count_most test zero = omega arith
count_most test (suc m) = cond_both (test (suc m)) 1 0 (λ x. count test m + x ≤ suc m) (λ _. omega (arith, count_most test m)) (λ _. omega (arith, count_most test m))

-- One more, or none, for each of n.
pub cond_none : (t : Bool) → ◌≡◌ {A = ℕ} (cond t 0 0) 0
cond_none true = refl
cond_none false = refl

pub cond_more : (t : Bool) (n : ℕ) → cond t (suc n) 0 ≡ cond t n 0 + cond t 1 0
cond_more true n = omega arith
cond_more false n = omega arith
