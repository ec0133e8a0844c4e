-- Laws of chains, over the next numbers of any cells. Assumes nothing.
use Rattle.std.proofs.Common.{◌≡◌, ℕ, zero, suc, ◌-◌, ◌<◌, ◌≤◌, false, ◌≢◌, List, [], ◌∷◌, map, length, get_or, set, sym, refl, ap, ◌∙◌, subst, arith, length-set, get_or-set_other, get_or-set_same}
use Rattle.std.proofs.lemmas.List.{length-map}
use Rattle.std.proofs.lemmas.Bool.{cond-false}
use Rattle.std.proofs.lemmas.Bool.Decides.{nat_tests}
use Rattle.chain.specs.Chain.{no_cell, next_of, relink_at, relink, Chain, Absent}

-- A cell that has a number.
pub has_number : (n i : ℕ) → 1 ≤ i → i ≤ n → no_cell n i ≡ false
has_number n i one le = grind (arith, nat_tests)

pub next_in : (nexts : List ℕ) (i : ℕ) → 1 ≤ i → i ≤ length nexts → next_of nexts i ≡ get_or nexts (i - 1) 0
next_in nexts i one le = cond-false _ 0 (get_or nexts (i - 1) 0) (has_number (length nexts) i one le)

-- What relinking does, by `set` at any default.
pub relink_set : {R : Type 0} (put : R → ℕ → R) (xs : List R) (i n : ℕ) (d : R) → relink_at put xs i n ≡ set xs i (put (get_or xs i d) n)
relink_set put [] i n d = refl
relink_set put (x ∷ xs) zero n d = refl
relink_set put (x ∷ xs) (suc i) n d = ap (λ r. x ∷ r) (relink_set put xs i n d)

pub relink_past : {R : Type 0} (put : R → ℕ → R) (xs : List R) (i n : ℕ) → length xs ≤ i → relink_at put xs i n ≡ xs
relink_past put [] i n le = refl
relink_past put (x ∷ xs) zero n le = absurd (omega arith)
relink_past put (x ∷ xs) (suc i) n le = ap (λ r. x ∷ r) (relink_past put xs i n (omega arith))

-- By numbers from 1.
pub relink_from_1 : {R : Type 0} (put : R → ℕ → R) (xs : List R) (i n : ℕ) → 1 ≤ i → relink put xs i n ≡ relink_at put xs (i - 1) n
relink_from_1 put xs zero n one = absurd (omega arith)
relink_from_1 put xs (suc i) n one = let e : i ≡ suc i - 1 = omega arith in ap (λ j. relink_at put xs j n) e

pub relink_none : {R : Type 0} (put : R → ℕ → R) (xs : List R) (i n : ℕ) → (1 ≤ i → length xs < i) → relink put xs i n ≡ xs
relink_none put xs zero n past = refl
relink_none put xs (suc i) n past = let lt : length xs < suc i = past (omega arith) in relink_past put xs i n (omega arith)

-- The next numbers after relinking one cell.
pub nexts_relink : {R : Type 0} (link : R → ℕ) (put : R → ℕ → R) → ((x : R) (n : ℕ) → link (put x n) ≡ n) → (xs : List R) (i n : ℕ) → map link (relink_at put xs i n) ≡ set (map link xs) i n
nexts_relink link put law [] i n = refl
nexts_relink link put law (x ∷ xs) zero n = ap (λ m. m ∷ map link xs) (law x n)
nexts_relink link put law (x ∷ xs) (suc i) n = ap (λ r. link x ∷ r) (nexts_relink link put law xs i n)

-- A cell outside the chain may be relinked.
pub chain_set : (nexts : List ℕ) (h : ℕ) (xs : List ℕ) (i n : ℕ) → 1 ≤ i → Absent i xs → Chain nexts h xs → Chain (set nexts (i - 1) n) h xs
chain_set nexts h [] i n one a c = c
chain_set nexts h (x ∷ xs) i n one a c =
    let ne : x - 1 ≢ i - 1 = λ e. a.0 (omega (arith, e, c.1)) in
    let same : get_or (set nexts (i - 1) n) (x - 1) 0 ≡ get_or nexts (x - 1) 0 = get_or-set_other nexts (i - 1) (x - 1) n 0 ne in
    let F : ℕ → Type 0 = λ g. Chain (set nexts (i - 1) n) g xs in
    (c.0, c.1, simp length-set c.2, subst F (sym same) (chain_set nexts (get_or nexts (x - 1) 0) xs i n one a.1 c.3))

-- Cell i, outside the chain, becomes its first.
pub chain_push : (nexts : List ℕ) (h : ℕ) (xs : List ℕ) (i : ℕ) → 1 ≤ i → i ≤ length nexts → Absent i xs → Chain nexts h xs → Chain (set nexts (i - 1) h) i (i ∷ xs)
chain_push nexts h xs i one in_row a c =
    let lt : i - 1 < length nexts = omega arith in
    let here : get_or (set nexts (i - 1) h) (i - 1) 0 ≡ h = get_or-set_same nexts (i - 1) h 0 lt in
    let F : ℕ → Type 0 = λ g. Chain (set nexts (i - 1) h) g xs in
    (refl, one, simp length-set in_row, subst F (sym here) (chain_set nexts h xs i h one a c))

-- A head has one chain.
pub chain_one : (nexts : List ℕ) (h : ℕ) (xs ys : List ℕ) → Chain nexts h xs → Chain nexts h ys → xs ≡ ys
chain_one nexts h [] [] p q = refl
chain_one nexts h [] (y ∷ ys) p q = absurd (omega (arith, p, q.0, q.1))
chain_one nexts h (x ∷ xs) [] p q = absurd (omega (arith, q, p.0, p.1))
chain_one nexts h (x ∷ xs) (y ∷ ys) p q =
    let e : y ≡ x = sym q.0 ∙ p.0 in
    let F : ℕ → Type 0 = λ g. Chain nexts (get_or nexts (g - 1) 0) ys in
    let tail : xs ≡ ys = chain_one nexts (get_or nexts (x - 1) 0) xs ys p.3 (subst F e q.3) in
    ap (λ r. x ∷ r) tail ∙ ap (λ g. g ∷ ys) (sym e)

-- A cell with a longer chain behind it is not in a shorter one.
later_shorter : (nexts : List ℕ) (h : ℕ) (xs : List ℕ) (x : ℕ) (ys : List ℕ) → Chain nexts h xs → Chain nexts x ys → 1 ≤ x → length xs < length ys → Absent x xs
later_shorter nexts h [] x ys p q one lt = tt
later_shorter nexts h (z ∷ zs) x ys p q one lt =
    ((λ e. let F : ℕ → Type 0 = λ g. Chain nexts g ys in let same : z ∷ zs ≡ ys = chain_one nexts h (z ∷ zs) ys p (subst F (e ∙ sym p.0) q) in omega (arith, ap length same)), later_shorter nexts (get_or nexts (z - 1) 0) zs x ys p.3 q one (omega arith))

-- A cell comes once in a chain.
pub chain_once : (nexts : List ℕ) (h x : ℕ) (xs : List ℕ) → Chain nexts h (x ∷ xs) → Absent x xs
chain_once nexts h x xs c =
    let F : ℕ → Type 0 = λ g. Chain nexts g (x ∷ xs) in
    later_shorter nexts (get_or nexts (x - 1) 0) xs x (x ∷ xs) c.3 (subst F c.0 c) c.1 (omega arith)

module _ {R : Type 0} (link : R → ℕ) (put : R → ℕ → R) (law : (x : R) (n : ℕ) → link (put x n) ≡ n) where
  -- The cell at a place is written back with another next number.
  pub wrote : (xs : List R) (i n place : ℕ) (d y : R) → 1 ≤ i → place ≡ i - 1 → y ≡ put (get_or xs place d) n → set xs place y ≡ relink put xs i n
  wrote xs i n place d y one at e = ap (set xs place) e ∙ sym (relink_set put xs place n d) ∙ ap (λ p. relink_at put xs p n) at ∙ sym (relink_from_1 put xs i n one)

  nexts_after : (xs ys : List R) (i n : ℕ) → 1 ≤ i → ys ≡ relink put xs i n → map link ys ≡ set (map link xs) (i - 1) n
  nexts_after xs ys i n one e = ap (map link) (e ∙ relink_from_1 put xs i n one) ∙ nexts_relink link put law xs (i - 1) n

  pub pushed : (xs ys : List R) (h i : ℕ) → 1 ≤ i → i ≤ length xs → ys ≡ relink put xs i h → (cs : List ℕ) → Chain (map link xs) h cs → Absent i cs → Chain (map link ys) i (i ∷ cs)
  pushed xs ys h i one within e cs c a =
      let F : List ℕ → Type 0 = λ ls. Chain ls i (i ∷ cs) in
      subst F (sym (nexts_after xs ys i h one e)) (chain_push (map link xs) h cs i one (simp length-map within) a c)

  -- Cell h, the first of a chain, is relinked: the rest of the chain is untouched.
  pub popped : (xs ys : List R) (h n : ℕ) → ys ≡ relink put xs h n → (x : ℕ) (cs : List ℕ) → Chain (map link xs) h (x ∷ cs) → (x ≡ h) × Chain (map link ys) (next_of (map link xs) h) cs
  popped xs ys h n e x cs c =
      let one : 1 ≤ h = omega (arith, c.0, c.1) in
      let within : h ≤ length (map link xs) = omega (arith, c.0, c.2) in
      let F : List ℕ → Type 0 = λ ls. Chain ls (get_or (map link xs) (h - 1) 0) cs in
      let G : ℕ → Type 0 = λ g. Chain (map link xs) (get_or (map link xs) (g - 1) 0) cs in
      let K : ℕ → Type 0 = λ g. Absent g cs in
      let N : ℕ → Type 0 = λ g. Chain (map link ys) g cs in
      (sym c.0, subst N (sym (next_in (map link xs) h one within)) (subst F (sym (nexts_after xs ys h n one e)) (chain_set (map link xs) _ cs h n one (subst K (sym c.0) (chain_once (map link xs) h x cs c)) (subst G (sym c.0) c.3))))
