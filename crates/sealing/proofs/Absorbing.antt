-- The blocks of the associated data, whole ones and a shorter last one. Assumes nothing.
use Rattle.std.proofs.Common.{◌≡◌, ℕ, ◌+◌, ◌-◌, ◌*◌, ◌/◌, ◌%◌, ◌<◌, ◌≤◌, List, ◌++◌, length, take, drop, sym, ap, ◌∙◌, inl, inr, mod-lt, add-mul, div-add-mod', add-one, arith, length-append, length-drop, length-take}
use lib.Arith.{digits_div}
use Rattle.std.proofs.lemmas.List.{take_all, take_at, drop_at, drop-drop}
use Rattle.std.proofs.lemmas.Bool.{cases_eq, cond-true, cond-false, eq-eqb, ne_eqb}
use Rattle.sealing.specs.Strings.{◌⊕◌, zeros, padded, last_block, block_count, block, summed}
use Rattle.sealing.specs.Omd.{L⋆, Δ, halves, absorbed}

pub summed_more : (b : ℕ) (f : ℕ → List ℕ) (n : ℕ) → summed b f (n + 1) ≡ summed b f n ⊕ f n
unfolding summed
summed_more b f n = rw add-one

module _ (b : ℕ) (F : List ℕ → List ℕ → List ℕ) (A : List ℕ) (i : ℕ) where
  pub absorbed_whole : length (block (2 * b) A i) ≡ 2 * b → absorbed b F A i ≡ halves b F (block (2 * b) A i) (Δ b F (zeros b) (i + 1))
  unfolding absorbed
  absorbed_whole h = cond-true _ _ _ (eq-eqb _ _ h) ∙ rw add-one

  pub absorbed_short : length (block (2 * b) A i) < 2 * b → absorbed b F A i ≡ halves b F (padded (2 * b) (block (2 * b) A i)) (Δ b F (zeros b) i ⊕ L⋆ b F)
  unfolding absorbed
  absorbed_short h = cond-false _ _ _ (ne_eqb (length (block (2 * b) A i)) (2 * b) (λ e. omega arith))

-- How many blocks of d bytes there are, where the last is whole and where it is shorter.
module _ (d : ℕ) (A : List ℕ) (pos : 0 < d) where
  split : length A / d * d + length A % d ≡ length A
  split = div-add-mod' (length A) d

  pub whole_count : 1 ≤ length A → length A % d ≡ 0 → block_count d A ≡ length A / d
  whole_count some none =
      let q : ℕ = length A / d in
      let low : 0 < q = elim (cases_eq q 0) [ inl z ↦ absurd (omega (arith, split, ap (λ k. k * d) z)) | inr n ↦ omega arith ] in
      let p : ℕ = q - 1 in
      let up : q ≡ p + 1 = omega arith in
      let size : length A - 1 ≡ p * d + (d - 1) = omega (arith, split, ap (λ k. k * d) up, add-mul p 1 d) in
      ap (λ n. n / d + 1) size ∙ ap (λ n. n + 1) (let low : d - 1 < d = omega arith in digits_div p low) ∙ sym up

  pub short_last : 0 < length A % d → last_block d A ≡ length A / d
  short_last some =
      let q : ℕ = length A / d in
      let size : length A - 1 ≡ q * d + (length A % d - 1) = omega (arith, split) in
      let low : length A % d - 1 < d = omega (arith, mod-lt (length A) pos) in
      ap (λ n. n / d) size ∙ digits_div q low

  -- what is left behind the whole blocks is the shorter last one
  pub short_part : drop (length A - length A % d) A ≡ block d A (length A / d)
  short_part =
      let at : length A - length A % d ≡ length A / d * d = omega (arith, split) in
      let short : length (drop (length A / d * d) A) ≤ d = simp length-drop (omega (arith, split, mod-lt (length A) pos)) in
      ap (λ k. drop k A) at ∙ sym (take_all d (drop (length A / d * d) A) short)

  pub short_block : length (block d A (length A / d)) < d
  short_block = simp (length-take, length-drop) (omega (arith, split, mod-lt (length A) pos))

-- where a chunk x of d bytes is next, it is the next block
pub next_block : (d : ℕ) (A : List ℕ) (i : ℕ) (rest rest' x : List ℕ) → i * d ≤ length A → rest ≡ drop (i * d) A → rest ≡ x ++ rest' → length x ≡ d → (x ≡ block d A i) × (rest' ≡ drop ((i + 1) * d) A) × ((i + 1) * d ≤ length A)
next_block d A i rest rest' x h at cut size =
    let next : i * d + d ≡ (i + 1) * d = omega (arith, add-mul i 1 d) in
    let long : length A ≡ i * d + (d + length rest') = omega (arith, ap length (sym cut ∙ at), length-append x rest', length-drop (i * d) A) in (
      sym (take_at x rest' d size) ∙ ap (take d) (sym cut ∙ at),
      sym (drop_at x rest' d size) ∙ ap (drop d) (sym cut ∙ at) ∙ drop-drop d (i * d) A ∙ ap (λ k. drop k A) next,
      omega arith,
    )
