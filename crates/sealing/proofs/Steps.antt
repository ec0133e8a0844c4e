-- One block more, as a loop writes it. Assumes nothing.
use Rattle.std.proofs.Common.{◌≡◌, ℕ, ◌+◌, ◌-◌, ◌*◌, ◌/◌, ◌<◌, ◌≤◌, List, [], ◌++◌, length, take, drop, sym, ap, ◌∙◌, ap₂, le_trans, mul-le-mul_right, suc-mul, div-lt_iff_lt-mul, add-mul, div-mul-le_self, arith, length-append, length-drop}
use borrow.Rule.Slice.PartMut.{put_mid}
use Rattle.std.proofs.lemmas.List.{append_assoc, append-nil, take_at, take_all, take_rest, drop_at, drop_all, drop-drop}
use Rattle.sealing.specs.Strings.{last_block, block, chained}
use Rattle.sealing.proofs.Blocks.{chained_more}

-- a block that is not the last lies within the text
pub whole_block : (i b n : ℕ) → i < n / b → i * b + b ≤ n
whole_block i b n h = le_trans (rw suc-mul at (mul-le-mul_right b h)) (div-mul-le_self n b)

-- the part of a text that the code takes for a block: n is the code's number for the b bytes of a block
pub part_block : (n b i : ℕ) (xs : List ℕ) → n ≡ b → take (i * n + n - i * n) (drop (i * n) xs) ≡ block b xs i
part_block n b i xs e =
    let whole : i * n + n - i * n ≡ n = omega arith in
    ap (λ k. take k (drop (i * n) xs)) whole ∙ ap (λ k. take k (drop (i * k) xs)) e

-- the block i written behind those before it
pub put_next : (f : ℕ → List ℕ) (n b i : ℕ) (ys zs out : List ℕ) → n ≡ b → i * b + b ≤ length zs → length ys ≡ length zs → ys ≡ chained f i ++ drop (i * b) zs → out ≡ f i → length out ≡ b
    → put_mid (i * n) (i * n + n - i * n) ys out ≡ chained f (i + 1) ++ drop ((i + 1) * b) zs
put_next f n b i ys zs out e within same is new long =
    let at : i * n ≡ i * b = ap (λ k. i * k) e in
    let whole : i * n + n - i * n ≡ b = omega arith in
    let next : i * b + b ≡ (i + 1) * b = omega (arith, add-mul i 1 b) in
    let before : length (chained f i) ≡ i * b = omega (arith, ap length is, length-append (chained f i) (drop (i * b) zs), length-drop (i * b) zs) in
    let rest : drop b (drop (i * b) ys) ≡ drop ((i + 1) * b) zs =
    ap (λ x. drop b (drop (i * b) x)) is ∙ ap (drop b) (drop_at (chained f i) (drop (i * b) zs) (i * b) before) ∙ drop-drop b (i * b) zs ∙ ap (λ k. drop k zs) next in
    let first : take (i * b) ys ≡ chained f i = ap (take (i * b)) is ∙ take_at (chained f i) (drop (i * b) zs) (i * b) before in
    ap₂ (λ a k. put_mid a k ys out) at whole
    ∙ ap₂ ◌++◌ first (ap₂ ◌++◌ new rest)
    ∙ sym (append_assoc (chained f i) (f i) (drop ((i + 1) * b) zs)) ∙ ap (λ x. x ++ drop ((i + 1) * b) zs) (sym (chained_more f i))

-- the last block of a text lies behind the others, and fits a block
pub last_within : (b : ℕ) (xs : List ℕ) → 0 < b → (last_block b xs * b ≤ length xs) × (length xs - last_block b xs * b ≤ b)
last_within b xs pos =
    let n : ℕ = length xs - 1 in
    let low : n / b * b ≤ n = div-mul-le_self n b in
    let high : n < (n / b + 1) * b = (div-lt_iff_lt-mul pos).0 (omega arith) in
    (omega arith, omega (arith, add-mul (n / b) 1 b))

-- the part of a text that the code takes for its last block
pub last_part : (b a : ℕ) (xs : List ℕ) → 0 < b → a ≡ last_block b xs * b → take (length xs - a) (drop a xs) ≡ block b xs (last_block b xs)
last_part b a xs pos at =
    let l : ℕ = last_block b xs * b in
    let w = last_within b xs pos in
    let short : length (drop l xs) ≤ b = simp length-drop (omega arith) in
    ap (λ k. take (length xs - k) (drop k xs)) at ∙ take_rest xs l ∙ sym (take_all b (drop l xs) short)

-- the last block written behind the others
pub put_last : (f : ℕ → List ℕ) (b a k : ℕ) (xs ys zs out : List ℕ) → 0 < b → a ≡ last_block b xs * b → k ≡ length xs - a → length ys ≡ length xs → length zs ≡ length xs
    → ys ≡ chained f (last_block b xs) ++ drop (last_block b xs * b) zs → out ≡ f (last_block b xs) → put_mid a k ys out ≡ chained f (last_block b xs + 1)
put_last f b a k xs ys zs out pos at size same same' is new =
    let i : ℕ = last_block b xs in
    let w = last_within b xs pos in
    let before : length (chained f i) ≡ i * b = omega (arith, ap length is, length-append (chained f i) (drop (i * b) zs), length-drop (i * b) zs) in
    let first : take a ys ≡ chained f i = ap₂ take at is ∙ take_at (chained f i) (drop (i * b) zs) (i * b) before in
    let rest : drop k (drop a ys) ≡ [] = drop_all k (drop a ys) (simp length-drop (omega arith)) in
    ap₂ ◌++◌ first (ap₂ ◌++◌ new rest ∙ append-nil (f i)) ∙ sym (chained_more f i)
