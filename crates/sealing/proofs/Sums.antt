-- Sums of strings: their lengths, their bytes, and that a string added twice falls out. Assumes nothing.
use Rattle.std.proofs.Common.{◌≡◌, ℕ, zero, suc, ◌<◌, ◌≤◌, List, [], ◌∷◌, ◌++◌, length, get_or, take, drop, set, sym, refl, ap, ◌∙◌, ap₂, arith}
use mathlib.Core.List.{zip_with}
use lib.Bits.{bit_xor, xor_assoc, xor_self, xor_zero_l, xor_lt}
use Rattle.std.specs.Int.Digits.{AllBelowBase}
use Rattle.sealing.specs.Strings.{◌⊕◌}

-- as long as the second, where the first is no shorter
pub length_⊕ : (xs ys : List ℕ) → length ys ≤ length xs → length (xs ⊕ ys) ≡ length ys
unfolding zip_with
length_⊕ [] [] h = refl
length_⊕ [] (y ∷ ys) h = absurd (omega arith)
length_⊕ (x ∷ xs) [] h = refl
length_⊕ (x ∷ xs) (y ∷ ys) h = ap suc (length_⊕ xs ys (omega arith))

xor_twice : (x y : ℕ) → bit_xor x (bit_xor x y) ≡ y
xor_twice x y = sym (xor_assoc x x y) ∙ ap (λ z. bit_xor z y) (xor_self x) ∙ xor_zero_l y

pub added_twice : (xs ys : List ℕ) → length ys ≤ length xs → xs ⊕ (xs ⊕ ys) ≡ ys
unfolding zip_with
added_twice [] [] h = refl
added_twice [] (y ∷ ys) h = absurd (omega arith)
added_twice (x ∷ xs) [] h = refl
added_twice (x ∷ xs) (y ∷ ys) h = ap₂ ◌∷◌ (xor_twice x y) (added_twice xs ys (omega arith))

-- only the front of a longer first string counts
pub front_⊕ : (xs ys : List ℕ) → take (length ys) xs ⊕ ys ≡ xs ⊕ ys
unfolding zip_with
front_⊕ [] [] = refl
front_⊕ [] (y ∷ ys) = refl
front_⊕ (x ∷ xs) [] = refl
front_⊕ (x ∷ xs) (y ∷ ys) = ap (λ zs. bit_xor x y ∷ zs) (front_⊕ xs ys)

pub under_⊕ : (xs ys : List ℕ) → AllBelowBase 256 xs → AllBelowBase 256 ys → AllBelowBase 256 (xs ⊕ ys)
unfolding zip_with
under_⊕ [] ys h k = tt
under_⊕ (x ∷ xs) [] h k = tt
under_⊕ (x ∷ xs) (y ∷ ys) h k = (xor_lt 8 x y h.0 k.0, under_⊕ xs ys h.1 k.1)

-- a string whose first i bytes are those of a sum
abbrev pub partly_sum : (place xs ys : List ℕ) → ℕ → List ℕ
partly_sum place xs ys i = (take i xs ⊕ take i ys) ++ drop i place

-- one byte more, and all
pub sum_more : (place xs ys : List ℕ) (i : ℕ) → i < length place → length place ≡ length xs → length place ≡ length ys → set (partly_sum place xs ys i) i (bit_xor (get_or xs i 0) (get_or ys i 0)) ≡ partly_sum place xs ys (suc i)
unfolding zip_with
sum_more [] xs ys i h e f = absurd (omega arith)
sum_more (z ∷ place) [] ys i h e f = absurd (omega arith)
sum_more (z ∷ place) (x ∷ xs) [] i h e f = absurd (omega arith)
sum_more (z ∷ place) (x ∷ xs) (y ∷ ys) zero h e f = refl
sum_more (z ∷ place) (x ∷ xs) (y ∷ ys) (suc i) h e f = ap (◌∷◌ (bit_xor x y)) (sum_more place xs ys i (omega arith) (omega arith) (omega arith))

-- the next byte of a string to which another is added
pub next_byte : (xs ys : List ℕ) (i : ℕ) → i < length xs → length xs ≡ length ys → get_or (partly_sum xs xs ys i) i 0 ≡ get_or xs i 0
unfolding zip_with
next_byte [] ys i h e = absurd (omega arith)
next_byte (x ∷ xs) [] i h e = absurd (omega arith)
next_byte (x ∷ xs) (y ∷ ys) zero h e = refl
next_byte (x ∷ xs) (y ∷ ys) (suc i) h e = next_byte xs ys i (omega arith) (omega arith)
