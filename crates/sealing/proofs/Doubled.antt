-- Doubling by numbers and byte by byte: the shift by one bit, and the reduction of the bit that falls out. Assumes nothing.
use Rattle.std.proofs.Common.{◌≡◌, ℕ, zero, suc, ◌+◌, ◌-◌, ◌*◌, ◌/◌, ◌%◌, ◌^◌, ◌<◌, ◌≤◌, cond, ltb, List, [], ◌∷◌, ◌++◌, length, get_or, take, drop, set, sym, refl, ap, ◌∙◌, ap₂, mul_assoc, add-mul, arith, length-set}
use native.Mathlib.Nat.{pow-succ'}
use lib.Arith.{digits_div, digits_mod}
use lib.Bits.{bit_and, bit_xor, and_zero_r, and_le_l, and_mask, xor_block, xor_zero_r, xor_lt}
use Rattle.std.specs.Int.Digits.{AllBelowBase, number_from_digits, number_from_digits_after}
use Rattle.std.proofs.lemmas.Int.Digits.{number_lt}
use Rattle.std.proofs.ByRecursion.{All-get_or, All-set}
use Rattle.std.proofs.lemmas.Bool.{lt-ltb, le-ltb, cond-true, cond-false}
use Rattle.compression.specs.Words.{to_be}
use Rattle.sealing.specs.Double.{reduction, doubled, double}
use Rattle.sealing.specs.Parts.{shifted_left}

-- digits behind a number
number_after : (n : ℕ) (ds : List ℕ) → number_from_digits_after 256 n ds ≡ n * 256 ^ length ds + number_from_digits 256 ds
number_after n [] = omega arith
number_after n (d ∷ ds) =
    let P : ℕ = 256 ^ length ds in
    let first : 0 * 256 + d ≡ d = omega arith in
    let e : number_from_digits 256 (d ∷ ds) ≡ d * P + number_from_digits 256 ds = ap (λ m. number_from_digits_after 256 m ds) first ∙ number_after d ds in
    number_after (n * 256 + d) ds ∙ rw (e, pow-succ') (omega (arith, add-mul (n * 256) d P, mul_assoc n 256 P))

-- bytes are those of their number, whatever stands before them
bytes_after : (n : ℕ) (ds : List ℕ) → AllBelowBase 256 ds → to_be (length ds) (number_from_digits_after 256 n ds) ≡ ds
bytes_after n [] u = refl
bytes_after n (d ∷ ds) u =
    let m : ℕ = n * 256 + d in
    let q : number_from_digits_after 256 m ds / 256 ^ length ds ≡ m = rw number_after (digits_div m (number_lt 256 ds u.1)) in
    ap₂ ◌∷◌ (ap (λ x. x % 256) q ∙ omega (arith, u.0)) (bytes_after m ds u.1)

-- a string of which the first i bytes are shifted
abbrev pub partly : List ℕ → ℕ → List ℕ
partly xs i = take i (shifted_left xs) ++ drop i xs

-- one byte more, and the last one
pub shift_more : (xs : List ℕ) (i : ℕ) → i < length xs → set (partly xs i) i (get_or (partly xs i) i 0 * 2 % 256 + get_or (partly xs i) (suc i) 0 / 128) ≡ partly xs (suc i)
shift_more [] i h = absurd (omega arith)
shift_more (x ∷ xs) zero h = refl
shift_more (x ∷ xs) (suc i) h = ap (◌∷◌ (x * 2 % 256 + get_or xs 0 0 / 128)) (shift_more xs i (omega arith))

pub shift_all : (xs : List ℕ) (i : ℕ) → length xs ≡ suc i → set (partly xs i) i (get_or (partly xs i) i 0 * 2 % 256 + 0) ≡ shifted_left xs
shift_all [] i h = absurd (omega arith)
shift_all (x ∷ []) zero h = refl
shift_all (x ∷ y ∷ xs) zero h = absurd (omega arith)
shift_all (x ∷ xs) (suc i) h = ap (◌∷◌ (x * 2 % 256 + get_or xs 0 0 / 128)) (shift_all xs i (omega arith))

length_shifted : (xs : List ℕ) → length (shifted_left xs) ≡ length xs
length_shifted [] = refl
length_shifted (x ∷ xs) = ap suc (length_shifted xs)

under_shifted : (xs : List ℕ) → AllBelowBase 256 xs → AllBelowBase 256 (shifted_left xs)
under_shifted [] u = tt
under_shifted (x ∷ []) u = (omega arith, tt)
under_shifted (x ∷ y ∷ xs) u = (omega arith, under_shifted (y ∷ xs) u.1)

-- the shift doubles the number, with the highest bit before it
after_shifted : (n : ℕ) (xs : List ℕ) → number_from_digits_after 256 (2 * n + get_or xs 0 0 / 128) (shifted_left xs) ≡ 2 * number_from_digits_after 256 n xs
after_shifted n [] = omega arith
after_shifted n (x ∷ xs) =
    let e : (2 * n + x / 128) * 256 + (x * 2 % 256 + get_or xs 0 0 / 128) ≡ 2 * (n * 256 + x) + get_or xs 0 0 / 128 = omega arith in
    ap (λ m. number_from_digits_after 256 m (shifted_left xs)) e ∙ after_shifted (n * 256 + x) xs

-- so twice the number is that bit and the shifted string
number_shifted : (xs : List ℕ) → get_or xs 0 0 / 128 * 256 ^ length xs + number_from_digits 256 (shifted_left xs) ≡ 2 * number_from_digits 256 xs
number_shifted xs =
    let ys : List ℕ = shifted_left xs in
    let bit : ℕ = get_or xs 0 0 / 128 in
    let e : 2 * 0 + bit ≡ bit = omega arith in
    rw length_shifted at (sym (ap (λ m. number_from_digits_after 256 m ys) e ∙ number_after bit ys) ∙ after_shifted 0 xs)

-- a byte added at the place m
abbrev added : List ℕ → (m a : ℕ) → List ℕ
added ys m a = set ys m (bit_xor (get_or ys m 0) a)

under_added : (ys : List ℕ) (m a : ℕ) → m < length ys → AllBelowBase 256 ys → a < 256 → AllBelowBase 256 (added ys m a)
under_added ys m a h u ha = All-set _ ys m _ (xor_lt 8 _ _ (All-get_or _ ys m 0 h u) ha) u

-- bytes added at the last two places
number_added : (n : ℕ) (ys : List ℕ) (m a b : ℕ) → length ys ≡ m + 2 → AllBelowBase 256 ys → a < 256 → b < 256 → number_from_digits_after 256 n (added (added ys m a) (suc m) b) ≡ bit_xor (number_from_digits_after 256 n ys) (a * 256 + b)
number_added n [] m a b long u ha hb = absurd (omega arith)
number_added n (p ∷ []) m a b long u ha hb = absurd (omega arith)
number_added n (p ∷ q ∷ y ∷ ys) zero a b long u ha hb = absurd (omega arith)
number_added n (p ∷ q ∷ []) zero a b long u ha hb =
    let e : bit_xor (n * 256 + p) (0 * 256 + a) ≡ n * 256 + bit_xor p a = xor_block 8 n 0 p a u.0 ha ∙ ap (λ x. x * 256 + bit_xor p a) (xor_zero_r n) in
    let z : 0 * 256 + a ≡ a = omega arith in
    sym (xor_block 8 (n * 256 + p) a q b u.1.0 hb ∙ ap (λ x. x * 256 + bit_xor q b) (rw z at e))
number_added n (p ∷ q ∷ ys) (suc m) a b long u ha hb = number_added (n * 256 + p) (q ∷ ys) m a b (omega arith) u.1 ha hb

-- all ones where the bit is 1, else zero
abbrev out : ℕ → ℕ
out bit = (0 + (256 - bit)) % 256

-- what is added is the reduction where the bit, with r behind it, makes a number v that is not below p, else nothing
reduced : (bit high v p r : ℕ) → bit < 2 → high < 256 → bit * p + r ≡ v → r < p → bit_and high (out bit) * 256 + bit_and 0x25 (out bit) ≡ cond (ltb v p) 0 (high * 256 + 0x25)
reduced zero high v p r one small e low = omega (arith, and_zero_r high, cond-true _ 0 (high * 256 + 0x25) (lt-ltb v p (omega arith)))
reduced (suc zero) high v p r one small e low = omega (arith, and_mask high 8, cond-false _ 0 (high * 256 + 0x25) (le-ltb v p (omega arith)))
reduced (suc (suc bit)) high v p r one small e low = absurd (omega arith)

-- the string shifted, and so much added to its last two bytes, is its double
pub double_is : (xs : List ℕ) (high : ℕ) → 2 ≤ length xs → AllBelowBase 256 xs → high < 256 → high * 256 + 0x25 ≡ reduction (length xs)
    → added (added (shifted_left xs) (length xs - 2) (bit_and high (out (get_or xs 0 0 / 128)))) (length xs - 1) (bit_and 0x25 (out (get_or xs 0 0 / 128))) ≡ double xs
unfolding double doubled
double_is xs high two bytes small e =
    let n : ℕ = length xs in
    let m : ℕ = n - 2 in
    let bit : ℕ = get_or xs 0 0 / 128 in
    let a : ℕ = bit_and high (out bit) in
    let b : ℕ = bit_and 0x25 (out bit) in
    let ys : List ℕ = shifted_left xs in
    let zs : List ℕ = added (added ys m a) (suc m) b in
    let first : get_or xs 0 0 < 256 = All-get_or _ xs 0 0 (omega arith) bytes in
    let ha : a < 256 = omega (arith, and_le_l high (out bit)) in
    let hb : b < 256 = omega (arith, and_le_l 0x25 (out bit)) in
    let long : length ys ≡ m + 2 = length_shifted xs ∙ omega arith in
    let by : AllBelowBase 256 ys = under_shifted xs bytes in
    let bz : AllBelowBase 256 zs = under_added (added ys m a) (suc m) b (simp length-set (omega arith)) (under_added ys m a (omega arith) by ha) hb in
    let low : number_from_digits 256 ys < 256 ^ n = rw length_shifted at (number_lt 256 ys by) in
    let twice : bit * 256 ^ n + number_from_digits 256 ys ≡ 2 * number_from_digits 256 xs = number_shifted xs in
    let value : number_from_digits 256 zs ≡ doubled n (number_from_digits 256 xs) =
    number_added 0 ys m a b long by ha hb
    ∙ ap₂ bit_xor (sym (digits_mod bit low) ∙ ap (λ v. v % 256 ^ n) twice) (reduced bit high _ _ _ (omega arith) small twice low ∙ ap (cond _ 0) e) in
    let last : n - 1 ≡ suc m = omega arith in
    rw last (sym (bytes_after 0 zs bz) ∙ ap₂ to_be (simp length-set (length_shifted xs)) value)
