use Rattle.std.proofs.Common.{◌≡◌, ℕ, ◌==◌, ◌&&◌, Bool, true, false, List, [], ◌∷◌, length, fold, refl, ap, ◌∙◌, arith}
use lib.Bits.{bit_or, bit_xor, or_add_and, xor_add_and, and_le_l, and_le_r, xor_self, or_zero_l}
use Rattle.std.specs.List.{zip}
use Rattle.std.specs.Str.{bytes_eq}
use Rattle.std.proofs.lemmas.Bool.Decides.{nat_tests}
use Rattle.sealing.proofs.bytes.same.Goals as goal

abbrev gather : ℕ → ℕ × ℕ → ℕ
gather d p = bit_or d (bit_xor p.0 p.1)

one : (d x y : ℕ) → (gather d (x, y) == 0) ≡ ((d == 0) && (x == y))
one d x y = grind (arith, nat_tests, or_add_and, and_le_l, and_le_r, xor_add_and, xor_self, or_zero_l)

regroup : (a b c : Bool) → ((a && b) && c) ≡ (a && (b && c))
regroup true b c = refl
regroup false b c = refl

gathered : (xs ys : List ℕ) (d : ℕ) → length xs ≡ length ys → (fold gather d (zip xs ys) == 0) ≡ ((d == 0) && bytes_eq xs ys)
gathered [] [] d e = grind (arith, nat_tests)
gathered [] (y ∷ ys) d e = absurd (omega arith)
gathered (x ∷ xs) [] d e = absurd (omega arith)
gathered (x ∷ xs) (y ∷ ys) d e =
    gathered xs ys (gather d (x, y)) (omega arith) ∙ ap (λ t. t && bytes_eq xs ys) (one d x y) ∙ regroup (d == 0) (x == y) (bytes_eq xs ys)

pub returns : goal.returns
returns c = ap (λ n. n == 0) c.differing.ensures ∙ gathered c.args.x.now c.args.y.now 0 c.requires
