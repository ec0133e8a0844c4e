-- The text of bytes in hex.
use Rattle.std.proofs.Common.{ℕ, ◌<◌, ◌/◌, ◌%◌, List, [], ◌∷◌, false, arith}
use Rattle.std.proofs.lemmas.Str.Ascii.{IsAscii-nil, IsAscii-cons}
use Rattle.std.specs.Fmt.{digit_glyph}
use Rattle.std.specs.Int.Digits.{AllBelowBase}
use Rattle.std.specs.List.{flat_map}
use Rattle.std.specs.Str.{IsAscii}
use Rattle.vectors.specs.Field.{two_digits}

glyph : (d : ℕ) → d < 16 → digit_glyph false d < 128
glyph d h = grind arith

-- The digits of bytes are ASCII.
pub ascii : (bs : List ℕ) → AllBelowBase 256 bs → IsAscii (flat_map two_digits bs)
ascii [] below = IsAscii-nil
ascii (b ∷ bs) below =
    let rest : List ℕ = flat_map two_digits bs in
    let low : ℕ = digit_glyph false (b % 16) in
    IsAscii-cons (digit_glyph false (b / 16)) (low ∷ rest) (glyph (b / 16) (omega arith)) (IsAscii-cons low rest (glyph (b % 16) (omega arith)) (ascii bs below.1))
