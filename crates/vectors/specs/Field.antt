-- A byte string as a field of a line. Assumes nothing.
use Rattle.std.specs.Prelude.{ℕ, ◌/◌, ◌%◌, false, List, [], ◌∷◌}
use Rattle.std.specs.List.{flat_map}
use Rattle.std.specs.Fmt.{digit_glyph}

-- A byte as two lower-case digits.
abbrev pub two_digits : ℕ → List ℕ
two_digits b = digit_glyph false (b / 16) ∷ digit_glyph false (b % 16) ∷ []

-- Two digits for each byte, or a minus sign (45) for none.
abbrev pub field : List ℕ → List ℕ
field [] = 45 ∷ []
field (b ∷ bs) = flat_map two_digits (b ∷ bs)
