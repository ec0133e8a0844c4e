-- Worked examples: numbers that the definitions give, beside those that are expected. Assumes nothing.
use Rattle.std.specs.Prelude.{◌≡◌, ℕ, List, [], ◌∷◌, ◌++◌, map, length, drop}
use Rattle.sealing.specs.Strings.{zeros, padded, block, blocks}
use Rattle.sealing.specs.Double.{double, triple}

-- What a definition gives, and what is expected.
abbrev pub Example : Type 0
Example = List ℕ × List ℕ

-- Each gives what is expected.
abbrev pub Hold : List Example → Type 0
Hold examples = map (λ e. e.0) examples ≡ map (λ e. e.1) examples

-- Doubling and tripling strings of 32 bytes, and splitting and padding messages at blocks of 32 bytes: 64 bytes are two full
-- blocks; 65 are three, and the last is padded with 0x80 and 30 zeros.
abbrev pub sealing_examples : List Example
sealing_examples =
    (double (0x80 ∷ zeros 31), zeros 30 ++ (0x04 ∷ 0x25 ∷ []))
    ∷ (drop 31 (triple (zeros 31 ++ (0x01 ∷ []))), 0x03 ∷ [])
    ∷ (map length (blocks 32 (zeros 64)), 32 ∷ 32 ∷ [])
    ∷ (map length (blocks 32 (zeros 65)), 32 ∷ 32 ∷ 1 ∷ [])
    ∷ (padded 32 (block 32 (zeros 65) 2), 0 ∷ 0x80 ∷ zeros 30)
    ∷ []
