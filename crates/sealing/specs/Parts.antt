-- What the functions inside this crate ask of one another; no public contract cites it. Assumes nothing.
use Rattle.std.specs.Prelude.{ℕ, zero, suc, ◌+◌, ◌*◌, ◌/◌, ◌%◌, List, [], ◌∷◌, slice_index}
use Rattle.sealing.specs.Double.{double}

-- A string one bit to the left: each byte takes the highest bit of the next one in, and the last a zero.
abbrev pub shifted_left : List ℕ → List ℕ
shifted_left [] = []
shifted_left (x ∷ xs) = (x * 2 % 256 + slice_index xs 0 / 128) ∷ shifted_left xs

-- A string doubled i + 1 times.
unfoldable pub doublings : ℕ → List ℕ → List ℕ
doublings zero xs = double xs
doublings (suc i) xs = double (doublings i xs)
