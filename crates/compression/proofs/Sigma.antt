-- Each entry of BLAKE2b's table of message words is below 16. Assumes nothing.
use Rattle.std.proofs.Common.{◌≡◌, ℕ, ◌<◌, Bool, true, ltb, [], get_or, refl}
use Rattle.std.proofs.lemmas.Bool.{ltb-true}
use Rattle.compression.specs.Blake2b.{SIGMA}
use Rattle.compression.proofs.Tables.{below, at}

entry : ℕ → ℕ → Bool
entry i j = ltb (get_or (get_or SIGMA i []) j 0) 16

row : ℕ → Bool
row i = below (entry i) 16

all_small : below row 10 ≡ true
unfolding below row entry SIGMA
all_small = refl

pub small : (i j : ℕ) → i < 10 → j < 16 → get_or (get_or SIGMA i []) j 0 < 16
unfolding row entry
small i j hi hj = ltb-true _ _ (at (entry i) 16 (at row 10 all_small i hi) j hj)
