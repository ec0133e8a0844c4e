-- Bytes written behind one another at the front of a place. Assumes nothing.
use Rattle.std.proofs.Common.{◌≡◌, ℕ, ◌+◌, ◌≤◌, List, ◌++◌, length, take, drop, arith}
use Rattle.std.proofs.lemmas.Grind.{common_steps}
use Rattle.refusal.specs.Verdict.{at_front}

-- q written behind p, which fills the first n bytes
pub behind : (p q place rest : List ℕ) (n : ℕ) → length p ≡ n → rest ≡ drop n place → p ++ (q ++ drop (length q) rest) ≡ at_front (p ++ q) place
behind p q place rest n long is = grind (arith, common_steps)

-- a front written, and behind it the place cut in two, each with bytes written at its own front
pub joined : (A C T place p ct tag : List ℕ) (n w : ℕ) → length A ≡ n → length C ≡ w → n + w ≤ length place → p ≡ at_front A place → ct ≡ at_front C (take w (drop n p)) → tag ≡ at_front T (drop w (drop n p)) → take n p ++ (ct ++ tag) ≡ at_front (A ++ (C ++ T)) place
joined A C T place p ct tag n w a_long c_long fits fronted ct_is tag_is = grind (arith, common_steps)
