-- A compression of the right lengths is accepted: for callers that have tested them. Assumes nothing.
use Rattle.std.proofs.Common.{◌≡◌, ℕ, ◌≤◌, List, length, Ok, arith}
use Rattle.std.proofs.lemmas.Bool.Decides.{nat_tests}
use Rattle.compression.specs.Compress.{compress_verdict}

pub accepts : (b lo hi : ℕ) (k h m p : List ℕ) → lo ≤ length k → length k ≤ hi → length h ≡ b → length m ≡ b → length p ≡ b → compress_verdict b lo hi k h m p ≡ Ok tt
accepts b lo hi k h m p low high hb mb pb = grind (arith, nat_tests)
