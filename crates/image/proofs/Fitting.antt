-- Nothing objects to the seal of a card. Assumes nothing.
use Rattle.std.proofs.Common.{◌≡◌, ℕ, ◌≤◌, List, length, Ok, arith}
use Rattle.std.proofs.lemmas.Bool.Decides.{nat_tests}
use Rattle.refusal.specs.Verdict.{judged}
use Rattle.sealing.specs.Calls.{objections}
use Rattle.compression.specs.Compress.{key_verdict}

pub fitting : (b shortest longest : ℕ) (key N A X : List ℕ) (room tag_room : ℕ) → 16 ≤ b → key_verdict shortest longest key ≡ Ok tt → length N ≡ 12 → 1 ≤ length A → length A ≤ 80 → length X ≤ 96 → length X ≤ room → 16 ≤ tag_room → judged (objections b shortest longest key N A X 16 room tag_room) ≡ Ok tt
fitting b shortest longest key N A X room tag_room wide key_ok nonce low high text place tag = grind (arith, nat_tests)
