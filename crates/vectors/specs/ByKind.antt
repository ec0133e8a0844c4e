-- What is answered for the number of a kind. Assumes nothing.
use Rattle.std.specs.Prelude.{ℕ, cond, List, take, replicate, Ok, Err, Result, ◌==◌}
use Rattle.refusal.specs.declared.Refusal.{Refusal}
use Rattle.refusal.specs.declared.Refusal.TheVariants.{KindMismatch}
use Rattle.refusal.specs.Verdict.{Verdict}
use Rattle.compression.specs.Compress.{compress_verdict}
use Rattle.compression.specs.Keyed.{sha256, blake2b}

-- A block, or a refusal.
abbrev pub Answer : Type 0
Answer = Result (List ℕ) Refusal

-- An accepted call answers the block.
abbrev pub answered : Verdict → List ℕ → Answer
answered (Ok _) block = Ok block
answered (Err r) block = Err r

-- A compression F into a place of its own length b.
abbrev pub compressed : (b shortest longest : ℕ) → (List ℕ → List ℕ → List ℕ → List ℕ) → (key chaining message : List ℕ) → Answer
compressed b shortest longest F key chaining message =
    answered (compress_verdict b shortest longest key chaining message (replicate b 0)) (F key chaining message)

-- The compression of a kind; a kind that there is none for is refused before all else.
abbrev pub by_kind : ℕ → (key chaining message : List ℕ) → Answer
by_kind kind key chaining message =
    cond (kind == 1) (compressed 32 16 32 sha256 key chaining message)
    (cond (kind == 2) (compressed 64 16 64 blake2b key chaining message)
    (Err KindMismatch))

-- What the code answers: the bytes of the block stand at the front of a place.
abbrev pub at_front : Result ℕ Refusal → List ℕ → Answer
at_front (Ok n) place = Ok (take n place)
at_front (Err r) place = Err r
