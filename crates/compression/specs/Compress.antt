-- When a compression is refused. Assumes nothing.
use Rattle.std.specs.Prelude.{ℕ, not, ◌&&◌, ◌||◌, List, [], ◌∷◌, length, ◌==◌, nat_lt}
use Rattle.refusal.specs.declared.Refusal.TheVariants.{KeyLength, PlaceLength}
use Rattle.refusal.specs.Verdict.{Verdict, judged}

-- The verdict on a key, where keys have from `shortest` to `longest` bytes.
abbrev pub key_verdict : (shortest longest : ℕ) → (key : List ℕ) → Verdict
key_verdict shortest longest key = judged ((nat_lt (length key) shortest || nat_lt longest (length key), KeyLength) ∷ [])

-- The verdict on a call with these four lengths, where blocks have b bytes and keys from `shortest` to `longest`.
abbrev pub compress_verdict : (b shortest longest : ℕ) → (key chaining message place : List ℕ) → Verdict
compress_verdict b shortest longest key chaining message place =
    judged (
    (nat_lt (length key) shortest || nat_lt longest (length key), KeyLength)
    ∷ (not (length chaining == b && length message == b && length place == b), PlaceLength)
    ∷ [])

-- The verdict on a call of BLAKE2b's F with these three lengths.
abbrev pub F_verdict : (chaining block place : List ℕ) → Verdict
F_verdict chaining block place =
    judged ((not (length chaining == 64 && length block == 128 && length place == 64), PlaceLength) ∷ [])
