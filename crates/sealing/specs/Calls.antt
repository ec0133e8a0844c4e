-- What sealing and opening answer, and what they leave in memory. Assumes nothing.
use Rattle.std.specs.Prelude.{ℕ, ◌-◌, Bool, cond, not, ◌||◌, List, [], ◌∷◌, length, is_some, Ok, Err, Option, Result, ◌==◌, nat_lt}
use Rattle.refusal.specs.declared.Refusal.{Refusal}
use Rattle.refusal.specs.declared.Refusal.TheVariants.{KeyLength, PlaceLength, NonceLength, TagLength, TextLength, TagMismatch}
use Rattle.refusal.specs.Number.{number}
use Rattle.refusal.specs.Verdict.{Verdict, judged, then, at_front}
use Rattle.sealing.specs.Strings.{zeros}

-- The longest associated data, and the longest message.
abbrev pub longest_text : ℕ
longest_text = 65535

-- The objections to sealing and to opening in common, in their order. Blocks have b bytes, keys from `shortest` to `longest`,
-- and the tag has t. The text is the message or the ciphertext; the place for the other one has `room` bytes, and that of the
-- tag `tag_room`.
abbrev pub objections : (b shortest longest : ℕ) (key nonce «data» text : List ℕ) (t room tag_room : ℕ) → List (Bool × Refusal)
objections b shortest longest key nonce «data» text t room tag_room =
    (nat_lt (length key) shortest || nat_lt longest (length key), KeyLength)
    ∷ (nat_lt room (length text) || nat_lt tag_room t, PlaceLength)
    ∷ (length nonce == 0 || nat_lt (b - 1) (length nonce), NonceLength)
    ∷ (nat_lt t 4 || nat_lt b t, TagLength)
    ∷ (length «data» == 0 || nat_lt longest_text (length «data») || nat_lt longest_text (length text), TextLength)
    ∷ []

-- The verdict on sealing a message into a place for its ciphertext and one for its tag of t bytes.
abbrev pub seal_verdict : (b shortest longest : ℕ) (key nonce «data» message : List ℕ) (t : ℕ) (ciphertext tag : List ℕ) → Verdict
seal_verdict b shortest longest key nonce «data» message t ciphertext tag =
    judged (objections b shortest longest key nonce «data» message t (length ciphertext) (length tag))

-- The verdict on opening a ciphertext and its tag into a place for the message. The tag is looked at last: `found` is the
-- message if it is right.
abbrev pub open_verdict : (b shortest longest : ℕ) (key nonce «data» ciphertext tag place : List ℕ) (found : Option (List ℕ)) → Verdict
open_verdict b shortest longest key nonce «data» ciphertext tag place found =
    then (judged (objections b shortest longest key nonce «data» ciphertext (length tag) (length place) (length tag)))
    (judged ((not (is_some found), TagMismatch) ∷ []))

-- What the place for a message holds after opening: the message; where the tag was wrong, as many zeros; else what it held.
abbrev pub opened_place : Result ℕ Refusal → (message place : List ℕ) → List ℕ
opened_place (Ok _) message place = at_front message place
opened_place (Err r) message place = cond (number r == 23) (at_front (zeros (length message)) place) place

-- The verdict on doubling a string in its place.
abbrev pub double_verdict : List ℕ → Verdict
double_verdict xs = judged ((not (length xs == 32 || length xs == 64), PlaceLength) ∷ [])
