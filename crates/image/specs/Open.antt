-- What building and opening a card image answer, and what they leave in memory. Assumes nothing.
use Rattle.std.specs.Prelude.{ℕ, ◌+◌, cond, not, ◌||◌, List, [], ◌∷◌, length, take, drop, is_some, Option, Result, ◌==◌, nat_lt}
use Rattle.refusal.specs.declared.Refusal.{Refusal}
use Rattle.refusal.specs.declared.Refusal.TheVariants.{RecordLength, ImageNumber, PlaceLength, TagMismatch}
use Rattle.refusal.specs.Verdict.{Verdict, judged, then, answered}
use Rattle.compression.specs.Compress.{key_verdict}
use Rattle.compression.specs.Keyed.{sha256, blake2b}
use Rattle.sealing.specs.Omd.{opened, deciphered}
use Rattle.sealing.specs.Calls.{opened_place}
use Rattle.image.specs.declared.label.Label.{Label}
use Rattle.image.specs.Image.{longest_header, longest_message, fixed_bytes, tag_bytes, header_length, message_length, ciphertext_of, tag_of}
use Rattle.image.specs.Look.{unlawful, look_verdict}

-- The verdict on building the image of a label, a header and a message into a place.
abbrev pub build_verdict : (shortest longest : ℕ) (key : List ℕ) → Label → (header message place : List ℕ) → Verdict
build_verdict shortest longest key l header message place =
    then (key_verdict shortest longest key)
    (judged (
    (nat_lt longest_header (length header) || nat_lt longest_message (length message), RecordLength)
    ∷ (unlawful l, ImageNumber)
    ∷ (nat_lt (length place) (32 + length header + length message), PlaceLength)
    ∷ []))

-- The nonce and the associated data of the seal on an image I.
abbrev pub nonce_of : List ℕ → List ℕ
nonce_of I = take 12 (drop 1 I)

abbrev pub data_of : List ℕ → List ℕ
data_of I = take (fixed_bytes + header_length I) I

-- Its message, where the tag is the right one, and its message whether it is or not.
abbrev pub opened_image : (b : ℕ) (F : List ℕ → List ℕ → List ℕ) (I : List ℕ) → Option (List ℕ)
opened_image b F I = opened b F (nonce_of I) (data_of I) (ciphertext_of I) (tag_of I)

abbrev pub message_in : (b : ℕ) (F : List ℕ → List ℕ → List ℕ) (I : List ℕ) → List ℕ
message_in b F I = deciphered b F (nonce_of I) tag_bytes (ciphertext_of I)

-- The verdict on opening an image into a place, with the compression F of a kind: the key, then the image, then the place, and
-- last the tag.
abbrev pub open_verdict : (kind b shortest longest : ℕ) (F : List ℕ → List ℕ → List ℕ → List ℕ) (key I place : List ℕ) → Verdict
open_verdict kind b shortest longest F key I place =
    then (key_verdict shortest longest key)
    (then (look_verdict kind I)
    (judged (
    (nat_lt (length place) (message_length I), PlaceLength)
    ∷ (not (is_some (opened_image b (F key) I)), TagMismatch)
    ∷ [])))

-- What opening answers, and what the place holds after it.
abbrev pub open_answer : (kind b shortest longest : ℕ) (F : List ℕ → List ℕ → List ℕ → List ℕ) (key I place : List ℕ) → Result ℕ Refusal
open_answer kind b shortest longest F key I place = answered (open_verdict kind b shortest longest F key I place) (message_length I)

abbrev pub open_place : (kind b shortest longest : ℕ) (F : List ℕ → List ℕ → List ℕ → List ℕ) (key I place : List ℕ) → List ℕ
open_place kind b shortest longest F key I place =
    opened_place (open_answer kind b shortest longest F key I place) (message_in b (F key) I) place

-- The same for the number of a kind. A kind that there is no compression for has no key range, and a look refuses it.
abbrev pub answer_by_kind : (kind : ℕ) (key I place : List ℕ) → Result ℕ Refusal
answer_by_kind kind key I place =
    cond (kind == 1) (open_answer 1 32 16 32 sha256 key I place)
    (cond (kind == 2) (open_answer 2 64 16 64 blake2b key I place)
    (answered (look_verdict kind I) 0))

abbrev pub place_by_kind : (kind : ℕ) (key I place : List ℕ) → List ℕ
place_by_kind kind key I place =
    cond (kind == 1) (open_place 1 32 16 32 sha256 key I place)
    (cond (kind == 2) (open_place 2 64 16 64 blake2b key I place)
    place)
