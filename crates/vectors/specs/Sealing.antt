-- What sealing and opening answer for the number of a kind, and what they leave in memory. Assumes nothing.
use Rattle.std.specs.Prelude.{ℕ, List, length, Err, Result}
use Rattle.refusal.specs.declared.Refusal.{Refusal}
use Rattle.refusal.specs.declared.Refusal.TheVariants.{KindMismatch}
use Rattle.refusal.specs.Verdict.{answered, left, at_front}
use Rattle.sealing.specs.Omd.{sealed, deciphered, opened}
use Rattle.sealing.specs.Calls.{seal_verdict, open_verdict, opened_place}
use Rattle.vectors.specs.OfKind.{of_kind}

-- The length of the message, or a refusal. A kind that there is no compression for is refused before all else.
abbrev pub LengthOrRefusal : Type 0
LengthOrRefusal = Result ℕ Refusal

-- Sealing with a tag of t bytes, into a place for the ciphertext and one for the tag.
abbrev pub seal_answer : (kind : ℕ) (key nonce «data» message : List ℕ) (t : ℕ) (ciphertext tag : List ℕ) → LengthOrRefusal
seal_answer kind key nonce «data» message t ciphertext tag =
    of_kind kind (λ b shortest longest F. answered (seal_verdict b shortest longest key nonce «data» message t ciphertext tag) (length message)) (Err KindMismatch)

-- What the two places hold after the answer r.
abbrev pub ciphertext_after : LengthOrRefusal → (kind : ℕ) (key nonce «data» message : List ℕ) (t : ℕ) (place : List ℕ) → List ℕ
ciphertext_after r kind key nonce «data» message t place =
    of_kind kind (λ b shortest longest F. left r place (at_front (sealed b (F key) nonce «data» message t).0 place)) place

abbrev pub tag_after : LengthOrRefusal → (kind : ℕ) (key nonce «data» message : List ℕ) (t : ℕ) (place : List ℕ) → List ℕ
tag_after r kind key nonce «data» message t place =
    of_kind kind (λ b shortest longest F. left r place (at_front (sealed b (F key) nonce «data» message t).1 place)) place

-- Opening into a place for the message.
abbrev pub open_answer : (kind : ℕ) (key nonce «data» ciphertext tag place : List ℕ) → LengthOrRefusal
open_answer kind key nonce «data» ciphertext tag place =
    of_kind kind (λ b shortest longest F. answered (open_verdict b shortest longest key nonce «data» ciphertext tag place (opened b (F key) nonce «data» ciphertext tag)) (length ciphertext)) (Err KindMismatch)

-- What that place holds after the answer r.
abbrev pub message_after : LengthOrRefusal → (kind : ℕ) (key nonce ciphertext tag place : List ℕ) → List ℕ
message_after r kind key nonce ciphertext tag place =
    of_kind kind (λ b shortest longest F. opened_place r (deciphered b (F key) nonce (length tag) ciphertext) place) place
