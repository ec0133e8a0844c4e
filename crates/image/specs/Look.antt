-- When a card image is refused, and what a look at it hands out. Assumes nothing.
use Rattle.std.specs.Prelude.{ℕ, ◌+◌, Bool, not, ◌||◌, List, [], ◌∷◌, length, Ok, Err, Result, ◌==◌, nat_lt}
use Rattle.refusal.specs.declared.Refusal.{Refusal}
use Rattle.refusal.specs.declared.Refusal.TheVariants.{ImageLength, KindMismatch, ImageNumber}
use Rattle.refusal.specs.Verdict.{Verdict, judged}
use Rattle.image.specs.declared.label.Label.{Label}
use Rattle.image.specs.declared.reader.Parts.{Parts}
use Rattle.image.specs.Image.{longest_header, longest_message, kind_of, label_of, header_length, message_length, header_at, ciphertext_at, tag_at, header_of, ciphertext_of, tag_of}

-- The kinds that there is a compression for.
abbrev pub known : (kind : ℕ) → Bool
known kind = kind == 1 || kind == 2

-- The lengths do not add up: an image has 32 bytes, a header of at most 64 and a message of at most 96.
abbrev pub wrong_length : List ℕ → Bool
wrong_length I =
    nat_lt (length I) 32 || nat_lt 192 (length I)
    || nat_lt longest_header (header_length I) || nat_lt longest_message (message_length I)
    || not (length I == 32 + header_length I + message_length I)

-- Numbers that no card has: a zero, a code above 4,096, a station above 8.
abbrev pub unlawful : Label → Bool
unlawful l =
    (l.site == 0) || l.block == 0 || l.code == 0 || l.station == 0 || nat_lt 4096 l.code || nat_lt 8 l.station

-- The verdict of a reader for a kind on an image.
abbrev pub look_verdict : (kind : ℕ) → List ℕ → Verdict
look_verdict kind I =
    judged (
    (wrong_length I, ImageLength)
    ∷ (not (kind_of I == kind) || not (known kind), KindMismatch)
    ∷ (unlawful (label_of I), ImageNumber)
    ∷ [])

-- The parts of an image, each with its place in it.
pub record Shown : Type 0 where
  pub header_at : ℕ
  pub header : List ℕ
  pub ciphertext_at : ℕ
  pub ciphertext : List ℕ
  pub tag_at : ℕ
  pub tag : List ℕ

abbrev pub shown_in : List ℕ → Shown
shown_in I = record { header_at = header_at I; header = header_of I; ciphertext_at = ciphertext_at I; ciphertext = ciphertext_of I; tag_at = tag_at I; tag = tag_of I }

-- What the parts that a look answers are: their places and their bytes.
abbrev pub shown_parts : Parts → Shown
shown_parts p = record { header_at = p.header.at; header = p.header.bytes.now; ciphertext_at = p.ciphertext.at; ciphertext = p.ciphertext.bytes.now; tag_at = p.tag.at; tag = p.tag.bytes.now }

abbrev pub shown : Result Parts Refusal → Result Shown Refusal
shown (Ok p) = Ok (shown_parts p)
shown (Err r) = Err r
