-- The card image: the bytes that are written to a card. Assumes nothing.
use Rattle.std.specs.Prelude.{ℕ, ◌+◌, List, ◌∷◌, ◌++◌, length, take, drop, slice_index}
use Rattle.compression.specs.Words.{from_be, to_be}
use Rattle.sealing.specs.Omd.{sealed}
use Rattle.image.specs.declared.label.Label.{Label}

-- The longest header and the longest message on a card, the bytes before the header, and those of the tag.
abbrev pub longest_header : ℕ
longest_header = 64

abbrev pub longest_message : ℕ
longest_message = 96

abbrev pub fixed_bytes : ℕ
fixed_bytes = 16

abbrev pub tag_bytes : ℕ
tag_bytes = 16

-- The nonce of a card's seal: site, block and code, four bytes each, big-endian.
abbrev pub nonce : Label → List ℕ
nonce l = to_be 4 l.site ++ (to_be 4 l.block ++ to_be 4 l.code)

-- What stands before the ciphertext of w bytes: the kind, the nonce, the station, the lengths of header and message, and the
-- header. It is the associated data of the seal.
abbrev pub front : (kind : ℕ) → Label → (header : List ℕ) (w : ℕ) → List ℕ
front kind l header w = kind ∷ (nonce l ++ (l.station ∷ length header ∷ w ∷ header))

-- The image of a label, a header and a message under the compression F, keyed, of blocks of b bytes: the front, the
-- ciphertext and the tag.
unfoldable pub image : (kind b : ℕ) (F : List ℕ → List ℕ → List ℕ) → Label → (header message : List ℕ) → List ℕ
image kind b F l header message =
    front kind l header (length message)
    ++ ((sealed b F (nonce l) (front kind l header (length message)) message tag_bytes).0
    ++ (sealed b F (nonce l) (front kind l header (length message)) message tag_bytes).1)

-- The fields of the bytes of an image I.
abbrev pub kind_of : List ℕ → ℕ
kind_of I = slice_index I 0

-- the number in four bytes from `at` on
abbrev pub number_at : ℕ → List ℕ → ℕ
number_at at I = from_be (take 4 (drop at I))

abbrev pub label_of : List ℕ → Label
label_of I = record { site = number_at 1 I; block = number_at 5 I; code = number_at 9 I; station = slice_index I 13 }

abbrev pub header_length : List ℕ → ℕ
header_length I = slice_index I 14

abbrev pub message_length : List ℕ → ℕ
message_length I = slice_index I 15

-- Its parts behind the fixed bytes: where each begins, and its bytes.
abbrev pub header_at : List ℕ → ℕ
header_at I = fixed_bytes

abbrev pub ciphertext_at : List ℕ → ℕ
ciphertext_at I = fixed_bytes + header_length I

abbrev pub tag_at : List ℕ → ℕ
tag_at I = fixed_bytes + header_length I + message_length I

abbrev pub header_of : List ℕ → List ℕ
header_of I = take (header_length I) (drop (header_at I) I)

abbrev pub ciphertext_of : List ℕ → List ℕ
ciphertext_of I = take (message_length I) (drop (ciphertext_at I) I)

abbrev pub tag_of : List ℕ → List ℕ
tag_of I = take tag_bytes (drop (tag_at I) I)
