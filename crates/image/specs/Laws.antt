-- What looking at, building and opening card images promise, in words of the subject. Assumes nothing.
use Rattle.std.specs.Prelude.{◌≡◌, ℕ, ◌≤◌, true, false, List, ◌++◌, length, take, Some, Ok, Result}
use Rattle.refusal.specs.declared.Refusal.{Refusal}
use Rattle.sealing.specs.Laws.{Answers}
use Rattle.image.specs.declared.label.Label.{Label}
use Rattle.image.specs.Image.{longest_header, longest_message, fixed_bytes, image, label_of, header_of, ciphertext_of, tag_of}
use Rattle.image.specs.Look.{known, unlawful, look_verdict}
use Rattle.compression.specs.Compress.{key_verdict}
use Rattle.image.specs.Open.{opened_image}

-- The parts of an image that a look accepts lie behind one another, and end where the image ends.
abbrev pub PartsAreTheImage : (kind : ℕ) (I : List ℕ) → Type 0
PartsAreTheImage kind I = look_verdict kind I ≡ Ok tt → take fixed_bytes I ++ (header_of I ++ (ciphertext_of I ++ tag_of I)) ≡ I

-- An image that was built, with the compression of a known kind, from a label with lawful numbers, a header and a message
-- within their limits is accepted by a look for its kind, shows its label and its header, and opens under its key to its
-- message.
pub record BuiltIsRead (kind b : ℕ) (F : List ℕ → List ℕ → List ℕ) (l : Label) (header message : List ℕ) : Type 0 where
  pub looked_at : look_verdict kind (image kind b F l header message) ≡ Ok tt
  pub shows_label : label_of (image kind b F l header message) ≡ l
  pub shows_header : header_of (image kind b F l header message) ≡ header
  pub opens : opened_image b F (image kind b F l header message) ≡ Some message

abbrev pub BuiltImagesAreRead : (kind b : ℕ) (F : List ℕ → List ℕ → List ℕ → List ℕ) → (key : List ℕ) (l : Label) (header message : List ℕ) → Type 0
BuiltImagesAreRead kind b F key l header message =
    known kind ≡ true → unlawful l ≡ false → length header ≤ longest_header → length message ≤ longest_message → BuiltIsRead kind b (F key) l header message

-- Opening an image I, into a place long enough, answers a message exactly when I is the image that building it from its own
-- label and header and that message gives: `place` is what the place held before, and `after` what it holds after.
pub record OpensWhatWasBuilt (kind b shortest longest : ℕ) (F : List ℕ → List ℕ → List ℕ → List ℕ) (key I place : List ℕ) (r : Result ℕ Refusal) (after : List ℕ) : Type 0 where
  pub answered_was_built : (M : List ℕ) → Answers r after M → (look_verdict kind I ≡ Ok tt) × (I ≡ image kind b (F key) (label_of I) (header_of I) M)
  pub built_is_answered : (M : List ℕ) → key_verdict shortest longest key ≡ Ok tt → look_verdict kind I ≡ Ok tt → I ≡ image kind b (F key) (label_of I) (header_of I) M → length M ≤ length place → Answers r after M
