-- What is known of an image that a look accepts. Assumes nothing.
use Rattle.std.proofs.Common.{◌≡◌, ℕ, ◌+◌, ◌≤◌, true, false, List, ◌++◌, length, take, drop, Ok, sym, ap, ◌∙◌, arith, length-drop}
use Rattle.std.proofs.lemmas.List.{take_all, take-append-drop, drop-drop}
use Rattle.std.proofs.lemmas.Bool.Decides.{nat_tests}
use Rattle.image.specs.Image.{fixed_bytes, kind_of, label_of, header_length, message_length, header_of, ciphertext_of, tag_of}
use Rattle.image.specs.Look.{known, unlawful, look_verdict}

pub record Accepted (kind : ℕ) (I : List ℕ) : Type 0 where
  pub header : header_length I ≤ 64
  pub message : message_length I ≤ 96
  pub long : length I ≡ 32 + header_length I + message_length I
  pub kind_is : kind_of I ≡ kind
  pub is_known : known kind ≡ true
  pub lawful : unlawful (label_of I) ≡ false

pub accepted : (kind : ℕ) (I : List ℕ) → look_verdict kind I ≡ Ok tt → Accepted kind I
accepted kind I ok = record {
  header = grind (arith, nat_tests);
  message = grind (arith, nat_tests);
  long = grind (arith, nat_tests);
  kind_is = grind (arith, nat_tests);
  is_known = grind (arith, nat_tests);
  lawful = grind (arith, nat_tests);
}

-- a list cut in four
next_cut : (I : List ℕ) (a h : ℕ) → take h (drop a I) ++ drop (a + h) I ≡ drop a I
next_cut I a h = ap (λ x. take h (drop a I) ++ x) (sym (drop-drop h a I)) ∙ take-append-drop h (drop a I)

cut_in_four : (I : List ℕ) (a h w t : ℕ) → length I ≡ a + h + w + t → take a I ++ (take h (drop a I) ++ (take w (drop (a + h) I) ++ take t (drop (a + h + w) I))) ≡ I
cut_in_four I a h w t long =
    let rest : take t (drop (a + h + w) I) ≡ drop (a + h + w) I = take_all t (drop (a + h + w) I) (simp length-drop (omega arith)) in
    rw rest (rw (next_cut I (a + h) w) (rw (next_cut I a h) (take-append-drop a I)))

pub parts_are_the_image : (kind : ℕ) (I : List ℕ) → Accepted kind I → take fixed_bytes I ++ (header_of I ++ (ciphertext_of I ++ tag_of I)) ≡ I
parts_are_the_image kind I is = cut_in_four I fixed_bytes (header_length I) (message_length I) 16 (omega arith)
