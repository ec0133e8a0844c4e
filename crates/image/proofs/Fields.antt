-- The fields of an image: an image taken apart, and put together again. Assumes nothing.
use Rattle.std.proofs.Common.{◌≡◌, ℕ, ◌+◌, ◌*◌, ◌/◌, ◌%◌, ◌^◌, ◌<◌, ◌≤◌, List, [], ◌∷◌, ◌++◌, map, length, get_or, take, drop, sym, refl, ap, ◌∙◌, ap₂, arith}
use Rattle.std.specs.List.{range_with_len}
use Rattle.std.specs.Int.Digits.{AllBelowBase}
use Rattle.std.proofs.ByRecursion.{All-get_or}
use Rattle.std.proofs.lemmas.List.{append_assoc, length-append, length-take-le, length-drop, take_at, drop_at, drop-drop, take_all}
use Rattle.compression.specs.Words.{from_be, to_be}
use Rattle.compression.proofs.WordBytes.{cut}
use Rattle.image.specs.declared.label.Label.{Label}
use Rattle.image.specs.Image.{nonce, front, number_at, label_of, kind_of, header_length, message_length, header_of, ciphertext_of, tag_of, ciphertext_at, tag_at}
use Rattle.image.specs.Open.{nonce_of, data_of}
use Rattle.image.proofs.Accepted.{Accepted, parts_are_the_image}

-- four bytes and their number
number_back : (n : ℕ) → n < 2 ^ 32 → from_be (to_be 4 n) ≡ n
number_back n h =
    let high : n / 65536 ≡ n / 16777216 * 256 + n / 65536 % 256 = omega arith in
    let low : n / 256 ≡ n / 65536 * 256 + n / 256 % 256 = omega arith in
    let top : n / 16777216 % 256 ≡ n / 16777216 = omega arith in
    omega arith

bytes_back : (x y z v : ℕ) → x < 256 → y < 256 → z < 256 → v < 256 → to_be 4 (from_be (x ∷ y ∷ z ∷ v ∷ [])) ≡ x ∷ y ∷ z ∷ v ∷ []
bytes_back x y z v hx hy hz hv =
    let n : ℕ = from_be (x ∷ y ∷ z ∷ v ∷ []) in
    let ex : get_or (to_be 4 n) 0 0 ≡ x = omega arith in
    let ey : get_or (to_be 4 n) 1 0 ≡ y = omega arith in
    let ez : get_or (to_be 4 n) 2 0 ≡ z = omega arith in
    let ev : get_or (to_be 4 n) 3 0 ≡ v = omega arith in
    cc

-- An image taken apart, where its ciphertext C has w bytes and its tag T has 16.
abbrev pub made : (kind : ℕ) (l : Label) (header C T : List ℕ) → List ℕ
made kind l header C T = front kind l header (length C) ++ (C ++ T)

pub record Apart (kind : ℕ) (l : Label) (header C T I : List ℕ) : Type 0 where
  pub long : length I ≡ 32 + length header + length C
  pub kind_is : kind_of I ≡ kind
  pub header_long : header_length I ≡ length header
  pub message_long : message_length I ≡ length C
  pub header_is : header_of I ≡ header
  pub ciphertext_is : ciphertext_of I ≡ C
  pub tag_is : tag_of I ≡ T
  pub nonce_is : nonce_of I ≡ nonce l
  pub data_is : data_of I ≡ front kind l header (length C)

pub apart : (kind : ℕ) (l : Label) (header C T : List ℕ) → length T ≡ 16 → Apart kind l header C T (made kind l header C T)
apart kind l header C T t_long =
    let I : List ℕ = made kind l header C T in
    let at_ciphertext : drop (16 + length header) I ≡ C ++ T = sym (drop-drop (length header) 16 I) ∙ drop_at header (C ++ T) (length header) refl in
    let at_tag : drop (16 + length header + length C) I ≡ T =
    sym (drop-drop (length C) (16 + length header) I) ∙ ap (drop (length C)) at_ciphertext ∙ drop_at C T (length C) refl in
    record {
      long = simp length-append (omega arith);
      kind_is = refl;
      header_long = refl;
      message_long = refl;
      header_is = take_at header (C ++ T) (length header) refl;
      ciphertext_is = ap (take (length C)) at_ciphertext ∙ take_at C T (length C) refl;
      tag_is = ap (take 16) at_tag ∙ take_all 16 T (omega arith);
      nonce_is = refl;
      data_is = take_at (front kind l header (length C)) (C ++ T) (16 + length header) (omega arith);
    }

pub label_back : (kind : ℕ) (l : Label) (header C T : List ℕ) → l.site < 2 ^ 32 → l.block < 2 ^ 32 → l.code < 2 ^ 32 → label_of (made kind l header C T) ≡ l
label_back kind l header C T site block code = rw (number_back l.site site) (rw (number_back l.block block) (rw (number_back l.code code) refl))

-- Put together again, where all bytes are below 256.
bytes_at : (at : ℕ) (I : List ℕ) → at + 4 ≤ length I → AllBelowBase 256 I → to_be 4 (number_at at I) ≡ map (λ k. get_or I (at + k) 0) (range_with_len 0 4)
bytes_at at I fits bytes =
    let byte : (k : ℕ) → k < 4 → get_or I (at + k) 0 < 256 = λ k h. All-get_or _ I (at + k) 0 (omega arith) bytes in
    ap (λ x. to_be 4 (from_be x)) (cut 4 at I fits)
    ∙ bytes_back (get_or I (at + 0) 0) (get_or I (at + 1) 0) (get_or I (at + 2) 0) (get_or I (at + 3) 0) (byte 0 (omega arith)) (byte 1 (omega arith)) (byte 2 (omega arith)) (byte 3 (omega arith))

module _ (I : List ℕ) (fits : 32 ≤ length I) (bytes : AllBelowBase 256 I) where
  nonce_bytes : nonce (label_of I) ≡ map (λ k. get_or I (1 + k) 0) (range_with_len 0 12)
  nonce_bytes =
      ap₂ ◌++◌ (bytes_at 1 I (omega arith) bytes) (ap₂ ◌++◌ (bytes_at 5 I (omega arith) bytes) (bytes_at 9 I (omega arith) bytes))

  pub nonce_together : nonce_of I ≡ nonce (label_of I)
  nonce_together = cut 12 1 I (omega arith) ∙ sym nonce_bytes

  front_together : (H : List ℕ) → length H ≡ header_length I → front (kind_of I) (label_of I) H (message_length I) ≡ take 16 I ++ H
  front_together H long =
      ap₂ (λ x n. kind_of I ∷ (x ++ (get_or I 13 0 ∷ n ∷ message_length I ∷ H))) nonce_bytes long
      ∙ ap (λ x. x ++ H) (sym (cut 16 0 I (omega arith)))

pub header_long : (kind : ℕ) (I : List ℕ) → Accepted kind I → length (header_of I) ≡ header_length I
header_long kind I is = length-take-le (header_length I) (drop 16 I) (simp length-drop (omega arith))

pub ciphertext_long : (kind : ℕ) (I : List ℕ) → Accepted kind I → length (ciphertext_of I) ≡ message_length I
ciphertext_long kind I is = length-take-le (message_length I) (drop (ciphertext_at I) I) (simp length-drop (omega arith))

pub tag_long : (kind : ℕ) (I : List ℕ) → Accepted kind I → length (tag_of I) ≡ 16
tag_long kind I is = length-take-le 16 (drop (tag_at I) I) (simp length-drop (omega arith))

pub data_long : (kind : ℕ) (I : List ℕ) → Accepted kind I → length (data_of I) ≡ 16 + header_length I
data_long kind I is = length-take-le (16 + header_length I) I (omega arith)

pub nonce_long : (kind : ℕ) (I : List ℕ) → Accepted kind I → length (nonce_of I) ≡ 12
nonce_long kind I is = length-take-le 12 (drop 1 I) (simp length-drop (omega arith))

module _ (kind : ℕ) (I : List ℕ) (is : Accepted kind I) (bytes : AllBelowBase 256 I) where
  front_is : front kind (label_of I) (header_of I) (message_length I) ≡ take 16 I ++ header_of I
  front_is =
      ap (λ k. front k (label_of I) (header_of I) (message_length I)) (sym is.kind_is)
      ∙ front_together I (omega arith) bytes (header_of I) (header_long kind I is)

  pub together : front kind (label_of I) (header_of I) (message_length I) ++ (ciphertext_of I ++ tag_of I) ≡ I
  together = ap (λ x. x ++ (ciphertext_of I ++ tag_of I)) front_is ∙ append_assoc (take 16 I) (header_of I) _ ∙ parts_are_the_image kind I is

  pub data_together : data_of I ≡ front kind (label_of I) (header_of I) (message_length I)
  data_together =
      let front_long : length (front kind (label_of I) (header_of I) (message_length I)) ≡ 16 + header_length I = omega (arith, header_long kind I is) in
      ap (take (16 + header_length I)) (sym together) ∙ take_at (front kind (label_of I) (header_of I) (message_length I)) _ (16 + header_length I) front_long
