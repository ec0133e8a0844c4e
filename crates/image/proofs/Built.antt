-- An image that was built is read again. Assumes nothing.
use Rattle.std.proofs.Common.{◌≡◌, ℕ, ◌+◌, ◌^◌, ◌<◌, ◌≤◌, true, false, List, ◌++◌, length, take, drop, Some, sym, ap, ◌∙◌, ap₂, arith}
use Rattle.std.proofs.lemmas.List.{take_at}
use Rattle.std.proofs.lemmas.Bool.Decides.{nat_tests}
use Rattle.refusal.specs.Verdict.{at_front}
use Rattle.sealing.specs.Omd.{sealed, opened}
use Rattle.sealing.specs.Laws.{SealingIsLawful}
use Rattle.image.specs.declared.label.Label.{Label}
use Rattle.image.specs.Image.{nonce, front, image, label_of, kind_of, header_length, message_length, ciphertext_of, tag_of}
use Rattle.image.specs.Look.{known, unlawful, wrong_length}
use Rattle.image.specs.Open.{opened_image}
use Rattle.image.specs.Laws.{BuiltIsRead}
use Rattle.image.proofs.Fields.{Apart, apart, made, label_back}
use Rattle.image.proofs.Written.{joined}

-- Where the values of F have b bytes, and a tag of 16 fits.
module _ (kind b : ℕ) (F : List ℕ → List ℕ → List ℕ) (wide : 16 ≤ b) (lawful : SealingIsLawful b F) (l : Label) (header message : List ℕ) where
  abbrev A : List ℕ
  A = front kind l header (length message)

  abbrev C : List ℕ
  C = (sealed b F (nonce l) A message 16).0

  abbrev T : List ℕ
  T = (sealed b F (nonce l) A message 16).1

  pub c_long : length C ≡ length message
  c_long = (lawful.lengths (nonce l) A message 16 wide).0

  pub t_long : length T ≡ 16
  t_long = (lawful.lengths (nonce l) A message 16 wide).1

  pub image_is : image kind b F l header message ≡ made kind l header C T
  unfolding image
  image_is = ap (λ w. front kind l header w ++ (C ++ T)) (sym c_long)

  pub image_apart : Apart kind l header C T (image kind b F l header message)
  image_apart = rw image_is (apart kind l header C T t_long)

  pub data_back : front kind l header (length C) ≡ A
  data_back = ap (front kind l header) c_long

  pub image_opens : opened_image b F (image kind b F l header message) ≡ Some message
  image_opens =
      let I : List ℕ = image kind b F l header message in
      let is = image_apart in
      ap₂ (λ N D. opened b F N D (ciphertext_of I) (tag_of I)) is.nonce_is (is.data_is ∙ data_back)
      ∙ ap₂ (opened b F (nonce l) A) is.ciphertext_is is.tag_is ∙ lawful.sealed_opens (nonce l) A message 16 wide

  pub image_shows : l.site < 2 ^ 32 → l.block < 2 ^ 32 → l.code < 2 ^ 32 → label_of (image kind b F l header message) ≡ l
  image_shows site block code = ap label_of image_is ∙ label_back kind l header C T site block code

  pub built_is_read : l.site < 2 ^ 32 → l.block < 2 ^ 32 → l.code < 2 ^ 32 → known kind ≡ true → unlawful l ≡ false → length header ≤ 64 → length message ≤ 96 → BuiltIsRead kind b F l header message
  built_is_read site block code is_Known fine header_fits message_fits =
      let I : List ℕ = image kind b F l header message in
      let is = image_apart in
      let h : header_length I ≡ length header = is.header_long in
      let w : message_length I ≡ length message = is.message_long ∙ c_long in
      let long : length I ≡ 32 + length header + length message = omega (arith, is.long, c_long) in
      let k : kind_of I ≡ kind = is.kind_is in
      let lengths : wrong_length I ≡ false = grind (arith, nat_tests) in
      let shows : label_of I ≡ l = image_shows site block code in
      let numbers : unlawful (label_of I) ≡ false = ap unlawful shows ∙ fine in
      record { looked_at = grind (arith, nat_tests); shows_label = shows; shows_header = is.header_is; opens = image_opens }

  -- The image, written to a place: its front, and behind it the ciphertext and the tag.
  pub placed : (place p f ct tag : List ℕ) → p ≡ at_front A place → f ≡ take (16 + length header) p → ct ≡ at_front (sealed b F (nonce l) f message 16).0 (take (length message) (drop (16 + length header) p)) → tag ≡ at_front (sealed b F (nonce l) f message 16).1 (drop (length message) (drop (16 + length header) p)) → 32 + length header + length message ≤ length place → f ++ (ct ++ tag) ≡ at_front (image kind b F l header message) place
  unfolding image
  placed place p f ct tag p_is f_is ct_is tag_is fits =
      let n : ℕ = 16 + length header in
      let f_whole : f ≡ A = f_is ∙ ap (take n) p_is ∙ take_at A _ n (omega arith) in
      let rest : List ℕ = drop n p in
      let ct_at : ct ≡ at_front C (take (length message) rest) = ct_is ∙ ap (λ D. at_front (sealed b F (nonce l) D message 16).0 (take (length message) rest)) f_whole in
      let tag_at : tag ≡ at_front T (drop (length message) rest) = tag_is ∙ ap (λ D. at_front (sealed b F (nonce l) D message 16).1 (drop (length message) rest)) f_whole in
      ap (λ x. x ++ (ct ++ tag)) f_is ∙ joined A C T place p ct tag n (length message) (omega arith) c_long (omega arith) p_is ct_at tag_at
