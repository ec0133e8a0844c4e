-- Opening answers a message exactly where building it gives the image. Assumes nothing.
use Rattle.std.proofs.Common.{◌≡◌, ℕ, ◌≤◌, Bool, true, not, ltb, List, [], ◌∷◌, ◌++◌, length, take, drop, is_some, Some, Ok, Err, Result, sym, refl, ap, ◌∙◌, ap₂, arith}
use Rattle.std.specs.Int.Digits.{AllBelowBase}
use Rattle.std.proofs.lemmas.List.{take_at}
use Rattle.refusal.specs.declared.Refusal.{Refusal}
use Rattle.refusal.specs.declared.Refusal.TheVariants.{PlaceLength, TagMismatch}
use Rattle.refusal.specs.Verdict.{Verdict, judged, then, answered}
use Rattle.sealing.specs.Omd.{sealed, deciphered}
use Rattle.sealing.specs.Calls.{opened_place}
use Rattle.sealing.specs.Laws.{SealingIsLawful}
use Rattle.sealing.proofs.Laws.{opened_is}
use Rattle.image.specs.declared.label.Label.{Label}
use Rattle.image.specs.Image.{nonce, front, image, label_of, message_length, header_of, ciphertext_of, tag_of}
use Rattle.image.specs.Look.{look_verdict}
use Rattle.compression.specs.Compress.{key_verdict}
use Rattle.image.specs.Open.{nonce_of, data_of, opened_image, message_in, open_verdict, open_answer, open_place}
use Rattle.image.specs.Laws.{OpensWhatWasBuilt}
use Rattle.image.proofs.Accepted.{Accepted, accepted}
use Rattle.image.proofs.Built.{c_long, image_apart, image_opens}
use Rattle.image.proofs.Fields.{ciphertext_long, tag_long, nonce_together, data_together, together}
use Rattle.image.proofs.Opened.{past_place}

pub answered_ok : (v : Verdict) (n m : ℕ) → answered v n ≡ Ok m → (v ≡ Ok tt) × (n ≡ m)
answered_ok (Ok _) n m h = (refl, cc)
answered_ok (Err r) n m h = cc

pub then_ok : (v w : Verdict) → then v w ≡ Ok tt → (v ≡ Ok tt) × (w ≡ Ok tt)
then_ok (Ok _) w h = (refl, h)
then_ok (Err r) w h = cc

judged_ok : (a b : Bool) → judged ((a, PlaceLength) ∷ (not b, TagMismatch) ∷ []) ≡ Ok tt → b ≡ true
judged_ok a b h = grind arith

module _ (kind b : ℕ) (F : List ℕ → List ℕ → List ℕ) (I : List ℕ) (wide : 16 ≤ b) (lawful : SealingIsLawful b F) (is : Accepted kind I) where
  -- the message that an image opens to
  found : is_some (opened_image b F I) ≡ true → opened_image b F I ≡ Some (message_in b F I)
  found some =
      opened_is b F (nonce_of I) (data_of I) (ciphertext_of I) (tag_of I) some
      ∙ ap (λ t. Some (deciphered b F (nonce_of I) t (ciphertext_of I))) (tag_long kind I is)

  gives : is_some (opened_image b F I) ≡ true → sealed b F (nonce_of I) (data_of I) (message_in b F I) 16 ≡ (ciphertext_of I, tag_of I)
  gives some =
      sym (ap (sealed b F (nonce_of I) (data_of I) (message_in b F I)) (tag_long kind I is))
      ∙ lawful.opened_was_sealed (nonce_of I) (data_of I) (ciphertext_of I) (tag_of I) (message_in b F I) (found some)

  message_long : is_some (opened_image b F I) ≡ true → length (message_in b F I) ≡ message_length I
  message_long some =
      sym (lawful.lengths (nonce_of I) (data_of I) (message_in b F I) 16 wide).0 ∙ ap (λ s. length s.0) (gives some) ∙ ciphertext_long kind I is

  -- and the image that building it gives
  built : AllBelowBase 256 I → (M : List ℕ) → is_some (opened_image b F I) ≡ true → message_in b F I ≡ M → message_length I ≡ length M → I ≡ image kind b F (label_of I) (header_of I) M
  unfolding image
  built bytes M some message w =
      let l : Label = label_of I in
      let H : List ℕ = header_of I in
      let A : List ℕ = front kind l H (length M) in
      let a : data_of I ≡ A = data_together kind I is bytes ∙ ap (front kind l H) w in
      let n : nonce_of I ≡ nonce l = nonce_together I (omega arith) bytes in
      let seal : sealed b F (nonce l) A M 16 ≡ (ciphertext_of I, tag_of I) =
      sym (ap₂ (λ N D. sealed b F N D M 16) n a) ∙ sym (ap (λ X. sealed b F (nonce_of I) (data_of I) X 16) message) ∙ gives some in
      sym (together kind I is bytes) ∙ ap (λ k. front kind l H k ++ (ciphertext_of I ++ tag_of I)) w ∙ sym (ap (λ s. A ++ (s.0 ++ s.1)) seal)

pub exactly : (kind b shortest longest : ℕ) (F : List ℕ → List ℕ → List ℕ → List ℕ) (key I place : List ℕ) (r : Result ℕ Refusal) (after : List ℕ) → 16 ≤ b → SealingIsLawful b (F key) → AllBelowBase 256 I → r ≡ open_answer kind b shortest longest F key I place → after ≡ open_place kind b shortest longest F key I place → OpensWhatWasBuilt kind b shortest longest F key I place r after
exactly kind b shortest longest F key I place r after wide lawful bytes verdict held =
    let X : List ℕ = message_in b (F key) I in
    -- what the place holds where opening answers n bytes
    let front_is : (n : ℕ) → r ≡ Ok n → length X ≡ n → take n after ≡ X =
    λ n ok long. ap (take n) (held ∙ ap (λ x. opened_place x X place) (sym verdict ∙ ok)) ∙ take_at X (drop (length X) place) n long in
    record {
      answered_was_built = λ M answers.
          let ok : (open_verdict kind b shortest longest F key I place ≡ Ok tt) × (message_length I ≡ length M) =
          answered_ok (open_verdict kind b shortest longest F key I place) (message_length I) (length M) (sym verdict ∙ answers.answer) in
          let rest = (then_ok (key_verdict shortest longest key) _ ok.0).1 in
          let looked = then_ok (look_verdict kind I) _ rest in
          let is : Accepted kind I = accepted kind I looked.0 in
          let some : is_some (opened_image b (F key) I) ≡ true = judged_ok (ltb (length place) (message_length I)) _ looked.1 in
          let long : length X ≡ length M = message_long kind b (F key) I wide lawful is some ∙ ok.1 in
          let same : X ≡ M = sym (front_is (length M) answers.answer long) ∙ answers.message in
          (looked.0, built kind b (F key) I wide lawful is bytes M some same ok.1);
      built_is_answered = λ M key_ok looked made fits.
          let is : Accepted kind I = accepted kind I looked in
          let w : message_length I ≡ length M = ap message_length made ∙ (image_apart kind b (F key) wide lawful (label_of I) (header_of I) M).message_long ∙ c_long kind b (F key) wide lawful (label_of I) (header_of I) M in
          let opens : opened_image b (F key) I ≡ Some M = ap (opened_image b (F key)) made ∙ image_opens kind b (F key) wide lawful (label_of I) (header_of I) M in
          let some : is_some (opened_image b (F key) I) ≡ true = ap is_some opens in
          let finds = found kind b (F key) I wide lawful is some in
          let same : X ≡ M = cc in
          let accepts : open_verdict kind b shortest longest F key I place ≡ Ok tt =
          past_place kind b shortest longest F key I place key_ok looked (omega arith) ∙ ap (λ t. judged ((not t, TagMismatch) ∷ [])) some in
          let answer : r ≡ Ok (length M) = verdict ∙ ap (λ v. answered v (message_length I)) accepts ∙ ap Ok w in
          record { answer = answer; message = front_is (length M) answer (ap length same) ∙ same };
    }
