-- What opening answers where only the tag is left to test. Assumes nothing.
use Rattle.std.proofs.Common.{◌≡◌, ℕ, ◌+◌, ◌≤◌, not, List, [], ◌∷◌, length, is_some, nat_lt, Ok, Result, sym, ap, ◌∙◌, ap₂, arith}
use Rattle.std.proofs.lemmas.Bool.{le-ltb, cond-false}
use Rattle.refusal.specs.declared.Refusal.{Refusal}
use Rattle.refusal.specs.declared.Refusal.TheVariants.{PlaceLength, TagMismatch}
use Rattle.refusal.specs.Verdict.{Verdict, judged, then, answered}
use Rattle.sealing.specs.Omd.{opened, deciphered}
use Rattle.sealing.specs.Calls.{opened_place, objections, open_verdict as seal_open_verdict}
use Rattle.image.specs.Image.{header_length, message_length, ciphertext_of, tag_of}
use Rattle.image.specs.Look.{look_verdict}
use Rattle.compression.specs.Compress.{key_verdict}
use Rattle.image.specs.Open.{nonce_of, data_of, opened_image, message_in, open_verdict, open_answer, open_place}
use Rattle.image.proofs.Accepted.{Accepted, accepted}
use Rattle.image.proofs.Fields.{ciphertext_long, tag_long, data_long, nonce_long}
use Rattle.image.proofs.Fitting.{fitting}

module _ (kind b shortest longest : ℕ) (F : List ℕ → List ℕ → List ℕ → List ℕ) (key I place : List ℕ) (ok : key_verdict shortest longest key ≡ Ok tt) (looked : look_verdict kind I ≡ Ok tt) (fits : message_length I ≤ length place) where
  abbrev by_tag : Verdict
  by_tag = judged ((not (is_some (opened_image b (F key) I)), TagMismatch) ∷ [])

  pub past_place : open_verdict kind b shortest longest F key I place ≡ by_tag
  past_place =
      let by_place : Verdict = judged ((nat_lt (length place) (message_length I), PlaceLength) ∷ (not (is_some (opened_image b (F key) I)), TagMismatch) ∷ []) in
      ap (λ v. then v (then (look_verdict kind I) by_place)) ok ∙ ap (λ v. then v by_place) looked ∙ cond-false _ _ _ (le-ltb _ _ fits)

  -- the seal of the image: nothing objects to opening it but the tag
  sealed_verdict : 16 ≤ b → seal_open_verdict b shortest longest key (nonce_of I) (data_of I) (ciphertext_of I) (tag_of I) place (opened_image b (F key) I) ≡ by_tag
  sealed_verdict wide =
      let is : Accepted kind I = accepted kind I looked in
      let c_long : length (ciphertext_of I) ≡ message_length I = ciphertext_long kind I is in
      let a_long : length (data_of I) ≡ 16 + header_length I = data_long kind I is in
      let none : judged (objections b shortest longest key (nonce_of I) (data_of I) (ciphertext_of I) 16 (length place) 16) ≡ Ok tt =
      fitting b shortest longest key (nonce_of I) (data_of I) (ciphertext_of I) (length place) 16 wide ok (nonce_long kind I is) (omega arith) (omega arith) (omega arith) (omega arith) (omega arith) in
      ap (λ t. then (judged (objections b shortest longest key (nonce_of I) (data_of I) (ciphertext_of I) t (length place) t)) by_tag) (tag_long kind I is)
      ∙ ap (λ v. then v by_tag) none

  -- so that is what opening the image answers and leaves
  pub opens : (A C T : List ℕ) (r : Result ℕ Refusal) (after : List ℕ) → 16 ≤ b → A ≡ data_of I → C ≡ ciphertext_of I → T ≡ tag_of I → r ≡ answered (seal_open_verdict b shortest longest key (nonce_of I) A C T place (opened b (F key) (nonce_of I) A C T)) (length C) → after ≡ opened_place r (deciphered b (F key) (nonce_of I) (length T) C) place → (r ≡ open_answer kind b shortest longest F key I place) × (after ≡ open_place kind b shortest longest F key I place)
  opens A C T r after wide a c t is held =
      let N : List ℕ = nonce_of I in
      let answers : List ℕ → List ℕ → List ℕ → Result ℕ Refusal =
      λ A C T. answered (seal_open_verdict b shortest longest key N A C T place (opened b (F key) N A C T)) (length C) in
      let message : deciphered b (F key) N (length T) C ≡ message_in b (F key) I =
      ap₂ (λ k C. deciphered b (F key) N k C) (ap length t ∙ tag_long kind I (accepted kind I looked)) c in
      let answer : r ≡ open_answer kind b shortest longest F key I place =
      is ∙ ap₂ (λ A C. answers A C T) a c ∙ ap (answers (data_of I) (ciphertext_of I)) t ∙ ap₂ answered (sealed_verdict wide ∙ sym past_place) (ciphertext_long kind I (accepted kind I looked)) in
      (answer, held ∙ ap₂ (λ r X. opened_place r X place) answer message)
