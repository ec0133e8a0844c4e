-- Opening answers a message exactly where sealing it gives what was presented. Assumes nothing.
use Rattle.std.proofs.Common.{◌≡◌, ℕ, ◌≤◌, true, List, length, take, drop, is_some, Some, Ok, Err, Option, Result, sym, refl, ap, ◌∙◌, subst, arith}
use Rattle.std.proofs.lemmas.List.{take_at}
use Rattle.std.proofs.lemmas.Bool.Decides.{nat_tests}
use Rattle.refusal.specs.declared.Refusal.{Refusal}
use Rattle.refusal.specs.Verdict.{Verdict, answered}
use Rattle.sealing.specs.declared.omd.Way.TheVariants.{Opening}
use Rattle.sealing.specs.Omd.{other_text, opened, sealed}
use Rattle.sealing.specs.Calls.{seal_verdict, open_verdict, opened_place}
use Rattle.sealing.specs.Laws.{SealingIsLawful, OpensExactly}
use Rattle.sealing.proofs.Laws.{opened_is}

answered_ok : (v : Verdict) (n m : ℕ) → answered v n ≡ Ok m → (v ≡ Ok tt) × (n ≡ m)
answered_ok (Ok _) n m h = (refl, cc)
answered_ok (Err r) n m h = let z : ◌≡◌ {A = ℕ} 0 1 = cc in absurd (omega arith)

pub exactly : (b shortest longest : ℕ) (F : List ℕ → List ℕ → List ℕ → List ℕ) (key N A C T place : List ℕ) (r : Result ℕ Refusal) (after : List ℕ) → SealingIsLawful b (F key) → r ≡ answered (open_verdict b shortest longest key N A C T place (opened b (F key) N A C T)) (length C) → after ≡ opened_place r (other_text b (F key) Opening N (length T) C) place → OpensExactly b shortest longest F key N A C T place r after
exactly b shortest longest F key N A C T place r after lawful verdict held =
    let t : ℕ = length T in
    let X : List ℕ = other_text b (F key) Opening N t C in
    let found : Option (List ℕ) = opened b (F key) N A C T in
    -- what the place holds where opening answers n bytes
    let front : (n : ℕ) → r ≡ Ok n → length X ≡ n → take n after ≡ X =
    λ n ok long. ap (take n) (held ∙ ap (λ x. opened_place x X place) ok) ∙ take_at X (drop (length X) place) n long in
    record {
      answered_was_sealed = λ M answers.
          let ok : (open_verdict b shortest longest key N A C T place found ≡ Ok tt) × (length C ≡ length M) =
          answered_ok (open_verdict b shortest longest key N A C T place found) (length C) (length M) (sym verdict ∙ answers.answer) in
          let accepted : seal_verdict b shortest longest key N A M t C T ≡ Ok tt = grind (arith, nat_tests) in
          let some : is_some found ≡ true = grind (arith, nat_tests) in
          let gives : sealed b (F key) N A X t ≡ (C, T) = lawful.opened_was_sealed N A C T X (opened_is b (F key) N A C T some) in
          let within : t ≤ b = grind (arith, nat_tests) in
          let long : length X ≡ length M = sym (lawful.lengths N A X t within).0 ∙ ap (λ s. length s.0) gives ∙ ok.1 in
          let is : X ≡ M = sym (front (length M) answers.answer long) ∙ answers.message in
          record { accepted = accepted; gives = subst (λ Y. sealed b (F key) N A Y t ≡ (C, T)) is gives };
      sealed_is_answered = λ M fits seals.
          let within : t ≤ b = grind (arith, nat_tests) in
          let long : length C ≡ length M = ap (λ s. length s.0) (sym seals.gives) ∙ (lawful.lengths N A M t within).0 in
          let opens : found ≡ Some M = ap (λ s. opened b (F key) N A s.0 s.1) (sym seals.gives) ∙ lawful.sealed_opens N A M t within in
          let some : is_some found ≡ true = ap is_some opens in
          let same : found ≡ Some X = opened_is b (F key) N A C T some in
          let is : X ≡ M = cc in
          let accepted : open_verdict b shortest longest key N A C T place found ≡ Ok tt = grind (arith, nat_tests) in
          let answer : r ≡ Ok (length M) = verdict ∙ ap (λ v. answered v (length C)) accepted ∙ ap Ok long in
          record { answer = answer; message = front (length M) answer (ap length is) ∙ is };
    }
