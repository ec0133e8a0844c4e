-- What sealing and opening promise, in words of the subject: laws above the definitions of OMD. Assumes nothing.
use Rattle.std.specs.Prelude.{◌≡◌, ℕ, ◌≤◌, List, length, take, Some, Ok, Result}
use Rattle.std.specs.Int.Digits.{AllBelowBase}
use Rattle.refusal.specs.declared.Refusal.{Refusal}
use Rattle.sealing.specs.Omd.{sealed, opened}
use Rattle.sealing.specs.Calls.{seal_verdict}

-- For blocks of b bytes and the compression F under a key, whatever the nonce N, the associated data A and the tag length t:
pub record SealingIsLawful (b : ℕ) (F : List ℕ → List ℕ → List ℕ) : Type 0 where
  -- the ciphertext has the message's length, and the tag the length asked for;
  pub lengths : (N A M : List ℕ) (t : ℕ) → t ≤ b → (length (sealed b F N A M t).0 ≡ length M) × (length (sealed b F N A M t).1 ≡ t)
  -- all bytes;
  pub bytes : (N A M : List ℕ) (t : ℕ) → AllBelowBase 256 M → AllBelowBase 256 (sealed b F N A M t).0 × AllBelowBase 256 (sealed b F N A M t).1
  -- what was sealed opens to itself;
  pub sealed_opens : (N A M : List ℕ) (t : ℕ) → t ≤ b → opened b F N A (sealed b F N A M t).0 (sealed b F N A M t).1 ≡ Some M
  -- what opens to a message was sealed from it;
  pub opened_was_sealed : (N A C T M : List ℕ) → opened b F N A C T ≡ Some M → sealed b F N A M (length T) ≡ (C, T)
  -- and two messages never have the same ciphertext and tag.
  pub never_the_same : (N A M M' : List ℕ) (t : ℕ) → sealed b F N A M t ≡ sealed b F N A M' t → M ≡ M'

-- Sealing the message M, with a tag as long as T and into places as long as C and T, is accepted and gives C and T.
pub record Seals (b shortest longest : ℕ) (F : List ℕ → List ℕ → List ℕ → List ℕ) (key N A M C T : List ℕ) : Type 0 where
  pub accepted : seal_verdict b shortest longest key N A M (length T) C T ≡ Ok tt
  pub gives : sealed b (F key) N A M (length T) ≡ (C, T)

-- Opening answered the message M: its length, and M at the front of the place.
pub record Answers (r : Result ℕ Refusal) (after M : List ℕ) : Type 0 where
  pub answer : r ≡ Ok (length M)
  pub message : take (length M) after ≡ M

-- Opening, into a place long enough, answers a message exactly when sealing that message gives the ciphertext and the tag
-- presented: `place` is what the place held before, and `after` what it holds after.
pub record OpensExactly (b shortest longest : ℕ) (F : List ℕ → List ℕ → List ℕ → List ℕ) (key N A C T place : List ℕ) (r : Result ℕ Refusal) (after : List ℕ) : Type 0 where
  pub answered_was_sealed : (M : List ℕ) → Answers r after M → Seals b shortest longest F key N A M C T
  pub sealed_is_answered : (M : List ℕ) → length M ≤ length place → Seals b shortest longest F key N A M C T → Answers r after M
