-- What opening answers is short. Assumes nothing.
use Rattle.std.proofs.Common.{◌≡◌, ℕ, ◌≤◌, Bool, true, false, cond, eqb, List, Ok, Result, arith}
use Rattle.refusal.specs.declared.Refusal.{Refusal}
use Rattle.compression.specs.Keyed.{sha256, blake2b}
use Rattle.image.specs.Image.{message_length}
use Rattle.image.specs.Look.{look_verdict}
use Rattle.compression.specs.Compress.{key_verdict}
use Rattle.image.specs.Open.{open_verdict, open_answer, answer_by_kind}
use Rattle.image.proofs.Accepted.{accepted}
use Rattle.image.proofs.Exact.{answered_ok, then_ok}

short : (kind b shortest longest : ℕ) (F : List ℕ → List ℕ → List ℕ → List ℕ) (key I place : List ℕ) (n : ℕ) → open_answer kind b shortest longest F key I place ≡ Ok n → n ≤ 96
short kind b shortest longest F key I place n is =
    let ok = answered_ok (open_verdict kind b shortest longest F key I place) (message_length I) n is in
    let rest = (then_ok (key_verdict shortest longest key) _ ok.0).1 in
    let looked = then_ok (look_verdict kind I) _ rest in
    omega (arith, (accepted kind I looked.0).message, ok.1)

-- one of two answers
picked : (t : Bool) (x y : Result ℕ Refusal) (n : ℕ) → (x ≡ Ok n → n ≤ 96) → (y ≡ Ok n → n ≤ 96) → cond t x y ≡ Ok n → n ≤ 96
picked true x y n first second is = first is
picked false x y n first second is = second is

pub short_by_kind : (kind : ℕ) (key I place : List ℕ) (n : ℕ) → answer_by_kind kind key I place ≡ Ok n → n ≤ 96
short_by_kind kind key I place n =
    picked (eqb kind 1) _ _ n (short 1 32 16 32 sha256 key I place n)
    (picked (eqb kind 2) _ _ n (short 2 64 16 64 blake2b key I place n)
    (λ is. omega (arith, (answered_ok (look_verdict kind I) 0 n is).1)))
