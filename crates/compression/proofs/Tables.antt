-- A test that is computed over a whole table and read at one place. Assumes nothing.
use Rattle.std.proofs.Common.{◌≡◌, ℕ, zero, suc, ◌<◌, Bool, true, ◌&&◌, sym, subst, inl, inr, arith}
use Rattle.std.proofs.lemmas.Bool.{and_parts, cases_order}

-- the test f passes at each number below n
unfoldable pub below : (ℕ → Bool) → ℕ → Bool
below f zero = true
below f (suc n) = below f n && f n

pub at : (f : ℕ → Bool) (n : ℕ) → below f n ≡ true → (k : ℕ) → k < n → f k ≡ true
unfolding below
at f zero t k h = absurd (omega arith)
at f (suc n) t k h =
    let both : (below f n ≡ true) × (f n ≡ true) = and_parts (below f n) (f n) t in
    elim (cases_order k n) [ inl e ↦ subst (λ x. f x ≡ true) (sym e) both.1 | inr o ↦ elim o [ inl l ↦ at f n both.0 k l | inr g ↦ absurd (omega arith) ] ]
