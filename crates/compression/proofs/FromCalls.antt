-- Lists made by calls of a closure that changes nothing. Assumes nothing.
use Rattle.std.proofs.Common.{◌≡◌, ℕ, zero, suc, ◌+◌, ◌<◌, List, map, get_or, ◌∙◌, subst, arith}
use denote.Param.Members.{Mut, Called}
use Rattle.std.specs.Array.{IsFromFnResult, IsFromFnResultFrom}
use Rattle.std.specs.List.{range_with_len}
use Rattle.std.proofs.lemmas.List.FromFn.{fill_by_all}

-- where each call at i gives `made i`, so does the list
module _ {F : Type 0} (g : Mut F (ℕ × Unit {0}) ℕ) (f : F) (made : ℕ → ℕ) (gives : (i y : ℕ) (q : F) → Called g f (i, tt) y q → (y ≡ made i) × (q ≡ f)) where
  each : (ys : List ℕ) (i n : ℕ) → IsFromFnResultFrom g f ys i n → (k m : ℕ) → m ≡ i + k → k < n → get_or ys m 0 ≡ made m
  each ys i zero _ k m at h = absurd (omega arith)
  each ys i (suc n) (q, y, element, call, _) zero m at h = let same : m ≡ i = omega arith in rw same (element.1 0 ∙ (gives i y q call).0)
  each ys i (suc n) (q, y, _, call, rest) (suc k) m at h =
      each ys (i + 1) n (subst (λ (x : F). IsFromFnResultFrom g x ys (i + 1) n) (gives i y q call).1 rest) k m (omega arith) (omega arith)

  pub from_calls : (n : ℕ) (ys : List ℕ) → IsFromFnResult g f ys n → ys ≡ map made (range_with_len 0 n)
  from_calls n ys is = fill_by_all made ys n 0 is.long (λ k h. each ys 0 n is.each k k (omega arith) h)
