-- An answer as numbers. Assumes nothing.
use Rattle.std.specs.Prelude.{ℕ, Ok, Err, Result}
use Rattle.refusal.specs.declared.Refusal.{Refusal}
use Rattle.refusal.specs.Number.{number}

-- 0 and the length, or the number of the refusal and 0.
abbrev pub in_numbers : Result ℕ Refusal → ℕ × ℕ
in_numbers (Ok n) = (0, n)
in_numbers (Err r) = (number r, 0)
