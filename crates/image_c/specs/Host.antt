-- What opening a card image answers to programs in other languages. Assumes nothing.
use Rattle.std.specs.Prelude.{ℕ, Ok, Err, Result}
use Rattle.refusal.specs.declared.Refusal.{Refusal}
use Rattle.refusal.specs.Number.{number}
use Rattle.image_c.specs.declared.HurbezkiOpened.{HurbezkiOpened}

-- An answer by numbers: 0 and the length, or the number of the refusal and 0.
abbrev pub by_numbers : Result ℕ Refusal → HurbezkiOpened
by_numbers (Ok n) = record { refusal = 0; length = n }
by_numbers (Err r) = record { refusal = number r; length = 0 }
