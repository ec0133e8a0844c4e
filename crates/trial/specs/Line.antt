-- What a line asks. Assumes nothing.
use Rattle.std.specs.Prelude.{ℕ, ◌+◌, ◌-◌, ◌*◌, List, length, take, drop, Some, None, fold, Option, ◌&&◌, ◌==◌, nat_le, slice_index, if◌then◌else◌}
use Rattle.std.specs.Option.{option_map, option_and_then}
use Rattle.std.specs.Char.{is_ascii_digit}
use Rattle.std.specs.List.{prefix_len}
use Rattle.trial.specs.declared.request.Request.{Request}
use Rattle.trial.specs.declared.request.Request.TheVariants.{Reserve, GiveBack, Void}

-- The number that decimal digits write.
abbrev pub digit : ℕ → ℕ → ℕ
digit n d = n * 10 + (d - 48)

abbrev pub value : List ℕ → ℕ
value ds = fold digit 0 ds

-- What follows a space at the front.
abbrev pub after_space : List ℕ → Option (List ℕ)
after_space bs = (if slice_index bs 0 == 32 then Some (drop 1 bs) else None)

-- A number of 1 to 5 digits at the front, and what follows it; n is how many digits there are.
abbrev pub field_of : ℕ → List ℕ → Option (ℕ × List ℕ)
field_of n bs = (if nat_le 1 n && nat_le n 5 then Some (value (take n bs), drop n bs) else None)

abbrev pub leading_field : List ℕ → Option (ℕ × List ℕ)
leading_field bs = field_of (prefix_len is_ascii_digit bs) bs

-- The number, where nothing follows it.
abbrev pub at_end : ℕ → List ℕ → Option ℕ
at_end n bs = (if length bs == 0 then Some n else None)

-- The number of a last field, from the space before it on.
abbrev pub last_field : List ℕ → Option ℕ
last_field bs = option_and_then (λ f. at_end f.0 f.1) (option_and_then leading_field (after_space bs))

-- After the letter l (82 is R, 71 is G, 86 is V) and the station k.
abbrev pub by_letter : ℕ → ℕ → List ℕ → Option Request
by_letter l k bs =
    (if l == 82 then option_map (Reserve k) (last_field bs) else
    (if l == 71 then option_map (GiveBack k) (last_field bs) else
    (if l == 86 then option_map Void (at_end k bs) else None)))

abbrev pub after_letter : ℕ → List ℕ → Option Request
after_letter l bs = option_and_then (λ f. by_letter l f.0 f.1) (leading_field bs)

-- A letter, a space, a station, and what the letter asks for; 200 bytes at most. Any other line asks nothing.
abbrev pub parsed : List ℕ → Option Request
parsed bs = (if nat_le (length bs) 200 then option_and_then (after_letter (slice_index bs 0)) (after_space (drop 1 bs)) else None)
