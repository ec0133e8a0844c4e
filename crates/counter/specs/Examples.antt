-- Worked examples: a block of 10 codes with two stations, guarantee 4 and limit 6 each; and with them those of sealing.
-- Assumes nothing.
use Rattle.std.specs.Prelude.{ℕ, List, [], ◌∷◌, ◌++◌, replicate, Ok, Err}
use Rattle.refusal.specs.Number.{number}
use Rattle.sealing.specs.Examples.{Example, Hold, sealing_examples}
use Rattle.counter.specs.Cells.{blank_code, blank_record}
use Rattle.counter.specs.Ledger.{Terms, Ledger, Call, Reserve, GiveBack, Draw, Answer, fresh, answer, after}
use Rattle.counter.specs.Opened.{terms}

-- The block, opened with kind 1, site 1, number 1, a key of 32 zero bytes and four register cells.
abbrev pub P : Terms
P = terms (record { kind = 1; shortest = 16; longest = 32; site = 1; number = 1; key = replicate 32 0; codes = replicate 10 blank_code; register = replicate 4 blank_record; stations = record { guarantee = 4; limit = 6 } ∷ record { guarantee = 4; limit = 6 } ∷ [] })

-- The ledger after some calls.
abbrev pub after_calls : Ledger → List Call → Ledger
after_calls l [] = l
after_calls l (c ∷ cs) = after_calls (after P l c) cs

-- An answer as numbers: 0 and the value, or the refusal's number and 0.
abbrev pub in_numbers : Answer → List ℕ
in_numbers (Ok n) = 0 ∷ n ∷ []
in_numbers (Err r) = number r ∷ 0 ∷ []

-- What a call answers after some calls on the fresh block, and behind it the codes that a row lists then.
abbrev pub tried : (before : List Call) (call : Call) (row : ℕ) → List ℕ
tried before call row =
    in_numbers (answer P (after_calls (fresh P) before) call) ++ (after P (after_calls (fresh P) before) call).row row

abbrev pub six_reserved : List Call
six_reserved = Reserve 1 6 ∷ []

abbrev pub book_examples : List Example
book_examples =
    (tried [] (Reserve 1 6) 1, 0 ∷ 4 ∷ 6 ∷ 5 ∷ 4 ∷ 3 ∷ 2 ∷ 1 ∷ [])
    ∷ (tried six_reserved (Reserve 2 6) 2, 10 ∷ 0 ∷ [])
    ∷ (tried six_reserved (Reserve 2 4) 2, 0 ∷ 0 ∷ 10 ∷ 9 ∷ 8 ∷ 7 ∷ [])
    ∷ (tried six_reserved (Reserve 1 1) 1, 9 ∷ 0 ∷ 6 ∷ 5 ∷ 4 ∷ 3 ∷ 2 ∷ 1 ∷ [])
    ∷ (tried [] (Reserve 1 0) 1, 7 ∷ 0 ∷ [])
    ∷ (tried [] (Draw 2) 2, 11 ∷ 0 ∷ [])
    ∷ (tried six_reserved (Draw 1) 1, 0 ∷ 6 ∷ 5 ∷ 4 ∷ 3 ∷ 2 ∷ 1 ∷ [])
    ∷ (tried six_reserved (GiveBack 1 2) 0, 0 ∷ 6 ∷ 5 ∷ 6 ∷ 7 ∷ 8 ∷ 9 ∷ 10 ∷ [])
    ∷ (tried six_reserved (GiveBack 1 7) 1, 8 ∷ 0 ∷ 6 ∷ 5 ∷ 4 ∷ 3 ∷ 2 ∷ 1 ∷ [])
    ∷ []

-- All of them give what is expected.
abbrev pub ExamplesHold : Type 0
ExamplesHold = Hold (sealing_examples ++ book_examples)
