-- How a call is refused or accepted, what it answers, and what memory holds after it. Assumes nothing.
use Rattle.std.specs.Prelude.{ℕ, Bool, cond, List, [], ◌∷◌, ◌++◌, length, drop, Ok, Err, Result}
use Rattle.refusal.specs.declared.Refusal.{Refusal}
use Rattle.refusal.specs.Number.{number}

-- A call is accepted, or refused for one reason.
abbrev pub Verdict : Type 0
Verdict = Result (Unit {0}) Refusal

-- The objections to a call, in order, each with its test: the first that applies refuses the call.
abbrev pub judged : List (Bool × Refusal) → Verdict
judged [] = Ok tt
judged (o ∷ os) = cond o.0 (Err o.1) (judged os)

-- A verdict, and where it accepts, the next one.
abbrev pub then : Verdict → Verdict → Verdict
then (Ok _) next = next
then (Err r) next = Err r

-- What a call answers that has something to answer where it is accepted.
abbrev pub answered : {A : Type 0} → Verdict → A → Result A Refusal
answered (Ok _) answer = Ok answer
answered (Err r) answer = Err r

-- What a call answered as a number: 0 where it was accepted, else the number of its refusal.
abbrev pub code : {A : Type 0} → Result A Refusal → ℕ
code (Ok _) = 0
code (Err r) = number r

-- What memory holds after a call: `written` where it was accepted, and as it was `found` where it was refused.
abbrev pub left : {A X : Type 0} → Result A Refusal → (found written : X) → X
left (Ok _) found written = written
left (Err _) found written = found

-- What a place holds after bytes are written at its front: the rest of it stays.
abbrev pub at_front : (written place : List ℕ) → List ℕ
at_front written place = written ++ drop (length written) place
