-- What a request does to a block, and what is printed for it. Assumes nothing.
use Rattle.std.specs.Prelude.{◌≡◌, ℕ, List, ◌∷◌, ◌++◌, Some, None, Option, Ok, Err, Result}
use Rattle.std.specs.Char.{encode_utf8}
use Rattle.std.specs.Fmt.{decimal}
use Rattle.refusal.specs.declared.Refusal.{Refusal}
use Rattle.refusal.specs.Number.{number}
use Rattle.counter.specs.Ledger.{Terms, Ledger, Call, Reserve, GiveBack, Draw, VoidSlip, answer, after}
use Rattle.counter.specs.Shown.{State, Keeps}
use Rattle.counter.specs.History.{numbers, slip_of}
use Rattle.trial.specs.declared.request.Request.{Request}
use Rattle.trial.specs.declared.request.Request.TheVariants.{Reserve as ReserveLine, GiveBack as GiveBackLine, Void as VoidLine}
use Rattle.trial.specs.declared.step.Answer.{Answer}

-- 0 and the answer, or the number of the refusal and 0.
abbrev pub in_numbers : Result ℕ Refusal → ℕ × ℕ
in_numbers (Ok n) = (0, n)
in_numbers (Err r) = (number r, 0)

-- The bytes that are printed for an answer: the letter and the two numbers, with a space (32) before each number.
abbrev pub with_numbers : ℕ → ℕ × ℕ → List ℕ
with_numbers letter ns = encode_utf8 letter ++ (32 ∷ decimal ns.0) ++ (32 ∷ decimal ns.1)

abbrev pub printed : Answer → List ℕ
printed a = with_numbers a.letter (in_numbers a.outcome)

-- The call that makes code x void, with the slip that station k of the block s drew it by.
abbrev pub void_call : State → ℕ → ℕ → Call
void_call s k x = VoidSlip (numbers (slip_of s k x))

-- What is answered after a draw, and the ledger then: where the draw is accepted, those of the void.
abbrev pub void_answer : State → Terms → Ledger → ℕ → Result ℕ Refusal → Result ℕ Refusal
void_answer s o l k (Ok x) = answer o (after o l (Draw k)) (void_call s k x)
void_answer s o l k (Err r) = Err r

abbrev pub void_after : State → Terms → Ledger → ℕ → Result ℕ Refusal → Ledger
void_after s o l k (Ok x) = after o (after o l (Draw k)) (void_call s k x)
void_after s o l k (Err r) = after o l (Draw k)

-- Drawing a code and making it void leads from the block s to t and answers a.
abbrev pub DrawAndVoid : State → ℕ → Result ℕ Refusal → State → Type 0
DrawAndVoid s k a t =
    (o : Terms) (l : Ledger) → Keeps o s l → (a ≡ void_answer s o l k (answer o l (Draw k))) × Keeps o t (void_after s o l k (answer o l (Draw k)))

-- What a line is answered (82 is R, 71 is G, 86 is V and 63 the question mark), and the ledger after it.
abbrev pub answer_to : State → Terms → Ledger → Option Request → Answer
answer_to s o l (Some (ReserveLine k n)) = record { letter = 82; outcome = answer o l (Reserve k n) }
answer_to s o l (Some (GiveBackLine k n)) = record { letter = 71; outcome = answer o l (GiveBack k n) }
answer_to s o l (Some (VoidLine k)) = record { letter = 86; outcome = void_answer s o l k (answer o l (Draw k)) }
answer_to s o l None = record { letter = 63; outcome = Ok 0 }

abbrev pub ledger_after : State → Terms → Ledger → Option Request → Ledger
ledger_after s o l (Some (ReserveLine k n)) = after o l (Reserve k n)
ledger_after s o l (Some (GiveBackLine k n)) = after o l (GiveBack k n)
ledger_after s o l (Some (VoidLine k)) = void_after s o l k (answer o l (Draw k))
ledger_after s o l None = l

-- A line that asks q, or nothing, leads from the block s to t and is answered by a.
abbrev pub Stepped : State → Option Request → Answer → State → Type 0
Stepped s q a t = (o : Terms) (l : Ledger) → Keeps o s l → (a ≡ answer_to s o l q) × Keeps o t (ledger_after s o l q)
