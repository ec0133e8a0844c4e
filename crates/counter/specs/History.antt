-- The law of every history: what holds after any calls. Assumes nothing.
use Rattle.std.specs.Prelude.{◌≡◌, ℕ, ◌+◌, ◌≤◌, Bool, true, false, cond, ◌⊎◌, List, [], ◌∷◌, length, Ok, Err, Result, ◌==◌, ◌≢◌}
use Rattle.chain.specs.Chain.{Absent}
use Rattle.refusal.specs.declared.Refusal.{Refusal}
use Rattle.refusal.specs.Number.{number}
use Rattle.counter.specs.declared.cell.Status.{Status}
use Rattle.counter.specs.declared.cell.Status.TheVariants.{Free, Reserved, Drawn, Issued, Void}
use Rattle.counter.specs.declared.slip.Slip.{Slip}
use Rattle.counter.specs.Cells.{is_drawn, code_cell}
use Rattle.counter.specs.Ledger.{Terms, Ledger, Numbers, Call, Reserve, GiveBack, Draw, VoidSlip, Answer, fresh, objections, answer, after, count, takes, guarantee_of, limit_of}
use Rattle.counter.specs.Opened.{Given, terms}
use Rattle.counter.specs.Shown.{State, Keeps}

-- A call leads from s to t and answers a: whatever ledger s shows, the answer is the ledger's and t shows the ledger after
-- the call.
abbrev pub Step : State → Call → Answer → State → Type 0
Step s c a t = (o : Terms) (l : Ledger) → Keeps o s l → (a ≡ answer o l c) × Keeps o t (after o l c)

-- What a call that changes nothing answers, whatever ledger s shows.
abbrev pub Looks : {A : Type 0} → State → (Terms → Ledger → A) → A → Type 0
Looks s look a = (o : Terms) (l : Ledger) → Keeps o s l → a ≡ look o l

-- The four numbers of a slip, the slip that a draw hands out, and its code as the draw's answer.
abbrev pub numbers : Slip → Numbers
numbers p = record { site = p.site; block = p.block; code = p.code; station = p.station }

abbrev pub slip_of : State → ℕ → ℕ → Slip
slip_of s k x = record { site = s.setting.site; block = s.setting.number; code = x; station = k; spent = false }

abbrev pub drawn_code : Result Slip Refusal → Answer
drawn_code (Ok p) = Ok p.code
drawn_code (Err r) = Err r

-- Calls with their answers, the latest first.
abbrev pub History : Type 0
History = List (Call × Answer)

-- The calls of a history, made one after the other, lead from s to t.
abbrev pub Runs : State → History → State → Type 0
Runs s [] t = s ≡ t
Runs s ((c, a) ∷ h) t = (m : State) × Runs s h m × Step m c a t

-- The ledger worked out from what was opened and from the calls.
abbrev pub ledger : Terms → History → Ledger
ledger o [] = fresh o
ledger o ((c, a) ∷ h) = after o (ledger o h) c

-- The number that a call says: 0 where it is accepted, else its refusal's.
abbrev pub said : Answer → ℕ
said (Ok _) = 0
said (Err r) = number r

abbrev pub accepted : Answer → Bool
accepted (Ok _) = true
accepted (Err _) = false

-- The refusal number n is among those that apply.
abbrev pub Applies : List (Bool × Refusal) → ℕ → Type 0
Applies [] n = ⊥
Applies ((b, r) ∷ os) n = ((number r ≡ n) × (b ≡ true)) ⊎ Applies os n

-- Accepted exactly when no refusal applies; else the smallest that applies.
pub record Right (os : List (Bool × Refusal)) (n : ℕ) : Type 0 where
  pub accepted_if : n ≡ 0 → (m : ℕ) → Applies os m → ⊥
  pub refused_if : (n ≢ 0) → Applies os n
  pub smallest : (m : ℕ) → Applies os m → n ≤ m

abbrev pub EachRight : Terms → History → Type 0
EachRight o [] = Unit {0}
EachRight o ((c, a) ∷ h) = Right (objections o (ledger o h) c) (said a) × EachRight o h

-- Each answer is the one worked out from the calls before.
abbrev pub EachAnswered : Terms → History → Type 0
EachAnswered o [] = Unit {0}
EachAnswered o ((c, a) ∷ h) = (a ≡ answer o (ledger o h) c) × EachAnswered o h

-- The code that an accepted draw answered, in front of the others.
abbrev pub with_code : Answer → List ℕ → List ℕ
with_code (Ok x) xs = x ∷ xs
with_code (Err _) xs = xs

-- The codes of accepted draws, the latest first.
abbrev pub draws : History → List ℕ
draws [] = []
draws ((Reserve k n, a) ∷ h) = draws h
draws ((GiveBack k n, a) ∷ h) = draws h
draws ((Draw k, a) ∷ h) = with_code a (draws h)
draws ((VoidSlip p, a) ∷ h) = draws h

-- n more where the test holds.
abbrev pub more_if : Bool → ℕ → ℕ → ℕ
more_if b n m = cond b (m + n) m

-- How many voids were accepted.
abbrev pub voids : History → ℕ
voids [] = 0
voids ((Reserve k n, a) ∷ h) = voids h
voids ((GiveBack k n, a) ∷ h) = voids h
voids ((Draw k, a) ∷ h) = voids h
voids ((VoidSlip p, a) ∷ h) = more_if (accepted a) 1 (voids h)

-- Codes of station j's accepted reserves, and of its accepted give backs.
abbrev pub got : ℕ → History → ℕ
got j [] = 0
got j ((Reserve k n, a) ∷ h) = more_if (accepted a) (cond (j == k) n 0) (got j h)
got j ((GiveBack k n, a) ∷ h) = got j h
got j ((Draw k, a) ∷ h) = got j h
got j ((VoidSlip p, a) ∷ h) = got j h

abbrev pub gave : ℕ → History → ℕ
gave j [] = 0
gave j ((Reserve k n, a) ∷ h) = gave j h
gave j ((GiveBack k n, a) ∷ h) = more_if (accepted a) (cond (j == k) n 0) (gave j h)
gave j ((Draw k, a) ∷ h) = gave j h
gave j ((VoidSlip p, a) ∷ h) = gave j h

-- No number comes twice.
abbrev pub Once : List ℕ → Type 0
Once [] = Unit {0}
Once (x ∷ xs) = Absent x xs × Once xs

-- Drawn, or what comes after: never free or reserved again.
abbrev pub Gone : Status → Type 0
Gone Free = ⊥
Gone Reserved = ⊥
Gone Drawn = Unit {0}
Gone Issued = Unit {0}
Gone Void = Unit {0}

abbrev pub EachGone : State → List ℕ → Type 0
EachGone t [] = Unit {0}
EachGone t (x ∷ xs) = Gone (code_cell t.cells x).status × EachGone t xs

-- Every call was refused with the number n.
abbrev pub EachSaid : ℕ → History → Type 0
EachSaid n [] = Unit {0}
EachSaid n ((c, a) ∷ h) = (said a ≡ n) × EachSaid n h

-- What holds after the history h, which led to the block t.
pub record Holds (o : Terms) (h : History) (t : State) : Type 0 where
  -- A call is accepted exactly when no refusal applies to it; a refused one answers the smallest that applies.
  pub accepted_exactly : EachRight o h
  -- Every answer is the one worked out from the opening and the calls before.
  pub answers : EachAnswered o h
  -- Every code's cell shows the one status and station that is worked out from the calls.
  pub one_status : (i : ℕ) → 1 ≤ i → i ≤ o.codes → ((code_cell t.cells i).status ≡ ((ledger o h).mark i).status) × ((code_cell t.cells i).station ≡ ((ledger o h).mark i).station)
  -- Accepted draws are as many as accepted voids and codes now drawn.
  pub draws_balance : length (draws h) ≡ voids h + count (λ i. is_drawn (code_cell t.cells i).status) o.codes
  -- No two accepted draws answered the same code.
  pub no_code_twice : Once (draws h)
  -- A code that was drawn is neither free nor reserved again.
  pub never_back : EachGone t (draws h)
  -- What a station reserved less what it gave back is the count of its reserved, drawn, issued and void codes.
  pub taken_adds_up : (k : ℕ) → got k h ≡ gave k h + count (λ i. takes k (record { status = (code_cell t.cells i).status; station = (code_cell t.cells i).station })) o.codes
  -- It is never more than the station's limit.
  pub within_limit : (k : ℕ) → 1 ≤ k → k ≤ o.setting.stations → got k h ≤ gave k h + limit_of o k
  -- A reserve that keeps a station within its guarantee is never refused for what the others lack.
  pub guaranteed : (k n : ℕ) (a : Answer) (u : State) → Step t (Reserve k n) a u → got k h + n ≤ gave k h + guarantee_of o k → said a ≢ 10
  -- A block without stations refuses every call with 6 and leaves what was lent to it as it was.
  pub without_stations : o.setting.stations ≡ 0 → EachSaid 6 h × (t.cells ≡ o.found) × (t.register ≡ o.register)

-- Whatever is called from s on.
abbrev pub Law : Terms → State → Type 0
Law o s = (h : History) (t : State) → Runs s h t → Holds o h t

-- A block just opened shows all codes free, in order, or none where it was refused; and the law holds of it.
pub record Opened (g : Given) (s : State) : Type 0 where
  pub keeps : Keeps (terms g) s (fresh (terms g))
  pub law : Law (terms g) s
