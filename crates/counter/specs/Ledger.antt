-- The ledger of a block: rows of codes, each code's mark, and what every call does to them. Assumes nothing.
use Rattle.std.specs.Prelude.{ℕ, zero, suc, ◌+◌, ◌-◌, Bool, cond, not, ◌&&◌, List, [], ◌∷◌, length, Some, None, Option, Result, ◌==◌, nat_lt}
use Rattle.chain.specs.Chain.{first}
use Rattle.refusal.specs.declared.Refusal.{Refusal}
use Rattle.refusal.specs.declared.Refusal.TheVariants.{UnknownStation, ZeroCount, MoreThanReserved, OverLimit, OwedToOthers, NothingReserved, SlipNotDrawn}
use Rattle.refusal.specs.Verdict.{Verdict, judged, answered, left}
use Rattle.counter.specs.declared.cell.CodeCell.{CodeCell}
use Rattle.counter.specs.declared.cell.RegisterCell.{RegisterCell}
use Rattle.counter.specs.declared.cell.Status.{Status}
use Rattle.counter.specs.declared.cell.Status.TheVariants.{Free, Reserved, Drawn, Void}
use Rattle.counter.specs.declared.station.Station.{Station}
use Rattle.counter.specs.Cells.{is_drawn, counts_as_taken, outside, station_of}

-- What stays as it is while a block is open: the kind of its compression, its site, its number, its key, the table of
-- stations, and how many of these take part (all, or none where the block was refused).
pub record Setting : Type 0 where
  pub kind : ℕ
  pub site : ℕ
  pub number : ℕ
  pub key : List ℕ
  pub table : List Station
  pub stations : ℕ

-- What a block was opened with: its setting, how many codes it has (none where it was refused), and what the cells
-- lent to it held.
pub record Terms : Type 0 where
  pub setting : Setting
  pub codes : ℕ
  pub found : List CodeCell
  pub register : List RegisterCell

-- What a code is, and whose. A free code is nobody's: its station is 0.
pub record Mark : Type 0 where
  pub status : Status
  pub station : ℕ

-- Row 0 lists the free codes and row k the codes that station k has reserved, the next to be taken first.
pub record Ledger : Type 0 where
  pub row : ℕ → List ℕ
  pub mark : ℕ → Mark

-- A slip's four numbers, whatever block they come from.
pub record Numbers : Type 0 where
  pub site : ℕ
  pub block : ℕ
  pub code : ℕ
  pub station : ℕ

pub data Call : Type 0 where
  Reserve : (station count : ℕ) → Call
  GiveBack : (station count : ℕ) → Call
  Draw : (station : ℕ) → Call
  VoidSlip : (slip : Numbers) → Call

-- The number answered by an accepted call, or why it was refused.
abbrev pub Answer : Type 0
Answer = Result ℕ Refusal

-- A function that is changed at one number.
abbrev pub put : {A : Type 0} → (ℕ → A) → ℕ → A → ℕ → A
put f k a j = cond (j == k) a (f j)

-- The sum of f over 1 to n, and how many of 1 to n pass a test.
abbrev pub total : (ℕ → ℕ) → ℕ → ℕ
total f zero = 0
total f (suc n) = total f n + f (suc n)

abbrev pub count : (ℕ → Bool) → ℕ → ℕ
count test n = total (λ i. cond (test i) 1 0) n

-- n numbers from i on.
abbrev pub run : ℕ → ℕ → List ℕ
run i zero = []
run i (suc n) = i ∷ run (suc i) n

-- The mark of the codes of a row.
abbrev pub row_mark : ℕ → Mark
row_mark j = record { status = cond (j == 0) Free Reserved; station = j }

-- A block as it is opened: all codes free, in order.
abbrev pub fresh : Terms → Ledger
fresh o = record { row = put (λ _. []) 0 (run 1 o.codes); mark = λ _. row_mark 0 }

-- The first code of row a goes to the front of row b.
abbrev pub moved : ℕ → ℕ → Ledger → List ℕ → Ledger
moved a b l [] = l
moved a b l (x ∷ xs) = record { row = put (put l.row a xs) b (x ∷ l.row b); mark = put l.mark x (row_mark b) }

abbrev pub move : ℕ → ℕ → Ledger → Ledger
move a b l = moved a b l (l.row a)

-- The first code of station k's row is drawn.
abbrev pub drawn_from : ℕ → Ledger → List ℕ → Ledger
drawn_from k l [] = l
drawn_from k l (x ∷ xs) = record { row = put l.row k xs; mark = put l.mark x (record { status = Drawn; station = k }) }

abbrev pub draw : ℕ → Ledger → Ledger
draw k l = drawn_from k l (l.row k)

-- A drawn code of station k is void.
abbrev pub voided : ℕ → ℕ → Ledger → Ledger
voided x k l = record { row = l.row; mark = put l.mark x (record { status = Void; station = k }) }

abbrev pub times : ℕ → (Ledger → Ledger) → Ledger → Ledger
times zero f l = l
times (suc n) f l = f (times n f l)

-- The codes that a station has taken, its guarantee and its limit.
abbrev pub takes : ℕ → Mark → Bool
takes k m = counts_as_taken m.status && m.station == k

abbrev pub taken_of : Terms → Ledger → ℕ → ℕ
taken_of o l k = count (λ i. takes k (l.mark i)) o.codes

abbrev pub guarantee_of : Terms → ℕ → ℕ
guarantee_of o k = (station_of o.setting.table k).guarantee

abbrev pub limit_of : Terms → ℕ → ℕ
limit_of o k = (station_of o.setting.table k).limit

-- What a station lacks of its guarantee, and what all the others lack.
abbrev pub lacking_of : Terms → Ledger → ℕ → ℕ
lacking_of o l k = guarantee_of o k - taken_of o l k

abbrev pub others_lack : Terms → Ledger → ℕ → ℕ
others_lack o l k = total (put (lacking_of o l) k 0) o.setting.stations

-- The tests of the calls.
abbrev pub unknown : Terms → ℕ → Bool
unknown o k = outside o.setting.stations k

abbrev pub over_limit : Terms → Ledger → ℕ → ℕ → Bool
over_limit o l k n = nat_lt (limit_of o k) (taken_of o l k + n)

abbrev pub owed_to_others : Terms → Ledger → ℕ → ℕ → Bool
owed_to_others o l k n = nat_lt (length (l.row 0)) (n + others_lack o l k)

abbrev pub is_code : Terms → ℕ → Bool
is_code o x = not (outside o.codes x)

-- The slip is this block's, and its station has its code drawn.
abbrev pub drawn_here : Terms → Ledger → Numbers → Bool
drawn_here o l p = (p.site == o.setting.site && p.block == o.setting.number) && (is_code o p.code && (is_drawn (l.mark p.code).status && (l.mark p.code).station == p.station))

-- The objections to a call, in the order in which they are raised, each with its test.
abbrev pub objections : Terms → Ledger → Call → List (Bool × Refusal)
objections o l (Reserve k n) =
    (unknown o k, UnknownStation) ∷ ((n == 0), ZeroCount) ∷ (over_limit o l k n, OverLimit) ∷ (owed_to_others o l k n, OwedToOthers) ∷ []
objections o l (GiveBack k n) =
    (unknown o k, UnknownStation) ∷ ((n == 0), ZeroCount) ∷ (nat_lt (length (l.row k)) n, MoreThanReserved) ∷ []
objections o l (Draw k) = (unknown o k, UnknownStation) ∷ ((length (l.row k) == 0), NothingReserved) ∷ []
objections o l (VoidSlip p) = (unknown o p.station, UnknownStation) ∷ (not (drawn_here o l p), SlipNotDrawn) ∷ []

abbrev pub verdict : Terms → Ledger → Call → Verdict
verdict o l c = judged (objections o l c)

-- An accepted call: the ledger after it, and its answer.
abbrev pub done : Ledger → Call → Ledger
done l (Reserve k n) = times n (move 0 k) l
done l (GiveBack k n) = times n (move k 0) l
done l (Draw k) = draw k l
done l (VoidSlip p) = voided p.code p.station l

abbrev pub value : Ledger → Call → ℕ
value l (Reserve k n) = length ((times n (move 0 k) l).row 0)
value l (GiveBack k n) = length ((times n (move k 0) l).row 0)
value l (Draw k) = first (l.row k)
value l (VoidSlip p) = p.code

-- Any call: its answer, and the ledger after it, which is as it was where the call is refused.
abbrev pub answer : Terms → Ledger → Call → Answer
answer o l c = answered (verdict o l c) (value l c)

abbrev pub after : Terms → Ledger → Call → Ledger
after o l c = left (verdict o l c) l (done l c)

-- The calls that change nothing: taken and lacking counts, and the newest register cell (0 for none: nothing is
-- issued yet).
abbrev pub station_verdict : Terms → ℕ → Verdict
station_verdict o k = judged ((unknown o k, UnknownStation) ∷ [])

abbrev pub tally_of : Terms → Ledger → ℕ → Result (ℕ × ℕ) Refusal
tally_of o l k = answered (station_verdict o k) (taken_of o l k, lacking_of o l k)

abbrev pub newest_of : Ledger → ℕ → ℕ
newest_of l k = 0

abbrev pub cell_or_none : ℕ → Option ℕ
cell_or_none i = cond (i == 0) None (Some i)

abbrev pub latest_of : Terms → Ledger → ℕ → Result (Option ℕ) Refusal
latest_of o l k = answered (station_verdict o k) (cell_or_none (newest_of l k))
