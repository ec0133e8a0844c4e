-- What the contracts of private functions cite; the public ones rest on none of it. Assumes nothing.
use Rattle.std.specs.Prelude.{◌≡◌, ℕ, ◌+◌, ◌-◌, ◌<◌, Bool, cond, not, ◌&&◌, List, ◌∷◌, length, replicate, ◌==◌, nat_lt, slice_index_or, slice_set}
use Rattle.refusal.specs.Verdict.{Verdict}
use Rattle.counter.specs.declared.cell.CodeCell.{CodeCell}
use Rattle.counter.specs.declared.cell.RegisterCell.{RegisterCell}
use Rattle.counter.specs.declared.cell.Status.TheVariants.{Free, Drawn}
use Rattle.counter.specs.declared.tables.Row.{Row}
use Rattle.counter.specs.declared.tables.Seat.{Seat}
use Rattle.counter.specs.Cells.{is_drawn, blank_code, blank_record, outside, code_cell}
use Rattle.counter.specs.Ledger.{Setting, Terms, Mark, Ledger, Call, verdict}
use Rattle.counter.specs.Shown.{State, no_row, Tidy, Shows, Keeps}

-- Whatever ledger s shows, r is the verdict on the call.
abbrev pub Judges : State → Call → Verdict → Type 0
Judges s c r = (o : Terms) (l : Ledger) → Keeps o s l → r ≡ verdict o l c

-- A code's cell shows it drawn by station k; a number that is no code's has no cell.
abbrev pub has_drawn : List CodeCell → ℕ → ℕ → Bool
has_drawn cells x k = not (outside (length cells) x) && (is_drawn (code_cell cells x).status && (code_cell cells x).station == k)

-- Cells of free codes, chained in order; and register cells that are all zero.
abbrev pub InOrder : List CodeCell → Type 0
InOrder cells = (i : ℕ) → i < length cells → slice_index_or cells i blank_code ≡ record { status = Free; station = 0; next = cond (nat_lt (i + 1) (length cells)) (i + 2) 0 }

abbrev pub Blank : List RegisterCell → Type 0
Blank cells = (i : ℕ) → i < length cells → slice_index_or cells i blank_record ≡ blank_record

abbrev pub no_seat : Seat
no_seat = record { taken = 0; newest = 0 }

-- A block before any code is taken.
abbrev pub new_state : Setting → List CodeCell → List RegisterCell → Row → State
new_state setting cells register free = record { setting = setting; cells = cells; register = register; rows = free ∷ replicate 8 no_row; taken = replicate 9 0; newest = replicate 9 0 }

-- The block with another mark on the cell of code x.
abbrev pub with_mark : State → ℕ → Mark → State
with_mark s x m = record { setting = s.setting; cells = slice_set s.cells (x - 1) (record { status = m.status; station = m.station; next = (code_cell s.cells x).next }); register = s.register; rows = s.rows; taken = s.taken; newest = s.newest }

-- The block with something else kept of row j.
abbrev pub with_row : State → ℕ → Row → State
with_row s j r = record { setting = s.setting; cells = s.cells; register = s.register; rows = slice_set s.rows j r; taken = s.taken; newest = s.newest }

-- The block where station k has taken n codes.
abbrev pub with_taken : State → ℕ → ℕ → State
with_taken s k n = record { setting = s.setting; cells = s.cells; register = s.register; rows = s.rows; taken = slice_set s.taken k n; newest = s.newest }

-- The block after code x of station k's row was drawn, and after the first code of the row was.
abbrev pub drawn_at : State → ℕ → ℕ → State
drawn_at s k x = record {
  setting = s.setting;
  cells = slice_set s.cells (x - 1) (record { status = Drawn; station = k; next = 0 });
  register = s.register;
  rows = slice_set s.rows k (record { head = (code_cell s.cells x).next; count = (slice_index_or s.rows k no_row).count - 1 });
  taken = s.taken;
  newest = s.newest;
}

abbrev pub drawn_out : State → ℕ → State
drawn_out s k = drawn_at s k (slice_index_or s.rows k no_row).head

-- In the midst of a call: the tables show the ledger, but for the counts of taken codes.
pub record Matches (o : Terms) (s : State) (l : Ledger) : Type 0 where
  pub tidy : Tidy o l
  pub shows : Shows o s l

-- Some ledger is shown, in the midst of a call.
abbrev pub Kept : State → Type 0
Kept s = (o : Terms) × (l : Ledger) × Matches o s l
