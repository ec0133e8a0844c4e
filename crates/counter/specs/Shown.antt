-- What the tables of a block show for a ledger. Assumes nothing.
use Rattle.std.specs.Prelude.{◌≡◌, ℕ, ◌≤◌, Bool, cond, ◌&&◌, List, [], ◌∷◌, map, length, ◌==◌, slice_index, slice_index_or}
use Rattle.chain.specs.Chain.{Absent, first, follower}
use Rattle.counter.specs.declared.tables.Row.{Row}
use Rattle.counter.specs.declared.tables.Seat.{Seat}
use Rattle.counter.specs.declared.tables.Tables.{Tables}
use Rattle.counter.specs.declared.cell.CodeCell.{CodeCell}
use Rattle.counter.specs.declared.cell.RegisterCell.{RegisterCell}
use Rattle.counter.specs.Cells.{is_free, is_reserved, in_a_row, blank_record, code_cell, register_cell}
use Rattle.counter.specs.Ledger.{Setting, Terms, Mark, Ledger, total, count, row_mark, taken_of, limit_of, lacking_of, newest_of}

-- What a block holds: its setting, the cells lent to it, and what it keeps: for each row its head and its count, and for
-- each station how many codes it has taken and its newest register cell.
pub record State : Type 0 where
  pub setting : Setting
  pub cells : List CodeCell
  pub register : List RegisterCell
  pub rows : List Row
  pub taken : List ℕ
  pub newest : List ℕ

abbrev pub view : Tables → State
view t = record {
  setting = record { kind = t.kind; site = t.site; number = t.number; key = t.key.now; table = t.table.now; stations = t.stations };
  cells = t.codes.now;
  register = t.register.now;
  rows = t.rows;
  taken = map (λ (x : Seat). x.taken) t.seats;
  newest = map (λ (x : Seat). x.newest) t.seats;
}

abbrev pub no_row : Row
no_row = record { head = 0; count = 0 }

-- The row that a code with this mark stands in, if it stands in one.
abbrev pub row_of : Ledger → Mark → List ℕ
row_of l m = cond (in_a_row m.status) (l.row m.station) []

-- The cell of code i: its mark, and as next number the code that follows it in its row, or 0.
abbrev pub cell_with : Ledger → Mark → ℕ → CodeCell
cell_with l m i = record { status = m.status; station = m.station; next = follower (row_of l m) i }

abbrev pub cell_of : Ledger → ℕ → CodeCell
cell_of l i = cell_with l (l.mark i) i

-- What is kept of row j.
abbrev pub kept_row : Ledger → ℕ → Row
kept_row l j = record { head = first (l.row j); count = length (l.row j) }

pub record Shows (o : Terms) (s : State) (l : Ledger) : Type 0 where
  -- the block is the one that was opened
  pub setting : s.setting ≡ o.setting
  -- the cells lent are as many as they were, and each code's cell shows it
  pub size : length s.cells ≡ length o.found
  pub cells : (i : ℕ) → 1 ≤ i → i ≤ o.codes → code_cell s.cells i ≡ cell_of l i
  -- nothing is issued: the register is blank
  pub room : length s.register ≡ length o.register
  pub blank : (i : ℕ) → 1 ≤ o.setting.stations → 1 ≤ i → i ≤ length o.register → register_cell s.register i ≡ blank_record
  -- a block without stations leaves what was lent as it was
  pub untouched : o.setting.stations ≡ 0 → (s.cells ≡ o.found) × (s.register ≡ o.register)
  -- what is kept of each row and station
  pub nine : (length s.rows ≡ 9) × (length s.newest ≡ 9)
  pub rows : (j : ℕ) → j ≤ o.setting.stations → slice_index_or s.rows j no_row ≡ kept_row l j
  pub newest : (k : ℕ) → 1 ≤ k → k ≤ o.setting.stations → slice_index s.newest k ≡ newest_of l k

-- The kept count of a station is the count of the codes that it has taken.
pub record Counted (o : Terms) (taken : List ℕ) (l : Ledger) : Type 0 where
  pub nine : length taken ≡ 9
  pub counts : (k : ℕ) → 1 ≤ k → k ≤ o.setting.stations → slice_index taken k ≡ taken_of o l k

-- Each code of a row has the row's mark, and comes once.
abbrev pub Listed : (ℕ → Mark) → ℕ → Mark → List ℕ → Type 0
Listed mark n m [] = Unit {0}
Listed mark n m (x ∷ xs) = (1 ≤ x) × (x ≤ n) × (mark x ≡ m) × Absent x xs × Listed mark n m xs

-- A code with this mark belongs in row j.
abbrev pub belongs : ℕ → Mark → Bool
belongs j m = cond (j == 0) (is_free m.status) (is_reserved m.status && m.station == j)

-- What holds of a ledger after each code that moves.
pub record Tidy (o : Terms) (l : Ledger) : Type 0 where
  -- a row lists the codes that belong in it, all of them, each once
  pub listed : (j : ℕ) → Listed l.mark o.codes (row_mark j) (l.row j)
  pub whole : (j : ℕ) → length (l.row j) ≡ count (λ i. belongs j (l.mark i)) o.codes
  -- the sizes that a block may have
  pub few : o.setting.stations ≤ 8
  pub small : o.codes ≤ 4096
  pub seats : o.setting.stations ≤ length o.setting.table
  pub lent : 1 ≤ o.setting.stations → o.codes ≡ length o.found

-- What holds of a ledger after each call.
pub record Fair (o : Terms) (l : Ledger) : Type 0 where
  pub tidy : Tidy o l
  -- no station has taken more than its limit
  pub within : (k : ℕ) → 1 ≤ k → k ≤ o.setting.stations → taken_of o l k ≤ limit_of o k
  -- there are free codes for all that the stations lack
  pub enough : total (lacking_of o l) o.setting.stations ≤ length (l.row 0)

-- Between calls: the block that was opened with o shows the ledger l.
pub record Keeps (o : Terms) (s : State) (l : Ledger) : Type 0 where
  pub fair : Fair o l
  pub shows : Shows o s l
  pub counted : Counted o s.taken l

abbrev pub Sound : State → Type 0
Sound s = (o : Terms) × (l : Ledger) × Keeps o s l
