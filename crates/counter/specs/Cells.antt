-- Cells and stations by their numbers. Assumes nothing.
use Rattle.std.specs.Prelude.{ℕ, ◌-◌, Bool, true, false, ◌||◌, List, replicate, ◌==◌, nat_lt, slice_index_or}
use Rattle.counter.specs.declared.cell.CodeCell.{CodeCell}
use Rattle.counter.specs.declared.cell.RegisterCell.{RegisterCell}
use Rattle.counter.specs.declared.cell.Status.{Status}
use Rattle.counter.specs.declared.cell.Status.TheVariants.{Free, Reserved, Drawn, Issued, Void}
use Rattle.counter.specs.declared.station.Station.{Station}

abbrev pub is_free : Status → Bool
is_free Free = true
is_free Reserved = false
is_free Drawn = false
is_free Issued = false
is_free Void = false

abbrev pub is_reserved : Status → Bool
is_reserved Free = false
is_reserved Reserved = true
is_reserved Drawn = false
is_reserved Issued = false
is_reserved Void = false

abbrev pub is_drawn : Status → Bool
is_drawn Free = false
is_drawn Reserved = false
is_drawn Drawn = true
is_drawn Issued = false
is_drawn Void = false

-- A code that waits to be drawn, or to be reserved, stands in a row.
abbrev pub in_a_row : Status → Bool
in_a_row Free = true
in_a_row Reserved = true
in_a_row Drawn = false
in_a_row Issued = false
in_a_row Void = false

-- The statuses that count toward a station's guarantee and limit.
abbrev pub counts_as_taken : Status → Bool
counts_as_taken Free = false
counts_as_taken Reserved = true
counts_as_taken Drawn = true
counts_as_taken Issued = true
counts_as_taken Void = true

-- What stands where there is no cell and no station: the blank that Rattle reads there.
abbrev pub blank_code : CodeCell
blank_code = record { status = Free; station = 0; next = 0 }

abbrev pub blank_record : RegisterCell
blank_record = record { next = 0; image = replicate 192 0 }

abbrev pub no_station : Station
no_station = record { guarantee = 0; limit = 0 }

-- k is none of the numbers 1 to n.
abbrev pub outside : (n k : ℕ) → Bool
outside n k = k == 0 || nat_lt n k

-- The cell of code i, register cell i, and station k of a table: all are numbered from 1.
abbrev pub code_cell : List CodeCell → ℕ → CodeCell
code_cell cells i = slice_index_or cells (i - 1) blank_code

abbrev pub register_cell : List RegisterCell → ℕ → RegisterCell
register_cell cells i = slice_index_or cells (i - 1) blank_record

abbrev pub station_of : List Station → ℕ → Station
station_of table k = slice_index_or table (k - 1) no_station
