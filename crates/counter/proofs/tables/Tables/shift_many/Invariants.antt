-- The loop over the codes that move. Assumes nothing.
use Rattle.std.proofs.Common.{◌≡◌, ◌+◌, get_or}
use Rattle.counter.specs.Ledger.{Terms, Ledger, times, move}
use Rattle.counter.specs.Shown.{view, no_row}
use Rattle.counter.specs.Inside.{Matches}
use Rattle.counter.proofs.tables.Tables.shift_many.Given as goal

-- so many codes have gone
abbrev pub invariant-loop : goal.invariant-loop
invariant-loop s = (s.self.stations ≡ s.initial.self.stations) × ((view s.self).taken ≡ (view s.initial.self).taken) × ((get_or s.self.rows s.from no_row).count + s.counter ≡ (get_or s.initial.self.rows s.from no_row).count)
    × ((o : Terms) (l : Ledger) → Matches o (view s.initial.self) l → Matches o (view s.self) (times s.counter (move s.from s.to) l))
