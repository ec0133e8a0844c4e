use Rattle.std.proofs.Common.{◌≡◌, ℕ, zero, suc, ◌<◌, List, [], length, get_or, take}
use Rattle.sealing.specs.Parts.{doublings}
use Rattle.sealing.proofs.masks.fill_rows.Given as goal

-- the row before the row i
abbrev pub before : ℕ → List ℕ → List ℕ
before zero xs = xs
before (suc i) xs = doublings i xs

abbrev pub invariant-loop-row : goal.invariant-loop-row
invariant-loop-row l =
    (length l.last ≡ 64) × (take l.b l.last ≡ before l.row-index (take l.b l.twice))
    × ((k : ℕ) → k < l.row-index → take l.b (get_or l.rows k []) ≡ doublings k (take l.b l.twice))
