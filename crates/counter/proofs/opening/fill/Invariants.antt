-- The loop over the code cells. Assumes nothing.
use Rattle.std.proofs.Common.{◌≡◌, ℕ, ◌+◌, ◌<◌, cond, ltb, get_or}
use Rattle.counter.specs.declared.cell.Status.TheVariants.{Free}
use Rattle.counter.specs.Cells.{blank_code}
use Rattle.counter.proofs.opening.fill.Given as goal

-- the cells so far
abbrev pub invariant-loop-i : goal.invariant-loop-i
invariant-loop-i l = (k : ℕ) → k < l.i → get_or l.codes k blank_code ≡ record { status = Free; station = 0; next = cond (ltb (k + 1) l.n) (k + 2) 0 }
