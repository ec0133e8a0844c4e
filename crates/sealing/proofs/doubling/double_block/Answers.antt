use Rattle.std.proofs.Common.{ℕ, List, rules}
use Rattle.std.specs.Int.Digits.{AllBelowBase}
use Rattle.std.proofs.ByRecursion.{All-from_get_or}
use Rattle.sealing.proofs.Doubled.{double_is}
use Rattle.sealing.proofs.doubling.double_block.Goals as goal

pub returns : goal.returns
returns c =
    let xs : List ℕ = c.args.s.now in
    let bytes : AllBelowBase 256 xs = All-from_get_or _ xs 0 (λ i h. search rules) in
    simp c.shift_left.ensures (double_is xs c.high.result (search rules) bytes c.high.type_inv c.high.ensures)
