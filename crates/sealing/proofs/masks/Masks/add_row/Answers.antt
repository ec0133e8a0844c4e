use Rattle.std.proofs.Common.{arith}
use Rattle.sealing.proofs.BlockNumbers.{few_zeros}
use Rattle.sealing.proofs.masks.Masks.add_row.Goals as goal

pub bounds-rows-k : goal.bounds-rows-k
bounds-rows-k g c = few_zeros 64 12 c.args.number (omega arith) (omega arith)
