use Rattle.std.proofs.Common.{◌*◌, arith, rules}
use Rattle.std.proofs.iter.Serving.{serving}
use Rattle.hashing.specs.Blake2.{padded}
use Rattle.hashing.proofs.Blocks.{filled}
use Rattle.hashing.proofs.Blake2Padding.{padded_length}
use Rattle.hashing.proofs.blake2.padded_block.Goals as goal

pub from_fn-requires : goal.from_fn-requires
from_fn-requires c = let long = padded_length c.args.message.now in grind (serving, arith)

pub returns : goal.returns
returns c = filled _ _ (padded c.args.message.now) (128 * c.args.i) (λ i y q k. search rules) 128 c.from_fn.result c.from_fn.ensures.items c.requires
