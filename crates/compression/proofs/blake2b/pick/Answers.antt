use Rattle.std.proofs.Common.{◌%◌, ◌<◌, refl, arith}
use Rattle.compression.specs.Blake2b.{picked, SIGMA}
use Rattle.compression.proofs.Sigma.{small}
use Rattle.compression.proofs.blake2b.pick.Goals as goal

pub offset_bounds-m-i : goal.offset_bounds-m-i
unfolding SIGMA
offset_bounds-m-i c = let lt : c.args.i % 10 < 10 = omega arith in omega (arith, small (c.args.i % 10) c.args.j lt c.requires)

pub bounds-m-i : goal.bounds-m-i
unfolding SIGMA
bounds-m-i c = small (c.args.i % 10) c.args.j (omega arith) c.requires

pub returns : goal.returns
unfolding SIGMA picked
returns c = refl
