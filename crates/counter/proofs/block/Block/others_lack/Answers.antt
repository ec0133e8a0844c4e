-- What the other stations lack. Assumes nothing.
use Rattle.std.proofs.Common.{refl, arith}
use mathlib.Core.Logic.{∥∥₁_elim}
use native.Mathlib.Bridge.{le_prop}
use Rattle.counter.specs.Shown.{view}
use Rattle.counter.proofs.Calls.{others_shown}
use Rattle.counter.proofs.block.Block.others_lack.Goals as goal

pub overflow_sub-result : goal.overflow_sub-result
overflow_sub-result c = ∥∥₁_elim c.args.self.now.sound le_prop (λ r. omega (arith, others_shown r.0 (view c.args.self.now.t) c.args.self.now.t.seats r.1 c.args.k _ _ _ refl r.2 c.requires.low c.requires.known c.seat.ensures.taken c.lacking-all.ensures c.lacks-own.ensures))

pub returns : goal.returns
returns c o l q = omega (arith, others_shown o (view c.args.self.now.t) c.args.self.now.t.seats l c.args.k _ _ _ refl q c.requires.low c.requires.known c.seat.ensures.taken c.lacking-all.ensures c.lacks-own.ensures)
