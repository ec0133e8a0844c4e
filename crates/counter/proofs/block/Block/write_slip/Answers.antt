-- An accepted draw. Assumes nothing.
use Rattle.counter.specs.Ledger.{Draw}
use Rattle.counter.specs.Shown.{view}
use Rattle.counter.proofs.Facts.{kept}
use Rattle.counter.proofs.Calls.{step_sound, draw_steps}
use Rattle.counter.proofs.block.Block.write_slip.Goals as goal

pub take_first-code-requires-clause-kept : goal.take_first-code-requires-clause-kept
take_first-code-requires-clause-kept c = kept (view c.args.self.now.t) c.args.self.now.sound

pub invariant_of-self : goal.invariant_of-self
invariant_of-self c = let s = view c.args.self.now.t in record { sound = step_sound s (Draw c.args.station) _ _ c.args.self.now.sound (draw_steps s _ c.args.station _ c.requires c.take_first-code.ensures.code c.take_first-code.ensures.takes) }

pub returns-clause-steps : goal.returns-clause-steps
returns-clause-steps c = draw_steps (view c.args.self.now.t) _ c.args.station _ c.requires c.take_first-code.ensures.code c.take_first-code.ensures.takes
