-- An accepted void. Assumes nothing.
use Rattle.std.proofs.Common.{refl}
use Rattle.counter.specs.Ledger.{VoidSlip}
use Rattle.counter.specs.Shown.{view}
use Rattle.counter.specs.History.{numbers}
use Rattle.counter.proofs.Calls.{step_sound, void_steps}
use Rattle.counter.proofs.block.Block.spoil.Goals as goal

pub invariant_of-self : goal.invariant_of-self
invariant_of-self c = let s = view c.args.self.now.t in let p = numbers c.args.slip.now in record { sound = step_sound s (VoidSlip p) _ _ c.args.self.now.sound (void_steps s _ p _ c.requires refl c.mark.ensures) }

pub returns : goal.returns
returns c = void_steps (view c.args.self.now.t) _ (numbers c.args.slip.now) _ c.requires c.from.ensures c.mark.ensures
