-- An accepted give back. Assumes nothing.
use Rattle.std.proofs.Common.{ℕ, ◌-◌, List, get_or, refl, ap, arith}
use Rattle.counter.specs.Ledger.{GiveBack}
use Rattle.counter.specs.Shown.{view}
use Rattle.counter.proofs.Facts.{kept}
use Rattle.counter.proofs.Calls.{step_sound, give_safe, give_steps}
use Rattle.counter.proofs.block.Block.take_back.Goals as goal

pub shift_many-requires-clause-kept : goal.shift_many-requires-clause-kept
shift_many-requires-clause-kept c = kept (view c.args.self.now.t) c.args.self.now.sound

pub overflow_cast-taken : goal.overflow_cast-taken
overflow_cast-taken c = omega (arith, give_safe (view c.args.self.now.t) c.args.self.now.sound c.args.station c.args.count c.requires)

pub overflow_sub-taken : goal.overflow_sub-taken
overflow_sub-taken c =
    let same = ap (λ (ts : List ℕ). get_or ts c.args.station 0) c.shift_many.ensures.taken in
    omega (arith, give_safe (view c.args.self.now.t) c.args.self.now.sound c.args.station c.args.count c.requires)

pub invariant_of-self : goal.invariant_of-self
invariant_of-self c = record { sound = step_sound (view c.args.self.now.t) (GiveBack c.args.station c.args.count) _ _ c.args.self.now.sound (give_steps (view c.args.self.now.t) (view c.shift_many.new.self) (view c.set_taken.new.self) c.args.station c.args.count _ _ c.shift_many.ensures.taken c.set_taken.ensures refl (ap (λ m. m - c.args.count) c.seat.ensures.taken) c.requires c.shift_many.ensures.moves) }

pub returns : goal.returns
returns c = give_steps (view c.args.self.now.t) (view c.shift_many.new.self) (view c.set_taken.new.self) c.args.station c.args.count _ _ c.shift_many.ensures.taken c.set_taken.ensures c.from.ensures (ap (λ m. m - c.args.count) c.seat.ensures.taken) c.requires c.shift_many.ensures.moves
