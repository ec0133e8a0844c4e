-- Many codes move, one after the other. Assumes nothing.
use Rattle.std.proofs.Common.{◌≡◌, ◌∙◌, subst, arith}
use Rattle.counter.specs.Ledger.{move, times}
use Rattle.counter.specs.Shown.{view}
use Rattle.counter.specs.Inside.{Matches}
use Rattle.counter.proofs.Calls.{kept_after, one_more}
use Rattle.counter.proofs.tables.Tables.shift_many.Goals as goal

pub shift-requires : goal.shift-requires
shift-requires c = record { apart = c.requires.apart; from = omega arith; to = omega arith; some = omega arith; kept = kept_after (view c.args.self.now) _ (move c.args.from c.args.to) c.loop.counter c.requires.kept c.loop.invariant.3 }

pub loop-preserved : goal.loop-preserved
loop-preserved c = (c.shift.ensures.stations ∙ c.loop.invariant.0, c.shift.ensures.taken ∙ c.loop.invariant.1, omega arith, λ o l m. one_more o _ (move c.args.from c.args.to) l c.loop.counter (c.shift.ensures.moves o _ (c.loop.invariant.3 o l m)))

pub returns-clause-moves : goal.returns-clause-moves
returns-clause-moves c o l m =
    let all : c.loop.counter ≡ c.args.count = omega arith in
    subst (λ j. Matches o (view c.loop.self) (times j (move c.args.from c.args.to) l)) all (c.loop.invariant.3 o l m)
