use Rattle.std.proofs.Common.{◌≡◌, ◌+◌, ◌*◌, ◌^◌, ◌≤◌, take}
use Rattle.trial.specs.Line.{value}
use Rattle.trial.proofs.request.number.Given as goal

abbrev pub invariant-loop-b : goal.invariant-loop-b
invariant-loop-b l = (l.n ≡ value (take l.b-index l.s)) × (l.n + 23 ≤ 23 * 10 ^ l.b-index)
