use Rattle.std.proofs.Common.{◌≡◌, ◌-◌, ◌^◌, cond, rules}
use Rattle.compression.specs.Blake2b.{F, start}
use Rattle.compression.proofs.blake2b.f.Goals as goal
use Rattle.compression.proofs.blake2b.f.Goals.{then-last, else-last}

pub returns : goal.returns
unfolding F start
returns c =
    let flag : c.if-last.work_vector ≡ cond c.args.last (2 ^ 64 - 1) 0 =
    elim c.if-last.branch [ then-last w ↦ search rules | else-last w ↦ search rules ] in
    cc
