use Rattle.std.proofs.Common.{ℕ, ◌+◌, refl, arith}
use Rattle.compression.proofs.Rounds.{rounds_more}
use Rattle.compression.proofs.sha256.four_rounds.Goals as goal

pub returns : goal.returns
returns g c v₀ h =
    let w = c.args.w.now in
    let t : ℕ = g.row.T in
    let r1 = rounds_more w v₀ _ _ _ t (t + 1) refl h c.constant.ensures c.one_round-v.ensures in
    let r2 = rounds_more w v₀ _ _ _ (t + 1) (t + 2) (omega arith) r1 c.constant-2.ensures c.one_round-v-2.ensures in
    let r3 = rounds_more w v₀ _ _ _ (t + 2) (t + 3) (omega arith) r2 c.constant-3.ensures c.one_round-v-3.ensures in
    rounds_more w v₀ _ _ _ (t + 3) (t + 4) (omega arith) r3 c.constant-4.ensures c.one_round-v-4.ensures
