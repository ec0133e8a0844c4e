use Rattle.std.proofs.Common.{◌≡◌, ℕ, zero, suc, ◌<◌, ◌≢◌, List, length, take, refl, ap, ◌∙◌, add-one, arith, get_or-set_other, get_or-set_same, rules, below_more}
use Rattle.std.proofs.lemmas.List.{take_at, places}
use Rattle.sealing.specs.Double.{double}
use Rattle.sealing.specs.Parts.{doublings}
use Rattle.sealing.proofs.Buffers.{fits}
use Rattle.sealing.proofs.masks.fill_rows.Invariants.{before}
use Rattle.sealing.proofs.masks.fill_rows.Goals as goal

next : (i : ℕ) (xs : List ℕ) → double (before i xs) ≡ doublings i xs
unfolding doublings
next zero xs = refl
next (suc i) xs = refl

pub loop-row-preserved : goal.loop-row-preserved
loop-row-preserved c =
    let b : ℕ = c.args.b in
    let fit = fits b c.requires in
    let i : ℕ = c.loop-row.row-index in
    let row : List ℕ = c.double_block.new.s in
    let long : length row ≡ b = search (rules, places) in
    let inv = c.loop-row.invariant in
    let is : take b _ ≡ doublings i (take b c.args.twice.now) =
    take_at row _ b long ∙ c.double_block.ensures ∙ ap double inv.1 ∙ next i (take b c.args.twice.now) in (
      search (rules, places),
      rw add-one is,
      below_more _ _
          (λ k lt. let ne : k ≢ i = omega arith in rw get_or-set_other (inv.2 k lt))
          (let lt : i < length c.loop-row.rows = omega arith in rw get_or-set_same is),
    )
