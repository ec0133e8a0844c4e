use Rattle.std.proofs.Common.{◌≡◌, ℕ, List, length, take, ap, ◌∙◌, ap₂, arith, rules}
use Rattle.std.proofs.lemmas.List.{take_at, take-append-le, places}
use Rattle.sealing.specs.Strings.{◌⊕◌}
use Rattle.sealing.specs.Omd.{Tag}
use Rattle.sealing.proofs.Buffers.{fits}
use Rattle.sealing.proofs.key.Key.crossed_and_tagged.Goals as goal

pub returns-clause-tag : goal.returns-clause-tag
unfolding Tag
returns-clause-tag g c =
    let n : ℕ = c.BLOCK_LEN-b.result in
    let t : ℕ = length c.args.tag.now in
    let fit = fits g.C.Compression.BLOCK_LEN g.met.C.Compression.blocked in
    let end : List ℕ = c.cross_text.new.chaining in
    let sum : List ℕ = c.hash.new.to in
    let both : List ℕ = c.add.new.to in
    let long_end : length end ≡ n = search (rules, places) in
    let long_sum : length sum ≡ n = search (rules, places) in
    let long : length both ≡ n = search (rules, places) in
    c.copy_from_slice.ensures.after ∙ take-append-le t both _ (omega arith)
    ∙ ap (take t) (c.add.ensures ∙ ap₂ ◌⊕◌ (take_at end _ n long_end ∙ rw c.work_out-masks.ensures.key at c.cross_text.ensures.end) (take_at sum _ n long_sum ∙ rw c.work_out-masks.ensures.key at c.hash.ensures))
