use Rattle.std.proofs.Common.{◌≡◌, ℕ, ◌+◌, ◌*◌, List, length, sym, ap, ◌∙◌, ap₂, zero-mul, arith}
use Rattle.std.specs.Slice.Iter.{chunks_exact_rest, chunks_exact_size}
use Rattle.sealing.specs.Strings.{◌⊕◌, zeros, block, summed}
use Rattle.sealing.specs.Omd.{L, ntz, Δ, absorbed, halves}
use Rattle.sealing.proofs.Absorbing.{summed_more, absorbed_whole, next_block}
use Rattle.sealing.proofs.Rows.{Δ_more}
use Rattle.sealing.proofs.masks.Masks.absorb_whole.Goals as goal

pub loop-i-init : goal.loop-i-init
unfolding Δ summed
loop-i-init g c =
    let b : ℕ = g.C.Compression.BLOCK_LEN in
    let A : List ℕ = c.args.data.now in
    let it = c.into_iter-i-iterator.result in
    let none : it.count ≡ 0 = cc in
    let rest : chunks_exact_rest it.iter ≡ A = cc in
    let size : chunks_exact_size it.iter ≡ 2 * b = cc in
    rw (none, zero-mul) (c.requires.places.0, c.requires.places.1, size, rest, omega arith)

pub loop-i-preserved : goal.loop-i-preserved
loop-i-preserved g c =
    let b : ℕ = g.C.Compression.BLOCK_LEN in
    let F = g.C.Compression.meaning c.args.self.now.key.bytes.now in
    let A : List ℕ = c.args.data.now in
    let i : ℕ = c.loop-i.i-iterator.count in
    let inv = c.loop-i.invariant in
    let step = c.in-Some.ensures.steps in
    let x : List ℕ = c.in-Some.block.now in
    let long : length x ≡ 2 * b = step.0.1.1 ∙ inv.2 in
    let next = next_block (2 * b) A i _ _ x inv.4 inv.3 step.0.1.0 long in
    let mask : c.add_row.new.to ≡ Δ b F (zeros b) (i + 1) =
    c.add_row.ensures ∙ ap₂ (λ m k. m ⊕ L b F (ntz (k + 1))) inv.0 step.1 ∙ Δ_more b F (zeros b) i in
    let size : length (block (2 * b) A i) ≡ 2 * b = ap length (sym next.0) ∙ long in
    rw step.2 (
      mask,
      c.absorb.ensures ∙ ap₂ ◌⊕◌ inv.1 (ap₂ (halves b F) next.0 mask ∙ sym (absorbed_whole b F A i size)) ∙ sym (summed_more b (absorbed b F A) i),
      step.0.0 ∙ inv.2,
      next.1,
      next.2,
    )
