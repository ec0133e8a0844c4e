use Rattle.std.proofs.Common.{◌≡◌, ℕ, ◌+◌, ◌-◌, ◌*◌, ◌/◌, ◌%◌, ◌<◌, List, length, drop, sym, ap, ◌∙◌, ap₂, arith, rules}
use Rattle.std.proofs.lemmas.Bool.Decides.{nat_tests}
use Rattle.std.proofs.lemmas.List.{take_at, places}
use Rattle.sealing.specs.Strings.{◌⊕◌, padded, block, summed}
use Rattle.sealing.specs.Omd.{L⋆, halves, absorbed, HASH}
use Rattle.sealing.proofs.Absorbing.{summed_more, absorbed_short, whole_count, short_last, short_part, short_block}
use Rattle.sealing.proofs.Buffers.{fits}
use Rattle.sealing.proofs.masks.Masks.hash.Goals as goal

pub returns-then-not-is_empty : goal.returns-then-not-is_empty
unfolding HASH
returns-then-not-is_empty g c =
    let b : ℕ = g.C.Compression.BLOCK_LEN in
    let F = g.C.Compression.meaning c.args.self.now.key.bytes.now in
    let A : List ℕ = c.args.data.now in
    let fit = fits b g.met.C.Compression.blocked in
    let d : ℕ = 2 * b in
    let pos : 0 < d = omega arith in
    let q : ℕ = length A / d in
    let e = c.data_block_len.ensures in
    let mask : List ℕ = c.absorb_whole.new.mask in
    let long : length mask ≡ c.BLOCK_LEN-b.result = search (rules, places) in
    let size : length c.remainder-rest.result.now ≡ length A % d = ap length c.remainder-rest.ensures ∙ c.chunks_exact.ensures.remainder_len ∙ ap (λ m. length A % m) e in
    let some : 0 < length A % d = grind (arith, nat_tests) in
    let part : c.remainder-rest.result.now ≡ block d A q =
    c.remainder-rest.ensures ∙ c.chunks_exact.ensures.remainder ∙ ap (λ m. drop (length A - length A % m) A) e ∙ short_part d A pos in
    c.absorb_short.ensures
    ∙ ap₂ ◌⊕◌ c.absorb_whole.ensures.sum
    (ap₂ (λ x m. halves b F (padded d x) (m ⊕ L⋆ b F)) part (take_at mask _ _ long ∙ c.absorb_whole.ensures.mask)
    ∙ sym (absorbed_short b F A q (short_block d A pos)))
    ∙ sym (summed_more b (absorbed b F A) q) ∙ ap (λ k. summed b (absorbed b F A) (k + 1)) (sym (short_last d A pos some))

pub returns-else-not-is_empty : goal.returns-else-not-is_empty
unfolding HASH
returns-else-not-is_empty g c =
    let b : ℕ = g.C.Compression.BLOCK_LEN in
    let A : List ℕ = c.args.data.now in
    let fit = fits b g.met.C.Compression.blocked in
    let size : length c.remainder-rest.result.now ≡ length A % (2 * b) =
    ap length c.remainder-rest.ensures ∙ c.chunks_exact.ensures.remainder_len ∙ ap (λ m. length A % m) c.data_block_len.ensures in
    let none : length A % (2 * b) ≡ 0 = grind (arith, nat_tests) in
    c.absorb_whole.ensures.sum ∙ ap (summed b (absorbed b (g.C.Compression.meaning c.args.self.now.key.bytes.now) A)) (sym (whole_count (2 * b) A (omega arith) c.requires.places.0 none))
