use Rattle.std.proofs.Common.{◌≡◌, ℕ, ◌+◌, ◌-◌, ◌*◌, ◌/◌, ◌<◌, ◌≤◌, List, length, take, drop, sym, ap, ◌∙◌, subst, ap₂, zero-mul, add-one, arith, rules}
use Rattle.std.proofs.lemmas.List.{places}
use Rattle.compression.specs.Words.{to_be}
use Rattle.sealing.specs.Strings.{◌⊕◌, chained, block}
use Rattle.sealing.specs.Omd.{L, ntz, plain, Δ, Δ₀, chaining_at, crossed}
use Rattle.sealing.proofs.Rows.{Δ_more}
use Rattle.sealing.proofs.Steps.{whole_block, part_block, put_next}
use Rattle.sealing.proofs.masks.Masks.cross_all.Goals as goal

pub loop-i-init : goal.loop-i-init
unfolding chained chaining_at Δ
loop-i-init g c =
    let b : ℕ = g.C.Compression.BLOCK_LEN in
    let F = g.C.Compression.meaning c.args.self.now.key.bytes.now in
    let D : List ℕ = Δ₀ b F c.args.nonce.now in
    let mask : c.add_row.new.to ≡ Δ b F D 1 = c.add_row.ensures ∙ ap (λ m. m ⊕ L b F (ntz 1)) c.start.ensures ∙ Δ_more b F D 0 in
    (sym (ap (λ k. drop k c.args.output.now) (zero-mul b)), mask, c.first_chaining.ensures ∙ ap (λ m. F m (to_be b (8 * c.args.tag_len))) mask)

pub loop-i-preserved : goal.loop-i-preserved
unfolding chaining_at
loop-i-preserved g c =
    let b : ℕ = g.C.Compression.BLOCK_LEN in
    let F = g.C.Compression.meaning c.args.self.now.key.bytes.now in
    let way = c.args.way in
    let D : List ℕ = Δ₀ b F c.args.nonce.now in
    let X : List ℕ = c.args.input.now in
    let i : ℕ = c.loop-i.i in
    let n : ℕ = c.BLOCK_LEN-b.result in
    let e : n ≡ b = c.BLOCK_LEN-b.ensures in
    let inv = c.loop-i.invariant in
    let last : i < (length X - 1) / b = subst (λ m. i < (length X - 1) / m) e (subst (λ m. i < m / n) c.saturating_sub.ensures c.loop-i-test.true) in
    let within : i * b + b ≤ length X - 1 = whole_block i b (length X - 1) last in
    let part : take (i * n + n - i * n) (drop (i * n) X) ≡ block b X i = part_block n b i X e in
    let long : length c.cross.new.output ≡ b = search (rules, places) in
    let out : c.cross.new.output ≡ crossed b F way c.args.nonce.now c.args.tag_len X i = c.cross.ensures.text ∙ ap₂ ◌⊕◌ inv.2 part in
    let mask : c.cross.new.mask ≡ Δ b F D (i + 1 + 1) =
    c.cross.ensures.mask ∙ ap (λ m. m ⊕ L b F (ntz (i + 1 + 1))) inv.1 ∙ Δ_more b F D (i + 1) in (
      put_next (crossed b F way c.args.nonce.now c.args.tag_len X) n b i c.loop-i.output c.args.output.now c.cross.new.output e (omega arith) (omega arith) inv.0 out long,
      mask,
      c.cross.ensures.chaining
          ∙ ap₂ F (ap₂ ◌⊕◌ inv.2 (mask ∙ ap (Δ b F D) (let two : i + 1 + 1 ≡ i + 2 = omega arith in two))) (ap₂ (plain way) inv.2 part)
          ∙ rw add-one,
    )
