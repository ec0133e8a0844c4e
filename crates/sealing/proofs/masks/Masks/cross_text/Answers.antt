use Rattle.std.proofs.Common.{◌≡◌, ℕ, ◌*◌, ◌/◌, List, ◌∙◌, ap₂, arith}
use Rattle.sealing.specs.Strings.{◌⊕◌, last_block}
use Rattle.sealing.specs.Omd.{crossed, other_text}
use Rattle.sealing.proofs.Buffers.{fits}
use Rattle.sealing.proofs.Steps.{last_part, put_last}
use Rattle.sealing.proofs.masks.Masks.cross_text.Goals as goal

pub returns-clause-text : goal.returns-clause-text
unfolding other_text
returns-clause-text g c =
    let b : ℕ = g.C.Compression.BLOCK_LEN in
    let X : List ℕ = c.args.input.now in
    let n : ℕ = c.BLOCK_LEN-b.result in
    let f : ℕ → List ℕ = crossed b (g.C.Compression.meaning c.args.self.now.key.bytes.now) c.args.way c.args.nonce.now c.args.tag_len X in
    let fit = fits b g.met.C.Compression.blocked in
    let last : ℕ = last_block b X in
    let a : ℕ = c.saturating_sub.result / n * n in
    let at : a ≡ last * b = ap₂ (λ m k. m / k * k) c.saturating_sub.ensures c.BLOCK_LEN-b.ensures in
    let out : c.cross_last.new.output ≡ f last =
    c.cross_last.ensures.text ∙ ap₂ ◌⊕◌ c.cross_all.ensures.chaining (last_part b a X (omega arith) at) in
    put_last f b a _ X c.cross_all.new.output c.args.output.now c.cross_last.new.output (omega arith) at (omega arith) (omega arith) (omega arith) c.cross_all.ensures.text out
