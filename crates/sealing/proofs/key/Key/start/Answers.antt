use Rattle.std.proofs.Common.{◌≡◌, ℕ, List, length, take, ap, ◌∙◌, ap₂, arith, length-take, rules}
use Rattle.std.proofs.lemmas.List.{take_at, places}
use Rattle.sealing.specs.Omd.{Δ₀}
use Rattle.sealing.specs.Strings.{padded}
use Rattle.sealing.proofs.Buffers.{fits, zeros_front}
use Rattle.sealing.proofs.key.Key.start.Goals as goal

pub returns : goal.returns
unfolding Δ₀
returns g c =
    let b : ℕ = g.C.Compression.BLOCK_LEN in
    let n : ℕ = c.BLOCK_LEN-b.result in
    let e : n ≡ b = c.BLOCK_LEN-b.ensures in
    let fit = fits b g.met.C.Compression.blocked in
    let block : List ℕ = c.pad.new.place in
    let long : length block ≡ n = search (rules, places) in
    let whole : length (take n _) ≡ b = simp length-take (omega arith) in
    c.compress.ensures
    ∙ ap₂ (g.C.Compression.meaning c.args.self.now.bytes.now)
    (take_at block _ n long ∙ c.pad.ensures ∙ ap (λ m. padded m c.args.nonce.now) whole)
    (zeros_front n b e fit.1)
