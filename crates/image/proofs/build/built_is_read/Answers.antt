use Rattle.std.proofs.Common.{ℕ, arith, rules}
use Rattle.sealing.proofs.Buffers.{fits}
use Rattle.sealing.proofs.Laws as laws
use Rattle.image.proofs.Built.{built_is_read}
use Rattle.image.proofs.build.built_is_read.Goals as goal

pub returns : goal.returns
returns g c is_Known fine header message =
    let b : ℕ = g.C.Compression.BLOCK_LEN in
    let key = c.args.key.now in
    let F = g.C.Compression.meaning key in
    let fit = fits b g.met.C.Compression.blocked in
    let lawful = laws.lawful b F (omega arith) (λ H M. g.met.C.Compression.sized key H M) (λ H M. g.met.C.Compression.bytes key H M) in
    built_is_read g.C.Compression.KIND b F fit.0 lawful c.args.label c.args.header.now c.args.message.now (search rules) (search rules) (search rules) is_Known fine header message
