use Rattle.std.proofs.Common.{arith}
use Rattle.sealing.proofs.Buffers.{fits}
use Rattle.sealing.proofs.Laws as laws
use Rattle.sealing.proofs.calls.lawful.Goals as goal

pub returns : goal.returns
returns g c =
    let C = g.C.Compression in
    let met = g.met.C.Compression in
    let fit = fits C.BLOCK_LEN met.blocked in
    let key = c.args.key.now in
    laws.lawful C.BLOCK_LEN (C.meaning key) (omega arith) (met.sized key) (met.bytes key)
