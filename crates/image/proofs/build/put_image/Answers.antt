use Rattle.std.proofs.Common.{arith, rules}
use Rattle.sealing.proofs.Buffers.{fits}
use Rattle.image.proofs.Built.{placed}
use Rattle.image.proofs.build.put_image.Goals as goal

pub returns-clause-place : goal.returns-clause-place
returns-clause-place g c =
    placed g.C.Compression.KIND g.C.Compression.BLOCK_LEN (g.C.Compression.meaning c.args.key.now) (fits g.C.Compression.BLOCK_LEN g.met.C.Compression.blocked).0
    c.seal_behind.ensures.lawful c.args.label c.args.header.now c.args.message.now c.args.place.now c.put_front.new.place c.split_at_mut-front.result.0.now c.seal_behind.new.ciphertext c.seal_behind.new.tag (search rules) (search rules) (search rules) (search rules) (omega arith)
