use Rattle.sealing.proofs.Exact.{exactly}
use Rattle.sealing.proofs.calls.exact.Goals as goal

pub returns : goal.returns
returns g c place after r =
    let C = g.C.Compression in
    exactly C.BLOCK_LEN C.SHORTEST_KEY C.LONGEST_KEY C.meaning c.args.key.now c.args.nonce.now c.args.data.now c.args.ciphertext.now c.args.tag.now place r after c.lawful.ensures
