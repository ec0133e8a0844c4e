use Rattle.std.proofs.Common.{ℕ, List, arith, rules}
use Rattle.std.specs.Int.Digits.{AllBelowBase}
use Rattle.std.proofs.ByRecursion.{All-from_get_or}
use Rattle.sealing.proofs.Buffers.{fits}
use Rattle.sealing.proofs.Laws as laws
use Rattle.image.proofs.Exact.{exactly}
use Rattle.image.proofs.open.exact.Goals as goal

pub returns : goal.returns
returns g c place after r answer left =
    let b : ℕ = g.C.Compression.BLOCK_LEN in
    let key : List ℕ = c.args.key.now in
    let image : List ℕ = c.args.image.now in
    let fit = fits b g.met.C.Compression.blocked in
    let bytes : AllBelowBase 256 image = All-from_get_or _ image 0 (λ i h. search rules) in
    let lawful = laws.lawful b (g.C.Compression.meaning key) (omega arith) (λ H M. g.met.C.Compression.sized key H M) (λ H M. g.met.C.Compression.bytes key H M) in
    exactly g.C.Compression.KIND b g.C.Compression.SHORTEST_KEY g.C.Compression.LONGEST_KEY g.C.Compression.meaning key image place r after fit.0 lawful bytes answer left
