use Rattle.std.proofs.Common.{◌≡◌, ◌+◌, ◌*◌, ◌++◌, drop}
use Rattle.sealing.specs.Strings.{chained}
use Rattle.sealing.specs.Omd.{Δ, Δ₀, chaining_at, crossed}
use Rattle.sealing.proofs.masks.Masks.cross_all.Given as goal

abbrev pub invariant-loop-i : goal.invariant-loop-i
invariant-loop-i g l =
    let b = g.C.Compression.BLOCK_LEN in
    let F = g.C.Compression.meaning l.self.key.bytes.now in
    (l.output ≡ chained (crossed b F l.way l.nonce l.tag_len l.input) l.i ++ drop (l.i * b) l.initial.output)
    × (l.mask ≡ Δ b F (Δ₀ b F l.nonce) (l.i + 1))
    × (l.chaining ≡ chaining_at b F l.way l.nonce l.tag_len l.input l.i)
