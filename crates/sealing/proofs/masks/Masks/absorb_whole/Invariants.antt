use Rattle.std.proofs.Common.{◌≡◌, ◌*◌, ◌≤◌, drop, length}
use Rattle.std.specs.Slice.Iter.{chunks_exact_rest, chunks_exact_size}
use Rattle.sealing.specs.Strings.{zeros, summed}
use Rattle.sealing.specs.Omd.{Δ, absorbed}
use Rattle.sealing.proofs.masks.Masks.absorb_whole.Given as goal

abbrev pub invariant-loop-i : goal.invariant-loop-i
invariant-loop-i g l =
    let b = g.C.Compression.BLOCK_LEN in
    let F = g.C.Compression.meaning l.self.key.bytes.now in
    let n = l.i-iterator.count in
    (l.mask ≡ Δ b F (zeros b) n)
    × (l.to ≡ summed b (absorbed b F l.«data») n)
    × (chunks_exact_size l.i-iterator.iter ≡ 2 * b)
    × (chunks_exact_rest l.i-iterator.iter ≡ drop (n * (2 * b)) l.«data»)
    × (n * (2 * b) ≤ length l.«data»)
