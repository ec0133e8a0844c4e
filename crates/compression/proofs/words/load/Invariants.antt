use Rattle.std.proofs.Common.{◌≡◌, ℕ, ◌<◌, get_or}
use Rattle.compression.specs.Words.{word}
use Rattle.compression.proofs.words.load.Given as goal

abbrev pub invariant-loop-i : goal.invariant-loop-i
invariant-loop-i g l = (k : ℕ) (d : _) → k < l.i → get_or l.out k d ≡ word g.W.Word.read g.W.Word.SIZE l.bytes k
