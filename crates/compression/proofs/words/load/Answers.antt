use Rattle.std.proofs.Common.{length, arith}
use Rattle.compression.specs.Words.{words, word}
use Rattle.compression.proofs.WordBytes.{filled}
use Rattle.compression.proofs.words.load.Goals as goal

pub returns : goal.returns
unfolding words
returns g c =
    filled (word g.W.Word.read g.W.Word.SIZE c.args.bytes.now) c.loop-i.out (length c.args.out.now) (omega arith)
    (λ k d h. c.loop-i.invariant k d (omega arith))
