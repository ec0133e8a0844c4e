use Rattle.std.proofs.Common.{sym}
use Rattle.compression.proofs.Choose.{choose}
use Rattle.compression.proofs.sha256.ch.Goals as goal

pub returns : goal.returns
returns c = sym (choose 32 c.args.x c.args.y c.args.z c.ranges.x.fits c.ranges.z.fits)
