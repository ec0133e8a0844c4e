use Rattle.compression.proofs.FourLanes.{four}
use Rattle.compression.proofs.sha256.rotated.Goals as goal

pub returns : goal.returns
returns c = rw (four c.args.x c.fits-x.0)
