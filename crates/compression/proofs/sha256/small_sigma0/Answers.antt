use Rattle.compression.proofs.FourLanes.{four}
use Rattle.compression.proofs.sha256.small_sigma0.Goals as goal

pub returns : goal.returns
returns c = rw (c.rotated.ensures, c.rotated-2.ensures, four c.args.x c.fits-x.0)
