use Rattle.std.proofs.Common.{◌++◌}
use Rattle.compression.specs.Sha256.{next}
use Rattle.compression.proofs.FourLanes.{lanes, four}
use Rattle.compression.proofs.Schedules.{schedule_four, turned}
use Rattle.compression.proofs.sha256.next_four.Goals as goal

pub returns : goal.returns
unfolding next
returns c =
    let v = c.args in
    let m = lanes v.a ++ lanes v.b ++ lanes v.c ++ lanes v.d in
    rw (
      c.small_sigma1-2.ensures,
      c.small_sigma1.ensures,
      c.small_sigma0.ensures,
      four v.a c.fits-a.0,
      four v.b c.fits-b.0,
      four v.c c.fits-c.0,
      four v.d c.fits-d.0,
    ) (schedule_four m _ _ _ _ (turned _ _ _ _) (turned _ _ _ _) (turned _ _ _ _) (turned _ _ _ _))
