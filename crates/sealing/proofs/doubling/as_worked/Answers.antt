use mathlib.Core.List.{zip_with}
use Rattle.std.proofs.Common.{refl}
use Rattle.sealing.specs.Strings.{padded}
use Rattle.sealing.specs.Double.{double, doubled}
use Rattle.sealing.proofs.doubling.as_worked.Goals as goal

pub returns : goal.returns
unfolding double doubled padded zip_with
returns c = refl
