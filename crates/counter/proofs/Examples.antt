-- The worked examples, computed. Assumes nothing.
use mathlib.Core.List.{zip_with}
use Rattle.std.proofs.Common.{refl}
use Rattle.sealing.specs.Strings.{padded}
use Rattle.sealing.specs.Double.{double, doubled}
use Rattle.counter.specs.Examples.{ExamplesHold}

pub examples_hold : ExamplesHold
unfolding double doubled padded zip_with
examples_hold = refl
