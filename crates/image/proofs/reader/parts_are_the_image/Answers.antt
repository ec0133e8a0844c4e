use Rattle.image.proofs.Accepted.{accepted, parts_are_the_image}
use Rattle.image.proofs.reader.parts_are_the_image.Goals as goal

pub returns : goal.returns
returns c ok = parts_are_the_image c.args.kind c.args.image.now (accepted c.args.kind c.args.image.now ok)
