use Rattle.image_c.proofs.Short.{short_by_kind}
use Rattle.image_c.proofs.answers_are_short.Goals as goal

pub returns : goal.returns
returns c = short_by_kind c.args.kind c.args.key.now c.args.image.now c.args.place.now
