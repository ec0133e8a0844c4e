use Rattle.std.proofs.Common.{ap, ◌∙◌, ap₂}
use Rattle.std.specs.List.{flat_map}
use Rattle.compression.specs.Words.{to_le}
use Rattle.compression.specs.Blake2b.{compressed, F}
use Rattle.compression.proofs.blake2b.f_bytes.Goals as goal

pub returns : goal.returns
unfolding compressed
returns c =
    c.store.ensures
    ∙ ap (flat_map (to_le 8)) (c.f.ensures ∙ ap₂ (λ h m. F h m c.args.t c.args.last) c.load.ensures c.load-2.ensures)
