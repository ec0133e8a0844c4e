use Rattle.std.proofs.Common.{◌≡◌, List, ℕ, ap, ◌∙◌}
use Rattle.sealing.specs.Omd.{ended}
use Rattle.sealing.specs.Strings.{◌⊕◌}
use Rattle.sealing.proofs.Sums.{front_⊕}
use Rattle.sealing.proofs.masks.Masks.cross_last.Goals as goal

pub returns : goal.returns
returns g c =
    let h : List ℕ = c.args.chaining.now in
    let text : c.sum.new.place ≡ h ⊕ c.args.input.now = c.sum.ensures ∙ front_⊕ h c.args.input.now in
    record {
      text = text;
      end = c.end.ensures ∙ ap (ended g.C.Compression.BLOCK_LEN (g.C.Compression.meaning c.args.self.now.key.bytes.now) c.args.mask.now h) (c.message.ensures h text);
    }
