use Rattle.std.proofs.Common.{◌++◌, length, drop, ap, ◌∙◌, ap₂}
use Rattle.refusal.specs.Verdict.{at_front}
use Rattle.image.proofs.Written.{behind}
use Rattle.image.proofs.build.put_front.Goals as goal

pub returns : goal.returns
returns c =
    let header = c.args.header.now in
    let rest = c.split_at_mut-fixed_place.result.1.now in
    ap₂ (λ p q. p ++ (q ++ drop (length header) rest)) c.copy_from_slice.ensures.after c.copy_from_slice-2.ensures.after
    ∙ behind c.fixed.result header c.args.place.now rest 16 (ap length c.fixed.ensures) c.split_at_mut-fixed_place.ensures.back
    ∙ ap (λ p. at_front (p ++ header) c.args.place.now) c.fixed.ensures
