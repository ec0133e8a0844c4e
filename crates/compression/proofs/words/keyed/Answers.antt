use Rattle.std.proofs.Common.{◌≡◌, ℕ, ◌+◌, ◌-◌, List, ◌++◌, length, drop, replicate, ap, ◌∙◌, ap₂, arith}
use borrow.Rule.Slice.PartMut.{put_mid, post_of}
use Rattle.compression.proofs.Keyed.{keyed_is}
use Rattle.compression.proofs.words.keyed.Goals as goal

pub returns : goal.returns
returns c =
    let key : List ℕ = c.args.key.now in
    let message : List ℕ = c.args.message.now in
    let b : ℕ = length message in
    let zero : length key - 0 ≡ length key = omega arith in
    ap₂ (put_mid b (b + b - b)) (ap₂ (λ x y. x ++ post_of 0 (length key - 0) y) c.copy_from_slice.ensures.after c.requires.1 ∙ ap (λ n. key ++ drop n (replicate (b + b) 0)) zero) c.copy_from_slice-2.ensures.after
    ∙ keyed_is key message (b + b - b) c.requires.0 (omega arith)
