-- A key put at the front of zeros, and a message block behind them. Assumes nothing.
use Rattle.std.proofs.Common.{◌≡◌, ℕ, ◌+◌, ◌-◌, ◌≤◌, List, [], ◌++◌, length, take, drop, replicate, sym, ap, ◌∙◌, ap₂, arith, length-append, length-drop}
use borrow.Rule.Slice.PartMut.{put_mid, post_of}
use lib.ListN.{length-replicate}
use Rattle.std.proofs.lemmas.List.{append_assoc, append-nil, take_at, drop_all, drop-replicate, replicate-append-replicate}
use Rattle.compression.specs.Keyed.{keyed_block}

pub keyed_is : (key message : List ℕ) (k : ℕ) → length key ≤ length message → k ≡ length message → put_mid (length message) k (key ++ drop (length key) (replicate (length message + length message) 0)) message ≡ keyed_block (length message) key message
unfolding keyed_block
keyed_is key message k short kb =
    let b : ℕ = length message in
    let n : ℕ = length key in
    let front : List ℕ = key ++ replicate (b - n) 0 in
    let zeros : b + b - n ≡ b - n + b = omega arith in
    let whole : key ++ drop n (replicate (b + b) 0) ≡ front ++ replicate b 0 =
    ap (λ x. key ++ x) (drop-replicate n (b + b) 0 ∙ ap (λ j. replicate j 0) zeros ∙ sym (replicate-append-replicate (b - n) b 0))
    ∙ sym (append_assoc key (replicate (b - n) 0) (replicate b 0)) in
    let long : length front ≡ b = simp (length-append, length-replicate) (omega arith) in
    let head : take b (front ++ replicate b 0) ≡ front = take_at front (replicate b 0) b long in
    let rest : post_of b k (front ++ replicate b 0) ≡ [] =
    drop_all k (drop b (front ++ replicate b 0)) (simp (length-drop, length-append, length-replicate) (omega arith)) in
    ap (λ x. put_mid b k x message) whole ∙ ap₂ (λ x y. x ++ (message ++ y)) head rest
    ∙ ap (λ x. front ++ x) (append-nil message) ∙ append_assoc key (replicate (b - n) 0) message
