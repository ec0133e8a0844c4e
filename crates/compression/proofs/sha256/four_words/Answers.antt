use Rattle.std.proofs.Common.{◌≡◌, ℕ, ◌+◌, ◌-◌, ◌++◌, take, sym, ap, ◌∙◌, append_assoc, arith}
use Rattle.std.proofs.lemmas.List.{length-take-le}
use Rattle.compression.proofs.FourLanes.{loaded, stored}
use Rattle.compression.proofs.Schedules.{schedule_after}
use Rattle.compression.proofs.sha256.four_words.Goals as goal

pub returns : goal.returns
returns c m h =
    let w = c.args.w.now in
    let t : ℕ = c.args.t in
    let r = c.next_four-words.result in
    let p = take (t - 16) w in
    let q = c.lanes.result ++ c.lanes-2.result ++ c.lanes-3.result ++ c.lanes-4.result in
    let split : take t w ≡ p ++ q =
    loaded w t (omega arith) ∙ rw (c.lanes.ensures, c.lanes-2.ensures, c.lanes-3.ensures, c.lanes-4.ensures) in
    stored w t r (omega arith) (omega arith)
    ∙ ap (λ x. x ++ r) split
    ∙ append_assoc p q r
    ∙ ap (λ x. p ++ x) c.next_four-words.ensures
    ∙ schedule_after p (t - 16) (length-take-le (t - 16) w (omega arith)) q m (sym split ∙ h) 4 (t + 4 - 16) (omega arith)
