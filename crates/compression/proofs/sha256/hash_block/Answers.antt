use Rattle.std.proofs.Common.{ℕ, List, ap, ◌∙◌, ap₂, arith}
use Rattle.std.specs.List.{flat_map}
use Rattle.std.proofs.lemmas.List.{take_at}
use Rattle.compression.specs.Words.{to_be, words, from_be}
use Rattle.compression.specs.Sha256.{variables, schedule, rounds, sums, next_hash, hashed}
use Rattle.compression.proofs.sha256.hash_block.Goals as goal

pub returns : goal.returns
unfolding hashed next_hash
returns c =
    let H : List ℕ = words from_be 4 8 c.args.chaining.now in
    let v = c.from-v.ensures ∙ ap variables c.load.ensures in
    let w = c.expand.ensures ∙ ap (schedule 48) (take_at c.load-2.new.out _ 16 (omega arith) ∙ c.load-2.ensures) in
    let u = c.all_rounds.ensures ∙ ap₂ (rounds 64) w v in
    c.store.ensures ∙ ap (flat_map (to_be 4)) (c.add_up.ensures ∙ ap₂ sums v u)
