use Rattle.std.proofs.Common.{◌≤◌, length, take, sym, refl, ◌∙◌, arith}
use Rattle.std.proofs.lemmas.List.{take_all}
use Rattle.compression.specs.Sha256.{schedule}
use Rattle.compression.proofs.sha256.expand.Goals as goal

pub returns : goal.returns
unfolding schedule
returns c =
    let m = take 16 c.args.w.now in
    let w = c.four_words-12.new.w in
    let upto =
    c.four_words-12.ensures m (c.four_words-11.ensures m (c.four_words-10.ensures m (c.four_words-9.ensures m
    (c.four_words-8.ensures m (c.four_words-7.ensures m (c.four_words-6.ensures m (c.four_words-5.ensures m
    (c.four_words-4.ensures m (c.four_words-3.ensures m (c.four_words-2.ensures m (c.four_words.ensures m refl))))))))))) in
    let room : length w ≤ 64 = omega arith in
    sym (take_all 64 w room) ∙ upto
