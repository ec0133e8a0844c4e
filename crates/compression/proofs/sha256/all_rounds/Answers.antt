use Rattle.std.proofs.Common.{refl}
use Rattle.compression.specs.Sha256.{rounds}
use Rattle.compression.proofs.sha256.all_rounds.Goals as goal

pub returns : goal.returns
unfolding rounds
returns c =
    let v = c.args.v in
    c.four_rounds-v-16.ensures v (c.four_rounds-v-15.ensures v (c.four_rounds-v-14.ensures v (c.four_rounds-v-13.ensures v
    (c.four_rounds-v-12.ensures v (c.four_rounds-v-11.ensures v (c.four_rounds-v-10.ensures v (c.four_rounds-v-9.ensures v
    (c.four_rounds-v-8.ensures v (c.four_rounds-v-7.ensures v (c.four_rounds-v-6.ensures v (c.four_rounds-v-5.ensures v
    (c.four_rounds-v-4.ensures v (c.four_rounds-v-3.ensures v (c.four_rounds-v-2.ensures v (c.four_rounds-v.ensures v refl)))))))))))))))
