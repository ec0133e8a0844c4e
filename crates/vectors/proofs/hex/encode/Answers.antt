use Rattle.std.proofs.Common.{◌≡◌, List, ℕ, rules, arith}
use Rattle.std.proofs.lemmas.Grind.{common_steps}
use Rattle.std.proofs.ByRecursion.{All-from_get_or}
use Rattle.std.specs.Int.Digits.{AllBelowBase}
use Rattle.std.specs.List.{flat_map}
use Rattle.vectors.specs.Field.{two_digits}
use Rattle.vectors.proofs.Digits.{ascii}
use Rattle.vectors.proofs.hex.encode.Goals as goal

pub returns-clause-ascii : goal.returns-clause-ascii
returns-clause-ascii c =
    let bytes : List ℕ = c.args.bytes.now in
    let below : AllBelowBase 256 bytes = All-from_get_or _ bytes 0 (λ i h. search rules) in
    let digits : c.loop-i.place ≡ flat_map two_digits bytes = grind (arith, common_steps) in
    rw digits (ascii bytes below)
