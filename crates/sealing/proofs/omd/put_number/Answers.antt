use Rattle.std.proofs.Common.{◌≡◌, ℕ, List, length, ◌∙◌, div-one, arith}
use Rattle.compression.specs.Words.{to_be}
use Rattle.sealing.proofs.Numbers.{number_put}
use Rattle.sealing.proofs.omd.put_number.Goals as goal

pub returns : goal.returns
returns c =
    let bytes : List ℕ = c.copy_from_slice.new.self in
    let is : bytes ≡ to_be 8 c.args.n = c.copy_from_slice.ensures.after ∙ c.to_be_bytes.ensures ∙ simp div-one in
    number_put (length c.args.place.now) 8 _ c.args.n c.args.place.now bytes c.requires.0 (omega arith) c.requires.1 is (omega arith)
