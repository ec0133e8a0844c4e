use Rattle.std.proofs.Common.{◌≡◌, ℕ, ◌<◌, List, [], length, get_or, take, sym, ap, ◌∙◌, ap₂, lt_of_le_of_lt, rules}
use Rattle.std.proofs.Math.ListN.{get_or-append}
use Rattle.std.proofs.lemmas.List.{take_at, places}
use Rattle.sealing.specs.Double.{double}
use Rattle.sealing.specs.Omd.{L⋆, ntz}
use Rattle.sealing.specs.Parts.{doublings}
use Rattle.sealing.proofs.BlockNumbers.{few_zeros}
use Rattle.sealing.proofs.Buffers.{fits, zeros_front}
use Rattle.sealing.proofs.Rows.{L_is}
use Rattle.sealing.proofs.masks.Masks.work_out.Goals as goal

pub invariant_of-result : goal.invariant_of-result
unfolding L⋆
invariant_of-result g c =
    let b : ℕ = g.C.Compression.BLOCK_LEN in
    let F = g.C.Compression.meaning c.args.key.bytes.now in
    let n : ℕ = c.BLOCK_LEN-b.result in
    let e : n ≡ b = c.BLOCK_LEN-b.ensures in
    let fit = fits b g.met.C.Compression.blocked in
    let cut : (xs : List ℕ) → take n xs ≡ take b xs = λ xs. ap (λ k. take k xs) e in
    let zero = zeros_front n b e fit.1 in
    let first : List ℕ = c.compress.new.place in
    let second : List ℕ = c.double_block.new.s in
    let is_first : first ≡ L⋆ b F = c.compress.ensures ∙ ap₂ F zero zero in
    let long_first : length first ≡ b = ap length is_first ∙ g.met.C.Compression.sized _ _ _ in
    let once : take b _ ≡ L⋆ b F = take_at first _ b long_first ∙ is_first in
    let is_second : second ≡ double (L⋆ b F) = c.double_block.ensures ∙ ap double (cut _ ∙ once) in
    let long_second : length second ≡ b = search (rules, places) in
    let twice : take b _ ≡ double (L⋆ b F) = take_at second _ b long_second ∙ is_second in
    record {
      small = c.requires;
      once_is = once;
      twice_is = twice;
      rows_are = λ i low high.
          let few : ntz i < c.rows_needed.result = few_zeros 64 _ i low (lt_of_le_of_lt high c.rows_needed.ensures.enough) in
          let made : List (List ℕ) = c.fill_rows.new.rows in
          let within : ntz i < length made = search (rules, places) in
          ap (take b) (get_or-append made _ [] (ntz i) within) ∙ sym (cut (get_or made (ntz i) []))
          ∙ c.fill_rows.ensures (ntz i) (search (rules, places)) ∙ ap (doublings (ntz i)) (cut _ ∙ twice) ∙ L_is b F (ntz i);
    }
