use Rattle.std.proofs.Common.{◌≡◌, ℕ, suc, ◌-◌, List, ◌∷◌, ◌++◌, length, drop, set, ap, ◌∙◌, ap₂, arith}
use Rattle.std.proofs.lemmas.List.{drop-replicate, set_at}
use Rattle.sealing.specs.Strings.{padded, zeros}
use Rattle.sealing.proofs.bytes.pad.Goals as goal

pub returns : goal.returns
unfolding padded
returns c =
    let text : List ℕ = c.args.text.now in
    let n : ℕ = length text in
    let m : ℕ = length c.args.place.now in
    let rest : drop n c.args.place.now ≡ 0 ∷ zeros (m - n - 1) =
    ap (drop n) c.requires.1 ∙ drop-replicate n m 0 ∙ ap zeros (let e : m - n ≡ suc (m - n - 1) = omega arith in e) in
    ap₂ (λ x y. set (x ++ y) n 0x80) c.copy_from_slice.ensures.after rest ∙ set_at text 0 (zeros (m - n - 1)) 0x80 n (let e : length text ≡ n = omega arith in e)
