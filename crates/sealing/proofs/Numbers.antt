-- A number in more bytes than it needs. Assumes nothing.
use Rattle.std.proofs.Common.{◌≡◌, ℕ, zero, suc, ◌+◌, ◌-◌, ◌%◌, ◌^◌, ◌<◌, ◌≤◌, List, [], ◌∷◌, ◌++◌, length, take, drop, sym, ap, ◌∙◌, ap₂, lt_of_lt_of_le, suc-add, zero-add, le-add_left, arith, length-drop}
use native.Mathlib.Nat.{pow-le-pow_right, div-eq_of_lt}
use borrow.Rule.Slice.PartMut.{put_mid, post_of}
use lib.ListN.{length-replicate}
use Rattle.std.proofs.lemmas.List.{append-nil, take-replicate, drop_all}
use Rattle.compression.specs.Words.{to_be}
use Rattle.sealing.specs.Strings.{zeros}

pub to_be_more : (k n v : ℕ) → v < 256 ^ n → to_be (k + n) v ≡ zeros k ++ to_be n v
to_be_more zero n v h = ap (λ m. to_be m v) (zero-add n)
to_be_more (suc k) n v h =
    let big : v < 256 ^ (k + n) = lt_of_lt_of_le h (pow-le-pow_right (omega arith) (le-add_left n k)) in
    ap (λ m. to_be m v) (suc-add k n) ∙ ap₂ ◌∷◌ (ap (λ q. q % 256) (div-eq_of_lt big)) (to_be_more k n v h)

-- the last n bytes of zeros written over
pub number_put : (m n k v : ℕ) (place bytes : List ℕ) → n ≤ m → k ≡ n → place ≡ zeros m → bytes ≡ to_be n v → v < 256 ^ n → put_mid (m - n) k place bytes ≡ to_be m v
number_put m n k v place bytes fits same is_zero is_number small =
    let at : m - n + n ≡ m = omega arith in
    let front : take (m - n) place ≡ zeros (m - n) = ap (take (m - n)) is_zero ∙ take-replicate (m - n) m 0 (omega arith) in
    let long : length place ≡ m = ap length is_zero ∙ length-replicate m 0 in
    let rest : post_of (m - n) k place ≡ [] = drop_all k (drop (m - n) place) (simp length-drop (omega arith)) in
    ap₂ ◌++◌ front (ap₂ ◌++◌ is_number rest ∙ append-nil (to_be n v)) ∙ sym (to_be_more (m - n) n v small) ∙ ap (λ j. to_be j v) at
