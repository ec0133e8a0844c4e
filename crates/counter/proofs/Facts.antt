-- What the code needs to know of its tables to be safe. Assumes nothing.
use Rattle.std.proofs.Common.{◌≡◌, ℕ, zero, suc, ◌≤◌, false, eqb, ltb, List, [], ◌∷◌, length, get_or, ap, arith}
use mathlib.Core.Logic.{∥∥₁_elim, ∥∥₁_map}
use native.Mathlib.Bridge.{le_prop}
use Rattle.std.proofs.lemmas.Bool.{eqb-false, ltb-false, or_parts}
use Rattle.chain.specs.Chain.{first}
use Rattle.counter.specs.declared.tables.Row.{Row}
use Rattle.counter.specs.Cells.{outside}
use Rattle.counter.specs.Ledger.{Setting, Mark}
use Rattle.counter.specs.Shown.{State, no_row, belongs, Listed, Sound}
use Rattle.counter.specs.Inside.{Kept}
use Rattle.counter.proofs.Sums.{count_most}

pub inside : (n k : ℕ) → outside n k ≡ false → (1 ≤ k) × (k ≤ n)
inside n k e = let p = or_parts (eqb k 0) (ltb n k) e in (omega (arith, eqb-false k 0 p.0), ltb-false n k p.1)

-- Of two different row numbers, one is a station's.
pub one_of : (a b n : ℕ) → (a ≡ b → ⊥) → a ≤ n → b ≤ n → 1 ≤ n
one_of a b zero ne p q = absurd (ne (omega arith))
one_of a b (suc n) ne p q = omega arith

pub kept : (s : State) → ∥ Sound s ∥₁ → ∥ Kept s ∥₁
kept s q = ∥∥₁_map q (λ r. (r.0, r.1, record { tidy = r.2.fair.tidy; shows = r.2.shows }))

first_in : (mark : ℕ → Mark) (n : ℕ) (m : Mark) (xs : List ℕ) → 1 ≤ length xs → Listed mark n m xs → (1 ≤ first xs) × (first xs ≤ n)
first_in mark n m [] some p = absurd (omega arith)
first_in mark n m (x ∷ xs) some p = (p.0, p.1)

abbrev stations_of : Setting → ℕ
stations_of x = x.stations

module _ (s : State) (q : ∥ Kept s ∥₁) where
  pub few : s.setting.stations ≤ 8
  few = ∥∥₁_elim q le_prop (λ r. omega (arith, ap stations_of r.2.shows.setting, r.2.tidy.few))

  pub nine_rows : 9 ≤ length s.rows
  nine_rows = ∥∥₁_elim q le_prop (λ r. omega (arith, r.2.shows.nine.0))

  module _ (j : ℕ) (known : j ≤ s.setting.stations) where
    pub row_small : (get_or s.rows j no_row).count ≤ 4096
    row_small = ∥∥₁_elim q le_prop (λ r. omega (arith, ap (λ (w : Row). w.count) (r.2.shows.rows j (omega (arith, ap stations_of r.2.shows.setting))), r.2.tidy.whole j, count_most (λ i. belongs j (r.1.mark i)) r.0.codes, r.2.tidy.small))

    module _ (some : 1 ≤ (get_or s.rows j no_row).count) where
      pub head_low : 1 ≤ (get_or s.rows j no_row).head
      head_low = ∥∥₁_elim q le_prop (λ r.
          let e = r.2.shows.rows j (omega (arith, ap stations_of r.2.shows.setting)) in
          omega (arith, ap (λ (w : Row). w.head) e, (first_in _ _ _ (r.1.row j) (omega (arith, ap (λ (w : Row). w.count) e)) (r.2.tidy.listed j)).0))

      pub head_high : 1 ≤ s.setting.stations → (get_or s.rows j no_row).head ≤ length s.cells
      head_high one = ∥∥₁_elim q le_prop (λ r.
          let m = ap stations_of r.2.shows.setting in
          let e = r.2.shows.rows j (omega (arith, m)) in
          let f = first_in _ _ _ (r.1.row j) (omega (arith, ap (λ (w : Row). w.count) e)) (r.2.tidy.listed j) in
          omega (arith, ap (λ (w : Row). w.head) e, f.1, r.2.shows.size, r.2.tidy.lent (omega (arith, m))))
