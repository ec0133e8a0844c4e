-- Chains over cells that are numbered from 1. Assumes nothing.
use Rattle.std.specs.Prelude.{◌≡◌, ℕ, zero, suc, ◌-◌, ◌≤◌, Bool, cond, ◌||◌, List, [], ◌∷◌, length, ◌==◌, ◌≢◌, nat_lt, slice_index}

-- None of n cells has the number i.
abbrev pub no_cell : (n i : ℕ) → Bool
no_cell n i = i == 0 || nat_lt n i

-- The next number of cell i, or 0 where no cell has the number i.
abbrev pub next_of : (nexts : List ℕ) → (i : ℕ) → ℕ
next_of nexts i = cond (no_cell (length nexts) i) 0 (slice_index nexts (i - 1))

-- The cells with another next number in the one at this place, counted from 0.
abbrev pub relink_at : {R : Type 0} → (R → ℕ → R) → List R → ℕ → ℕ → List R
relink_at relinked [] place next = []
relink_at relinked (x ∷ xs) zero next = relinked x next ∷ xs
relink_at relinked (x ∷ xs) (suc place) next = x ∷ relink_at relinked xs place next

-- The cells with another next number in cell i. Where no cell has the number i they are as they were.
abbrev pub relink : {R : Type 0} → (R → ℕ → R) → List R → ℕ → ℕ → List R
relink relinked cells zero next = cells
relink relinked cells (suc i) next = relink_at relinked cells i next

-- From this head, by the next numbers of the cells, the chain has the cells of the list, in order, and ends.
abbrev pub Chain : (nexts : List ℕ) → (head : ℕ) → List ℕ → Type 0
Chain nexts head [] = head ≡ 0
Chain nexts head (x ∷ xs) = (head ≡ x) × (1 ≤ x) × (x ≤ length nexts) × Chain nexts (slice_index nexts (x - 1)) xs

-- x is not in the list.
abbrev pub Absent : ℕ → List ℕ → Type 0
Absent x [] = Unit {0}
Absent x (y ∷ ys) = (x ≢ y) × Absent x ys

-- The first of a list, or 0: the head of its chain.
abbrev pub first : List ℕ → ℕ
first [] = 0
first (x ∷ xs) = x

-- The one that follows x in a list, or 0: its next number.
abbrev pub follower : List ℕ → ℕ → ℕ
follower [] x = 0
follower (y ∷ ys) x = cond (x == y) (first ys) (follower ys x)
