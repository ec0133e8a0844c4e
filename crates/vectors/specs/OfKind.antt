-- A choice by the number of a kind. Assumes nothing.
use Rattle.std.specs.Prelude.{ℕ, cond, List, ◌==◌}
use Rattle.compression.specs.Keyed.{sha256, blake2b}

-- What is chosen for a kind, from the bytes of its block, of its shortest and of its longest key, and from its compression;
-- `none` where the kind has no compression.
abbrev pub of_kind : {A : Type 0} → ℕ → ((b shortest longest : ℕ) → (List ℕ → List ℕ → List ℕ → List ℕ) → A) → (none : A) → A
of_kind kind choice none = cond (kind == 1) (choice 32 16 32 sha256) (cond (kind == 2) (choice 64 16 64 blake2b) none)
