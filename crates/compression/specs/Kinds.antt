-- The numbers of the kinds of compression. Assumes nothing.
use Rattle.std.specs.Prelude.{ℕ, if◌then◌else◌, ◌==◌, Ok, Err, Result}
use Rattle.refusal.specs.declared.Refusal.{Refusal}
use Rattle.refusal.specs.declared.Refusal.TheVariants.{KindMismatch}
use Rattle.compression.specs.declared.kind.Kind.{Kind}
use Rattle.compression.specs.declared.kind.Kind.TheVariants.{Sha256, Blake2b}

-- The kind with a number, or the refusal where none has it.
abbrev pub kind_numbered : ℕ → Result Kind Refusal
kind_numbered n = if n == 1 then Ok Sha256 else if n == 2 then Ok Blake2b else Err KindMismatch
