-- What the functions inside this crate ask of one another; no public contract cites it. Assumes nothing.
use Rattle.std.specs.Prelude.{◌≡◌, ℕ, ◌+◌, ◌≤◌, List, length, Ok}
use Rattle.compression.specs.Compress.{key_verdict}

-- The key is taken, header and message are within their limits, and the place holds the image.
pub record Buildable (shortest longest : ℕ) (key header message place : List ℕ) : Type 0 where
  pub key_taken : key_verdict shortest longest key ≡ Ok tt
  pub header_fits : length header ≤ 64
  pub message_fits : length message ≤ 96
  pub place_fits : 32 + length header + length message ≤ length place
