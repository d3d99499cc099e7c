-- Sequence numbers, counted modulo 2^32 (RFC 793, section 3.3).
use Rattle.std.specs.Prelude.{ℕ, ◌%◌}

-- A number as it is on the wire.
abbrev pub wrap : ℕ → ℕ
wrap n = n % 4294967296
