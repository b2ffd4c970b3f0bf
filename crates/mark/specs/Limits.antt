-- The limit of a frame.
use Rattle.std.specs.Prelude.{ℕ}

-- a frame has at most so many bytes
abbrev pub most_bytes : ℕ
most_bytes = 4096
