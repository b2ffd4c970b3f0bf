-- The limits of a pattern.
use Rattle.std.specs.Prelude.{ℕ}

-- a pattern has at most so many units
abbrev pub most_units : ℕ
most_units = 1020

-- and groups inside one another to at most this depth
abbrev pub most_groups : ℕ
most_groups = 32
