-- How the bytes on their way to an end are kept: in the first d places of an array, of which one holds the byte that arrives next.
-- Assumes nothing.
use Rattle.std.specs.Prelude.{List, ◌++◌, ℕ, take, drop}

-- once around, from the place of the next byte
abbrev pub around : ℕ → ℕ → List ℕ → List ℕ
around d next ring = drop next (take d ring) ++ take next ring
