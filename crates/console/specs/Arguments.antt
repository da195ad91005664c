-- What the system answers to the question for an argument. Assumes nothing.
use Rattle.std.specs.Prelude.{ℕ, Bool, true, false, Result, Ok, Err}
use Rattle.std.specs.declared.env.FillError.{FillError}
use Rattle.std.specs.declared.env.FillError.TheVariants.{NotPresent, TooLong}

-- there is one where it came, whatever its length, and where it did not fit the room that was lent
abbrev pub is_argument : Result ℕ FillError → Bool
is_argument (Ok length) = true
is_argument (Err NotPresent) = false
is_argument (Err TooLong) = true
