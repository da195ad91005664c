-- What a reading came to. Assumes nothing.
use Rattle.std.specs.Prelude.{◌≡◌, ℕ, ◌≤◌, min, Result, Ok, Err}
use Rattle.console.specs.declared.Failure.{Failure}

-- one read into n places, by what the library answered: it failed, or so many bytes came
unfoldable pub came_of : {E : Type 0} → Result ℕ E → ℕ → Result ℕ Failure
came_of (Ok k) n = Ok (min k n)
came_of (Err e) n = Err Failure.NotRead

-- into a buffer of n places: no more bytes came than it has, or a read failed
abbrev pub Within : ℕ → Result ℕ Failure → Type 0
Within n (Ok k) = k ≤ n
Within n (Err e) = e ≡ Failure.NotRead
