-- Readings and what is told, at figures on both sides of each line. Assumes nothing.
use mathlib.Core.Path.{◌≡◌, refl}
use mathlib.Core.Bool.{true, false}
use mathlib.Core.List.{[], ◌∷◌}
use Prim.Native.Nat.{ℕ}
use Rattle.std.specs.Prelude.{Some, None, Ok, Err}
use Rattle.std.specs.declared.env.FillError.TheVariants.{NotPresent, TooLong}
use Rattle.text.specs.Ascii.{ascii}
use Rattle.text.specs.Text.{text}
use Rattle.console.specs.declared.Failure.{Failure}
use Rattle.console.specs.Reading.{came_of}
use Rattle.console.specs.Telling.{told_of, ended}
use Rattle.console.specs.Arguments.{is_argument}

-- into four places: a failure, the end of the input, and no more come than there are places
pub readings_as_answered : came_of {E = ℕ} (Err 0) 4 ∷ came_of {E = ℕ} (Ok 0) 4 ∷ came_of {E = ℕ} (Ok 1) 4 ∷ came_of {E = ℕ} (Ok 4) 4 ∷ came_of {E = ℕ} (Ok 5) 4 ∷ []
    ≡ Err Failure.NotRead ∷ Ok 0 ∷ Ok 1 ∷ Ok 4 ∷ Ok 4 ∷ []
unfolding came_of
readings_as_answered = refl

pub told_as_written : told_of (ascii "tslot") Failure.NotRead ∷ told_of (ascii "tslot") Failure.NotWritten ∷ []
    ≡ ascii "tslot: the input could not be read\n" ∷ ascii "tslot: the output could not be written\n" ∷ []
unfolding told_of
told_as_written = refl

-- an empty argument, one of a byte, one that did not fit, and none
pub arguments_as_answered : is_argument (Ok 0) ∷ is_argument (Ok 1) ∷ is_argument (Err TooLong) ∷ is_argument (Err NotPresent) ∷ []
    ≡ true ∷ true ∷ true ∷ false ∷ []
arguments_as_answered = refl

-- a program that did its work tells nothing, one that could not tells what it could not
pub ended_as_told : ended (ascii "tbook") (Ok tt) ∷ ended (ascii "tbook") (Err Failure.NotRead) ∷ ended (ascii "tbook") (Err Failure.NotWritten) ∷ []
    ≡ None ∷ Some (text (ascii "tbook: the input could not be read\n")) ∷ Some (text (ascii "tbook: the output could not be written\n")) ∷ []
unfolding told_of
ended_as_told = refl
