-- What a program tells of a failure. Assumes nothing.
use Rattle.std.specs.Prelude.{List, ◌++◌, ℕ, ⊤, Option, Some, None, Result, Ok, Err}
use Rattle.text.specs.Ascii.{ascii}
use Rattle.text.specs.Text.{text}
use Rattle.text.specs.declared.Text.{Text}
use Rattle.console.specs.declared.Failure.{Failure}

-- one line: the program's name and what could not be done
unfoldable pub told_of : List ℕ → Failure → List ℕ
told_of name Failure.NotRead = name ++ ascii ": the input could not be read\n"
told_of name Failure.NotWritten = name ++ ascii ": the output could not be written\n"

-- of what a program came to: nothing where it did what it was to do, else that line
abbrev pub ended : List ℕ → Result ⊤ Failure → Option Text
ended name (Ok tt) = None
ended name (Err failure) = Some (text (told_of name failure))
