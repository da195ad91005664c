-- What the programs print is whole and true. The promise of `pair::report` is text (join_says s), that of `script::run` a buffer with
-- script_says s over it, that of `bookwords::told` one with book_says s; `tjoin`, `tslot` and `tbook` write as much of them as the length
-- beside them says. Assumes nothing.
use Rattle.std.specs.Prelude.{◌≡◌, List, ℕ, ◌*◌, ◌≤◌, min, length, take}
use Rattle.text.specs.Text.{text}
use Rattle.text.specs.Output.{over}
use Rattle.pair.specs.RunsTrue.{RunsTrue}
use Rattle.pair.specs.Report.{join_says}
use Rattle.script.specs.Output.{script_says}
use Rattle.script.specs.SaysTrue.{SaysTrue}
use Rattle.bookwords.specs.Words.{book_says}

pub record ProgramsTrue : Type 0 where
  -- the run of two books is the undamaged pair of the definitions, is ended by the limits, and concludes as demand 3 says
  pub joins : RunsTrue
  -- what tjoin writes is all that it has to say, since a text has room for it
  pub join_whole : (s : List ℕ) → take (text (join_says s)).length (text (join_says s)).bytes ≡ join_says s
  -- what tslot has to say of an accepted script is, line by line, what the call of demand 2 does
  pub scripts : SaysTrue
  -- it writes all of that, since its buffer has room for what any script says
  pub script_whole : (s out : List ℕ) → 17 * 65536 ≤ length out
      → take (min (length (script_says s)) (length out)) (over (script_says s) out) ≡ script_says s
  -- what tbook has to say of a book it writes whole too, and the first 67 bytes that it reads are told as all of them are
  pub book_whole : (s out : List ℕ) → 400 ≤ length out
      → take (min (length (book_says s)) (length out)) (over (book_says s) out) ≡ book_says s
  pub book_read : (s : List ℕ) → book_says (take 67 s) ≡ book_says s
