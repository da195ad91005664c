-- What the programs print is whole and true. Assumes nothing.
use mathlib.Core.Path.{refl}
use Prim.Native.Nat.{◌<◌}
use native.Mathlib.Omega.{arith}
use Rattle.book.specs.Book.{header_length}
use Rattle.book.specs.Offending.{longest_book}
use Rattle.text.proofs.Lengths.{text_whole}
use Rattle.pair.specs.Report.{join_says}
use Rattle.pair.proofs.RunsTrue.{runs_true}
use Rattle.pair.proofs.ReportFits.{report_fits}
use Rattle.script.proofs.Room.{all_said}
use Rattle.script.proofs.SaysTrue.{says_true}
use Rattle.bookwords.proofs.Whole.{all_told, first_told}
use Rattle.claims.specs.Programs.{ProgramsTrue}

past_longest : longest_book < 67
unfolding header_length
past_longest = omega arith

pub programs_true : ProgramsTrue
programs_true =
    record {
      joins = runs_true;
      join_whole = λ s. text_whole (join_says s) (report_fits s);
      scripts = says_true;
      script_whole = λ s out room. all_said s out room refl refl;
      book_whole = all_told;
      book_read = λ s. first_told s 67 past_longest;
    }
