-- `told` tells what the verdict calls for. Assumes nothing.
use Rattle.text.proofs.Filling.{said_as}
use Rattle.bookwords.proofs.Filled.{kept_book, says_accepted, offset_fits, says_refused}
use Rattle.bookwords.proofs.told.Goals as goal

pub accepted-requires : goal.accepted-requires
accepted-requires c = kept_book _ c.read_book-answer.ensures.value c.in-Ok.is

pub refused-requires : goal.refused-requires
refused-requires c = offset_fits _ c.read_book-answer.ensures.value _ c.in-Err.is

pub returns-in-Ok : goal.returns-in-Ok
returns-in-Ok c = let both = said_as c.args.out.now
    (says_accepted _ c.read_book-answer.ensures.value c.in-Ok.is)
    c.accepted.ensures.value c.accepted.ensures.out_after in record { value = both.0; out_after = both.1 }

pub returns-in-Err : goal.returns-in-Err
returns-in-Err c = let both = said_as c.args.out.now
    (says_refused _ c.read_book-answer.ensures.value _ c.in-Err.is)
    c.refused.ensures.value c.refused.ensures.out_after in record { value = both.0; out_after = both.1 }
