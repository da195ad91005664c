-- What "the first offending byte" means: the field at fault starts at the offset, and what follows that field does not count.
-- Assumes nothing.
use Rattle.std.specs.Prelude.{ℕ, ◌+◌, ◌-◌, cond, ◌||◌, length, eqb}
use Rattle.book.specs.Book.{mark, book_version, entry_length, most_entries, form_in, entry_start}
use Rattle.book.specs.Refusals.{Verdict, number_of, offset_of}

-- the bytes of the field at fault: none for 1, whose offset is the length; the mark; a 16-bit number; for 9, from the form on, and for 10
-- the whole entry, since it takes all of that to see the fault; else one byte
unfoldable pub field_length : ℕ → ℕ
field_length number =
    cond (eqb number 1) 0
    (cond (eqb number 2) (length mark)
    (cond (eqb number 3 || eqb number 6) 2
    (cond (eqb number 9) (entry_length - form_in)
    (cond (eqb number 10) entry_length
    1))))

-- where that field ends
abbrev pub fault_end : Verdict → ℕ
fault_end v = offset_of v + field_length (number_of v)

-- the bytes of the longest book
abbrev pub longest_book : ℕ
longest_book = entry_start book_version most_entries
