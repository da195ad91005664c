-- A kept book, which may have been stored and damaged: whether it is one that reading yields. Assumes nothing.
use Rattle.std.specs.Prelude.{ℕ, List, Bool, ◌&&◌, length, drop, eqb, is_ok}
use Rattle.std.specs.List.{list_all}
use Rattle.book.specs.declared.Entry.{Entry}
use Rattle.book.specs.declared.Book.{Book}
use Rattle.book.specs.Book.{most_entries, no_entry, version_of, same_params}
use Rattle.book.specs.Refusals.{values_fault, entries_fault}

abbrev pub is_none : Entry → Bool
is_none e = same_params e no_entry && eqb e.form no_entry.form && eqb e.w no_entry.w

unfoldable pub all_none : List Entry → Bool
all_none es = list_all is_none es

-- the array is of eight, and nothing stands in it from n on
unfoldable pub is_padded : List Entry → ℕ → Bool
is_padded es n = eqb (length es) most_entries && all_none (drop n es)

-- the checks of reading find nothing wrong in the values and the entries, and nothing stands past these
unfoldable pub book_ok : Book → Bool
book_ok b =
    is_ok (values_fault b) && is_ok (entries_fault (version_of b) b) && is_padded b.entries b.n
