-- What reading a book replies, and what the lookup of an entry hands back. Assumes nothing.
use Rattle.std.specs.Prelude.{ℕ, List, [], Bool, cond, ◌&&◌, take, drop, ltb, eqb, Ok, Err}
use Rattle.book.specs.declared.Book.{Book}
use Rattle.book.specs.declared.Fault.{Fault}
use Rattle.book.specs.declared.BookRead.{BookRead}
use Rattle.book.specs.Book.{entry_length, entry_start, version_in, book_of, no_book}
use Rattle.book.specs.Refusals.{Verdict, nothing_wrong, book_fault, book_no}
pub use Rattle.book.specs.Refusals.{number_of, offset_of}

abbrev pub accepts : Book → BookRead
accepts b = record { verdict = nothing_wrong; book = b }

-- a refusal yields the number and the offset alone
abbrev pub refuses : Fault → BookRead
refuses f = record { verdict = Err f; book = no_book }

-- what a verdict on the bytes of the book b yields
abbrev pub yields : Verdict → Book → BookRead
yields (Ok _) b = accepts b
yields (Err f) b = refuses f

unfoldable pub read_book : List ℕ → BookRead
read_book s = yields (book_fault s) (book_of s)

-- s is accepted and has an entry i
unfoldable pub has_entry : List ℕ → ℕ → Bool
has_entry s i = eqb (book_no s) 0 && ltb i (book_of s).n

-- the seven bytes of entry i, or an empty part
unfoldable pub entry_part : List ℕ → ℕ → List ℕ
entry_part s i = cond (has_entry s i) (take entry_length (drop (entry_start (version_in s) i) s)) []

-- where in s that part starts: an empty part at 0
unfoldable pub part_at : List ℕ → ℕ → ℕ
part_at s i = cond (has_entry s i) (entry_start (version_in s) i) 0
