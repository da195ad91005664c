-- Any bytes as a book, and a book's bytes read and written. Assumes nothing.
use Rattle.std.specs.Prelude.{◌≡◌, true, false, List, [], ◌∷◌, ℕ, ◌≤◌, ◌<◌, length, get_or, take, Err}
use Rattle.ground.specs.Digits.{all_below}
use Rattle.ground.specs.Lists.{is_among}
use Rattle.book.specs.declared.Book.{Book}
use Rattle.book.specs.declared.Fault.{Fault}
use Rattle.book.specs.Book.{no_entry, book_of}
use Rattle.book.specs.Written.{entry_bytes, book_bytes}
use Rattle.book.specs.Refusals.{book_fault, book_no, book_offset}
use Rattle.book.specs.Offending.{fault_end}
use Rattle.book.specs.Reading.{number_of, offset_of, accepts, refuses, read_book, has_entry, entry_part}
use Rattle.book.specs.Kept.{book_ok}
use Rattle.protocol.specs.Ranges.{well_formed}
use Rattle.protocol.specs.Slot.{start_of}

-- the numbers of refusal of a book
abbrev pub book_numbers : List ℕ
book_numbers = 1 ∷ 2 ∷ 3 ∷ 4 ∷ 5 ∷ 6 ∷ 7 ∷ 8 ∷ 9 ∷ 10 ∷ 11 ∷ 17 ∷ []

pub record BookAnswered (s : List ℕ) : Type 0 where
  -- the number that a start tells is the book's: 0, or one of these
  pub told : number_of (start_of (read_book s)).verdict ≡ book_no s
  pub range : is_among (book_no s) (0 ∷ book_numbers) ≡ true
  -- and so is the offset: that of the first offending byte, never beyond the length
  pub offset : offset_of (start_of (read_book s)).verdict ≡ book_offset s
  pub within : book_offset s ≤ length s
  -- whatever follows the field at fault, the refusal is the same
  pub alike : (t : List ℕ) → (book_no s ≡ 0 → ⊥) → length t ≡ length s
      → take (fault_end (book_fault s)) t ≡ take (fault_end (book_fault s)) s → book_fault t ≡ book_fault s
  -- a refusal yields the number and the offset alone, and no call: 13 refuses the state beside it
  pub refused : (book_no s ≡ 0 → ⊥) → (f : Fault) × ((book_fault s ≡ Err f) × (read_book s ≡ refuses f))
  pub no_call : (book_no s ≡ 0 → ⊥) → well_formed (start_of (read_book s)).state ≡ false
  -- every other book is accepted, passes the check of a kept book, and starts an end that is in its ranges
  pub accepted : book_no s ≡ 0 → read_book s ≡ accepts (book_of s)
  pub passes : book_no s ≡ 0 → book_ok (book_of s) ≡ true
  pub starts : book_no s ≡ 0 → well_formed (start_of (read_book s)).state ≡ true
  -- entry i of it is handed back as its seven bytes; of a refused book, or i not below n, an empty part
  pub entry : (i : ℕ) → book_no s ≡ 0 → i < (book_of s).n → entry_part s i ≡ entry_bytes (get_or (book_of s).entries i no_entry)
  pub no_part : (i : ℕ) → has_entry s i ≡ false → entry_part s i ≡ []

-- a kept book's own bytes are read as that book, and accepted bytes are their book's own
pub record BooksUndone : Type 0 where
  pub read : (b : Book) → book_ok b ≡ true → read_book (book_bytes b) ≡ accepts b
  pub written : (s : List ℕ) (b : Book) → read_book s ≡ accepts b → all_below 256 s ≡ true → book_bytes b ≡ s
