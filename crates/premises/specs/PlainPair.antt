-- For every delay two books that may be joined, and what their ends may be given. Assumes nothing.
use Rattle.std.specs.Prelude.{◌∷◌, ℕ, ◌+◌, ◌*◌, replicate}
use Rattle.book.specs.declared.Book.{Book}
use Rattle.book.specs.Book.{no_entry, book_with}
use Rattle.protocol.specs.Joined.{idle}
use Rattle.protocol.specs.declared.Drive.{Drive}

-- one entry, form 8, under mask 3, its five parameters 0, and the least limit that the delay leaves
abbrev pub plain_book : ℕ → ℕ → Book
plain_book d role =
    book_with role 3 (5 * d + 420) 1
    (record { p0 = 0; p1 = 0; p2 = 0; p3 = 0; p4 = 0; form = 8; w = 0 } ∷ replicate 7 no_entry)

-- with any limit
abbrev pub plain_with : ℕ → ℕ → Book
plain_with limit role =
    book_with role 3 limit 1
    (record { p0 = 0; p1 = 0; p2 = 0; p3 = 0; p4 = 0; form = 8; w = 0 } ∷ replicate 7 no_entry)

-- and where one end starts e slots after the other. The limit of a book that is read has 16 bits, so that e+5d+420 is at most 65,535 for it
abbrev pub late_book : ℕ → ℕ → ℕ → Book
late_book d e role = plain_with (e + 5 * d + 420) role

abbrev pub plain_drive : ℕ → Drive
plain_drive t = idle
