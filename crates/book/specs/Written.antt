-- A kept book written out again. Assumes nothing.
use Rattle.std.specs.Prelude.{ℕ, ◌/◌, ◌%◌, List, [], ◌∷◌, ◌++◌, take}
use Rattle.book.specs.declared.Entry.{Entry}
use Rattle.book.specs.declared.Book.{Book}
use Rattle.book.specs.Book.{mark, version_of, params_of}

abbrev pub word_bytes : ℕ → List ℕ
word_bytes v = v / 256 ∷ v % 256 ∷ []

abbrev pub entry_bytes : Entry → List ℕ
entry_bytes e = params_of e ++ (e.form ∷ e.w ∷ [])

unfoldable pub entries_bytes : List Entry → List ℕ
entries_bytes [] = []
entries_bytes (e ∷ es) = entry_bytes e ++ entries_bytes es

abbrev pub header_bytes : Book → List ℕ
header_bytes b = mark ++ word_bytes (version_of b) ++ (b.role ∷ b.mask ∷ []) ++ word_bytes b.limit ++ (b.n ∷ [])

-- the book's own bytes
unfoldable pub book_bytes : Book → List ℕ
book_bytes b = header_bytes b ++ entries_bytes (take b.n b.entries)
