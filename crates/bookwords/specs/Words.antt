-- What a person is told of a book: the first fault, or what the book says, line by line. Assumes nothing.
use Rattle.std.specs.Prelude.{cond, List, [], ◌∷◌, ◌++◌, ℕ, ◌+◌, eqb, take, Ok, Err}
use Rattle.book.specs.declared.Entry.{Entry}
use Rattle.book.specs.declared.Book.{Book}
use Rattle.book.specs.declared.Fault.{Fault}
use Rattle.book.specs.Book.{originating}
use Rattle.book.specs.Refusals.{Verdict, refusal_number}
use Rattle.book.specs.Reading.{read_book}
use Rattle.text.specs.Ascii.{ascii}
use Rattle.text.specs.Numerals.{decimal_of, parameters_of}

-- what each number of refusal finds wrong
unfoldable pub fault_named : ℕ → List ℕ
fault_named number =
    cond (eqb number 1) (ascii "the book is too short")
    (cond (eqb number 2) (ascii "the mark")
    (cond (eqb number 3) (ascii "the version of the book")
    (cond (eqb number 4) (ascii "the role")
    (cond (eqb number 5) (ascii "the version mask")
    (cond (eqb number 6) (ascii "the limit")
    (cond (eqb number 7) (ascii "the count of entries")
    (cond (eqb number 8) (ascii "the form")
    (cond (eqb number 9) (ascii "form 8 under this version mask")
    (cond (eqb number 10) (ascii "the parameters of an earlier entry")
    (cond (eqb number 11) (ascii "bytes beyond the last entry")
    (cond (eqb number 17) (ascii "the word length")
    [])))))))))))

-- number, and byte
unfoldable pub fault_at : Fault → List ℕ
fault_at f = ascii "refused by number " ++ decimal_of (refusal_number f.refusal) ++ ascii " at byte " ++ decimal_of f.offset ++ ascii ": "

unfoldable pub refused_line : Fault → List ℕ
refused_line f = fault_at f ++ (fault_named (refusal_number f.refusal) ++ ascii "\n")

abbrev pub role_named : ℕ → List ℕ
role_named role = cond (eqb role originating) (ascii "originating\n") (ascii "answering\n")

abbrev pub versions_named : ℕ → List ℕ
versions_named mask =
    cond (eqb mask 1) (ascii "versions 1\n")
    (cond (eqb mask 2) (ascii "versions 2\n")
    (ascii "versions 1 2\n"))

-- what stands in the header
unfoldable pub header_lines : Book → List ℕ
header_lines b =
    ascii "accepted\n" ++ role_named b.role ++ versions_named b.mask ++ ascii "limit " ++ decimal_of b.limit ++ ascii "\n"

-- a w is told in form 0 alone
abbrev pub width_named : Entry → List ℕ
width_named e = cond (eqb e.form 0) (ascii " w " ++ decimal_of e.w) []

unfoldable pub entry_line : ℕ → Entry → List ℕ
entry_line i e =
    ascii "entry " ++ decimal_of i ++ ascii ": " ++ parameters_of e ++ ascii " form " ++ decimal_of e.form ++ width_named e ++ ascii "\n"

-- of the entries from number i on
unfoldable pub entry_lines : ℕ → List Entry → List ℕ
entry_lines i [] = []
entry_lines i (e ∷ es) = entry_line i e ++ entry_lines (i + 1) es

unfoldable pub accepted_lines : Book → List ℕ
accepted_lines b = header_lines b ++ entry_lines 0 (take b.n b.entries)

abbrev pub says_of : Book → Verdict → List ℕ
says_of b (Ok _) = accepted_lines b
says_of b (Err f) = refused_line f

-- of the lent bytes
unfoldable pub book_says : List ℕ → List ℕ
book_says s = says_of (read_book s).book (read_book s).verdict
