-- The book as bytes and as it is kept. Bytes: "TLB", 16-bit version 0001, role, version mask, 16-bit limit, count n, then n entries of 7:
-- p0 to p4, form, w. Numbers are big-endian. Assumes nothing.
use Rattle.std.specs.Prelude.{ℕ, zero, suc, ◌+◌, ◌*◌, ◌-◌, List, [], ◌∷◌, ◌++◌, Bool, ◌&&◌, get_or, replicate, eqb}
use Rattle.book.specs.declared.Entry.{Entry}
use Rattle.book.specs.declared.Book.{Book}

-- "TLB"
abbrev pub mark : List ℕ
mark = 84 ∷ 76 ∷ 66 ∷ []

-- the only version of the book
abbrev pub book_version : ℕ
book_version = 1

abbrev pub originating : ℕ
originating = 0

abbrev pub answering : ℕ
answering = 1

-- the bytes of the shortest header, which must be there before the version is looked at
abbrev pub least_header : ℕ
least_header = 10

-- the bytes before the entries, by the book's version: 10 in the only one
unfoldable pub header_length : ℕ → ℕ
header_length version = least_header

-- the bytes of one entry
abbrev pub entry_length : ℕ
entry_length = 7

-- there are at most eight entries
abbrev pub most_entries : ℕ
most_entries = 8

-- where each field of the header starts
abbrev pub mark_at : ℕ
mark_at = 0

abbrev pub version_at : ℕ
version_at = 3

abbrev pub role_at : ℕ
role_at = 5

abbrev pub mask_at : ℕ
mask_at = 6

abbrev pub limit_at : ℕ
limit_at = 7

abbrev pub count_at : ℕ
count_at = 9

-- where entry i starts, by the book's version; where i entries end
abbrev pub entry_start : ℕ → ℕ → ℕ
entry_start version i = header_length version + entry_length * i

-- where in an entry its form and its w stand
abbrev pub form_in : ℕ
form_in = 5

abbrev pub width_in : ℕ
width_in = 6

-- the 16-bit number at k
abbrev pub word_at : List ℕ → ℕ → ℕ
word_at s k = 256 * get_or s k 0 + get_or s (k + 1) 0

-- the version that the bytes s are of
unfoldable pub version_in : List ℕ → ℕ
version_in s = word_at s version_at

-- the entry whose seven bytes start at k
abbrev pub entry_at : List ℕ → ℕ → Entry
entry_at s k = record {
  p0 = get_or s k 0;
  p1 = get_or s (k + 1) 0;
  p2 = get_or s (k + 2) 0;
  p3 = get_or s (k + 3) 0;
  p4 = get_or s (k + 4) 0;
  form = get_or s (k + form_in) 0;
  w = get_or s (k + width_in) 0;
}

-- the first n entries of s, read as a book of that version
unfoldable pub entries_of : ℕ → List ℕ → ℕ → List Entry
entries_of version s zero = []
entries_of version s (suc n) = entries_of version s n ++ (entry_at s (entry_start version n) ∷ [])

-- what stands past the entries of a kept book
abbrev pub no_entry : Entry
no_entry = record { p0 = 0; p1 = 0; p2 = 0; p3 = 0; p4 = 0; form = 0; w = 0 }

abbrev pub no_entries : List Entry
no_entries = replicate most_entries no_entry

-- the array that keeps the first n entries of s, read as a book of that version
unfoldable pub kept_entries : ℕ → List ℕ → ℕ → List Entry
kept_entries version s n = entries_of version s n ++ replicate (most_entries - n) no_entry

-- the kept book of these values and this array of entries
abbrev pub book_with : ℕ → ℕ → ℕ → ℕ → List Entry → Book
book_with role mask limit n es = record { role = role; mask = mask; limit = limit; n = n; entries = es }

-- b with es for its array of entries
abbrev pub with_entries : Book → List Entry → Book
with_entries b es = book_with b.role b.mask b.limit b.n es

-- the values of s, with no entries yet
abbrev pub header_of : List ℕ → Book
header_of s = book_with (get_or s role_at 0) (get_or s mask_at 0) (word_at s limit_at) (get_or s count_at 0) no_entries

-- the book that the bytes s say
abbrev pub book_of : List ℕ → Book
book_of s = with_entries (header_of s) (kept_entries (version_in s) s (get_or s count_at 0))

-- the version that a kept book was read from: the only one
unfoldable pub version_of : Book → ℕ
version_of b = book_version

-- the book that stands beside a refusal: its number alone counts
abbrev pub no_book : Book
no_book = book_with 0 0 0 0 no_entries

-- The five parameters.

abbrev pub params_of : Entry → List ℕ
params_of e = e.p0 ∷ e.p1 ∷ e.p2 ∷ e.p3 ∷ e.p4 ∷ []

-- compared as bytes
abbrev pub same_params : Entry → Entry → Bool
same_params a b =
    eqb a.p0 b.p0 && eqb a.p1 b.p1 && eqb a.p2 b.p2 && eqb a.p3 b.p3 && eqb a.p4 b.p4
