-- Books and what is told of them, each computed: a refusal of every number, at its offset, and accepted books of each role, mask and form.
-- Assumes nothing.
use mathlib.Core.Path.{◌≡◌, refl}
use mathlib.Core.List.{List, [], ◌∷◌, ◌++◌, map}
use Prim.Native.Nat.{ℕ}
use lib.ListN.{take, set}
use Rattle.book.specs.Book.{header_length, version_in, entries_of, kept_entries}
use Rattle.book.specs.Refusals.{start_fault, values_fault, length_fault, seen_in, entry_fault, each_fault, entries_fault, book_fault}
use Rattle.book.specs.Reading.{read_book}
use Rattle.book.proofs.Samples.{header, entry, one, several, six, good}
use Rattle.text.specs.Ascii.{ascii}
use Rattle.text.specs.Numerals.{decimal_of, hex_of, parameters_of}
use Rattle.bookwords.specs.Words.{fault_named, fault_at, refused_line, header_lines, entry_line, entry_lines, accepted_lines, book_says}

-- a row for each number of refusal, in the order of the checks
abbrev pub refusals : List (List ℕ × List ℕ)
refusals =
    ([], ascii "refused by number 1 at byte 0: the book is too short\n")
    ∷ (take 9 good, ascii "refused by number 1 at byte 9: the book is too short\n")
    ∷ (set good 0 116, ascii "refused by number 2 at byte 0: the mark\n")
    ∷ (header 2 0 3 500 1 ++ entry 1 5 7 0, ascii "refused by number 3 at byte 3: the version of the book\n")
    ∷ (header 1 2 3 500 1 ++ entry 1 5 7 0, ascii "refused by number 4 at byte 5: the role\n")
    ∷ (one 0 (entry 1 5 7 0), ascii "refused by number 5 at byte 6: the version mask\n")
    ∷ (header 1 0 3 424 1 ++ entry 1 5 7 0, ascii "refused by number 6 at byte 7: the limit\n")
    ∷ (several 3 0 [], ascii "refused by number 7 at byte 9: the count of entries\n")
    ∷ (take 16 good, ascii "refused by number 1 at byte 16: the book is too short\n")
    ∷ (good ++ (10 ∷ []), ascii "refused by number 11 at byte 17: bytes beyond the last entry\n")
    ∷ (one 3 (entry 1 5 5 0), ascii "refused by number 8 at byte 15: the form\n")
    ∷ (one 3 (entry 1 5 0 9), ascii "refused by number 17 at byte 16: the word length\n")
    ∷ (one 1 (entry 1 5 8 0), ascii "refused by number 9 at byte 15: form 8 under this version mask\n")
    ∷ (several 3 2 (entry 1 5 7 0 ++ entry 1 5 6 0), ascii "refused by number 10 at byte 17: the parameters of an earlier entry\n")
    ∷ []

-- originating and answering; each mask; each form, of which form 0 alone has a w; the limit at its edges; eight entries
abbrev pub accepted : List (List ℕ × List ℕ)
accepted =
    (good, ascii "accepted\noriginating\nversions 1 2\nlimit 500\nentry 0: 0102030405 form 7\n")
    ∷ (header 1 0 1 425 1 ++ entry 1 5 6 0, ascii "accepted\noriginating\nversions 1\nlimit 425\nentry 0: 0102030405 form 6\n")
    ∷ (header 1 1 2 65535 1 ++ entry 0xFE 0xA0 8 0, ascii "accepted\nanswering\nversions 2\nlimit 65535\nentry 0: FE020304A0 form 8\n")
    ∷ (one 3 (entry 1 5 8 0), ascii "accepted\noriginating\nversions 1 2\nlimit 500\nentry 0: 0102030405 form 8\n")
    ∷ (
      several 3 2 (entry 1 5 7 0 ++ entry 1 6 0 8),
      ascii "accepted\nanswering\nversions 1 2\nlimit 500\nentry 0: 0102030405 form 7\nentry 1: 0102030406 form 0 w 8\n",
    )
    ∷ (
      several 3 8 (six ++ entry 7 5 0 5 ++ entry 8 5 7 0),
      ascii "accepted\nanswering\nversions 1 2\nlimit 500\nentry 0: 0102030405 form 7\nentry 1: 0202030405 form 7\nentry 2: 0302030405 form 7\nentry 3: 0402030405 form 7\nentry 4: 0502030405 form 7\nentry 5: 0602030405 form 7\nentry 6: 0702030405 form 0 w 5\nentry 7: 0802030405 form 7\n",
    )
    ∷ []

pub record BookTold : Type 0 where
  pub refuses : map (λ (c : List ℕ × List ℕ). book_says c.0) refusals ≡ map (λ (c : List ℕ × List ℕ). c.1) refusals
  pub accepts : map (λ (c : List ℕ × List ℕ). book_says c.0) accepted ≡ map (λ (c : List ℕ × List ℕ). c.1) accepted
  -- there are no other numbers of refusal of a book
  pub no_other : map fault_named (0 ∷ 12 ∷ 16 ∷ 18 ∷ []) ≡ [] ∷ [] ∷ [] ∷ [] ∷ []

pub book_told : BookTold
unfolding
    book_says refused_line fault_at fault_named accepted_lines header_lines entry_lines entry_line read_book book_fault start_fault values_fault
    length_fault entries_fault each_fault entry_fault seen_in header_length version_in entries_of kept_entries decimal_of hex_of parameters_of
book_told = record { refuses = refl; accepts = refl; no_other = refl }
