-- Sample books, each written out byte by byte, with the number that refuses it and the offset of the first offending byte, or 0 and 0; and
-- the reply, the lookup and the check of a kept book on samples. All of it is computed. Assumes nothing.
use Prim.Native.Nat.{ℕ, ◌-◌, ◌/◌, ◌%◌}
use mathlib.Core.Path.{◌≡◌, refl}
use mathlib.Core.Bool.{Bool, true, false}
use mathlib.Core.List.{List, [], ◌∷◌, ◌++◌, map}
use lib.ListN.{length, take, replicate, set}
use Rattle.book.specs.declared.Entry.{Entry}
use Rattle.book.specs.declared.Book.{Book}
use Rattle.book.specs.declared.Refusal.TheVariants.{TooShort, TooLong}
use Rattle.book.specs.Book.{header_length, version_in, entries_of, kept_entries, book_with, version_of, params_of}
use Rattle.book.specs.Written.{word_bytes, entries_bytes, book_bytes}
use Rattle.book.specs.Refusals.{fault, nothing_wrong, start_fault, values_fault, length_fault, seen_in, entry_fault, each_fault, entries_fault, book_fault, book_no, book_offset}
use Rattle.book.specs.Offending.{field_length, fault_end, longest_book}
use Rattle.book.specs.Reading.{number_of, offset_of, read_book, has_entry, entry_part, part_at}
use Rattle.book.specs.Kept.{all_none, is_padded, book_ok}

-- "TLB", version, role, mask, limit, count
abbrev pub header : ℕ → ℕ → ℕ → ℕ → ℕ → List ℕ
header version role mask limit n =
    84 ∷ 76 ∷ 66 ∷ version / 256 ∷ version % 256 ∷ role ∷ mask ∷ limit / 256 ∷ limit % 256 ∷ n ∷ []

-- an entry whose parameters are p, 2, 3, 4 and q
abbrev pub entry : ℕ → ℕ → ℕ → ℕ → List ℕ
entry p q form w = p ∷ 2 ∷ 3 ∷ 4 ∷ q ∷ form ∷ w ∷ []

-- an originating book with this one entry, and an answering one with so many
abbrev pub one : ℕ → List ℕ → List ℕ
one mask e = header 1 0 mask 500 1 ++ e

abbrev pub several : ℕ → ℕ → List ℕ → List ℕ
several mask n es = header 1 1 mask 500 n ++ es

-- six entries that differ
abbrev pub six : List ℕ
six = entry 1 5 7 0 ++ entry 2 5 7 0 ++ entry 3 5 7 0 ++ entry 4 5 7 0 ++ entry 5 5 7 0 ++ entry 6 5 7 0

abbrev pub good : List ℕ
good = one 3 (entry 1 5 7 0)

-- a number of refusal and an offset
abbrev pub told : ℕ → ℕ → ℕ × ℕ
told number offset = (number, offset)

-- bytes, and what is wrong with them: the number, and the offset of the first offending byte
abbrev pub cases : List (List ℕ × (ℕ × ℕ))
cases =
    (good, told 0 0)
    -- 1, at the length: fewer than 10 bytes; fewer than 10+7n
    ∷ ([], told 1 0)
    ∷ (84 ∷ [], told 1 1)
    ∷ (take 9 good, told 1 9)
    ∷ (take 10 good, told 1 10)
    ∷ (take 16 good, told 1 16)
    ∷ (several 3 8 (six ++ entry 7 5 7 0 ++ (8 ∷ 2 ∷ 3 ∷ 4 ∷ 5 ∷ 7 ∷ [])), told 1 65)
    -- 2, at 0: each byte of the mark
    ∷ (set good 0 116, told 2 0)
    ∷ (set good 1 108, told 2 0)
    ∷ (set good 2 98, told 2 0)
    -- 3, at 3: both bytes of the version count
    ∷ (header 0 0 3 500 1 ++ entry 1 5 7 0, told 3 3)
    ∷ (header 2 0 3 500 1 ++ entry 1 5 7 0, told 3 3)
    ∷ (header 256 0 3 500 1 ++ entry 1 5 7 0, told 3 3)
    ∷ (header 257 0 3 500 1 ++ entry 1 5 7 0, told 3 3)
    -- 4, at 5
    ∷ (header 1 2 3 500 1 ++ entry 1 5 7 0, told 4 5)
    ∷ (header 1 1 3 500 1 ++ entry 1 5 7 0, told 0 0)
    -- 5, at 6
    ∷ (one 0 (entry 1 5 7 0), told 5 6)
    ∷ (one 4 (entry 1 5 7 0), told 5 6)
    ∷ (one 1 (entry 1 5 7 0), told 0 0)
    ∷ (one 2 (entry 1 5 7 0), told 0 0)
    -- 6, at 7
    ∷ (header 1 0 3 424 1 ++ entry 1 5 7 0, told 6 7)
    ∷ (header 1 0 3 425 1 ++ entry 1 5 7 0, told 0 0)
    ∷ (header 1 0 3 65535 1 ++ entry 1 5 7 0, told 0 0)
    -- 7, at 9: none; nine; an originator's two; eight are accepted
    ∷ (several 3 0 [], told 7 9)
    ∷ (header 1 0 3 500 0, told 7 9)
    ∷ (several 3 9 (six ++ entry 7 5 7 0 ++ entry 8 5 7 0 ++ entry 9 5 7 0), told 7 9)
    ∷ (header 1 0 3 500 2 ++ entry 1 5 7 0 ++ entry 2 5 7 0, told 7 9)
    ∷ (several 3 2 (entry 1 5 7 0 ++ entry 2 5 7 0), told 0 0)
    ∷ (several 3 8 (six ++ entry 7 5 7 0 ++ entry 8 5 7 0), told 0 0)
    -- 11, at 10+7n
    ∷ (good ++ (0 ∷ []), told 11 17)
    ∷ (several 3 2 (entry 1 5 7 0 ++ entry 2 5 7 0 ++ entry 3 5 7 0), told 11 24)
    ∷ (several 3 8 (six ++ entry 7 5 7 0 ++ entry 8 5 7 0 ++ (10 ∷ [])), told 11 66)
    -- 8, at the form: each form with the w that goes with it, and others
    ∷ (one 3 (entry 1 5 1 0), told 8 15)
    ∷ (one 3 (entry 1 5 5 0), told 8 15)
    ∷ (one 3 (entry 1 5 6 0), told 0 0)
    ∷ (one 3 (entry 1 5 7 0), told 0 0)
    ∷ (one 2 (entry 1 5 8 0), told 0 0)
    ∷ (one 3 (entry 1 5 9 0), told 8 15)
    ∷ (several 3 2 (entry 1 5 7 0 ++ entry 2 5 5 0), told 8 22)
    ∷ (several 3 8 (six ++ entry 7 5 7 0 ++ entry 8 5 9 0), told 8 64)
    -- 17, at the w: 5 to 8 in form 0, and 0 in every other
    ∷ (one 3 (entry 1 5 0 4), told 17 16)
    ∷ (one 3 (entry 1 5 0 5), told 0 0)
    ∷ (one 3 (entry 1 5 0 8), told 0 0)
    ∷ (one 3 (entry 1 5 0 9), told 17 16)
    ∷ (one 3 (entry 1 5 0 0), told 17 16)
    ∷ (one 3 (entry 1 5 6 5), told 17 16)
    ∷ (one 3 (entry 1 5 7 8), told 17 16)
    ∷ (one 2 (entry 1 5 8 1), told 17 16)
    ∷ (several 3 2 (entry 1 5 7 0 ++ entry 2 5 0 9), told 17 23)
    ∷ (several 3 8 (six ++ entry 7 5 7 0 ++ entry 8 5 7 1), told 17 65)
    -- 9, at the form: form 8 with mask 1, and with no other
    ∷ (one 1 (entry 1 5 8 0), told 9 15)
    ∷ (one 1 (entry 1 5 7 0), told 0 0)
    ∷ (one 3 (entry 1 5 8 0), told 0 0)
    ∷ (several 1 2 (entry 1 5 7 0 ++ entry 2 5 8 0), told 9 22)
    ∷ (several 2 2 (entry 1 5 7 0 ++ entry 2 5 8 0), told 0 0)
    ∷ (several 3 2 (entry 1 5 7 0 ++ entry 2 5 8 0), told 0 0)
    ∷ (several 1 8 (six ++ entry 7 5 7 0 ++ entry 8 5 8 0), told 9 64)
    ∷ (several 3 8 (six ++ entry 7 5 7 0 ++ entry 8 5 8 0), told 0 0)
    -- 10, at the entry: another form does not help; each of the five parameters counts; the last pair counts, and so do the first and the last
    ∷ (several 3 2 (entry 1 5 7 0 ++ entry 1 5 6 0), told 10 17)
    ∷ (several 3 2 (entry 1 5 7 0 ++ (1 ∷ 9 ∷ 3 ∷ 4 ∷ 5 ∷ 7 ∷ 0 ∷ [])), told 0 0)
    ∷ (several 3 2 (entry 1 5 7 0 ++ (1 ∷ 2 ∷ 9 ∷ 4 ∷ 5 ∷ 7 ∷ 0 ∷ [])), told 0 0)
    ∷ (several 3 2 (entry 1 5 7 0 ++ (1 ∷ 2 ∷ 3 ∷ 9 ∷ 5 ∷ 7 ∷ 0 ∷ [])), told 0 0)
    ∷ (several 3 2 (entry 1 5 7 0 ++ entry 1 6 7 0), told 0 0)
    ∷ (several 3 2 (entry 0 0 7 0 ++ entry 0 0 7 0), told 10 17)
    ∷ (several 3 8 (six ++ entry 7 5 7 0 ++ entry 7 5 7 0), told 10 59)
    ∷ (several 3 8 (six ++ entry 7 5 7 0 ++ entry 1 5 7 0), told 10 59)
    -- the order: the 10 bytes come before the mark, then each number before the next
    ∷ (take 9 (set good 0 0), told 1 9)
    ∷ (set (header 2 0 3 500 1) 0 0, told 2 0)
    ∷ (header 2 2 3 500 1, told 3 3)
    ∷ (header 1 2 0 500 1, told 4 5)
    ∷ (header 1 0 0 424 1, told 5 6)
    ∷ (header 1 0 3 424 0, told 6 7)
    -- 7 before the second 1 and before 11
    ∷ (header 1 1 3 500 9, told 7 9)
    ∷ (header 1 1 3 500 0 ++ entry 1 5 7 0, told 7 9)
    -- the second 1 and 11 before 8
    ∷ (several 3 2 (entry 1 5 5 0), told 1 17)
    ∷ (one 3 (entry 1 5 5 0 ++ entry 1 5 7 0), told 11 17)
    -- in one entry 8, 17, 9, 10
    ∷ (several 3 2 (entry 1 5 7 0 ++ entry 1 5 9 5), told 8 22)
    ∷ (several 1 2 (entry 1 5 7 0 ++ entry 1 5 8 5), told 17 23)
    ∷ (several 1 2 (entry 1 5 7 0 ++ entry 1 5 8 0), told 9 22)
    ∷ (several 3 2 (entry 1 5 7 0 ++ entry 1 5 8 0), told 10 17)
    -- an earlier entry's 17, 9 or 10 before a later entry's 8
    ∷ (several 3 2 (entry 1 5 7 5 ++ entry 2 5 5 0), told 17 16)
    ∷ (several 1 2 (entry 1 5 8 0 ++ entry 2 5 5 0), told 9 15)
    ∷ (several 3 3 (entry 1 5 7 0 ++ entry 1 5 7 0 ++ entry 2 5 5 0), told 10 17)
    ∷ []

faults_hold : map (λ (c : List ℕ × (ℕ × ℕ)). told (book_no c.0) (book_offset c.0)) cases ≡ map (λ (c : List ℕ × (ℕ × ℕ)). c.1) cases
unfolding book_fault start_fault values_fault length_fault entries_fault each_fault entry_fault seen_in header_length version_in entries_of kept_entries
faults_hold = refl

-- Where the field at fault ends: a row for each number, in the order of the checks.
abbrev pub ends : List (List ℕ × ℕ)
ends =
    (take 9 good, 9)
    ∷ (set good 0 116, 3)
    ∷ (header 2 0 3 500 1 ++ entry 1 5 7 0, 5)
    ∷ (header 1 2 3 500 1 ++ entry 1 5 7 0, 6)
    ∷ (one 0 (entry 1 5 7 0), 7)
    ∷ (header 1 0 3 424 1 ++ entry 1 5 7 0, 9)
    ∷ (several 3 0 [], 10)
    ∷ (take 16 good, 16)
    ∷ (good ++ (0 ∷ 0 ∷ []), 18)
    ∷ (several 3 2 (entry 1 5 7 0 ++ entry 2 5 5 0), 23)
    ∷ (several 3 2 (entry 1 5 7 0 ++ entry 2 5 0 9), 24)
    ∷ (several 1 2 (entry 1 5 7 0 ++ entry 2 5 8 0), 24)
    ∷ (several 3 2 (entry 1 5 7 0 ++ entry 1 5 6 0), 24)
    ∷ []

ends_hold : map (λ (c : List ℕ × ℕ). fault_end (book_fault c.0)) ends ≡ map (λ (c : List ℕ × ℕ). c.1) ends
unfolding
    field_length book_fault start_fault values_fault length_fault entries_fault each_fault entry_fault seen_in header_length version_in entries_of kept_entries
ends_hold = refl

-- Kept books.

abbrev pub profile : ℕ → ℕ → ℕ → ℕ → Entry
profile p q form w = record { p0 = p; p1 = 2; p2 = 3; p3 = 4; p4 = q; form = form; w = w }

-- what stands past the entries
abbrev pub nothing : Entry
nothing = record { p0 = 0; p1 = 0; p2 = 0; p3 = 0; p4 = 0; form = 0; w = 0 }

-- with nothing past the entries given
abbrev pub keeps : ℕ → ℕ → ℕ → ℕ → List Entry → Book
keeps role mask limit n es =
    book_with role mask limit n (es ++ replicate (8 - length es) nothing)

abbrev pub seven : List Entry
seven = profile 1 5 7 0 ∷ profile 2 5 7 0 ∷ profile 3 5 7 0 ∷ profile 4 5 7 0 ∷ profile 5 5 7 0 ∷ profile 6 5 7 0 ∷ profile 7 5 7 0 ∷ []

abbrev pub kept_cases : List (Book × Bool)
kept_cases =
    (keeps 0 3 500 1 (profile 1 5 7 0 ∷ []), true)
    ∷ (keeps 1 3 425 2 (profile 1 5 0 8 ∷ profile 1 6 6 0 ∷ []), true)
    ∷ (keeps 1 2 65535 8 (seven ++ (profile 8 5 8 0 ∷ [])), true)
    ∷ (keeps 1 3 500 8 (seven ++ (profile 8 5 8 0 ∷ [])), true)
    ∷ (keeps 0 3 500 1 (profile 1 5 8 0 ∷ []), true)
    -- the values
    ∷ (keeps 2 3 500 1 (profile 1 5 7 0 ∷ []), false)
    ∷ (keeps 0 0 500 1 (profile 1 5 7 0 ∷ []), false)
    ∷ (keeps 0 3 424 1 (profile 1 5 7 0 ∷ []), false)
    ∷ (keeps 1 3 500 0 [], false)
    ∷ (keeps 1 3 500 9 (seven ++ (profile 8 5 7 0 ∷ [])), false)
    ∷ (keeps 0 3 500 2 (profile 1 5 7 0 ∷ profile 2 5 7 0 ∷ []), false)
    -- the entries
    ∷ (keeps 1 3 500 2 (profile 1 5 7 0 ∷ profile 2 5 5 0 ∷ []), false)
    ∷ (keeps 1 3 500 2 (profile 1 5 7 0 ∷ profile 2 5 7 8 ∷ []), false)
    ∷ (keeps 1 1 500 2 (profile 1 5 7 0 ∷ profile 2 5 8 0 ∷ []), false)
    ∷ (keeps 1 3 500 8 (seven ++ (profile 7 5 7 0 ∷ [])), false)
    -- what stands past them
    ∷ (keeps 1 3 500 1 (profile 1 5 7 0 ∷ profile 2 5 7 0 ∷ []), false)
    ∷ (keeps 0 3 500 1 (profile 1 5 7 0 ∷ nothing ∷ record { p0 = 0; p1 = 0; p2 = 0; p3 = 0; p4 = 0; form = 0; w = 1 } ∷ []), false)
    ∷ (keeps 1 3 500 7 (seven ++ (profile 8 5 7 0 ∷ [])), false)
    ∷ (book_with 0 3 500 1 (profile 1 5 7 0 ∷ []), false)
    ∷ []

kept_hold : map (λ (c : Book × Bool). book_ok c.0) kept_cases ≡ map (λ (c : Book × Bool). c.1) kept_cases
unfolding book_ok version_of is_padded all_none values_fault entries_fault each_fault entry_fault seen_in
kept_hold = refl

-- The replies.

abbrev pub two : List ℕ
two = several 3 2 (entry 1 5 7 0 ++ entry 2 6 0 8)

abbrev pub kept_two : Book
kept_two = keeps 1 3 500 2 (profile 1 5 7 0 ∷ profile 2 6 0 8 ∷ [])

pub record Replies : Type 0 where
  pub accepted : read_book two ≡ record { verdict = nothing_wrong; book = kept_two }
  -- a refusal yields the number and the offset alone
  pub refused : read_book (take 23 two)
      ≡ record { verdict = fault TooShort 23; book = book_with 0 0 0 0 (replicate 8 nothing) }
  pub numbers : map number_of (nothing_wrong ∷ fault TooShort 23 ∷ fault TooLong 24 ∷ []) ≡ 0 ∷ 1 ∷ 11 ∷ []
  pub offsets : map offset_of (nothing_wrong ∷ fault TooShort 23 ∷ fault TooLong 24 ∷ []) ≡ 0 ∷ 23 ∷ 24 ∷ []
  -- entry i, counted from 0: those seven bytes of the book
  pub first : entry_part two 0 ≡ entry 1 5 7 0
  pub second : entry_part two 1 ≡ entry 2 6 0 8
  pub places : map (part_at two) (0 ∷ 1 ∷ []) ≡ 10 ∷ 17 ∷ []
  -- for a refused book, or i not below n, an empty part
  pub beyond : map (entry_part two) (2 ∷ 3 ∷ []) ≡ [] ∷ [] ∷ []
  pub place_beyond : part_at two 2 ≡ 0
  pub of_refused : entry_part (take 23 two) 0 ≡ []
  pub place_refused : part_at (take 23 two) 0 ≡ 0
  -- numbers are big-endian; the five parameters; the book written out again
  pub words : map word_bytes (1 ∷ 425 ∷ 512 ∷ 65535 ∷ []) ≡ (0 ∷ 1 ∷ []) ∷ (1 ∷ 169 ∷ []) ∷ (2 ∷ 0 ∷ []) ∷ (255 ∷ 255 ∷ []) ∷ []
  pub parameters : params_of (profile 1 5 7 0) ≡ 1 ∷ 2 ∷ 3 ∷ 4 ∷ 5 ∷ []
  pub written : book_bytes kept_two ≡ two

replies_hold : Replies
unfolding
    read_book entry_part part_at has_entry book_fault start_fault values_fault length_fault entries_fault each_fault entry_fault seen_in header_length version_in entries_of
    kept_entries version_of entries_bytes book_bytes
replies_hold =
    record {
      accepted = refl;
      refused = refl;
      numbers = refl;
      offsets = refl;
      first = refl;
      second = refl;
      places = refl;
      beyond = refl;
      place_beyond = refl;
      of_refused = refl;
      place_refused = refl;
      words = refl;
      parameters = refl;
      written = refl;
    }

-- All of these.
pub record BookFigures : Type 0 where
  pub faults : map (λ (c : List ℕ × (ℕ × ℕ)). told (book_no c.0) (book_offset c.0)) cases ≡ map (λ (c : List ℕ × (ℕ × ℕ)). c.1) cases
  pub ends : map (λ (c : List ℕ × ℕ). fault_end (book_fault c.0)) ends ≡ map (λ (c : List ℕ × ℕ). c.1) ends
  pub longest : longest_book ≡ 66
  pub kept : map (λ (c : Book × Bool). book_ok c.0) kept_cases ≡ map (λ (c : Book × Bool). c.1) kept_cases
  pub replies : Replies

pub book_figures : BookFigures
unfolding header_length
book_figures =
    record { faults = faults_hold; ends = ends_hold; longest = refl; kept = kept_hold; replies = replies_hold }
