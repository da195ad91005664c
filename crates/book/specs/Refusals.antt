-- What is wrong with a book: its refusal, numbered 1 to 11 or 17, and the offset of the first offending byte, both told by one chain of
-- checks in their order; 0 and 0 where nothing is wrong. Assumes nothing.
use Rattle.std.specs.Prelude.{ℕ, ◌+◌, List, [], ◌∷◌, ◌++◌, Bool, cond, not, ◌&&◌, ◌||◌, length, get_or, take, ltb, leb, eqb, Result, Ok, Err}
use Rattle.std.specs.List.{list_any}
use Rattle.book.specs.declared.Entry.{Entry}
use Rattle.book.specs.declared.Book.{Book}
use Rattle.book.specs.declared.Refusal.{Refusal}
use Rattle.book.specs.declared.Refusal.TheVariants.{TooShort, Mark, BookVersion, Role, Mask, Limit, Count, Form, BarredForm, SameParameters, TooLong, WordLength}
use Rattle.book.specs.declared.Fault.{Fault}
use Rattle.book.specs.Book.{mark, book_version, originating, answering, least_header, most_entries}
use Rattle.book.specs.Book.{mark_at, version_at, role_at, mask_at, limit_at, count_at, form_in, width_in}
use Rattle.book.specs.Book.{entry_start, version_in, book_of, same_params}

-- the number of each refusal
abbrev pub refusal_number : Refusal → ℕ
refusal_number TooShort = 1
refusal_number Mark = 2
refusal_number BookVersion = 3
refusal_number Role = 4
refusal_number Mask = 5
refusal_number Limit = 6
refusal_number Count = 7
refusal_number Form = 8
refusal_number BarredForm = 9
refusal_number SameParameters = 10
refusal_number TooLong = 11
refusal_number WordLength = 17

-- what the checks find: nothing wrong, or a fault
abbrev pub Verdict : Type 0
Verdict = Result (Unit {0}) Fault

-- a refusal and an offset
abbrev pub fault : Refusal → ℕ → Verdict
fault refusal offset = Err (record { refusal = refusal; offset = offset })

abbrev pub nothing_wrong : Verdict
nothing_wrong = Ok tt

-- the first, or the second where the first finds nothing wrong
abbrev pub or_else : Verdict → Verdict → Verdict
or_else (Ok _) b = b
or_else (Err f) b = Err f

-- the number of each verdict: 0 for an accepted book
abbrev pub number_of : Verdict → ℕ
number_of (Ok _) = 0
number_of (Err f) = refusal_number f.refusal

-- the offset of the first offending byte: 0 for an accepted book
abbrev pub offset_of : Verdict → ℕ
offset_of (Ok _) = 0
offset_of (Err f) = f.offset

-- the least limit in slots
abbrev pub least_limit : ℕ
least_limit = 425

abbrev pub is_mark : List ℕ → Bool
is_mark s =
    eqb (get_or s 0 0) (get_or mark 0 0) && eqb (get_or s 1 0) (get_or mark 1 0) && eqb (get_or s 2 0) (get_or mark 2 0)

-- 1, at the length of what was lent: fewer than 10 bytes. 2: mark. 3: book version not 1
unfoldable pub start_fault : List ℕ → Verdict
start_fault s =
    cond (ltb (length s) least_header) (fault TooShort (length s))
    (cond (not (is_mark s)) (fault Mark mark_at)
    (cond (not (eqb (version_in s) book_version)) (fault BookVersion version_at)
    nothing_wrong))

abbrev pub is_mask : ℕ → Bool
is_mask mask = eqb mask 1 || eqb mask 2 || eqb mask 3

-- n is 0, above 8, or not 1 when originating
abbrev pub wrong_count : ℕ → ℕ → Bool
wrong_count role n = eqb n 0 || ltb most_entries n || (eqb role originating && not (eqb n 1))

-- 4: role above 1. 5: mask not 1, 2 or 3. 6: limit below 425. 7: the count
unfoldable pub values_fault : Book → Verdict
values_fault b =
    cond (ltb answering b.role) (fault Role role_at)
    (cond (not (is_mask b.mask)) (fault Mask mask_at)
    (cond (ltb b.limit least_limit) (fault Limit limit_at)
    (cond (wrong_count b.role b.n) (fault Count count_at)
    nothing_wrong)))

-- of s, read as a book of that version with n entries. 1, at the length: fewer than 10+7n bytes. 11, at 10+7n: bytes beyond 10+7n
unfoldable pub length_fault : ℕ → List ℕ → ℕ → Verdict
length_fault version s n =
    cond (ltb (length s) (entry_start version n)) (fault TooShort (length s))
    (cond (ltb (entry_start version n) (length s)) (fault TooLong (entry_start version n))
    nothing_wrong)

abbrev pub is_form : ℕ → Bool
is_form form = eqb form 0 || eqb form 6 || eqb form 7 || eqb form 8

-- w is 5 to 8 in form 0, and 0 in every other
abbrev pub is_width : ℕ → ℕ → Bool
is_width form w = cond (eqb form 0) (leb 5 w && leb w 8) (eqb w 0)

-- form 8 with mask 1
abbrev pub is_barred : ℕ → ℕ → Bool
is_barred mask form = eqb form 8 && eqb mask 1

-- some earlier entry has e's five parameters
unfoldable pub seen_in : List Entry → Entry → Bool
seen_in earlier e = list_any (λ x. same_params x e) earlier

-- of the entry e, which starts at that byte. 8: form not 0, 6, 7, 8. 17: w wrong for the form. 9, at the form: form 8 with mask 1.
-- 10, at the entry's first byte: five parameters equal to an earlier entry's
unfoldable pub entry_fault : ℕ → List Entry → ℕ → Entry → Verdict
entry_fault mask earlier start e =
    cond (not (is_form e.form)) (fault Form (start + form_in))
    (cond (not (is_width e.form e.w)) (fault WordLength (start + width_in))
    (cond (is_barred mask e.form) (fault BarredForm (start + form_in))
    (cond (seen_in earlier e) (fault SameParameters start)
    nothing_wrong)))

-- entry by entry: each starts where the earlier ones end
unfoldable pub each_fault : ℕ → ℕ → List Entry → List Entry → Verdict
each_fault version mask earlier [] = nothing_wrong
each_fault version mask earlier (e ∷ es) =
    or_else (entry_fault mask earlier (entry_start version (length earlier)) e) (each_fault version mask (earlier ++ (e ∷ [])) es)

-- 8, 17, 9, 10 of the first n entries of a book of that version
unfoldable pub entries_fault : ℕ → Book → Verdict
entries_fault version b = each_fault version b.mask [] (take b.n b.entries)

-- all checks in their order: 1 (10 bytes), 2, 3; 4 to 7; 1 (10+7n bytes), 11; 8, 17, 9, 10 entry by entry
unfoldable pub book_fault : List ℕ → Verdict
book_fault s =
    or_else (start_fault s)
    (or_else (values_fault (book_of s))
    (or_else (length_fault (version_in s) s (book_of s).n)
    (entries_fault (version_in s) (book_of s))))

-- the number of refusal, and the offset of the first offending byte
abbrev pub book_no : List ℕ → ℕ
book_no s = number_of (book_fault s)

abbrev pub book_offset : List ℕ → ℕ
book_offset s = offset_of (book_fault s)
