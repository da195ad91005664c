-- Any bytes are answered as a book, and reading and writing one undo each other. Assumes nothing.
use mathlib.Core.Path.{◌≡◌, refl, ap, ◌∙◌}
use mathlib.Core.Bool.{true, false, not}
use mathlib.Core.List.{List, [], ◌∷◌, ◌++◌}
use Prim.Native.Nat.{ℕ}
use lib.Dec.{eqb, ltb}
use lib.ListN.{length}
use Rattle.std.specs.Prelude.{Ok, Err}
use Rattle.ground.specs.Lists.{is_among}
use Rattle.ground.proofs.Test.{either_way}
use Rattle.book.specs.declared.Entry.{Entry}
use Rattle.book.specs.declared.Book.{Book}
use Rattle.book.specs.declared.Fault.{Fault}
use Rattle.book.specs.declared.BookRead.{BookRead}
use Rattle.book.specs.Book.{book_version, answering, least_header, entry_start, version_in, book_of}
use Rattle.book.specs.Refusals.{Verdict, or_else, least_limit, is_mark, start_fault, is_mask, wrong_count, values_fault, length_fault}
use Rattle.book.specs.Refusals.{is_form, is_width, is_barred, seen_in, entry_fault, each_fault, entries_fault, book_fault, book_no, book_offset}
use Rattle.book.specs.Reading.{number_of, offset_of, refuses, read_book, has_entry, entry_part}
use Rattle.book.specs.Kept.{book_ok}
use Rattle.book.proofs.Reply.{read_number, read_offset, read_accepted, read_refused}
use Rattle.book.proofs.Offending.{offset_within, refused_alike}
use Rattle.book.proofs.RoundTrip.{read_passes, passes_read, read_written, part_is_entry}
use Rattle.protocol.specs.Ranges.{well_formed}
use Rattle.protocol.specs.Slot.{started, start_of}
use Rattle.protocol.proofs.Kept.StateKept.{started_kept}
use Rattle.claims.specs.Books.{book_numbers, BookAnswered, BooksUndone}

-- Each check has one of the numbers.

abbrev Numbered : Verdict → Type 0
Numbered v = is_among (number_of v) (0 ∷ book_numbers) ≡ true

start_numbered : (s : List ℕ) → Numbered (start_fault s)
unfolding start_fault
start_numbered s =
    either_way Numbered (ltb (length s) least_header) refl
    (either_way Numbered (not (is_mark s)) refl
    (either_way Numbered (not (eqb (version_in s) book_version)) refl refl))

values_numbered : (b : Book) → Numbered (values_fault b)
unfolding values_fault
values_numbered b =
    either_way Numbered (ltb answering b.role) refl
    (either_way Numbered (not (is_mask b.mask)) refl
    (either_way Numbered (ltb b.limit least_limit) refl
    (either_way Numbered (wrong_count b.role b.n) refl refl)))

length-numbered : (version : ℕ) (s : List ℕ) (n : ℕ) → Numbered (length_fault version s n)
unfolding length_fault
length-numbered version s n =
    either_way Numbered (ltb (length s) (entry_start version n)) refl
    (either_way Numbered (ltb (entry_start version n) (length s)) refl refl)

entry_numbered : (mask : ℕ) (earlier : List Entry) (start : ℕ) (e : Entry) → Numbered (entry_fault mask earlier start e)
unfolding entry_fault
entry_numbered mask earlier start e =
    either_way Numbered (not (is_form e.form)) refl
    (either_way Numbered (not (is_width e.form e.w)) refl
    (either_way Numbered (is_barred mask e.form) refl
    (either_way Numbered (seen_in earlier e) refl refl)))

-- of two checks one after the other
else_numbered : (a b : Verdict) → Numbered a → Numbered b → Numbered (or_else a b)
else_numbered (Ok _) b p q = q
else_numbered (Err f) b p q = p

each_numbered : (version mask : ℕ) (earlier es : List Entry) → Numbered (each_fault version mask earlier es)
unfolding each_fault
each_numbered version mask earlier [] = refl
each_numbered version mask earlier (e ∷ es) =
    let start = entry_start version (length earlier) in
    else_numbered (entry_fault mask earlier start e) (each_fault version mask (earlier ++ (e ∷ [])) es)
    (entry_numbered mask earlier start e)
    (each_numbered version mask (earlier ++ (e ∷ [])) es)

book_numbered : (s : List ℕ) → Numbered (book_fault s)
unfolding book_fault entries_fault
book_numbered s =
    else_numbered (start_fault s) _ (start_numbered s)
    (else_numbered (values_fault (book_of s)) _ (values_numbered (book_of s))
    (else_numbered (length_fault (version_in s) s (book_of s).n) _ (length-numbered (version_in s) s (book_of s).n)
    (each_numbered (version_in s) (book_of s).mask [] _)))

-- A refused book, and an accepted one.

module _ (s : List ℕ) where
  refused : (book_no s ≡ 0 → ⊥) → (f : Fault) × ((book_fault s ≡ Err f) × (read_book s ≡ refuses f))
  refused n = by (book_fault s) refl
    where
      by : (v : Verdict) → book_fault s ≡ v → (f : Fault) × ((book_fault s ≡ Err f) × (read_book s ≡ refuses f))
      by (Ok _) e = absurd (n (ap number_of e))
      by (Err f) e = (f, (e, read_refused s f e))

  -- the book of zeros passes no check
  zeros_refused : (f : Fault) → well_formed (start_of (refuses f)).state ≡ false
  unfolding start_of started well_formed book_ok values_fault
  zeros_refused f = refl

  starts_kept : book_no s ≡ 0 → well_formed (start_of (read_book s)).state ≡ well_formed (started (book_of s))
  unfolding start_of
  starts_kept e = ap (λ (r : BookRead). well_formed (started r.book)) (read_accepted s e)

  told_number : number_of (start_of (read_book s)).verdict ≡ book_no s
  unfolding start_of
  told_number = read_number s (read_book s) refl

  told_offset : offset_of (start_of (read_book s)).verdict ≡ book_offset s
  unfolding start_of
  told_offset = read_offset s (read_book s) refl

  part_empty : (i : ℕ) → has_entry s i ≡ false → entry_part s i ≡ []
  unfolding entry_part
  part_empty i e = rw e refl

pub book_answered : (s : List ℕ) → BookAnswered s
book_answered s =
    record {
      told = told_number s;
      range = book_numbered s;
      offset = told_offset s;
      within = offset_within s;
      alike = refused_alike s;
      refused = refused s;
      no_call = λ n. let r = refused s n in ap (λ (r : BookRead). well_formed (start_of r).state) r.1.1 ∙ zeros_refused s r.0;
      accepted = read_accepted s;
      passes = λ e. read_passes s (book_of s) (read_accepted s e);
      starts = λ e. starts_kept s e ∙ started_kept (book_of s) (read_passes s (book_of s) (read_accepted s e));
      entry = λ i e l. part_is_entry s (book_of s) i (read_accepted s e) l;
      no_part = part_empty s;
    }

pub books_undone : BooksUndone
books_undone = record { read = passes_read; written = read_written }
