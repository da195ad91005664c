-- What is promised of a reply follows from the reply. Assumes nothing.
use Prim.Native.Nat.{ℕ}
use mathlib.Core.Path.{◌≡◌, refl, ap, ◌∙◌}
use mathlib.Core.List.{List}
use Rattle.std.specs.Prelude.{Ok, Err}
use Rattle.book.specs.declared.Book.{Book}
use Rattle.book.specs.declared.Fault.{Fault}
use Rattle.book.specs.declared.BookRead.{BookRead}
use Rattle.book.specs.Book.{book_of}
use Rattle.book.specs.Refusals.{Verdict, number_of, offset_of, book_fault, book_no, book_offset}
use Rattle.book.specs.Reading.{accepts, refuses, yields, read_book}
use Rattle.book.proofs.NothingWrong.{accepted}

yielded : (v : Verdict) (b : Book) → (yields v b).verdict ≡ v
yielded (Ok _) b = refl
yielded (Err f) b = refl

-- the verdict is what the checks found
pub read_verdict : (s : List ℕ) → (read_book s).verdict ≡ book_fault s
unfolding read_book
read_verdict s = yielded (book_fault s) (book_of s)

pub read_number : (s : List ℕ) (a : BookRead) → a ≡ read_book s → number_of a.verdict ≡ book_no s
read_number s a e = ap (λ (x : BookRead). number_of x.verdict) e ∙ ap number_of (read_verdict s)

pub read_offset : (s : List ℕ) (a : BookRead) → a ≡ read_book s → offset_of a.verdict ≡ book_offset s
read_offset s a e = ap (λ (x : BookRead). offset_of x.verdict) e ∙ ap offset_of (read_verdict s)

pub read_accepted : (s : List ℕ) → book_no s ≡ 0 → read_book s ≡ accepts (book_of s)
unfolding read_book
read_accepted s h = rw (accepted (book_fault s) h)

pub read_refused : (s : List ℕ) (f : Fault) → book_fault s ≡ Err f → read_book s ≡ refuses f
unfolding read_book
read_refused s f e = rw e
