-- All that is told of any book fits into 400 places, and what stands past the first 67 bytes changes nothing of it. Assumes nothing.
use mathlib.Core.Path.{◌≡◌, refl, ap}
use mathlib.Core.Bool.{true}
use mathlib.Core.List.{List, [], ◌∷◌}
use Prim.Native.Nat.{ℕ, ◌+◌, ◌*◌, ◌≤◌, ◌<◌, min}
use native.Mathlib.Omega.{arith}
use lib.ListN.{length, take, length-append}
use lib.Seq.{length-take-le}
use Rattle.std.specs.Prelude.{Ok, Err}
use Rattle.book.specs.declared.Entry.{Entry}
use Rattle.book.specs.declared.Book.{Book}
use Rattle.book.specs.declared.BookRead.{BookRead}
use Rattle.book.specs.Refusals.{Verdict, refusal_number}
use Rattle.book.specs.Offending.{longest_book}
use Rattle.book.specs.Reading.{read_book}
use Rattle.book.specs.Kept.{book_ok}
use Rattle.book.proofs.Kept.{kept}
use Rattle.book.proofs.Longest.{first_matter}
use Rattle.text.specs.Output.{over}
use Rattle.text.proofs.Filling.{written_whole}
use Rattle.bookwords.specs.Words.{refused_line, entry_lines, accepted_lines, says_of, book_says}
use Rattle.bookwords.proofs.Filled.{at_most, named_most, header_most, entry_most, kept_book}

lines_most : (i : ℕ) (es : List Entry) → length (entry_lines i es) ≤ 43 * length es
unfolding entry_lines
lines_most i [] = omega arith
lines_most i (e ∷ es) = simp length-append (omega (arith, entry_most i e, lines_most (i + 1) es))

accepted_most : (b : Book) → book_ok b ≡ true → length (accepted_lines b) ≤ 390
unfolding accepted_lines
accepted_most b ok =
    let k = kept b ok in
    let few = k.few in
    let room = k.room in
    let n : length (take b.n b.entries) ≡ b.n = length-take-le b.n b.entries (omega arith) in
    simp length-append (omega (arith, header_most b, lines_most 0 (take b.n b.entries)))

pub any_book_fits : (s : List ℕ) → length (book_says s) ≤ 400
unfolding book_says refused_line
any_book_fits s = by (read_book s).verdict refl
  where
    by : (v : Verdict) → (read_book s).verdict ≡ v → length (says_of (read_book s).book v) ≤ 400
    by (Ok _) e = omega (arith, accepted_most (read_book s).book (kept_book s refl e))
    by (Err f) e = simp length-append (omega (arith, at_most f, named_most (refusal_number f.refusal)))

-- so that the part of such a buffer that was written is all that is told
pub all_told : (s out : List ℕ) → 400 ≤ length out
    → take (min (length (book_says s)) (length out)) (over (book_says s) out) ≡ book_says s
all_told s out room = written_whole (book_says s) out refl refl (omega (arith, any_book_fits s))

-- the first 67 bytes, or any number above 66 of them, are told as all of them are
pub first_told : (s : List ℕ) (k : ℕ) → longest_book < k → book_says (take k s) ≡ book_says s
unfolding book_says
first_told s k h = ap (λ (r : BookRead). says_of r.book r.verdict) (first_matter s k h)
