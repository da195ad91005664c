-- A book has at most 66 bytes: what is lent past the first 67 does not count. Assumes nothing.
use Prim.Native.Nat.{ℕ, ◌<◌, ◌≤◌}
use mathlib.Core.Path.{◌≡◌, refl, sym, ◌∙◌}
use mathlib.Core.Bool.{Bool, true, false}
use mathlib.Core.List.{List}
use native.Mathlib.Omega.{arith}
use lib.ListN.{length, take}
use lib.Seq.{length-take-le, take_all, get_or-take}
use lib.Dec.{ltb}
use borrow.Author.Tests.{ltb-true, ltb-false, le-ltb}
use Rattle.std.specs.Prelude.{Ok, Err}
use Rattle.book.specs.declared.Book.{Book}
use Rattle.book.specs.Book.{book_version, least_header, version_at, role_at, count_at, entry_start, version_in, book_of}
use Rattle.book.specs.Refusals.{Verdict, nothing_wrong, or_else, number_of, start_fault, values_fault, length_fault, book_fault, book_no}
use Rattle.book.specs.Reading.{yields, read_book}
use Rattle.book.specs.Offending.{longest_book}
use Rattle.book.proofs.Header.{length_beyond}
use Rattle.book.proofs.NothingWrong.{started, valued, sized, fine}
use Rattle.book.proofs.Versions.{least_header_lem}
use Rattle.book.proofs.Offending.{end_within, Agree, fewer, mark_alike, version_alike, values_alike}

-- equal stages, with equal checks after them where they find nothing wrong
else_alike : (a b r q : Verdict) → b ≡ a → (a ≡ nothing_wrong → q ≡ r) → or_else b q ≡ or_else a r
else_alike (Ok _) b r q e rest = rw e (rest refl)
else_alike (Err f) b r q e rest = rw e

-- what is longer than the longest book is refused
too_long : (s : List ℕ) → longest_book < length s → book_no s ≡ 0 → ⊥
too_long s l z =
    let f = fine s z in
    let e = sized (version_in s) s (book_of s).n f.size in
    let m = end_within (version_in s) (book_of s).n (started s f.start).version (valued (book_of s) f.values).few in
    omega arith

-- beside a refusal stands no book
verdict_alike : (v u : Verdict) (a b : Book) → v ≡ u → (number_of u ≡ 0 → ⊥) → yields v a ≡ yields u b
verdict_alike v (Ok _) a b e wrong = absurd (wrong refl)
verdict_alike v (Err f) a b e wrong = rw e

-- and two such that agree in the first ten bytes are refused alike
module _ (s t : List ℕ) (l : longest_book < length s) (m : longest_book < length t) (a : Agree s t least_header) where
  same_version : version_in t ≡ version_in s
  same_version = version_alike s t (fewer s t role_at least_header (omega arith) a)

  same_start : start_fault t ≡ start_fault s
  unfolding start_fault
  same_start =
      let h = least_header_lem book_version in
      rw (
        le-ltb (length t) least_header (omega arith),
        le-ltb (length s) least_header (omega arith),
        mark_alike s t (fewer s t version_at least_header (omega arith) a),
        same_version,
      )

  same_length : (version n : ℕ) → entry_start version n ≤ longest_book → length_fault version t n ≡ length_fault version s n
  same_length version n h =
      length_beyond t version n (omega arith) ∙ sym (length_beyond s version n (omega arith))

  long_alike : book_fault t ≡ book_fault s
  unfolding book_fault
  long_alike =
      else_alike (start_fault s) (start_fault t) _ _ same_start
      (λ x.
      else_alike (values_fault (book_of s)) (values_fault (book_of t)) _ _ (values_alike s t a)
      (λ y.
      let h = end_within (version_in s) (book_of s).n (started s x).version (valued (book_of s) y).few in
      else_alike (length_fault (version_in s) s (book_of s).n) (length_fault (version_in t) t (book_of t).n) _ _
      (rw (same_version, a count_at (omega arith)) (same_length (version_in s) (book_of s).n h))
      (λ z. absurd (omega (arith, sized (version_in s) s (book_of s).n z)))))

-- so all that is past the first 67 bytes can be left out
pub first_matter : (s : List ℕ) (k : ℕ) → longest_book < k → read_book (take k s) ≡ read_book s
unfolding read_book
first_matter s k l = by (ltb k (length s)) refl
  where
    by : (z : Bool) → ltb k (length s) ≡ z → read_book (take k s) ≡ read_book s
    by false z = rw (take_all k s (ltb-false k (length s) z))
    by true z =
        let g = ltb-true k (length s) z in
        let m : longest_book < length (take k s) = rw (length-take-le k s (omega arith)) l in
        let n : longest_book < length s = omega arith in
        let h = least_header_lem book_version in
        let e = long_alike s (take k s) n m (λ i b. get_or-take k s i 0 (omega arith)) in
        verdict_alike (book_fault (take k s)) (book_fault s) (book_of (take k s)) (book_of s) e (too_long s n)
