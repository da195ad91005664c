-- What the first ten bytes decide, and each check where its answer is known. Assumes nothing.
use Prim.Native.Nat.{ℕ, ◌+◌, ◌<◌, ◌≤◌}
use mathlib.Core.Path.{◌≡◌}
use mathlib.Core.Bool.{true}
use mathlib.Core.List.{List}
use native.Mathlib.Omega.{arith}
use lib.ListN.{length, get_or, take}
use lib.Seq.{get_or-take}
use borrow.Author.Tests.{lt-ltb, le-ltb}
use Rattle.book.specs.Book.{book_version, least_header, version_at, role_at, mask_at, limit_at, count_at, entry_start, version_in, header_of}
use Rattle.book.specs.Refusals.{fault, nothing_wrong, is_mark, start_fault, length_fault}
use Rattle.book.specs.declared.Refusal.TheVariants.{TooLong}

module _ (s : List ℕ) where
  first : (i : ℕ) → i < least_header → get_or (take least_header s) i 0 ≡ get_or s i 0
  first i h = get_or-take least_header s i 0 h

  pub mark_first : is_mark (take least_header s) ≡ is_mark s
  mark_first = rw (first 0 (omega arith), first 1 (omega arith), first 2 (omega arith))

  pub version_first : version_in (take least_header s) ≡ version_in s
  unfolding version_in
  version_first = rw (first version_at (omega arith), first (version_at + 1) (omega arith))

  pub values_first : header_of (take least_header s) ≡ header_of s
  values_first =
      rw (
        first role_at (omega arith),
        first mask_at (omega arith),
        first limit_at (omega arith),
        first (limit_at + 1) (omega arith),
        first count_at (omega arith),
      )

  pub start_fine : least_header ≤ length s → is_mark s ≡ true → version_in s ≡ book_version → start_fault s ≡ nothing_wrong
  unfolding start_fault
  start_fine h m v = rw (le-ltb _ _ h, m, v)

  module _ (version n : ℕ) where
    pub length_fine : length s ≡ entry_start version n → length_fault version s n ≡ nothing_wrong
    unfolding length_fault
    length_fine e = let h : entry_start version n ≤ entry_start version n = omega arith in rw (e, le-ltb _ _ h)

    pub length_beyond : entry_start version n < length s → length_fault version s n ≡ fault TooLong (entry_start version n)
    unfolding length_fault
    length_beyond h = rw (le-ltb (length s) (entry_start version n) (omega arith), lt-ltb _ _ h)

pub ruleset first_ten = (mark_first, version_first, values_first)
