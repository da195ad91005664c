-- What goes by the book's version: how long the header is, and which version a kept book is written with. Assumes nothing.
use Prim.Native.Nat.{ℕ, ◌≤◌}
use mathlib.Core.Path.{◌≡◌, refl, sym}
use mathlib.Core.List.{List}
use native.Mathlib.Omega.{arith}
use native.Mathlib.Nat.{div-add-mod}
use lib.ListN.{length}
use Rattle.book.specs.declared.Book.{Book}
use Rattle.book.specs.Book.{book_version, least_header, header_length, version_in, version_of, book_of}
use Rattle.book.specs.Written.{header_bytes, book_bytes}

pub least_header_lem : (version : ℕ) → least_header ≤ header_length version
unfolding header_length
least_header_lem version = omega arith

-- a header is written as long as its version says
pub header_size : (b : Book) → length (header_bytes b) ≡ header_length (version_of b)
unfolding header_length
header_size b = refl

-- a kept book is of the version that its bytes are of
pub version_kept : (s : List ℕ) → version_in s ≡ book_version → version_of (book_of s) ≡ version_in s
unfolding version_of
version_kept s v = sym v

-- and its own bytes are of that version again
pub version_written : (b : Book) → version_in (book_bytes b) ≡ version_of b
unfolding version_in book_bytes
version_written b = div-add-mod (version_of b) 256

pub version_known : (b : Book) → version_of b ≡ book_version
unfolding version_of
version_known b = refl
