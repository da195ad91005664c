-- Reading, the check of a kept book and the book's own bytes agree. Assumes nothing.
use Prim.Native.Nat.{ℕ, zero, suc, ◌+◌, ◌*◌, ◌-◌, ◌/◌, ◌%◌, ◌^◌, ◌<◌, ◌≤◌}
use mathlib.Core.Path.{◌≡◌, refl, sym, ap, ◌∙◌}
use mathlib.Core.Bool.{Bool, true, ◌&&◌}
use mathlib.Core.List.{List, [], ◌∷◌, ◌++◌}
use mathlib.Core.Logic.{◌↔◌}
use native.Mathlib.Omega.{arith}
use native.Mathlib.Nat.{div-add-mod, not-suc-le-zero, le_of_suc-le-suc}
use lib.ListN.{length, get_or, take, drop, replicate, length-append, length-drop, length-replicate, take-append-drop, get_or-append}
use lib.Seq.{length-take-le, take_at, drop_at, take_all}
use lib.Dec.{eqb, ltb}
use borrow.Author.Tests.{eqb-true, ltb-true, lt-ltb}
use Rattle.ground.specs.Digits.{all_below}
use Rattle.ground.proofs.Test.{both_left, both_right}
use Rattle.book.specs.declared.Entry.{Entry}
use Rattle.book.specs.declared.Book.{Book}
use Rattle.book.specs.declared.BookRead.{BookRead}
use Rattle.book.specs.Book.{mark, least_header, header_length, entry_length, most_entries, entry_start, version_in, entry_at, entries_of, no_entry, kept_entries, book_of, version_of, same_params}
use Rattle.book.specs.Written.{entry_bytes, entries_bytes, header_bytes, book_bytes}
use Rattle.book.specs.Refusals.{values_fault, entries_fault, book_no}
use Rattle.book.specs.Reading.{number_of, accepts, read_book, has_entry, entry_part}
use Rattle.book.specs.Kept.{is_none, all_none, is_padded, book_ok}
use Rattle.book.proofs.Header.{start_fine, length_fine}
use Rattle.book.proofs.Loading.{entries_length}
use Rattle.book.proofs.NothingWrong.{started, valued, sized, Fine, fine, fine_book}
use Rattle.book.proofs.Versions.{least_header_lem, header_size, version_kept, version_written, version_known}
use Rattle.book.proofs.Params.{same_equal}
use Rattle.book.proofs.Reply.{read_number, read_accepted}
use Rattle.book.proofs.Kept.{Passed, passed, kept}
use Rattle.book.proofs.Written.{run, run_is, entry_run, bytes_length, bytes_append, entries_run, entry_kept, written_read}

-- What stands past the entries.

none_is : (e : Entry) → is_none e ≡ true → e ≡ no_entry
none_is e h =
    let x = both_left (same_params e no_entry && eqb e.form 0) (eqb e.w 0) h in
    let p = same_equal e no_entry (both_left (same_params e no_entry) (eqb e.form 0) x) in
    let f = eqb-true e.form 0 (both_right (same_params e no_entry) (eqb e.form 0) x) in
    let w = eqb-true e.w 0 (both_right (same_params e no_entry && eqb e.form 0) (eqb e.w 0) h) in
    let t : entry_bytes e ≡ entry_bytes no_entry = cc in
    ap (λ (l : List ℕ). entry_at l 0) t

nones : (es : List Entry) → all_none es ≡ true → es ≡ replicate (length es) no_entry
unfolding all_none
nones [] h = refl
nones (e ∷ es) h =
    let x = none_is e (both_left (is_none e) (all_none es) h) in
    let y = nones es (both_right (is_none e) (all_none es) h) in
    cc

none_all : (m : ℕ) → all_none (replicate m no_entry) ≡ true
unfolding all_none
none_all zero = refl
none_all (suc m) = none_all m

-- An accepted book is the book that its bytes say.

module _ (s : List ℕ) (b : Book) (h : read_book s ≡ accepts b) where
  pub read_fine : book_no s ≡ 0
  read_fine = sym (read_number s (accepts b) (sym h))

  pub read_is : b ≡ book_of s
  read_is = ap (λ (x : BookRead). x.book) (sym h ∙ read_accepted s read_fine)

-- The kept entries of the bytes s.

kept_room : (version : ℕ) (s : List ℕ) (n : ℕ) → n ≤ most_entries → length (kept_entries version s n) ≡ most_entries
unfolding kept_entries
kept_room version s n l = rw (length-append, entries_length, length-replicate) (omega arith)

kept_rest : (version : ℕ) (s : List ℕ) (n : ℕ) → drop n (kept_entries version s n) ≡ replicate (most_entries - n) no_entry
unfolding kept_entries
kept_rest version s n = drop_at (entries_of version s n) (replicate (most_entries - n) no_entry) n (entries_length version s n)

pub kept_first : (version : ℕ) (s : List ℕ) (n : ℕ) → take n (kept_entries version s n) ≡ entries_of version s n
unfolding kept_entries
kept_first version s n = take_at (entries_of version s n) (replicate (most_entries - n) no_entry) n (entries_length version s n)

-- every book that reading yields passes
pub read_passes : (s : List ℕ) (b : Book) → read_book s ≡ accepts b → book_ok b ≡ true
unfolding book_ok is_padded
read_passes s b h =
    let f = fine s (read_fine s b h) in
    let l = (valued (book_of s) f.values).few in
    let same : version_of (book_of s) ≡ version_in s = version_kept s (started s f.start).version in
    rw (read_is s b h, same, f.values, f.entries, kept_room (version_in s) s (book_of s).n l, kept_rest, none_all)

-- and that is the book beside the number 0
pub number_passes : (s : List ℕ) → number_of (read_book s).verdict ≡ 0 → book_ok (read_book s).book ≡ true
number_passes s e =
    let reads = read_accepted s (sym (read_number s (read_book s) refl) ∙ e) in
    rw reads (read_passes s (book_of s) reads)

-- A book that passes, written out, is read again.

module _ (b : Book) (p : Passed b) where
  first : List Entry
  first = take b.n b.entries

  first_length : length first ≡ b.n
  unfolding first
  first_length = let r = p.room in let f = (valued b p.values).few in length-take-le b.n b.entries (omega arith)

  rest_none : drop b.n b.entries ≡ replicate (most_entries - b.n) no_entry
  rest_none = nones (drop b.n b.entries) p.rest ∙ rw (length-drop, p.room)

  entries_back : kept_entries (version_in (book_bytes b)) (book_bytes b) b.n ≡ b.entries
  unfolding kept_entries book_bytes first
  entries_back =
      let l = first_length in
      let h : length (header_bytes b) ≡ header_length (version_in (book_bytes b)) = rw version_written (header_size b) in
      rw (written_read (version_in (book_bytes b)) (header_bytes b) first b.n h (omega arith), take_all b.n first (omega arith), ← rest_none, take-append-drop)

  book_back : book_of (book_bytes b) ≡ b
  unfolding book_bytes
  book_back = rw (div-add-mod b.limit 256, entries_back)

  bytes_size : length (book_bytes b) ≡ entry_start (version_in (book_bytes b)) b.n
  unfolding book_bytes first
  bytes_size =
      let l = first_length in
      rw version_written (omega (arith, header_size b, length-append (header_bytes b) (entries_bytes first), bytes_length first))

  written_fine : Fine (book_bytes b)
  unfolding book_bytes
  written_fine =
      let v = version_in (book_bytes b) in
      let long : least_header ≤ length (book_bytes b) = omega (arith, bytes_size, least_header_lem v) in
      record {
        start = start_fine (book_bytes b) long refl (version_written b ∙ version_known b);
        values = ap values_fault book_back ∙ p.values;
        size = length_fine (book_bytes b) v b.n bytes_size;
        entries = ap (entries_fault v) book_back ∙ rw version_written p.entries;
      }

-- every book that passes is what reading its own bytes yields
pub passes_read : (b : Book) → book_ok b ≡ true → read_book (book_bytes b) ≡ accepts b
unfolding read_book
passes_read b h =
    let p = passed b h in
    rw (fine_book (book_bytes b) (written_fine b p), book_back b p)

-- so the check is true exactly of the books that reading yields
pub passes_exactly : (b : Book) → (book_ok b ≡ true) ↔ ((s : List ℕ) × (read_book s ≡ accepts b))
passes_exactly b = (λ h. (book_bytes b, passes_read b h), λ r. read_passes r.0 b r.1)

below_left : (b : ℕ) (xs ys : List ℕ) → all_below b (xs ++ ys) ≡ true → all_below b xs ≡ true
unfolding all_below
below_left b [] ys h = refl
below_left b (x ∷ xs) ys h =
    let l = both_left (ltb x b) (all_below b (xs ++ ys)) h in
    let r = below_left b xs ys (both_right (ltb x b) (all_below b (xs ++ ys)) h) in
    rw (l, r)

-- the book's own bytes are bytes, where the limit has 16 bits and the entries' values are bytes, as their types say
pub written_bytes : (b : Book) → book_ok b ≡ true → b.limit < 2 ^ 16 → all_below 256 (entries_bytes b.entries) ≡ true → all_below 256 (book_bytes b) ≡ true
unfolding book_bytes all_below
written_bytes b h l e =
    let k = kept b h in
    let t = entries_bytes (take b.n b.entries) in
    let s : entries_bytes b.entries ≡ t ++ entries_bytes (drop b.n b.entries) =
    ap entries_bytes (sym (take-append-drop b.n b.entries)) ∙ bytes_append (take b.n b.entries) (drop b.n b.entries) in
    let u : all_below 256 t ≡ true = below_left 256 t (entries_bytes (drop b.n b.entries)) (rw s at e) in
    let v = version_known b in
    rw (
      lt-ltb (version_of b / 256) 256 (omega arith),
      lt-ltb (version_of b % 256) 256 (omega arith),
      lt-ltb b.role 256 (omega arith),
      lt-ltb b.mask 256 (omega arith),
      lt-ltb (b.limit / 256) 256 (omega arith),
      lt-ltb (b.limit % 256) 256 (omega arith),
      lt-ltb b.n 256 (omega arith),
      u,
    )

-- Accepted bytes, read and written out, are the same bytes.

below_at : (b : ℕ) (s : List ℕ) → all_below b s ≡ true → (i : ℕ) → i < length s → get_or s i 0 < b
unfolding all_below
below_at b [] h i l = absurd (not-suc-le-zero l)
below_at b (x ∷ xs) h zero l = ltb-true x b (both_left (ltb x b) (all_below b xs) h)
below_at b (x ∷ xs) h (suc i) l = below_at b xs (both_right (ltb x b) (all_below b xs) h) i (le_of_suc-le-suc l)

module _ (s : List ℕ) (f : Fine s) (bytes : all_below 256 s ≡ true) where
  version_same : version_of (book_of s) ≡ version_in s
  version_same = version_kept s (started s f.start).version

  header_run : header_bytes (book_of s) ≡ run s 0 (header_length (version_in s))
  unfolding header_length version_in
  header_run =
      let t = started s f.start in
      let l = t.long in
      let v = version_same in
      let version_low = below_at 256 s bytes 4 (omega arith) in
      let same : ℕ → Bool = λ i. eqb (get_or s i 0) (get_or mark i 0) in
      let m = both_left (same 0 && same 1) (same 2) t.mark in
      let m0 = eqb-true (get_or s 0 0) (get_or mark 0 0) (both_left (same 0) (same 1) m) in
      let m1 = eqb-true (get_or s 1 0) (get_or mark 1 0) (both_right (same 0) (same 1) m) in
      let m2 = eqb-true (get_or s 2 0) (get_or mark 2 0) (both_right (same 0 && same 1) (same 2) t.mark) in
      let v0 : version_of (book_of s) / 256 ≡ get_or s 3 0 = omega arith in
      let v1 : version_of (book_of s) % 256 ≡ get_or s 4 0 = omega arith in
      let limit-low = below_at 256 s bytes 8 (omega arith) in
      let l0 : (256 * get_or s 7 0 + get_or s 8 0) / 256 ≡ get_or s 7 0 = omega arith in
      let l1 : (256 * get_or s 7 0 + get_or s 8 0) % 256 ≡ get_or s 8 0 = omega arith in
      rw (l0, l1, m0, m1, m2, v0, v1)

  book_bytes_lem : book_bytes (book_of s) ≡ s
  unfolding book_bytes
  book_bytes_lem =
      let n = (book_of s).n in
      let v = version_in s in
      let k = header_length v in
      let l = sized v s n f.size in
      let h : header_bytes (book_of s) ≡ take k s = header_run ∙ run_is s 0 k (omega arith) in
      let e : entries_bytes (take n (kept_entries v s n)) ≡ drop k s =
      ap entries_bytes (kept_first v s n)
      ∙ entries_run v s n (omega arith)
      ∙ take_all (entry_length * n) (drop k s) (omega (arith, length-drop k s)) in
      ap (λ (r : List ℕ). header_bytes (book_of s) ++ r) e
      ∙ ap (λ (r : List ℕ). r ++ drop k s) h
      ∙ take-append-drop k s

-- every accepted file is its book's own bytes
pub read_written : (s : List ℕ) (b : Book) → read_book s ≡ accepts b → all_below 256 s ≡ true → book_bytes b ≡ s
read_written s b h bytes = ap book_bytes (read_is s b h) ∙ book_bytes_lem s (fine s (read_fine s b h)) bytes

-- The part that the lookup hands back is the kept entry's bytes.

pub part_is_entry : (s : List ℕ) (b : Book) (i : ℕ) → read_book s ≡ accepts b → i < b.n → entry_part s i ≡ entry_bytes (get_or b.entries i no_entry)
unfolding entry_part has_entry kept_entries
part_is_entry s b i h l =
    let z = read_fine s b h in
    let e = read_is s b h in
    let c : b.n ≡ (book_of s).n = ap (λ (x : Book). x.n) e in
    let k : i < (book_of s).n = omega arith in
    let v = version_in s in
    let f = sized v s (book_of s).n (fine s z).size in
    let j : i < length (entries_of v s (book_of s).n) = omega (arith, entries_length v s (book_of s).n) in
    rw (z, lt-ltb _ _ k, e, get_or-append (entries_of v s (book_of s).n) (replicate (most_entries - (book_of s).n) no_entry) no_entry i j, entry_kept v s (book_of s).n i k)
    (sym (entry_run s (entry_start v i) (omega arith)))
