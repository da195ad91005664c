-- What the first offending byte is: it stands in what was lent, or at its end, and nothing past the field at fault counts. Assumes nothing.
use Prim.Native.Nat.{ℕ, zero, suc, ◌+◌, ◌^◌, ◌<◌, ◌≤◌}
use mathlib.Core.Path.{◌≡◌, refl, sym, ap, ◌∙◌}
use mathlib.Core.Bool.{Bool, true, false, cond, not}
use mathlib.Core.List.{List, [], ◌∷◌, ◌++◌, append-nil}
use native.Mathlib.Omega.{arith}
use native.Mathlib.Nat.{le_trans, add-zero, add-suc, suc-add, zero-add}
use lib.ListN.{length, get_or, take, length-append}
use lib.Seq.{get_or-take, append_snoc}
use lib.Dec.{ltb, eqb}
use borrow.Author.Tests.{ltb-true, ltb-false}
use Rattle.std.specs.Prelude.{Ok, Err}
use Rattle.ground.proofs.Test.{by_test, either_way}
use Rattle.book.specs.declared.Entry.{Entry}
use Rattle.book.specs.declared.Book.{Book}
use Rattle.book.specs.Book.{header_length, book_version, answering, least_header, most_entries, version_at, role_at, mask_at, limit_at, count_at}
use Rattle.book.specs.Book.{entry_length, form_in, width_in, entry_start, version_in, entry_at, entries_of, kept_entries, book_of}
use Rattle.book.specs.Refusals.{Verdict, nothing_wrong, or_else, number_of, offset_of, least_limit, is_mark, start_fault, is_mask, wrong_count, values_fault, length_fault}
use Rattle.book.specs.Refusals.{is_form, is_width, is_barred, seen_in, entry_fault, each_fault, entries_fault, book_fault, book_no, book_offset}
use Rattle.book.specs.Offending.{field_length, fault_end, longest_book}
use Rattle.book.proofs.Loading.{entries_length}
use Rattle.book.proofs.NothingWrong.{started, valued, sized}
use Rattle.book.proofs.Versions.{least_header_lem}
use Rattle.book.proofs.RoundTrip.{kept_first}

-- what holds of a stage, and of what follows where the stage finds nothing wrong, holds of the two
else_by : (P : Verdict → Type 0) (a b : Verdict) → P a → (a ≡ nothing_wrong → P b) → P (or_else a b)
else_by P (Ok _) b p q = q refl
else_by P (Err f) b p q = p

-- The offset is within what was lent and within the longest book, or at the end of these.

-- n entries end within the longest book
pub end_within : (version n : ℕ) → version ≡ book_version → n ≤ most_entries → entry_start version n ≤ longest_book
end_within version n v few = rw v (omega arith)

-- the faults of n entries stand before their end
each_within : (version mask n : ℕ) (earlier es : List Entry) → length earlier + length es ≤ n
    → offset_of (each_fault version mask earlier es) ≤ entry_start version n
unfolding each_fault entry_fault
each_within version mask n earlier [] l = omega arith
each_within version mask n earlier (e ∷ es) l =
    let In : Verdict → Type 0 = λ v. offset_of v ≤ entry_start version n in
    else_by In (entry_fault mask earlier (entry_start version (length earlier)) e) _
    (either_way In (not (is_form e.form)) (omega arith)
    (either_way In (not (is_width e.form e.w)) (omega arith)
    (either_way In (is_barred mask e.form) (omega arith)
    (either_way In (seen_in earlier e) (omega arith) (omega arith)))))
    (λ z. each_within version mask n (earlier ++ (e ∷ [])) es (rw length-append (omega arith)))

module _ (s : List ℕ) where
  abbrev Within : Verdict → Type 0
  Within v = (offset_of v ≤ length s) × (offset_of v ≤ longest_book)

  start_within : Within (start_fault s)
  unfolding start_fault
  start_within =
      let h = least_header_lem book_version in
      by_test Within (ltb (length s) least_header)
      (λ e. let l = ltb-true (length s) least_header e in (omega arith, omega arith))
      (λ e.
      let l = ltb-false (length s) least_header e in
      either_way Within (not (is_mark s)) (omega arith, omega arith)
      (either_way Within (not (eqb (version_in s) book_version)) (omega arith, omega arith) (omega arith, omega arith)))

  values_within : (b : Book) → least_header ≤ length s → Within (values_fault b)
  unfolding values_fault
  values_within b l =
      let h = least_header_lem book_version in
      either_way Within (ltb answering b.role) (omega arith, omega arith)
      (either_way Within (not (is_mask b.mask)) (omega arith, omega arith)
      (either_way Within (ltb b.limit least_limit) (omega arith, omega arith)
      (either_way Within (wrong_count b.role b.n) (omega arith, omega arith) (omega arith, omega arith))))

  length_within : (version n : ℕ) → entry_start version n ≤ longest_book → Within (length_fault version s n)
  unfolding length_fault
  length_within version n m =
      by_test Within (ltb (length s) (entry_start version n))
      (λ e. let l = ltb-true (length s) (entry_start version n) e in (omega arith, omega arith))
      (λ e.
      by_test Within (ltb (entry_start version n) (length s))
      (λ g. let l = ltb-true (entry_start version n) (length s) g in (omega arith, omega arith))
      (λ g. (omega arith, omega arith)))

  book_within : Within (book_fault s)
  unfolding book_fault entries_fault
  book_within =
      let n = (book_of s).n in
      let v = version_in s in
      else_by Within (start_fault s) _ start_within
      (λ a.
      else_by Within (values_fault (book_of s)) _ (values_within (book_of s) (started s a).long)
      (λ b.
      let m = end_within v n (started s a).version (valued (book_of s) b).few in
      else_by Within (length_fault v s n) _ (length_within v n m)
      (λ c.
      let l = sized v s n c in
      let first : length (take n (kept_entries v s n)) ≤ n = rw (kept_first, entries_length) (omega arith) in
      let o = each_within v (book_of s).mask n [] (take n (kept_entries v s n)) (omega arith) in
      (omega arith, omega arith))))

pub offset_within : (s : List ℕ) → book_offset s ≤ length s
offset_within s = (book_within s).0

pub offset_most : (s : List ℕ) → book_offset s ≤ longest_book
offset_most s = (book_within s).1

-- so that it has 16 bits
pub offset_short : (s : List ℕ) → book_offset s < 2 ^ 16
unfolding header_length
offset_short s = omega (arith, offset_most s)

-- What follows the field at fault does not count.

-- m entries from entry i on, in the order of their checks
abbrev entries_from : ℕ → List ℕ → ℕ → ℕ → List Entry
entries_from version s i zero = []
entries_from version s i (suc m) = entry_at s (entry_start version i) ∷ entries_from version s (suc i) m

from_entry : (version : ℕ) (s : List ℕ) (i m : ℕ) → entries_of version s i ++ entries_from version s i m ≡ entries_of version s (i + m)
unfolding entries_of
from_entry version s i zero = rw (append-nil, add-zero)
from_entry version s i (suc m) =
    sym (append_snoc (entries_of version s i) (entry_at s (entry_start version i)) (entries_from version s (suc i) m))
    ∙ from_entry version s (suc i) m
    ∙ rw (add-suc, suc-add)

-- the checks that follow the values
after_values : ℕ → ℕ → ℕ → List ℕ → Verdict
after_values version mask n s = or_else (length_fault version s n) (each_fault version mask [] (entries_from version s 0 n))

after_values_lem : (s : List ℕ)
    → or_else (length_fault (version_in s) s (book_of s).n) (entries_fault (version_in s) (book_of s))
    ≡ after_values (version_in s) (book_of s).mask (book_of s).n s
unfolding after_values entries_fault entries_of
after_values_lem s = rw (kept_first, from_entry (version_in s) s 0 (book_of s).n, zero-add)

-- the first m bytes of t are those of s
abbrev pub Agree : List ℕ → List ℕ → ℕ → Type 0
Agree s t m = (i : ℕ) → i < m → get_or t i 0 ≡ get_or s i 0

module _ (s t : List ℕ) where
  pub fewer : (d m : ℕ) → d ≤ m → Agree s t m → Agree s t d
  fewer d m l a i h = a i (omega arith)

  -- What the first bytes decide.

  pub mark_alike : Agree s t version_at → is_mark t ≡ is_mark s
  mark_alike a = rw (a 0 (omega arith), a 1 (omega arith), a 2 (omega arith))

  pub version_alike : Agree s t role_at → version_in t ≡ version_in s
  unfolding version_in
  version_alike a = rw (a version_at (omega arith), a (version_at + 1) (omega arith))

  pub values_alike : Agree s t least_header → values_fault (book_of t) ≡ values_fault (book_of s)
  unfolding values_fault
  values_alike a =
      rw (a role_at (omega arith), a mask_at (omega arith), a limit_at (omega arith), a (limit_at + 1) (omega arith), a count_at (omega arith))

  entry_alike : (k : ℕ) → Agree s t (k + entry_length) → entry_at t k ≡ entry_at s k
  entry_alike k a =
      rw (
        a k (omega arith),
        a (k + 1) (omega arith),
        a (k + 2) (omega arith),
        a (k + 3) (omega arith),
        a (k + 4) (omega arith),
        a (k + form_in) (omega arith),
        a (k + width_in) (omega arith),
      )

  -- where f is a fault of s: its field ends at d or later, and g is f if t agrees with s up to that end
  record Follows (d : ℕ) (f g : Verdict) : Type 0 where
    ends : (number_of f ≡ 0 → ⊥) → d ≤ fault_end f
    told : (number_of f ≡ 0 → ⊥) → Agree s t (fault_end f) → g ≡ f

  fine_follows : (d : ℕ) {g : Verdict} → Follows d nothing_wrong g
  fine_follows d = record { ends = λ w. absurd (w refl); told = λ w. absurd (w refl) }

  sooner : (d e : ℕ) {f g : Verdict} → d ≤ e → Follows e f g → Follows d f g
  sooner d e l k = record { ends = λ w. le_trans l (k.ends w); told = k.told }

  -- what is g once the first d bytes agree
  retold : (d : ℕ) {f g h : Verdict} → (Agree s t d → h ≡ g) → Follows d f g → Follows d f h
  retold d {f} same k = record { ends = k.ends; told = λ w a. same (fewer d (fault_end f) (k.ends w) a) ∙ k.told w a }

  -- a check that the first d bytes decide, before what the first e decide
  check : (d e : ℕ) (test : List ℕ → Bool) (at : Verdict) {f g : Verdict} → d ≤ fault_end at → d ≤ e → (Agree s t d → test t ≡ test s)
      → Follows e f g → Follows d (cond (test s) at f) (cond (test t) at g)
  check d e test at {f} {g} l m same k = retold d (λ a. rw (same a)) (by (test s))
    where
      by : (z : Bool) → Follows d (cond z at f) (cond z at g)
      by true = record { ends = λ w. l; told = λ w a. refl }
      by false = sooner d e m k

  -- a stage, before what follows where it finds nothing wrong
  stage : (d e : ℕ) (a b : Verdict) {r q : Verdict} → d ≤ e → Follows d a b → (Agree s t e → b ≡ a) → (a ≡ nothing_wrong → Follows e r q)
      → Follows d (or_else a r) (or_else b q)
  stage d e (Ok _) b {r} {q} l k same rest =
      sooner d e l (retold e (λ h. ap (λ (x : Verdict). or_else x q) (same h)) (rest refl))
  stage d e (Err f) b {r} {q} l k same rest =
      record { ends = k.ends; told = λ w h. ap (λ (x : Verdict). or_else x q) (k.told w h) }

  values_follows : Follows mask_at (values_fault (book_of s)) (values_fault (book_of t))
  unfolding values_fault field_length
  values_follows =
      check mask_at limit_at (λ x. ltb answering (book_of x).role) _ (omega arith) (omega arith) (λ a. rw (a role_at (omega arith)))
      (check limit_at count_at (λ x. not (is_mask (book_of x).mask)) _ (omega arith) (omega arith) (λ a. rw (a mask_at (omega arith)))
      (check count_at least_header (λ x. ltb (book_of x).limit least_limit) _ (omega arith) (omega arith)
      (λ a. rw (a limit_at (omega arith), a (limit_at + 1) (omega arith)))
      (check least_header least_header (λ x. wrong_count (book_of x).role (book_of x).n) _ (omega arith) (omega arith)
      (λ a. rw (a role_at (omega arith), a count_at (omega arith)))
      (fine_follows least_header))))

  entry_follows : (mask : ℕ) (earlier : List Entry) (k : ℕ)
      → Follows k (entry_fault mask earlier k (entry_at s k)) (entry_fault mask earlier k (entry_at t k))
  unfolding entry_fault field_length
  entry_follows mask earlier k =
      let end : ℕ = k + entry_length in
      sooner k (k + width_in) (omega arith)
      (check (k + width_in) end (λ x. not (is_form (entry_at x k).form)) _ (omega arith) (omega arith)
      (λ a. rw (a (k + form_in) (omega arith)))
      (check end end (λ x. not (is_width (entry_at x k).form (entry_at x k).w)) _ (omega arith) (omega arith)
      (λ a. rw (a (k + form_in) (omega arith), a (k + width_in) (omega arith)))
      (check end end (λ x. is_barred mask (entry_at x k).form) _ (omega arith) (omega arith)
      (λ a. rw (a (k + form_in) (omega arith)))
      (check end end (λ x. seen_in earlier (entry_at x k)) _ (omega arith) (omega arith)
      (λ a. rw (entry_alike k a))
      (fine_follows end)))))

  each_follows : (version mask i m : ℕ)
      → Follows (entry_start version i) (each_fault version mask (entries_of version s i) (entries_from version s i m))
      (each_fault version mask (entries_of version s i) (entries_from version t i m))
  unfolding each_fault entries_of
  each_follows version mask i zero = fine_follows (entry_start version i)
  each_follows version mask i (suc m) =
      let k = entry_start version i in
      let e = entry_start version (suc i) in
      let earlier = entries_of version s i in
      let alike : Agree s t e → entry_at t k ≡ entry_at s k = λ a. entry_alike k (fewer (k + entry_length) e (omega arith) a) in
      rw entries_length
      (stage k e (entry_fault mask earlier k (entry_at s k)) (entry_fault mask earlier k (entry_at t k)) (omega arith)
      (entry_follows mask earlier k)
      (λ a. rw (alike a))
      (λ z. retold e (λ a. rw (alike a)) (each_follows version mask (suc i) m)))

  module _ (same : length t ≡ length s) where
    start_alike : Agree s t role_at → start_fault t ≡ start_fault s
    unfolding start_fault
    start_alike a = rw (same, mark_alike (fewer version_at role_at (omega arith) a), version_alike a)

    start_follows : Follows 0 (start_fault s) (start_fault t)
    unfolding start_fault field_length
    start_follows =
        rw same
        (check 0 version_at (λ x. ltb (length s) least_header) _ (omega arith) (omega arith) (λ a. refl)
        (check version_at role_at (λ x. not (is_mark x)) _ (omega arith) (omega arith) (λ a. rw (mark_alike a))
        (check role_at role_at (λ x. not (eqb (version_in x) book_version)) _ (omega arith) (omega arith) (λ a. rw (version_alike a))
        (fine_follows role_at))))

    length_alike : (version n : ℕ) → length_fault version t n ≡ length_fault version s n
    unfolding length_fault
    length_alike version n = rw same

    length_follows : (version n : ℕ) → least_header ≤ length s
        → Follows least_header (length_fault version s n) (length_fault version t n)
    unfolding length_fault field_length
    length_follows version n long =
        let h = least_header_lem version in
        rw same
        (check least_header least_header (λ x. ltb (length s) (entry_start version n)) _ (omega arith) (omega arith) (λ a. refl)
        (check least_header least_header (λ x. ltb (entry_start version n) (length s)) _ (omega arith) (omega arith) (λ a. refl)
        (fine_follows least_header)))

    after_follows : (version mask n : ℕ) → least_header ≤ length s
        → Follows least_header (after_values version mask n s) (after_values version mask n t)
    unfolding after_values entries_of
    after_follows version mask n long =
        let h = least_header_lem version in
        stage least_header (entry_start version 0) (length_fault version s n) (length_fault version t n) (omega arith)
        (length_follows version n long)
        (λ a. length_alike version n)
        (λ z. each_follows version mask 0 n)

    after_alike : Agree s t least_header
        → after_values (version_in t) (book_of t).mask (book_of t).n t ≡ after_values (version_in s) (book_of s).mask (book_of s).n t
    after_alike a =
        rw (version_alike (fewer role_at least_header (omega arith) a), a mask_at (omega arith), a count_at (omega arith))

    book_follows : Follows 0 (book_fault s) (book_fault t)
    unfolding book_fault
    book_follows =
        rw (after_values_lem s, after_values_lem t)
        (stage 0 mask_at (start_fault s) (start_fault t) (omega arith) start_follows
        (λ a. start_alike (fewer role_at mask_at (omega arith) a))
        (λ z.
        stage mask_at least_header (values_fault (book_of s)) (values_fault (book_of t)) (omega arith) values_follows values_alike
        (λ y. retold least_header after_alike (after_follows (version_in s) (book_of s).mask (book_of s).n (started s z).long))))

agree_taken : (s t : List ℕ) (m : ℕ) → take m t ≡ take m s → Agree s t m
agree_taken s t m h i l = sym (get_or-take m t i 0 l) ∙ ap (λ (x : List ℕ). get_or x i 0) h ∙ get_or-take m s i 0 l

-- two lent books of one length that agree up to and with the field at fault are refused alike, number and offset
pub refused_alike : (s t : List ℕ) → (book_no s ≡ 0 → ⊥) → length t ≡ length s
    → take (fault_end (book_fault s)) t ≡ take (fault_end (book_fault s)) s → book_fault t ≡ book_fault s
refused_alike s t wrong same h = (book_follows s t same).told wrong (agree_taken s t (fault_end (book_fault s)) h)
