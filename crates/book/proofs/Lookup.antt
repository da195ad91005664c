-- Each way through the lookup of an entry. Assumes nothing.
use Prim.Native.Nat.{ℕ, ◌+◌, ◌-◌, ◌<◌, ◌≤◌}
use mathlib.Core.Path.{◌≡◌, sym, ap, ◌∙◌}
use mathlib.Core.Bool.{Bool, false, true, false≢true}
use mathlib.Core.List.{List, []}
use native.Mathlib.Omega.{arith}
use native.Mathlib.Nat.{add-zero, add_comm}
use lib.ListN.{length, take, drop}
use borrow.Author.Tests.{lt-ltb, le-ltb, ne_eqb}
use borrow.Rule.Slice.Shared.{by_byte}
use Rattle.std.specs.Prelude.{is_err}
use Rattle.book.specs.declared.BookRead.{BookRead}
use Rattle.book.specs.Book.{book_version, entry_length, entry_start, version_in, book_of}
use Rattle.book.specs.Refusals.{Verdict, nothing_wrong, number_of, book_fault, book_no}
use Rattle.book.specs.Reading.{read_book, has_entry, entry_part, part_at}
use Rattle.book.proofs.NothingWrong.{started, Fine, fine, sized, accepted, not_err}
use Rattle.book.proofs.Reply.{read_verdict, read_number, read_accepted}

module _ (s : List ℕ) (i : ℕ) (a : BookRead) (ea : a ≡ read_book s) (r : Bool) (er : r ≡ is_err a.verdict) where
  module _ (h : r ≡ true) where
    wrong : book_no s ≡ 0 → ⊥
    wrong z =
        let e : a.verdict ≡ nothing_wrong = ap (λ (x : BookRead). x.verdict) ea ∙ read_verdict s ∙ accepted (book_fault s) z in
        false≢true (sym (ap (λ (v : Verdict). is_err v) e) ∙ sym er ∙ h)

    none_refused : has_entry s i ≡ false
    unfolding has_entry
    none_refused = rw (ne_eqb _ _ wrong)

    pub part_refused : [] ≡ entry_part s i
    unfolding entry_part
    part_refused = rw none_refused

    pub place_refused : (p : ℕ × ℕ) → p ≡ (p.0, p.1 + part_at s i)
    unfolding part_at
    place_refused p = rw (none_refused, add-zero)

  module _ (h : r ≡ false) (n : ℕ) (en : n ≡ a.book.n) where
    no_fault : book_no s ≡ 0
    no_fault = sym (read_number s a ea) ∙ ap number_of (not_err a.verdict (sym er ∙ h))

    found_fine : Fine s
    found_fine = fine s no_fault

    count_is : n ≡ (book_of s).n
    count_is = en ∙ ap (λ (x : BookRead). x.book.n) (ea ∙ read_accepted s no_fault)

    module _ (g : n ≤ i) where
      none_beyond : has_entry s i ≡ false
      unfolding has_entry
      none_beyond = rw (← count_is, no_fault, le-ltb _ _ g)

      pub part_beyond : [] ≡ entry_part s i
      unfolding entry_part
      part_beyond = rw none_beyond

      pub place_beyond : (p : ℕ × ℕ) → p ≡ (p.0, p.1 + part_at s i)
      unfolding part_at
      place_beyond p = rw (none_beyond, add-zero)

    -- each entry up to i lies within s
    pub part_within : (j k : ℕ) → k ≡ entry_start book_version j → i < n → j ≤ i → k + entry_length ≤ length s
    part_within j k ek g l =
        let v = (started s found_fine.start).version in
        let f : length s ≡ entry_start book_version n = rw (← v, count_is) (sized (version_in s) s (book_of s).n found_fine.size) in
        omega arith

    module _ (g : i < n) (k : ℕ) (ek : k ≡ entry_start book_version i) where
      found : has_entry s i ≡ true
      unfolding has_entry
      found = rw (← count_is, no_fault, lt-ltb _ _ g)

      starts : k ≡ entry_start (version_in s) i
      starts = ek ∙ rw (started s found_fine.start).version

      pub part_found : take (k + entry_length - k) (drop k s) ≡ entry_part s i
      unfolding entry_part
      part_found = let d : k + entry_length - k ≡ entry_length = omega arith in rw (d, found, starts)

      pub place_found : (p : ℕ × ℕ) → ◌≡◌ {A = ℕ × ℕ} (p.0, by_byte k p.1) (p.0, p.1 + part_at s i)
      unfolding part_at
      place_found p = rw (found, starts, add_comm (entry_start (version_in s) i) p.1)

pub ruleset parts = (part_refused, part_beyond, part_found)

pub ruleset places = (place_refused, place_beyond, place_found)
