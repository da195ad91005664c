-- What is so where the checks find nothing wrong. Assumes nothing.
use Prim.Native.Nat.{ℕ, ◌≤◌}
use mathlib.Core.Path.{◌≡◌, refl}
use mathlib.Core.Bool.{Bool, true, false, cond, not, ◌||◌}
use mathlib.Core.List.{List}
use native.Mathlib.Omega.{arith}
use lib.ListN.{length}
use lib.Dec.{ltb, eqb}
use borrow.Author.Tests.{ltb-false, eqb-true, not-false}
use Rattle.std.specs.Prelude.{Ok, Err, is_err}
use Rattle.book.specs.declared.Refusal.{Refusal}
use Rattle.book.specs.declared.Refusal.TheVariants.{TooShort, Mark, BookVersion, Role, Mask, Limit, Count, Form, BarredForm, SameParameters, TooLong, WordLength}
use Rattle.book.specs.declared.Book.{Book}
use Rattle.book.specs.Book.{book_version, least_header, most_entries, entry_start, version_in, book_of}
use Rattle.book.specs.Refusals.{refusal_number, Verdict, fault, nothing_wrong, or_else, number_of, least_limit, is_mark, start_fault, is_mask, wrong_count, values_fault, length_fault, entries_fault, book_fault, book_no}

pub neither : (a b : Bool) → (a || b) ≡ false → (a ≡ false) × (b ≡ false)
neither true b h = (h, cc)
neither false b h = (refl, h)

-- a check that finds nothing wrong: neither does what follows it
pub cond_fine : (b : Bool) (refusal : Refusal) (o : ℕ) (v : Verdict) → cond b (fault refusal o) v ≡ nothing_wrong → (b ≡ false) × (v ≡ nothing_wrong)
cond_fine true refusal o v h = absurd (cc)
cond_fine false refusal o v h = (refl, h)

pub else_fine : (a b : Verdict) → or_else a b ≡ nothing_wrong → (a ≡ nothing_wrong) × (b ≡ nothing_wrong)
else_fine (Ok _) b h = (refl, h)
else_fine (Err f) b h = absurd (cc)

-- 0 is the number of no refusal
pub numbered : (refusal : Refusal) → 1 ≤ refusal_number refusal
numbered TooShort = omega arith
numbered Mark = omega arith
numbered BookVersion = omega arith
numbered Role = omega arith
numbered Mask = omega arith
numbered Limit = omega arith
numbered Count = omega arith
numbered Form = omega arith
numbered BarredForm = omega arith
numbered SameParameters = omega arith
numbered TooLong = omega arith
numbered WordLength = omega arith

pub accepted : (v : Verdict) → number_of v ≡ 0 → v ≡ nothing_wrong
accepted (Ok _) h = refl
accepted (Err f) h = absurd (omega (arith, numbered f.refusal))

-- a verdict that is no refusal
pub not_err : (v : Verdict) → is_err v ≡ false → v ≡ nothing_wrong
not_err (Ok _) h = refl
not_err (Err f) h = absurd (cc)

pub record Started (s : List ℕ) : Type 0 where
  pub long : least_header ≤ length s
  pub mark : is_mark s ≡ true
  pub version : version_in s ≡ book_version

pub started : (s : List ℕ) → start_fault s ≡ nothing_wrong → Started s
unfolding start_fault
started s h =
    let a = cond_fine (ltb (length s) least_header) TooShort _ _ h in
    let b = cond_fine (not (is_mark s)) Mark _ _ a.1 in
    let c = cond_fine (not (eqb (version_in s) book_version)) BookVersion _ _ b.1 in
    record {
      long = ltb-false _ _ a.0;
      mark = not-false _ b.0;
      version = eqb-true _ _ (not-false _ c.0);
    }

pub record Valued (b : Book) : Type 0 where
  pub role : b.role ≤ 1
  pub mask : is_mask b.mask ≡ true
  pub limit : least_limit ≤ b.limit
  pub count : wrong_count b.role b.n ≡ false
  pub few : b.n ≤ most_entries

pub valued : (b : Book) → values_fault b ≡ nothing_wrong → Valued b
unfolding values_fault
valued b h =
    let x = cond_fine (ltb 1 b.role) Role _ _ h in
    let y = cond_fine (not (is_mask b.mask)) Mask _ _ x.1 in
    let z = cond_fine (ltb b.limit least_limit) Limit _ _ y.1 in
    let w = cond_fine (wrong_count b.role b.n) Count _ _ z.1 in
    record {
      role = ltb-false _ _ x.0;
      mask = not-false _ y.0;
      limit = ltb-false _ _ z.0;
      count = w.0;
      few = ltb-false _ _ (neither (eqb b.n 0) _ (neither (eqb b.n 0 || ltb most_entries b.n) _ w.0).0).1;
    }

pub few : (b : Book) → is_err (values_fault b) ≡ false → b.n ≤ most_entries
few b h = (valued b (not_err (values_fault b) h)).few

pub sized : (version : ℕ) (s : List ℕ) (n : ℕ) → length_fault version s n ≡ nothing_wrong → length s ≡ entry_start version n
unfolding length_fault
sized version s n h =
    let x = cond_fine (ltb (length s) (entry_start version n)) TooShort _ _ h in
    let y = cond_fine (ltb (entry_start version n) (length s)) TooLong _ _ x.1 in
    omega (arith, ltb-false (length s) (entry_start version n) x.0, ltb-false (entry_start version n) (length s) y.0)

-- each stage of the checks on the bytes s
pub record Fine (s : List ℕ) : Type 0 where
  pub start : start_fault s ≡ nothing_wrong
  pub values : values_fault (book_of s) ≡ nothing_wrong
  pub size : length_fault (version_in s) s (book_of s).n ≡ nothing_wrong
  pub entries : entries_fault (version_in s) (book_of s) ≡ nothing_wrong

pub fine : (s : List ℕ) → book_no s ≡ 0 → Fine s
unfolding book_fault
fine s h =
    let x = else_fine (start_fault s) _ (accepted (book_fault s) h) in
    let y = else_fine (values_fault (book_of s)) _ x.1 in
    let z = else_fine (length_fault (version_in s) s (book_of s).n) _ y.1 in
    record { start = x.0; values = y.0; size = z.0; entries = z.1 }

pub fine_book : (s : List ℕ) → Fine s → book_fault s ≡ nothing_wrong
unfolding book_fault
fine_book s f = rw (f.start, f.values, f.size, f.entries)
