-- Document 01 had no 17: there 8 was a wrong form or a w wrong for it; and form 8 stood with mask 2 alone. Told as it told them, the numbers
-- are those of document 01, where the entries under mask 3 are now judged as it judged those under mask 2; and the check of a kept book passes
-- exactly what it passed there, so judged. What it passed passes still. Assumes nothing.
use Prim.Native.Nat.{ℕ, ◌+◌}
use mathlib.Core.Path.{◌≡◌, refl, sym, ap, ◌∙◌, subst}
use mathlib.Core.Bool.{Bool, true, false, cond, not, ◌&&◌, ◌||◌, and-false, false≢true}
use mathlib.Core.List.{List, [], ◌∷◌, ◌++◌}
use lib.ListN.{length, take}
use lib.Dec.{eqb}
use native.Mathlib.Omega.{arith}
use borrow.Author.Tests.{eqb-true, eqb-false, ne_eqb}
use Rattle.std.specs.Prelude.{Ok, Err, is_ok}
use Rattle.book.specs.declared.Entry.{Entry}
use Rattle.book.specs.declared.Book.{Book}
use Rattle.book.specs.declared.Refusal.TheVariants.{Form, BarredForm, SameParameters, WordLength}
use Rattle.book.specs.Book.{form_in, width_in, entry_start, version_of}
use Rattle.book.specs.Refusals.{refusal_number, Verdict, fault, nothing_wrong, or_else, number_of, is_mask, is_form, is_width, is_barred, seen_in, entry_fault, each_fault, values_fault, entries_fault}
use Rattle.book.specs.Kept.{is_padded, book_ok}
use Rattle.book.proofs.NothingWrong.{numbered, accepted, valued}

-- A number as document 01 told it, and its checks of the entries.

abbrev pub in01 : ℕ → ℕ
in01 number = cond (eqb number 17) 8 number

-- form 8 with mask not 2
abbrev pub is_barred01 : ℕ → ℕ → Bool
is_barred01 mask form = eqb form 8 && not (eqb mask 2)

-- 8: form not 0, 6, 7, 8, or w wrong for it. 9: form 8 with mask not 2. 10: five parameters equal to an earlier entry's
unfoldable pub entry_no01 : ℕ → List Entry → Entry → ℕ
entry_no01 mask earlier e =
    cond (not (is_form e.form && is_width e.form e.w)) 8
    (cond (is_barred01 mask e.form) 9
    (cond (seen_in earlier e) 10
    0))

-- entry by entry: the first number that is not 0
unfoldable pub each_no01 : ℕ → List Entry → List Entry → ℕ
each_no01 mask earlier [] = 0
each_no01 mask earlier (e ∷ es) =
    cond (eqb (entry_no01 mask earlier e) 0) (each_no01 mask (earlier ++ (e ∷ [])) es) (entry_no01 mask earlier e)

-- the mask under which document 01 judged an entry as it is judged now
abbrev pub mask01 : ℕ → ℕ
mask01 mask = cond (eqb mask 3) 2 mask

-- The same numbers.

-- in01 takes no number to 0, and none from it
zero_01 : (number : ℕ) → eqb number 0 ≡ eqb (in01 number) 0
zero_01 number = by (eqb number 17) refl
  where
    by : (t : Bool) → eqb number 17 ≡ t → eqb number 0 ≡ eqb (cond t 8 number) 0
    by true e = rw (eqb-true number 17 e)
    by false e = refl

-- a verdict with the number 0 is no refusal
ok_zero : (v : Verdict) → is_ok v ≡ eqb (number_of v) 0
ok_zero (Ok _) = refl
ok_zero (Err f) = let l = numbered f.refusal in sym (ne_eqb (refusal_number f.refusal) 0 (λ e. absurd (omega arith)))

else_01 : (a b : Verdict) → in01 (number_of (or_else a b)) ≡ cond (eqb (in01 (number_of a)) 0) (in01 (number_of b)) (in01 (number_of a))
else_01 (Ok _) b = refl
else_01 (Err f) b = rw (← zero_01 (refusal_number f.refusal), ← ok_zero (Err f))

checks_01 : (f w g b : Bool) (o p q : ℕ)
    → in01 (number_of (cond (not f) (fault Form o) (cond (not w) (fault WordLength p) (cond g (fault BarredForm o) (cond b (fault SameParameters q) nothing_wrong)))))
    ≡ cond (not (f && w)) 8 (cond g 9 (cond b 10 0))
checks_01 false w g b o p q = refl
checks_01 true false g b o p q = refl
checks_01 true true true b o p q = refl
checks_01 true true false true o p q = refl
checks_01 true true false false o p q = refl

-- of the masks that a book may have
masks : (P : ℕ → Type 0) → P 1 → P 2 → P 3 → (mask : ℕ) → is_mask mask ≡ true → P mask
masks P one two three mask h = by (eqb mask 1) (eqb mask 2) (eqb mask 3) refl refl refl h
  where
    by : (a b c : Bool) → eqb mask 1 ≡ a → eqb mask 2 ≡ b → eqb mask 3 ≡ c → (a || b || c) ≡ true → P mask
    by true b c p q r e = subst P (sym (eqb-true mask 1 p)) one
    by false true c p q r e = subst P (sym (eqb-true mask 2 q)) two
    by false false true p q r e = subst P (sym (eqb-true mask 3 r)) three
    by false false false p q r e = absurd (false≢true e)

barred_as_01 : (form mask : ℕ) → is_mask mask ≡ true → is_barred mask form ≡ is_barred01 (mask01 mask) form
barred_as_01 form mask m = masks (λ mask. is_barred mask form ≡ is_barred01 (mask01 mask) form) refl refl refl mask m

module _ (mask : ℕ) (m : is_mask mask ≡ true) where
  entry_as_01 : (earlier : List Entry) (start : ℕ) (e : Entry)
      → in01 (number_of (entry_fault mask earlier start e)) ≡ entry_no01 (mask01 mask) earlier e
  unfolding entry_fault entry_no01
  entry_as_01 earlier start e =
      rw (← barred_as_01 e.form mask m)
      (checks_01 (is_form e.form) (is_width e.form e.w) (is_barred mask e.form) (seen_in earlier e) (start + form_in) (start + width_in) start)

  each_as_01 : (version : ℕ) (earlier es : List Entry) → in01 (number_of (each_fault version mask earlier es)) ≡ each_no01 (mask01 mask) earlier es
  unfolding each_fault each_no01
  each_as_01 version earlier [] = refl
  each_as_01 version earlier (e ∷ es) =
      let start = entry_start version (length earlier) in
      else_01 (entry_fault mask earlier start e) (each_fault version mask (earlier ++ (e ∷ [])) es)
      ∙ rw (entry_as_01 earlier start e, each_as_01 version (earlier ++ (e ∷ [])) es)

pub entries_as_01 : (version : ℕ) (b : Book) → is_mask b.mask ≡ true
    → in01 (number_of (entries_fault version b)) ≡ each_no01 (mask01 b.mask) [] (take b.n b.entries)
unfolding entries_fault
entries_as_01 version b m = each_as_01 b.mask m version [] (take b.n b.entries)

pub kept_as_01 : (b : Book)
    → book_ok b
    ≡ (eqb (number_of (values_fault b)) 0 && eqb (each_no01 (mask01 b.mask) [] (take b.n b.entries)) 0 && is_padded b.entries b.n)
unfolding book_ok
kept_as_01 b =
    rw (ok_zero (values_fault b), ok_zero (entries_fault (version_of b) b))
    (by (eqb (number_of (values_fault b)) 0) refl)
  where
    now : ℕ
    now = number_of (entries_fault (version_of b) b)

    then : ℕ
    then = each_no01 (mask01 b.mask) [] (take b.n b.entries)

    by : (v : Bool) → eqb (number_of (values_fault b)) 0 ≡ v
        → (v && eqb now 0 && is_padded b.entries b.n) ≡ (v && eqb then 0 && is_padded b.entries b.n)
    by false e = refl
    by true e =
        let same = zero_01 now ∙ ap (λ (k : ℕ). eqb k 0) (entries_as_01 (version_of b) b (valued b (accepted (values_fault b) (eqb-true _ 0 e))).mask) in
        rw same

-- What document 01 accepted is accepted still.

first_fine : (a b : ℕ) → cond (eqb a 0) b a ≡ 0 → (a ≡ 0) × (b ≡ 0)
first_fine a b h = by (eqb a 0) refl h
  where
    by : (t : Bool) → eqb a 0 ≡ t → cond t b a ≡ 0 → (a ≡ 0) × (b ≡ 0)
    by true e g = (eqb-true a 0 e, g)
    by false e g = absurd (eqb-false a 0 e g)

barred_still : (mask form : ℕ) → is_barred01 mask form ≡ false → is_barred01 (mask01 mask) form ≡ false
barred_still mask form h = by (eqb mask 3)
  where
    by : (t : Bool) → is_barred01 (cond t 2 mask) form ≡ false
    by true = and-false (eqb form 8)
    by false = h

-- 8, 9 and 10 in their order
abbrev in_order : (shape barred seen : Bool) → ℕ
in_order shape barred seen = cond shape 8 (cond barred 9 (cond seen 10 0))

checks_still : (f g h b : Bool) → (g ≡ false → h ≡ false) → in_order f g b ≡ 0 → in_order f h b ≡ 0
checks_still true g h b s e = e
checks_still false true h b s e = absurd (omega arith)
checks_still false false h b s e = rw (s refl) e

entry_still : (mask : ℕ) (earlier : List Entry) (e : Entry) → entry_no01 mask earlier e ≡ 0 → entry_no01 (mask01 mask) earlier e ≡ 0
unfolding entry_no01
entry_still mask earlier e =
    checks_still (not (is_form e.form && is_width e.form e.w)) (is_barred01 mask e.form) (is_barred01 (mask01 mask) e.form) (seen_in earlier e)
    (barred_still mask e.form)

pub accepted_still : (mask : ℕ) (earlier es : List Entry) → each_no01 mask earlier es ≡ 0 → each_no01 (mask01 mask) earlier es ≡ 0
unfolding each_no01
accepted_still mask earlier [] h = refl
accepted_still mask earlier (e ∷ es) h =
    let p = first_fine (entry_no01 mask earlier e) (each_no01 mask (earlier ++ (e ∷ [])) es) h in
    rw (entry_still mask earlier e p.0) (accepted_still mask (earlier ++ (e ∷ [])) es p.1)
