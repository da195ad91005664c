-- What a match says: the entry that it names has the parameters, and where it names none no entry has. Assumes nothing.
use Rattle.std.specs.Prelude.{Option, Some, None}
use mathlib.Core.Path.{◌≡◌, refl, sym, subst}
use mathlib.Core.Logic.{◌⊎◌, inl, inr, ⊎_elim}
use mathlib.Core.Bool.{Bool, true, false, cond, ◌&&◌}
use mathlib.Core.List.{List}
use Prim.Native.Nat.{ℕ, zero, suc, ◌<◌}
use native.Mathlib.Omega.{arith}
use native.Mathlib.Nat.{eq-or-lt_of_le, le_of_suc-le-suc}
use lib.Dec.{eqb}
use lib.ListN.{get_or}
use borrow.Author.Tests.{eq-eqb, eqb-true, ne_eqb, eqb-false}
use Rattle.ground.proofs.Test.{both_left, both_right}
use Rattle.book.specs.declared.Entry.{Entry}
use Rattle.book.specs.Book.{no_entry, same_params}
use Rattle.protocol.specs.Exchange.{matches, match_in}

named_by : (b : Bool) (n i : ℕ) (m : Option ℕ) → cond b (Some n) m ≡ Some i → ((b ≡ true) × (n ≡ i)) ⊎ (m ≡ Some i)
named_by true n i m e = inl (refl, cc)
named_by false n i m e = inr e

none_by : (b : Bool) (n : ℕ) (m : Option ℕ) → cond b (Some n) m ≡ None → (b ≡ false) × (m ≡ None)
none_by true n m e = let z : ◌≡◌ {A = ℕ} 0 1 = cc in absurd (omega arith)
none_by false n m e = (refl, e)

module _ (version : ℕ) (entries : List Entry) (values : List ℕ) where
  -- the entry named is below n and has the parameters
  pub names : (n i : ℕ) → match_in version entries values n ≡ Some i → (i < n) × (matches version (get_or entries i no_entry) values ≡ true)
  unfolding match_in
  names zero i e = let z : ◌≡◌ {A = ℕ} 0 1 = cc in absurd (omega arith)
  names (suc n) i e =
      ⊎_elim
      (λ q. (omega (arith, q.1), subst (λ j. matches version (get_or entries j no_entry) values ≡ true) q.1 q.0))
      (λ r. let before = names n i r in (omega (arith, before.0), before.1))
      (named_by (matches version (get_or entries n no_entry) values) n i (match_in version entries values n) e)

  -- none has them
  pub names_none : (n i : ℕ) → match_in version entries values n ≡ None → i < n → matches version (get_or entries i no_entry) values ≡ false
  unfolding match_in
  names_none zero i e l = absurd (omega arith)
  names_none (suc n) i e l =
      let q = none_by (matches version (get_or entries n no_entry) values) n (match_in version entries values n) e in
      ⊎_elim (λ z. subst (λ j. matches version (get_or entries j no_entry) values ≡ false) (sym z) q.0) (λ z. names_none n i q.1 z) (eq-or-lt_of_le (le_of_suc-le-suc l))

-- five parameters are equal to themselves, in either order, and as numbers
pub same_self : (e : Entry) → same_params e e ≡ true
same_self e =
    rw (eq-eqb e.p0 e.p0 refl, eq-eqb e.p1 e.p1 refl, eq-eqb e.p2 e.p2 refl, eq-eqb e.p3 e.p3 refl, eq-eqb e.p4 e.p4 refl)

eqb_comm : (a b : ℕ) → eqb a b ≡ eqb b a
eqb_comm a b = go (eqb a b) refl
  where
    go : (f : Bool) → eqb a b ≡ f → f ≡ eqb b a
    go true e = sym (eq-eqb b a (sym (eqb-true a b e)))
    go false e = sym (ne_eqb b a (λ z. eqb-false a b e (sym z)))

pub same_comm : (e f : Entry) → same_params e f ≡ same_params f e
same_comm e f =
    rw (eqb_comm e.p0 f.p0, eqb_comm e.p1 f.p1, eqb_comm e.p2 f.p2, eqb_comm e.p3 f.p3, eqb_comm e.p4 f.p4)

-- entries with equal parameters, form and word length are equal
pub same_entry : (e f : Entry) → same_params e f ≡ true → e.form ≡ f.form → e.w ≡ f.w → e ≡ f
same_entry e f s form w =
    let c0 : Bool = eqb e.p0 f.p0 in
    let c1 : Bool = eqb e.p1 f.p1 in
    let c2 : Bool = eqb e.p2 f.p2 in
    let c3 : Bool = eqb e.p3 f.p3 in
    let c4 : Bool = eqb e.p4 f.p4 in
    let r3 : (c0 && c1 && c2 && c3) ≡ true = both_left (c0 && c1 && c2 && c3) c4 s in
    let r2 : (c0 && c1 && c2) ≡ true = both_left (c0 && c1 && c2) c3 r3 in
    let r1 : (c0 && c1) ≡ true = both_left (c0 && c1) c2 r2 in
    let s0 : e.p0 ≡ f.p0 = eqb-true e.p0 f.p0 (both_left c0 c1 r1) in
    let s1 : e.p1 ≡ f.p1 = eqb-true e.p1 f.p1 (both_right c0 c1 r1) in
    let s2 : e.p2 ≡ f.p2 = eqb-true e.p2 f.p2 (both_right (c0 && c1) c2 r2) in
    let s3 : e.p3 ≡ f.p3 = eqb-true e.p3 f.p3 (both_right (c0 && c1 && c2) c3 r3) in
    let s4 : e.p4 ≡ f.p4 = eqb-true e.p4 f.p4 (both_right (c0 && c1 && c2 && c3) c4 s) in
    λ i. record { p0 = s0 i; p1 = s1 i; p2 = s2 i; p3 = s3 i; p4 = s4 i; form = form i; w = w i }
