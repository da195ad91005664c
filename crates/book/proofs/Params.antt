-- Five parameters compared as bytes: the test passes exactly where the lists are equal. Assumes nothing.
use Prim.Native.Nat.{ℕ}
use mathlib.Core.Path.{◌≡◌, refl, ap}
use mathlib.Core.Bool.{Bool, true, false, ◌&&◌, false≢true}
use mathlib.Core.List.{List}
use lib.ListN.{get_or}
use lib.Dec.{eqb}
use borrow.Author.Tests.{eqb-true, eq-eqb}
use Rattle.book.specs.declared.Entry.{Entry}
use Rattle.book.specs.Book.{params_of, same_params}

five : (a b c d e : Bool) → (a && b && c && d && e) ≡ true → (a ≡ true) × (b ≡ true) × (c ≡ true) × (d ≡ true) × (e ≡ true)
five true true true true e h = (refl, refl, refl, refl, h)
five true true true false e h = absurd (false≢true h)
five true true false d e h = absurd (false≢true h)
five true false c d e h = absurd (false≢true h)
five false b c d e h = absurd (false≢true h)

module _ (a b : Entry) where
  pub same_equal : same_params a b ≡ true → params_of a ≡ params_of b
  same_equal h =
      let t = five (eqb a.p0 b.p0) (eqb a.p1 b.p1) (eqb a.p2 b.p2) (eqb a.p3 b.p3) (eqb a.p4 b.p4) h in
      cc (
        eqb-true a.p0 b.p0 t.0,
        eqb-true a.p1 b.p1 t.1,
        eqb-true a.p2 b.p2 t.2,
        eqb-true a.p3 b.p3 t.3,
        eqb-true a.p4 b.p4 t.4,
      )

  pub equal_same : params_of a ≡ params_of b → same_params a b ≡ true
  equal_same h =
      let at : (i : ℕ) → eqb (get_or (params_of a) i 0) (get_or (params_of b) i 0) ≡ true =
      λ i. eq-eqb _ _ (ap (λ (l : List ℕ). get_or l i 0) h) in
      rw (at 0, at 1, at 2, at 3, at 4)
