-- The originator's profile in the answerer's book: on the version that they share the answerer leaves out no entry that has it, so what it
-- matches is the entry that has it, and nothing where none has. Assumes nothing.
use Rattle.std.specs.Prelude.{Option, Some, None}
use mathlib.Core.Path.{◌≡◌, refl, sym, ◌∙◌}
use mathlib.Core.Logic.{⊎_elim}
use mathlib.Core.Bool.{Bool, true, false, not}
use Prim.Native.Nat.{ℕ, ◌<◌}
use lib.Dec.{eqb}
use borrow.Author.Tests.{eqb-false}
use Rattle.ground.proofs.Test.{both_right}
use Rattle.book.specs.declared.Entry.{Entry}
use Rattle.book.specs.declared.Book.{Book}
use Rattle.book.specs.Book.{params_of, same_params}
use Rattle.protocol.specs.Exchange.{entry_of, left_out, match_in}
use Rattle.protocol.specs.Pair.{MayJoin}
use Rattle.protocol.proofs.Kept.Matching.{names, names_none}
use Rattle.protocol.proofs.Kept.VersionSettled.{settled, own_stands}
use Rattle.protocol.proofs.Chain.Roles.{as_o, as_a, id_a, common}

module _ (d : ℕ) (bo ba : Book) (books : MayJoin d (as_o bo) (as_a ba)) (shared : eqb (common bo ba) 0 ≡ false) where
  abbrev own : Entry
  own = entry_of (as_o bo) 0

  abbrev found : Option ℕ
  found = match_in (common bo ba) ba.entries (params_of own) ba.n

  own_kept : left_out (common bo ba) own ≡ false
  own_kept =
      ⊎_elim (λ v. own_stands (as_o bo) (common bo ba) refl v) (λ none. absurd (eqb-false (common bo ba) 0 shared none))
      (settled (as_o bo) (id_a ba))

  -- equal parameters have equal forms
  entry_kept : (i : ℕ) → i < ba.n → same_params (entry_of (as_a ba) i) own ≡ true → left_out (common bo ba) (entry_of (as_a ba) i) ≡ false
  entry_kept i l same = rw (books.forms i l same).0 own_kept

  -- the entry that is matched has the profile
  pub found_same : (i : ℕ) → found ≡ Some i → (i < ba.n) × (same_params (entry_of (as_a ba) i) own ≡ true)
  found_same i e =
      let named = names (common bo ba) ba.entries (params_of own) ba.n i e in
      (named.0, both_right (not (left_out (common bo ba) (entry_of (as_a ba) i))) _ named.1)

  -- where none is matched none has it
  pub found_none : (i : ℕ) → found ≡ None → i < ba.n → same_params (entry_of (as_a ba) i) own ≡ false
  found_none i e l = by (same_params (entry_of (as_a ba) i) own) refl
    where
      by : (same : Bool) → same_params (entry_of (as_a ba) i) own ≡ same → same ≡ false
      by false s = refl
      by true s =
          let none = names_none (common bo ba) ba.entries (params_of own) ba.n i e l in
          sym (rw (entry_kept i l s, s)) ∙ none
