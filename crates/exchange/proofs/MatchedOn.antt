-- The search for an entry, from the last one down. Assumes nothing.
use Rattle.std.specs.Prelude.{Some, None}
use mathlib.Core.Path.{◌≡◌, refl}
use mathlib.Core.Bool.{true, false}
use mathlib.Core.List.{List}
use Prim.Native.Nat.{ℕ, zero, suc, ◌-◌, ◌<◌}
use native.Mathlib.Omega.{arith}
use lib.ListN.{get_or}
use Rattle.book.specs.declared.Entry.{Entry}
use Rattle.book.specs.Book.{no_entry}
use Rattle.protocol.specs.Exchange.{matches, match_in}

pub match_here : (version : ℕ) (entries : List Entry) (values : List ℕ) (i : ℕ) → 0 < i
    → matches version (get_or entries (i - 1) no_entry) values ≡ true → match_in version entries values i ≡ Some (i - 1)
unfolding match_in
match_here version entries values zero h m = absurd (omega arith)
match_here version entries values (suc i) h m = let e : suc i - 1 ≡ i = omega arith in rw (rw e at m, e)

pub match_below : (version : ℕ) (entries : List Entry) (values : List ℕ) (i : ℕ) → 0 < i
    → matches version (get_or entries (i - 1) no_entry) values ≡ false
    → match_in version entries values i ≡ match_in version entries values (i - 1)
unfolding match_in
match_below version entries values zero h m = absurd (omega arith)
match_below version entries values (suc i) h m = let e : suc i - 1 ≡ i = omega arith in rw (rw e at m, e)

pub match_none : (version : ℕ) (entries : List Entry) (values : List ℕ) → match_in version entries values 0 ≡ None
unfolding match_in
match_none version entries values = refl
