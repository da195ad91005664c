-- The run over the entries, one by one. Assumes nothing.
use Prim.Native.Nat.{ℕ, ◌+◌, ◌<◌}
use mathlib.Core.Path.{◌≡◌}
use mathlib.Core.List.{List}
use native.Mathlib.Omega.{arith}
use native.Mathlib.Numerals.{add-one}
use lib.ListN.{length, get_or, take, drop}
use lib.Seq.{length-take-le, drop-cons, take-suc}
use Rattle.book.specs.declared.Entry.{Entry}
use Rattle.book.specs.Book.{entry_start, no_entry}
use Rattle.book.specs.Refusals.{or_else, entry_fault, each_fault}

-- from entry i on: the fault of entry i, or else what is found from the next on
pub run_at : (version mask : ℕ) (es : List Entry) (i : ℕ) → i < length es
    → each_fault version mask (take i es) (drop i es)
    ≡ or_else (entry_fault mask (take i es) (entry_start version i) (get_or es i no_entry)) (each_fault version mask (take (i + 1) es) (drop (i + 1) es))
unfolding each_fault
run_at version mask es i lt =
    let l : length (take i es) ≡ i = length-take-le i es (omega arith) in
    rw (add-one, drop-cons es i no_entry, take-suc es i no_entry, l)
