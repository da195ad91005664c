-- The answerer's book and the delay, as a pattern names them in what follows the originator's book. Assumes nothing.
use mathlib.Core.Path.{◌≡◌}
use mathlib.Core.List.{List}
use Prim.Native.Nat.{ℕ, ◌+◌, ◌-◌, ◌≤◌}
use native.Mathlib.Omega.{arith}
use lib.ListN.{length, get_or, take, drop, length-drop}
use lib.Seq.{get_or-drop}
use Rattle.pair.specs.Join.{join_of}
use Rattle.pair.specs.Report.{book_length, least_bytes, joining_in}

pub parts : (s : List ℕ) → least_bytes ≤ length s
    → let rest = drop book_length s in joining_in s ≡ join_of (take book_length s) (take (length rest - 1) rest) (get_or rest (length rest - 1) 0)
unfolding joining_in
parts s h =
    let l : length s - book_length - 1 ≡ length s - 1 - book_length = omega arith in
    let k : book_length + (length s - 1 - book_length) ≡ length s - 1 = omega arith in
    rw (length-drop, l, get_or-drop, k)
