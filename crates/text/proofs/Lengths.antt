-- How many characters a number, a profile and a text take. Assumes nothing.
use mathlib.Core.Path.{◌≡◌, refl}
use mathlib.Core.List.{List, ◌++◌}
use Prim.Native.Nat.{ℕ, ◌≤◌, ◌<◌}
use native.Mathlib.Nat.{min-eq_left}
use native.Mathlib.Omega.{arith}
use lib.Dec.{ltb}
use lib.ListN.{length, take, replicate, length-append}
use lib.Seq.{take-take, take-append_seam}
use borrow.Author.Tests.{lt-ltb}
use Rattle.ground.proofs.Test.{either_way}
use Rattle.book.specs.declared.Entry.{Entry}
use Rattle.text.specs.Text.{room, text}
use Rattle.text.specs.Numerals.{place_of, decimal_of, hex_of, parameters_of}

place_most : (n unit : ℕ) → length (place_of n unit) ≤ 1
place_most n unit = either_way (λ xs. length xs ≤ 1) (ltb n unit) (omega arith) (omega arith)

pub decimal_most : (n : ℕ) → length (decimal_of n) ≤ 5
unfolding decimal_of
decimal_most n =
    simp length-append (omega (arith, place_most n 10000, place_most n 1000, place_most n 100, place_most n 10))

pub one_digit : (n : ℕ) → n < 10 → length (decimal_of n) ≡ 1
unfolding decimal_of
one_digit n h =
    let a : n < 100 = omega arith in
    let b : n < 1000 = omega arith in
    let c : n < 10000 = omega arith in
    simp (lt-ltb n 10 h, lt-ltb n 100 a, lt-ltb n 1000 b, lt-ltb n 10000 c)

pub parameters_length : (p : Entry) → length (parameters_of p) ≡ 10
unfolding parameters_of hex_of
parameters_length p = refl

-- A text's characters are all that was to be said, where there was room.
pub text_whole : (xs : List ℕ) → length xs ≤ room → take (text xs).length (text xs).bytes ≡ xs
unfolding text
text_whole xs fits =
    rw (min-eq_left fits, take-take (length xs) room (xs ++ replicate room 0) fits, take-append_seam xs (replicate room 0))
