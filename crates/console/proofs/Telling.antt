-- Of a program's name of up to 30 characters nothing that is told is cut. Assumes nothing.
use mathlib.Core.Path.{◌≡◌}
use mathlib.Core.List.{List}
use Prim.Native.Nat.{ℕ, ◌≤◌}
use native.Mathlib.Omega.{arith}
use lib.ListN.{length, take, length-append}
use Rattle.text.specs.Text.{room, text}
use Rattle.text.proofs.Lengths.{text_whole}
use Rattle.console.specs.declared.Failure.{Failure}
use Rattle.console.specs.Telling.{told_of}

told_most : (name : List ℕ) (f : Failure) → length name ≤ 30 → length (told_of name f) ≤ room
unfolding told_of
told_most name Failure.NotRead short = simp length-append (omega (arith, short))
told_most name Failure.NotWritten short = simp length-append (omega (arith, short))

pub told_whole : (name : List ℕ) (f : Failure) → length name ≤ 30
    → take (text (told_of name f)).length (text (told_of name f)).bytes ≡ told_of name f
told_whole name f short = text_whole (told_of name f) (told_most name f short)
