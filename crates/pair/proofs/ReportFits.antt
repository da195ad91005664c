-- No report is longer than a text has room for, so none is cut. Assumes nothing.
use mathlib.Core.Bool.{cond, ◌||◌}
use mathlib.Core.List.{List}
use Prim.Native.Nat.{ℕ, ◌≤◌}
use native.Mathlib.Omega.{arith}
use lib.Dec.{ltb}
use lib.ListN.{length, length-append}
use Rattle.book.specs.declared.Refusal.{Refusal}
use Rattle.book.specs.Refusals.{refusal_number}
use Rattle.text.specs.Text.{room}
use Rattle.text.proofs.Lengths.{decimal_most, parameters_length}
use Rattle.protocol.specs.declared.Outcome.{Outcome}
use Rattle.protocol.specs.declared.Outcome.TheVariants.{Exchanging, Open, Refused}
use Rattle.pair.specs.Report.{least_bytes, most_bytes, open_line, refused_line, end_line, at_fault, lines_of, joining_in, join_says}
use Rattle.std.specs.Prelude.{Result, Ok, Err}
use Rattle.pair.specs.declared.join.Concluded.{Concluded}
use Rattle.pair.specs.declared.join.NotJoined.{NotJoined}
use Rattle.pair.specs.declared.join.NotJoined.TheVariants.{InputRefused, RefusedO, RefusedA, WrongRole}

end_most : (o : Outcome) → length (end_line o) ≤ 29
unfolding end_line open_line refused_line
end_most Exchanging = omega arith
end_most (Open version profile slot signals) =
    simp (length-append, parameters_length) (omega (arith, decimal_most version, decimal_most slot))
end_most (Refused number slot) = simp length-append (omega (arith, decimal_most number, decimal_most slot))

fault_most : (refusal : Refusal) → length (at_fault refusal) ≤ 25
unfolding at_fault
fault_most refusal = simp length-append (omega (arith, decimal_most (refusal_number refusal)))

lines_most : (j : Result Concluded NotJoined) → length (lines_of j) ≤ room
unfolding lines_of
lines_most (Err InputRefused) = omega arith
lines_most (Err (RefusedO refusal)) = simp length-append (omega (arith, fault_most refusal))
lines_most (Err (RefusedA refusal)) = simp length-append (omega (arith, fault_most refusal))
lines_most (Err WrongRole) = omega arith
lines_most (Ok ends) = simp length-append (omega (arith, end_most ends.o, end_most ends.a))

pub report_fits : (s : List ℕ) → length (join_says s) ≤ room
unfolding join_says
report_fits s = lines_most (cond (ltb (length s) least_bytes || ltb most_bytes (length s)) (Err InputRefused) (joining_in s))
