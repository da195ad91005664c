-- What the join program prints. Assumes nothing.
use Rattle.std.specs.Prelude.{cond, ◌||◌, List, ◌++◌, ℕ, Result, Ok, Err, ◌-◌, ltb, length, get_or, take, drop}
use Rattle.text.specs.Ascii.{ascii}
use Rattle.text.specs.Numerals.{decimal_of, parameters_of}
use Rattle.book.specs.declared.Entry.{Entry}
use Rattle.book.specs.declared.Refusal.{Refusal}
use Rattle.book.specs.Refusals.{refusal_number}
use Rattle.protocol.specs.declared.Outcome.{Outcome}
use Rattle.protocol.specs.declared.Outcome.TheVariants.{Exchanging, Open, Refused}
use Rattle.pair.specs.Join.{join_of}
use Rattle.pair.specs.declared.join.Concluded.{Concluded}
use Rattle.pair.specs.declared.join.NotJoined.{NotJoined}
use Rattle.pair.specs.declared.join.NotJoined.TheVariants.{InputRefused, RefusedO, RefusedA, WrongRole}

-- end, outcome, then for open the version, five parameters in upper-case hex and slot; for refused the number and slot
unfoldable pub open_line : ℕ → Entry → ℕ → List ℕ
open_line version profile slot =
    ascii " open " ++ decimal_of version ++ ascii " " ++ parameters_of profile ++ ascii " " ++ decimal_of slot ++ ascii "\n"

unfoldable pub refused_line : ℕ → ℕ → List ℕ
refused_line number slot = ascii " refused " ++ decimal_of number ++ ascii " " ++ decimal_of slot ++ ascii "\n"

-- an end that has run until both have concluded never stands in the exchange
unfoldable pub end_line : Outcome → List ℕ
end_line Exchanging = ascii " exchange\n"
end_line (Open version profile slot signals) = open_line version profile slot
end_line (Refused number slot) = refused_line number slot

unfoldable pub at_fault : Refusal → List ℕ
at_fault refusal = ascii " refused by number " ++ decimal_of (refusal_number refusal) ++ ascii "\n"

unfoldable pub lines_of : Result Concluded NotJoined → List ℕ
lines_of (Err InputRefused) = ascii "input refused\n"
lines_of (Err (RefusedO refusal)) = ascii "O" ++ at_fault refusal
lines_of (Err (RefusedA refusal)) = ascii "A" ++ at_fault refusal
lines_of (Err WrongRole) = ascii "pair refused\n"
lines_of (Ok ends) = ascii "O" ++ end_line ends.o ++ ascii "A" ++ end_line ends.a

-- the originator's book is 17 bytes
abbrev pub book_length : ℕ
book_length = 17

abbrev pub least_bytes : ℕ
least_bytes = 18

abbrev pub most_bytes : ℕ
most_bytes = 84

-- the originator's book, the answerer's, one delay byte
unfoldable pub joining_in : List ℕ → Result Concluded NotJoined
joining_in s =
    let last = length s - 1 in
    join_of (take book_length s) (take (last - book_length) (drop book_length s)) (get_or s last 0)

unfoldable pub join_says : List ℕ → List ℕ
join_says s =
    lines_of (cond (ltb (length s) least_bytes || ltb most_bytes (length s)) (Err InputRefused) (joining_in s))
