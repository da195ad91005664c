-- The line of a slot: seven fields parted by one space. Assumes nothing.
use Rattle.std.specs.Prelude.{Bool, cond, List, [], ◌++◌, ℕ, Option, Some, None, Ok, Err}
use Rattle.protocol.specs.Slot.{Reply, refusal_number}
use Rattle.protocol.specs.declared.Signals.{Signals}
use Rattle.protocol.specs.declared.Outcome.{Outcome}
use Rattle.protocol.specs.declared.Outcome.TheVariants as outcome
use Rattle.text.specs.Ascii.{ascii}
use Rattle.text.specs.Numerals.{decimal_of, hex_of, parameters_of}

abbrev pub space : List ℕ
space = ascii " "

-- the byte sent, or -- where the slot was refused
unfoldable pub sent_field : Reply → List ℕ
sent_field (Err refusal) = ascii "--"
sent_field (Ok passed) = hex_of passed.sent.0

-- the unit delivered
abbrev pub unit_field : Option ℕ → List ℕ
unit_field None = ascii "-"
unit_field (Some u) = decimal_of u

unfoldable pub delivered_field : Reply → List ℕ
delivered_field (Err refusal) = ascii "-"
delivered_field (Ok passed) = unit_field passed.delivered

-- whether the offered unit was taken
unfoldable pub taken_field : Reply → List ℕ
taken_field (Err refusal) = ascii "-"
taken_field (Ok passed) = cond passed.taken (ascii "t") (ascii "-")

abbrev pub flag_digit : Bool → List ℕ
flag_digit on = cond on (ascii "1") (ascii "0")

-- s3 s2 s1 s0 BK
unfoldable pub signal_digits : Signals → List ℕ
signal_digits g =
    flag_digit g.leads.s3
    ++ flag_digit g.leads.s2
    ++ flag_digit g.leads.s1
    ++ flag_digit g.leads.s0
    ++ flag_digit g.bk

-- the received leads and break as they stand
unfoldable pub signals_field : Outcome → List ℕ
signals_field outcome.Exchanging = ascii "-----"
signals_field (outcome.Open version profile slot signals) = signal_digits signals
signals_field (outcome.Refused number slot) = ascii "-----"

unfoldable pub stands_field : Outcome → List ℕ
stands_field outcome.Exchanging = ascii "exchange"
stands_field (outcome.Open version profile slot signals) = ascii "open"
stands_field (outcome.Refused number slot) = ascii "refused"

-- for open the version, the parameters and the slot of opening; for refused the number and the slot
unfoldable pub detail_field : Outcome → List ℕ
detail_field outcome.Exchanging = ascii "-"
detail_field (outcome.Open version profile slot signals) =
    decimal_of version ++ ascii "/" ++ parameters_of profile ++ ascii "/" ++ decimal_of slot
detail_field (outcome.Refused number slot) = decimal_of number ++ ascii "/" ++ decimal_of slot

-- the number where the slot itself was refused
unfoldable pub refusal_note : Reply → List ℕ
refusal_note (Err refusal) = ascii " by " ++ decimal_of (refusal_number refusal)
refusal_note (Ok passed) = []

-- what the reply of a slot says of it
unfoldable pub reply_fields : Reply → List ℕ
reply_fields r = sent_field r ++ space ++ delivered_field r ++ space ++ taken_field r

-- where the end stands
unfoldable pub outcome_fields : Outcome → List ℕ
outcome_fields o = signals_field o ++ space ++ stands_field o ++ space ++ detail_field o

-- the line of the slot at a place, counted from 0, with the outcome after it
unfoldable pub line_of : ℕ → Outcome → Reply → List ℕ
line_of place o r =
    decimal_of place ++ space ++ reply_fields r ++ space ++ outcome_fields o ++ refusal_note r ++ ascii "\n"
