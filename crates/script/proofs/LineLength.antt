-- No line is longer than a text has room for. Assumes nothing.
use Rattle.std.specs.Prelude.{Option, Some, None, Ok, Err}
use mathlib.Core.Path.{◌≡◌, refl}
use mathlib.Core.Bool.{Bool, true, false}
use Prim.Native.Nat.{ℕ, ◌+◌, ◌≤◌}
use native.Mathlib.Omega.{arith}
use lib.ListN.{length, length-append}
use Rattle.channel.specs.declared.byte.ChannelByte.{ChannelByte}
use Rattle.protocol.specs.Slot.{Reply, passed_with, refusal_number}
use Rattle.protocol.specs.declared.Signals.{Signals}
use Rattle.protocol.specs.declared.Outcome.{Outcome}
use Rattle.protocol.specs.declared.Outcome.TheVariants as outcome
use Rattle.text.specs.Text.{room}
use Rattle.text.specs.Numerals.{decimal_of, hex_of}
use Rattle.text.proofs.Lengths.{decimal_most, parameters_length}
use Rattle.script.specs.Line.{sent_field, unit_field, delivered_field, taken_field, flag_digit, signal_digits, signals_field, stands_field, detail_field, refusal_note, reply_fields, outcome_fields, line_of}

flag_length : (on : Bool) → length (flag_digit on) ≡ 1
flag_length true = refl
flag_length false = refl

pub signals_length : (g : Signals) → length (signal_digits g) ≡ 5
unfolding signal_digits
signals_length g =
    simp (length-append, flag_length)

unit_most : (d : Option ℕ) → length (unit_field d) ≤ 5
unit_most None = omega arith
unit_most (Some u) = decimal_most u

-- what the reply of a slot adds to its line
pub passed_most : (sent : ChannelByte) (delivered : Option ℕ) (taken : Bool) (stands : Outcome)
    → length (reply_fields (passed_with sent delivered taken stands)) ≤ 10
unfolding reply_fields sent_field delivered_field taken_field hex_of
passed_most sent delivered true stands = simp length-append (omega (arith, unit_most delivered))
passed_most sent delivered false stands = simp length-append (omega (arith, unit_most delivered))

reply_most : (r : Reply) → length (reply_fields r) + length (refusal_note r) ≤ 15
unfolding reply_fields sent_field delivered_field taken_field refusal_note
reply_most (Err refusal) = simp length-append (omega (arith, decimal_most (refusal_number refusal)))
reply_most (Ok p) = omega (arith, passed_most p.sent p.delivered p.taken p.outcome)

-- and what the outcome adds: most where the end is open
pub outcome_most : (o : Outcome) → length (outcome_fields o) ≤ 33
unfolding outcome_fields signals_field stands_field detail_field
outcome_most outcome.Exchanging = omega arith
outcome_most (outcome.Open version profile slot signals) =
    simp (length-append, signals_length, parameters_length) (omega (arith, decimal_most version, decimal_most slot))
outcome_most (outcome.Refused number slot) = simp length-append (omega (arith, decimal_most number, decimal_most slot))

pub line_length : (place : ℕ) (o : Outcome) (r : Reply)
    → length (line_of place o r) ≡ length (decimal_of place) + 3 + (length (reply_fields r) + length (refusal_note r)) + length (outcome_fields o)
unfolding line_of
line_length place o r = simp length-append (omega arith)

-- no line is longer than that, so that a text never cuts one
pub line_fits : (place : ℕ) (o : Outcome) (r : Reply) → length (line_of place o r) ≤ room
line_fits place o r =
    rw (line_length place o r) (omega (arith, decimal_most place, reply_most r, outcome_most o))
