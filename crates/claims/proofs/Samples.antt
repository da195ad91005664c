-- P1 to P12 hold. Assumes nothing.
use mathlib.Core.Path.{◌≡◌, refl}
use mathlib.Core.List.{map}
use Rattle.ground.specs.Digits.{val, digits, all_below}
use Rattle.channel.specs.Bytes.{laid, dl_byte, dh_byte}
use Rattle.channel.specs.Kinds.{kind_number, leads_in, kind_from, kind_of}
use Rattle.channel.specs.Forms.{fits, unit_byte, encoded, word_fits, encoded_word}
use Rattle.channel.specs.Versions.{highest_up_to, highest, shared}
use Rattle.channel.specs.Vote.{majorities, voted}
use Rattle.packing.specs.FormsOfData.{bits_of, grouped, units_for, octets_in, packed, left_over}
use Rattle.packing.specs.NumbersOfRefusal.{some_one, unpack_refusal}
use Rattle.claims.specs.Samples.{Sample, samples}

pub samples_hold : map (λ (s : Sample). s.defined) samples ≡ map (λ (s : Sample). s.written) samples
unfolding
    samples val digits all_below laid dl_byte dh_byte kind_number leads_in kind_from kind_of fits unit_byte encoded word_fits encoded_word
    highest_up_to highest shared majorities voted bits_of grouped units_for octets_in packed left_over some_one unpack_refusal
samples_hold = refl
