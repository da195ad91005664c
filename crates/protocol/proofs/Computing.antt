-- What a proof unfolds to compute slots. `unfolding moving` unfolds every definition that a slot computes with, but the identifier, of which
-- no law speaks but by its name; `unfolding computing` unfolds that too, for figures. Assumes nothing.
use Prim.Native.Nat.{ℕ}
use Rattle.book.specs.Book.{header_length, version_in as book_version_in, entries_of, kept_entries, version_of}
use Rattle.book.specs.Written.{entries_bytes, book_bytes}
use Rattle.book.specs.Refusals.{start_fault, values_fault, length_fault, seen_in, entry_fault, each_fault, entries_fault, book_fault}
use Rattle.book.specs.Kept.{all_none, is_padded, book_ok}
use Rattle.channel.specs.Bytes.{laid, signalling, sd_byte, dl_byte, dh_byte}
use Rattle.channel.specs.Kinds.{kind_number, nibble_in, leads_in, kind_from, kind_of, how_many}
use Rattle.channel.specs.Forms.{fits, unit_byte, unit_in, encoded, decoded, same_both_ways, word_fits, encoded_word, word_of}
use Rattle.channel.specs.Versions.{highest_up_to, highest, shared}
use Rattle.channel.specs.Vote.{majorities, voted}
use Rattle.ground.specs.Digits.{val, digits, all_below}
use Rattle.protocol.specs.Lengths.{identifier_run, parameter_run, parameter_lead}
use Rattle.protocol.specs.Collecting.{of_run, value_of, in_run, in_group, hear_at}
use Rattle.protocol.specs.Sent.{byte_sent, parameter_sent}
use Rattle.protocol.specs.Exchange.{identifier, first_exchange, match_in, acted, fate_heard, chosen_originating, chosen_answering, sent_as, advanced, fate_sent, sends, turn}
use Rattle.protocol.specs.Opened.{shape_of, has_unit, fresh_line, agreed_signals, reads_word, reads_six, reads_stream, reading, writes_opening, writes_data, writing}
use Rattle.protocol.specs.Ranges.{awaited_in, nibbles_in, values_in, answering_in, originating_in, is_version, version_in, outbound_in, inbound_in, refused_in, phase_in, well_formed}
use Rattle.protocol.specs.Slot.{started, clocked, exchange_step, open_step, step_at, offer_allowed, outcome_at, slot_step, slot_of}
use Rattle.protocol.specs.Joined.{joined, joined_slot}

unfoldable pub moving : ℕ
unfolding
    header_length book_version_in version_of entries_of kept_entries entries_bytes book_bytes start_fault values_fault length_fault seen_in entry_fault
    each_fault entries_fault book_fault all_none is_padded book_ok laid signalling sd_byte dl_byte dh_byte kind_number nibble_in leads_in kind_from
    kind_of how_many fits unit_byte unit_in encoded decoded same_both_ways word_fits encoded_word word_of highest_up_to highest shared
    majorities voted val digits all_below identifier_run parameter_run parameter_lead of_run value_of in_run in_group hear_at byte_sent
    parameter_sent first_exchange match_in acted fate_heard chosen_originating chosen_answering sent_as advanced fate_sent sends turn
    shape_of has_unit fresh_line agreed_signals reads_word reads_six reads_stream reading writes_opening writes_data writing awaited_in
    nibbles_in values_in answering_in originating_in is_version version_in outbound_in inbound_in refused_in phase_in well_formed started
    clocked exchange_step open_step step_at offer_allowed outcome_at slot_step slot_of joined joined_slot
moving = 0

unfoldable pub computing : ℕ
unfolding moving identifier
computing = 0
