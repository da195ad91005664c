-- The sentences of document 01 as figures: what the paper writes, in numbers, beside what the definitions give, on both sides of each line
-- that a sentence draws. The tables stand in the crates whose definitions they hold; here all of them are cited. Assumes nothing.
use mathlib.Core.Path.{◌≡◌}
use mathlib.Core.Bool.{true, false, ◌&&◌}
use mathlib.Core.List.{List, [], ◌++◌}
use mathlib.Core.Logic.{◌↔◌}
use Prim.Native.Nat.{ℕ, ◌*◌, ◌-◌, ◌^◌, ◌<◌, ◌≤◌}
use lib.Bits.{bit_and, bit_or}
use lib.Dec.{eqb}
use lib.ListN.{length, take, replicate}
use Rattle.ground.specs.Digits.{all_below, bit}
use Rattle.ground.specs.Lists.{is_among}
use Rattle.ground.proofs.Figures.{AmongAsListed, among_as_listed}
use Rattle.channel.specs.Bytes.{signalling, sgvi, sgr, sdidle, sd_byte}
use Rattle.channel.specs.Kinds.{kind_number, kind_of, how_many}
use Rattle.channel.specs.Forms.{unit_byte, same_both_ways}
use Rattle.channel.specs.Vote.{majority, voted}
use Rattle.channel.specs.declared.kind.Kind.TheVariants.{Sgvi, Sgr}
use Rattle.channel.specs.declared.unit.Form.TheVariants.{SevenV1, SevenV2}
use Rattle.channel.proofs.Figures.{BytesAsListed, bytes_as_listed, KindsAsRead, kinds_as_read, UnitsAsLaid, units_as_laid}
use Rattle.channel.proofs.Figures.{WordsAsLaid, words_as_laid, VersionsAsChosen, versions_as_chosen, VotesAsCounted, votes_as_counted}
use Rattle.channel.proofs.KindTable.{kinds_counted, others_counted}
use Rattle.channel.proofs.Majority.{vote_just, whole_bytes}
use Rattle.channel.proofs.ReadBack.{signalling_read, sgvi_read, sgr_read, sdidle_is}
use Rattle.channel.proofs.RoundTrip.{versions_agree}
use Rattle.packing.specs.FormsOfData.{bits_of, octets_in, unpacked}
use Rattle.packing.specs.NumbersOfRefusal.{unpack_refusal}
use Rattle.packing.proofs.Figures.{PackedAsCounted, packed_as_counted, PackingRefused, packing_refused}
use Rattle.packing.proofs.Figures.{WrittenAsPromised, written_as_promised}
use Rattle.packing.proofs.Trips.{bits_kept_back}
use Rattle.book.specs.declared.Entry.{Entry}
use Rattle.book.specs.declared.Book.{Book}
use Rattle.book.specs.Written.{entries_bytes, book_bytes}
use Rattle.book.specs.Reading.{number_of, accepts, read_book}
use Rattle.book.specs.Refusals.{is_mask, values_fault, entries_fault}
use Rattle.book.specs.Kept.{is_padded, book_ok}
use Rattle.book.proofs.Samples.{BookFigures, book_figures}
use Rattle.book.proofs.RoundTrip.{passes_exactly, written_bytes}
use Rattle.book.proofs.Base.{in01, mask01, each_no01, entries_as_01, kept_as_01, accepted_still}
use Rattle.bookwords.proofs.Figures.{BookTold, book_told}
use Rattle.text.specs.Numerals.{decimal_of}
use Rattle.text.proofs.Figures.{read_from, Figures, figures, read_back}
use Rattle.protocol.specs.Answers.{says_outcome, says_reply}
use Rattle.protocol.specs.declared.Outcome.{Outcome}
use Rattle.protocol.specs.Slot.{Reply}
use Rattle.protocol.proofs.Figures.Exchanging.{ExchangeFigures, exchange_figures}
use Rattle.protocol.proofs.Figures.Opening.{OpenFigures, open_figures}
use Rattle.protocol.proofs.Figures.LeadsAhead.{LeadsFigures, leads_figures}
use Rattle.protocol.proofs.Figures.Refusing.{RefusalFigures, refusal_figures}
use Rattle.protocol.proofs.Figures.Answering.{AnswerFigures, answer_figures}
use Rattle.protocol.proofs.Figures.Joining.{PairFigures, pair_figures}
use Rattle.protocol.proofs.Figures.Starting.{StartingFigures, starting_figures}
use Rattle.endpoint.proofs.SaysAll.{outcome_says_all, reply_says_all}
use Rattle.script.proofs.Samples.{ScriptFigures, script_figures}
use Rattle.leads.specs.LeadsAhead.{LeadsAhead}
use Rattle.leads.proofs.LeadsAhead.{leads_ahead}
use Rattle.leads.proofs.Exact.{Exact, exact}
use Rattle.premises.proofs.WholeRuns.{WholeRuns, whole_runs}

-- Bytes on the channel, forms of data, the vote and the version.
pub record ChannelHeld : Type 0 where
  pub bytes : BytesAsListed
  pub kinds : KindsAsRead
  pub units : UnitsAsLaid
  pub words : WordsAsLaid
  pub versions : VersionsAsChosen
  pub votes : VotesAsCounted
  -- the vote over whole bytes is the vote bit by bit: a byte is the vote just where each of its bits is the majority of the copies' bits, and
  -- AND and OR of the copies give it
  pub vote_is : (a b c r : ℕ) → r < 256 → (r ≡ voted a b c) ↔ ((i : ℕ) → i < 8 → bit i r ≡ majority (bit i a) (bit i b) (bit i c))
  pub over_bytes : (a b c : ℕ) → a < 256 → b < 256 → c < 256 → bit_or (bit_or (bit_and a b) (bit_and a c)) (bit_and b c) ≡ voted a b c
  -- 16 DL, 16 DH and 32 Sd codes, 54 unassigned, and one of each of the 10 others
  pub counted : (how_many 1 128 ≡ 16) × (how_many 2 128 ≡ 16) × (how_many 3 128 ≡ 32) × (how_many 0 128 ≡ 54)
  pub others : (k : ℕ) → k < 14 → 4 ≤ k → how_many k 128 ≡ 1
  -- each signalling code is read as what it is, and Sdidle is the Sd with s2 alone on
  pub codes : (n : ℕ) → n < 14 → 4 ≤ n → kind_number (signalling n) ≡ n
  pub hail : kind_of sgvi ≡ Sgvi
  pub restart : kind_of sgr ≡ Sgr
  pub idle : sd_byte (record { s0 = false; s1 = false; s2 = true; s3 = false }) false ≡ sdidle
  -- the versions of form 7 lay 16 units alike, and no other
  pub orders : (u : ℕ) → u < 128 → eqb (unit_byte SevenV1 u) (unit_byte SevenV2 u) ≡ is_among u same_both_ways
  pub among : AmongAsListed

channel_held : ChannelHeld
channel_held =
    record {
      bytes = bytes_as_listed;
      kinds = kinds_as_read;
      units = units_as_laid;
      words = words_as_laid;
      versions = versions_as_chosen;
      votes = votes_as_counted;
      vote_is = vote_just;
      over_bytes = whole_bytes;
      counted = kinds_counted;
      others = others_counted;
      codes = signalling_read;
      hail = sgvi_read;
      restart = sgr_read;
      idle = sdidle_is;
      orders = versions_agree;
      among = among_as_listed;
    }

pub record PackingHeld : Type 0 where
  pub packs : PackedAsCounted
  pub refuses : PackingRefused
  pub writes : WrittenAsPromised
  -- the bits of units that are unpacked are the bits of the octets, in their order, and then zeros
  pub bits : (k : ℕ) (us : List ℕ) (len at : ℕ) → unpack_refusal k us len at ≡ 0
      → bits_of k us ≡ bits_of 8 (unpacked k us) ++ replicate (k * length us - 8 * octets_in k (length us)) 0

packing_held : PackingHeld
packing_held = record { packs = packed_as_counted; refuses = packing_refused; writes = written_as_promised; bits = bits_kept_back }

pub record BookHeld : Type 0 where
  pub figures : BookFigures
  -- the check of a kept book is true exactly of the books that reading yields, and what such a book is written out as is bytes
  pub exactly : (b : Book) → (book_ok b ≡ true) ↔ ((s : List ℕ) × (read_book s ≡ accepts b))
  -- told as document 01 told them, the numbers are its own, and the check of a kept book passes what it passed there, but that the entries
  -- under mask 3 are judged as it judged those under mask 2; and it refuses nothing that passed there
  pub numbers : (version : ℕ) (b : Book) → is_mask b.mask ≡ true
      → in01 (number_of (entries_fault version b)) ≡ each_no01 (mask01 b.mask) [] (take b.n b.entries)
  pub kept : (b : Book) → book_ok b
      ≡ (eqb (number_of (values_fault b)) 0 && eqb (each_no01 (mask01 b.mask) [] (take b.n b.entries)) 0 && is_padded b.entries b.n)
  pub still : (mask : ℕ) (earlier es : List Entry) → each_no01 mask earlier es ≡ 0 → each_no01 (mask01 mask) earlier es ≡ 0
  pub bytes : (b : Book) → book_ok b ≡ true → b.limit < 2 ^ 16 → all_below 256 (entries_bytes b.entries) ≡ true
      → all_below 256 (book_bytes b) ≡ true

book_held : BookHeld
book_held =
    record {
      figures = book_figures;
      exactly = passes_exactly;
      numbers = entries_as_01;
      kept = kept_as_01;
      still = accepted_still;
      bytes = written_bytes;
    }

-- Numbers as they are written, lines and scripts.
pub record TextHeld : Type 0 where
  pub numerals : Figures
  pub back : (n : ℕ) → n < 65536 → read_from 0 (decimal_of n) ≡ n
  pub scripts : ScriptFigures
  pub books : BookTold

text_held : TextHeld
text_held = record { numerals = figures; back = read_back; scripts = script_figures; books = book_told }

-- One slot, 12 and 13 and the ranges; the answers in numbers; the worked figures of the joined pair.
pub record EndHeld : Type 0 where
  pub exchange : ExchangeFigures
  pub opened : OpenFigures
  pub leads : LeadsFigures
  -- what follows from the order of these rules: chattering leads can't stop the data, and steady leads arrive
  pub ahead : LeadsAhead
  pub exactly : Exact
  pub refusals : RefusalFigures
  pub answers : AnswerFigures
  -- answers that say the same are the same
  pub outcomes : (o p : Outcome) → says_outcome o ≡ says_outcome p → o ≡ p
  pub replies : (r s : Reply) → says_reply r ≡ says_reply s → r ≡ s
  pub pair : PairFigures
  pub starting : StartingFigures
  pub whole : WholeRuns

end_held : EndHeld
end_held =
    record {
      exchange = exchange_figures;
      opened = open_figures;
      leads = leads_figures;
      ahead = leads_ahead;
      exactly = exact;
      refusals = refusal_figures;
      answers = answer_figures;
      outcomes = outcome_says_all;
      replies = reply_says_all;
      pair = pair_figures;
      starting = starting_figures;
      whole = whole_runs;
    }

pub record SentencesHeld : Type 0 where
  pub channel : ChannelHeld
  pub packing : PackingHeld
  pub book : BookHeld
  pub text : TextHeld
  pub end : EndHeld

pub sentences_held : SentencesHeld
sentences_held = record { channel = channel_held; packing = packing_held; book = book_held; text = text_held; end = end_held }
