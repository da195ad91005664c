-- Units that don't start together, as figures: what an end has before its start and from then on, and where two ends meet. Assumes nothing.
use mathlib.Core.Path.{◌≡◌, refl}
use mathlib.Core.List.{List, [], ◌∷◌}
use Prim.Native.Nat.{ℕ}
use Rattle.book.specs.Book.{originating, answering}
use Rattle.channel.specs.Bytes.{sgvi}
use Rattle.protocol.specs.Sent.{byte_sent}
use Rattle.protocol.specs.Slot.{started}
use Rattle.protocol.specs.Call.{end_at}
use Rattle.protocol.specs.Joined.{idle}
use Rattle.protocol.specs.Late.{OriginatorLater, AnswererLater, starts_o, starts_a, since, starting, sent_from, meets_late}
use Rattle.protocol.proofs.Computing.{computing}
use Rattle.protocol.proofs.Figures.Joining.{book_for}

-- the slot by its number
abbrev itself : ℕ → ℕ
itself t = t

-- what an originator and an answerer that start in slot 3 send in a slot, while Sgvi arrives in every slot from slot 0 on
abbrev sends_from3 : ℕ → ℕ → ℕ
sends_from3 role t = byte_sent (sent_from 3 (started (book_for role 3 500)) (λ u. sgvi) (λ u. idle) t)

pub record StartingFigures : Type 0 where
  -- the later end starts e slots after the other
  pub originator_later : ◌≡◌ {A = List ℕ} (starts_o OriginatorLater 7 ∷ starts_a OriginatorLater 7 ∷ []) (7 ∷ 0 ∷ [])
  pub answerer_later : ◌≡◌ {A = List ℕ} (starts_o AnswererLater 7 ∷ starts_a AnswererLater 7 ∷ []) (0 ∷ 7 ∷ [])
  -- it hears nothing until its start: what it hears first is what arrives in slot 3
  pub hears : ◌≡◌ {A = List ℕ} (since 3 itself 0 ∷ since 3 itself 2 ∷ []) (3 ∷ 5 ∷ [])
  -- by the common slots: until slot 3, from slot 3 on, and later
  pub begins : ◌≡◌ {A = List ℕ} (starting 3 99 itself 0 ∷ starting 3 99 itself 2 ∷ starting 3 99 itself 3 ∷ starting 3 99 itself 5 ∷ []) (99 ∷ 99 ∷ 0 ∷ 2 ∷ [])
  -- until then it sends 7F: then an originator Sdidle, and an answerer Sgvi
  pub originator_sends : ◌≡◌ {A = List ℕ} (sends_from3 originating 0 ∷ sends_from3 originating 2 ∷ sends_from3 originating 3 ∷ []) (0x7F ∷ 0x7F ∷ 0x43 ∷ [])
  pub answerer_sends : ◌≡◌ {A = List ℕ} (sends_from3 answering 0 ∷ sends_from3 answering 2 ∷ sends_from3 answering 3 ∷ []) (0x7F ∷ 0x7F ∷ 0x57 ∷ [])
  -- the three Sgvi before its start do not count: its run of 16 is complete in slot 18, not in slot 15
  pub counts : ◌≡◌ {A = List ℕ} (sends_from3 originating 15 ∷ sends_from3 originating 17 ∷ sends_from3 originating 18 ∷ []) (0x43 ∷ 0x43 ∷ 0x57 ∷ [])
  pub counts_answering : ◌≡◌ {A = List ℕ} (sends_from3 answering 15 ∷ sends_from3 answering 17 ∷ sends_from3 answering 18 ∷ []) (0x57 ∷ 0x57 ∷ 0x35 ∷ [])
  -- a late originator meets Sgvi when it starts, or when they come: at a delay of 5, late by 4, 5 and 6
  pub meets_originator : ◌≡◌ {A = List ℕ} (meets_late OriginatorLater 5 4 ∷ meets_late OriginatorLater 5 5 ∷ meets_late OriginatorLater 5 6 ∷ []) (5 ∷ 5 ∷ 6 ∷ [])
  -- a late answerer's come a delay after its start
  pub meets_answerer : ◌≡◌ {A = List ℕ} (meets_late AnswererLater 5 0 ∷ meets_late AnswererLater 5 4 ∷ meets_late AnswererLater 5 6 ∷ []) (5 ∷ 9 ∷ 11 ∷ [])

pub starting_figures : StartingFigures
unfolding computing end_at
starting_figures =
    record {
      originator_later = refl;
      answerer_later = refl;
      hears = refl;
      begins = refl;
      originator_sends = refl;
      answerer_sends = refl;
      counts = refl;
      counts_answering = refl;
      meets_originator = refl;
      meets_answerer = refl;
    }
