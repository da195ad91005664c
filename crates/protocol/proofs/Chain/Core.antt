-- The exchange as a machine of its own, without drive and clock, and how a slot goes once it is known what was heard. Assumes nothing.
use mathlib.Core.Path.{◌≡◌, ap}
use mathlib.Core.Bool.{true, false, cond}
use mathlib.Core.List.{List}
use Prim.Native.Nat.{ℕ, ◌+◌, ◌<◌}
use lib.ListN.{get_or, replicate}
use borrow.Author.Tests.{lt-ltb}
use Rattle.book.specs.declared.Book.{Book}
use Rattle.channel.specs.declared.kind.Kind.{Kind}
use Rattle.channel.specs.Versions.{highest}
use Rattle.protocol.specs.Lengths.{run_length}
use Rattle.protocol.specs.Collecting.{of_run, no_nibbles, in_run, in_group, hear, hear_at}
use Rattle.protocol.specs.Exchange.{Turn, identifier, settles, acted, fate_heard, chosen_originating, chosen_answering, sent_as, advanced, fate_sent, sends, turn_by, turn}
use Rattle.protocol.specs.declared.Awaited.{Awaited}
use Rattle.protocol.specs.declared.Awaited.TheVariants.{Run}
use Rattle.protocol.specs.declared.Hearing.{Hearing}
use Rattle.protocol.specs.declared.Exchange.{Exchange}
use Rattle.protocol.specs.declared.Sending.{Sending}
use Rattle.protocol.specs.declared.Fate.{Fate}
use Rattle.protocol.specs.declared.Fate.TheVariants.{Stays, OpensHearing, OpensSending, Refuses}
use Rattle.protocol.proofs.Chain.Segments.{Says, Silent, Move}

pub data Core : Type 0 where
  Talks : Exchange → Core
  Over : Fate → Exchange → Core

-- an end that is still exchanging; one whose exchange has ended so
pub data Talking (u : Core) : Type 0 where
  talking : (x : Exchange) → u ≡ Talks x → Talking u

pub data Ended (f : Fate) (u : Core) : Type 0 where
  ended : (x : Exchange) → u ≡ Over f x → Ended f u

-- an end that opens by a received byte sends as an open end, so what its exchange would send does not count
abbrev pub core_by : Turn → Fate → Move Core
core_by t Stays = record { to = Talks t.exchange; out = Says t.sent }
core_by t (OpensHearing i) = record { to = Over (OpensHearing i) t.exchange; out = Silent }
core_by t (OpensSending i) = record { to = Over (OpensSending i) t.exchange; out = Says t.sent }
core_by t (Refuses n) = record { to = Over (Refuses n) t.exchange; out = Says t.sent }

abbrev pub core : Book → Core → Kind → Move Core
core b (Talks x) k = core_by (turn b x k) (turn b x k).fate
core b (Over f x) k = record { to = Over f x; out = Silent }

-- a slot, once it is known what has been heard with it
abbrev pub acted_with : Book → Exchange → Hearing → Exchange
acted_with b x h =
    record {
      hearing = h;
      version = cond (settles x.hearing h) (highest (identifier b) (get_or h.values 0 0)) x.version;
      sending = x.sending;
    }

abbrev pub turn_with : Book → Exchange → Hearing → Turn
turn_with b x h = turn_by b (acted_with b x h) (fate_heard b x (acted_with b x h))

abbrev pub core_with : Book → Exchange → Hearing → Move Core
core_with b x h = core_by (turn_with b x h) (turn_with b x h).fate

pub heard_as : (b : Book) (x : Exchange) (k : Kind) (h : Hearing) → hear b x.hearing k ≡ h → core b (Talks x) k ≡ core_with b x h
unfolding turn acted
heard_as b x k h e = ap (core_with b x) e

-- an exchange with no group in hand
abbrev pub hearing : Awaited → List ℕ → Hearing
hearing a values = record { awaited = a; nibbles = no_nibbles; values = values }

abbrev pub talk : Awaited → List ℕ → ℕ → Sending → Exchange
talk a values version s = record { hearing = hearing a values; version = version; sending = s }

abbrev pub no_values : List ℕ
no_values = replicate 6 0

-- a run counts on, is complete, or begins anew
module _ (b : Book) (item count : ℕ) (values : List ℕ) (version : ℕ) (s : Sending) (k : Kind) where
  pub run_grows : of_run item k ≡ true → count + 1 < run_length b item
      → core b (Talks (talk (Run item count) values version s)) k ≡ core_with b (talk (Run item count) values version s) (hearing (Run item (count + 1)) values)
  unfolding in_run hear_at
  run_grows e l = heard_as b (talk (Run item count) values version s) k _ (rw (e, lt-ltb (count + 1) (run_length b item) l))

  pub run_breaks : of_run item k ≡ false
      → core b (Talks (talk (Run item count) values version s)) k ≡ core_with b (talk (Run item count) values version s) (hearing (Run item 0) values)
  unfolding in_run hear_at
  run_breaks e = heard_as b (talk (Run item count) values version s) k _ (rw e)

-- `unfolding slots` unfolds a slot of the exchange and leaves the lengths as names
unfoldable pub slots : ℕ
unfolding
    acted fate_heard chosen_originating chosen_answering sent_as advanced fate_sent sends turn hear_at in_group in_run of_run
slots = 0
