-- One slot of the exchange, but for its clock: what is in its ranges stays so, or concludes within them. Assumes nothing.
use Rattle.std.specs.Prelude.{Option, Some, None}
use mathlib.Core.Path.{◌≡◌, refl}
use mathlib.Core.Bool.{Bool, true, false, not, ◌&&◌, ◌||◌, true≢false, false≢true}
use Prim.Native.Nat.{ℕ, ◌+◌, ◌<◌}
use lib.Dec.{eqb, leb}
use lib.ListN.{get_or}
use borrow.Author.Tests.{lt-ltb, leb-false, eq-eqb, not-true}
use Rattle.ground.proofs.Test.{by_test, both_left, both_right}
use Rattle.book.specs.declared.Book.{Book}
use Rattle.channel.specs.Kinds.{kind_of}
use Rattle.channel.specs.Versions.{highest}
use Rattle.protocol.specs.Lengths.{identifier_run, group_length}
use Rattle.protocol.specs.Collecting.{has_identifier, has_all}
use Rattle.protocol.specs.Exchange.{has_params, originates, entry_of, identifier, heard_params, left_out, matched, settles, acted, all_sent, fate_heard, chosen_originating, chosen_answering, advanced, last_of_mask, last_of_all, opens_on, fate_sent, Turn, sends, turn_by, turn}
use Rattle.protocol.specs.Ranges.{sending_in, originating_in, answering_in, is_version, may_lack, version_in}
use Rattle.protocol.specs.declared.Awaited.{Awaited}
use Rattle.protocol.specs.declared.Sending.{Sending}
use Rattle.protocol.specs.declared.Sending.TheVariants.{Idle, Hail, Mask, Parameters, Done}
use Rattle.protocol.specs.declared.Exchange.{Exchange}
use Rattle.protocol.specs.declared.Fate.{Fate}
use Rattle.protocol.specs.declared.Fate.TheVariants.{Stays, OpensHearing, OpensSending, Refuses}
use Rattle.protocol.proofs.Kept.Cases.{first_fails}
use Rattle.protocol.proofs.Kept.AwaitedMoves.{Moved, moves}
use Rattle.protocol.proofs.Kept.HearingKept.{HearingIn, hear_kept}
use Rattle.protocol.proofs.Kept.SendingKept.{Answers, Originates, answering_chosen, originating_chosen, answering_advanced, originating_advanced}
use Rattle.protocol.proofs.Kept.Matching.{names}
use Rattle.protocol.proofs.Kept.VersionSettled.{own_stands}
use Rattle.protocol.proofs.Kept.VersionKept.{all_identified, is_shared, sent_on, settles_hail, version_acted}

-- an exchange in its ranges
pub record ExchangeIn (b : Book) (x : Exchange) : Type 0 where
  pub hearing : HearingIn b x.hearing
  pub sending : sending_in b x.hearing.awaited x.sending ≡ true
  pub version : version_in b x.hearing.awaited x.sending x.version ≡ true

-- an end that opens has a shared version and an entry of its book that is not left out on it
pub record OpensIn (b : Book) (version i : ℕ) : Type 0 where
  pub shared : is_version b version ≡ true
  pub below : i < b.n
  pub stands : left_out version (entry_of b i) ≡ false

-- one that the exchange refuses is refused 21 or 22
abbrev pub FateIn : Book → Exchange → Fate → Type 0
FateIn b x Stays = ExchangeIn b x
FateIn b x (OpensHearing i) = OpensIn b x.version i
FateIn b x (OpensSending i) = OpensIn b x.version i
FateIn b x (Refuses n) = (eqb n 21 || eqb n 22) ≡ true

-- no end lacks a version that is past its mask
last_shares : (b : Book) (s : Sending) → last_of_all b s ≡ true → may_lack b s ≡ false
last_shares b Idle e = refl
last_shares b (Hail n) e = absurd (false≢true e)
last_shares b (Mask i) e = absurd (false≢true e)
last_shares b (Parameters i) e = refl
last_shares b Done e = refl

sent_shares : (b : Book) (s : Sending) → all_sent s ≡ true → may_lack b s ≡ false
sent_shares b Idle e = refl
sent_shares b (Hail n) e = absurd (false≢true e)
sent_shares b (Mask i) e = absurd (false≢true e)
sent_shares b (Parameters i) e = refl
sent_shares b Done e = refl

-- an originator goes on with its mask of 00 until the sixth byte
lack_chosen : (b : Book) (y : Exchange) (s : Sending) → may_lack b s ≡ true → may_lack b (chosen_originating y s) ≡ true
unfolding chosen_originating
lack_chosen b y Idle e = absurd (false≢true e)
lack_chosen b y (Hail n) e =
    by_test (λ s. may_lack b s ≡ true) (has_identifier y.hearing.awaited && leb identifier_run n) (λ t. e) (λ t. e)
lack_chosen b y (Mask i) e = e
lack_chosen b y (Parameters i) e = e
lack_chosen b y Done e = e

lack_advanced : (b : Book) (s : Sending) → may_lack b s ≡ true → last_of_mask s ≡ false → may_lack b (advanced b s) ≡ true
unfolding advanced
lack_advanced b Idle e l = absurd (false≢true e)
lack_advanced b (Hail n) e l = e
lack_advanced b (Mask i) e l = rw (lt-ltb (i + 1) group_length (leb-false group_length (i + 1) l)) e
lack_advanced b (Parameters i) e l = absurd (false≢true e)
lack_advanced b Done e l = absurd (false≢true e)

-- an answerer opens on the entry that is matched
opens_in : (b : Book) (x : Exchange) (m : Option ℕ) → matched b x.version x.hearing ≡ m → is_version b x.version ≡ true
    → FateIn b x (opens_on m)
opens_in b x (Some i) e v =
    let named = names x.version b.entries (heard_params x.hearing) b.n i e in
    record { shared = v; below = named.0; stands = not-true _ (both_left (not (left_out x.version (entry_of b i))) _ named.1) }
opens_in b x None e v = refl

-- an originator opens on its own entry
own_in : (b : Book) (version : ℕ) → 0 < b.n → originates b ≡ true → is_version b version ≡ true → OpensIn b version 0
own_in b version entry o v = record { shared = v; below = entry; stands = own_stands b version o v }

-- an answerer's last byte goes when all has come, and its version is shared
last_has_all : (b : Book) (a : Awaited) (s : Sending) → last_of_all b s ≡ true → Answers b a s → has_all a ≡ true
last_has_all b a Idle e i = absurd (false≢true e)
last_has_all b a (Hail n) e i = absurd (false≢true e)
last_has_all b a (Mask n) e i = absurd (false≢true e)
last_has_all b a (Parameters n) e i = i.0
last_has_all b a Done e i = absurd i

answerer_shares : (b : Book) (s : Sending) → originates b ≡ false → may_lack b s ≡ false
answerer_shares b Idle o = refl
answerer_shares b (Hail n) o = o
answerer_shares b (Mask i) o = o
answerer_shares b (Parameters i) o = refl
answerer_shares b Done o = refl

abbrev TurnIn : Book → Turn → Type 0
TurnIn b t = FateIn b t.exchange t.fate

-- the byte goes
module _ (b : Book) (entry : 0 < b.n) (y : Exchange) (h : HearingIn b y.hearing) where
  originating_sends : (s : Sending) → originates b ≡ true → Originates b y.hearing.awaited s
      → version_in b y.hearing.awaited s y.version ≡ true → TurnIn b (sends b y s)
  unfolding sends fate_sent
  originating_sends s o i v =
      let a = y.hearing.awaited in
      let x = (sends b y s).exchange in
      rw o
      (by_test (FateIn b x) (last_of_mask s && eqb y.version 0) (λ t. refl)
      (λ t. by_test (FateIn b x) (last_of_all b s && has_all a)
      (λ u. by_test (FateIn b x) (has_params (entry_of b 0) (heard_params y.hearing))
      (λ w.
      own_in b y.version entry o
      (is_shared b a s y.version (all_identified a (both_right (last_of_all b s) (has_all a) u))
      (last_shares b s (both_left (last_of_all b s) (has_all a) u)) v))
      (λ w. refl))
      (λ u.
      record {
        hearing = h;
        sending = rw o (originating_advanced b a s o i u);
        version =
            sent_on b a s (advanced b s) y.version
            (λ lack none. lack_advanced b s lack (first_fails (last_of_mask s) (eqb y.version 0) t (eq-eqb y.version 0 none))) v;
      })))

  answering_sends : (s : Sending) → originates b ≡ false → Answers b y.hearing.awaited s
      → version_in b y.hearing.awaited s y.version ≡ true → TurnIn b (sends b y s)
  unfolding sends fate_sent
  answering_sends s o i v =
      let a = y.hearing.awaited in
      let x = (sends b y s).exchange in
      rw o
      (by_test (FateIn b x) (last_of_all b s)
      (λ t.
      opens_in b x (matched b y.version y.hearing) refl
      (is_shared b a s y.version (all_identified a (last_has_all b a s t i)) (last_shares b s t) v))
      (λ t.
      record {
        hearing = h;
        sending = rw o (answering_advanced b a s o i t);
        version =
            sent_on b a s (advanced b s) y.version
            (λ lack none. absurd (true≢false (cc (lack, answerer_shares b s o)))) v;
      }))

-- the byte has acted, and y is what it made of x
module _ (b : Book) (entry : 0 < b.n) (x y : Exchange) (m : Moved x.hearing.awaited y.hearing.awaited) (h : HearingIn b y.hearing) where
  originating_turn : originates b ≡ true → originating_in b x.hearing.awaited y.sending ≡ true
      → version_in b y.hearing.awaited y.sending y.version ≡ true → TurnIn b (turn_by b y (fate_heard b x y))
  unfolding fate_heard
  originating_turn o i v =
      let a = y.hearing.awaited in
      let s = y.sending in
      rw o
      (by_test (λ f. TurnIn b (turn_by b y f)) (all_sent s && has_all a)
      (λ t. by_test (λ f. TurnIn b (turn_by b y f)) (has_params (entry_of b 0) (heard_params y.hearing))
      (λ u.
      own_in b y.version entry o
      (is_shared b a s y.version (all_identified a (both_right (all_sent s) (has_all a) t))
      (sent_shares b s (both_left (all_sent s) (has_all a) t)) v))
      (λ u. refl))
      (λ t.
      rw o
      (originating_sends b entry y h (chosen_originating y s) o (originating_chosen b x.hearing.awaited y m s i t)
      (sent_on b a s (chosen_originating y s) y.version (λ lack none. lack_chosen b y s lack) v))))

  answering_turn : originates b ≡ false → answering_in b x.hearing.awaited y.sending ≡ true
      → ((settles x.hearing y.hearing && eqb y.version 0) ≡ false → version_in b y.hearing.awaited y.sending y.version ≡ true)
      → TurnIn b (turn_by b y (fate_heard b x y))
  unfolding fate_heard
  answering_turn o i v =
      let a = y.hearing.awaited in
      let s = y.sending in
      rw o
      (by_test (λ f. TurnIn b (turn_by b y f)) (settles x.hearing y.hearing && eqb y.version 0) (λ t. refl)
      (λ t.
      rw o
      (answering_sends b entry y h (chosen_answering y s) o (answering_chosen b x.hearing.awaited y m s i)
      (sent_on b a s (chosen_answering y s) y.version (λ lack none. absurd (true≢false (cc (lack, answerer_shares b s o)))) (v t)))))

pub turn_kept : (b : Book) → 0 < b.n → (byte : ℕ) (x : Exchange) → ExchangeIn b x
    → FateIn b (turn b x (kind_of byte)).exchange (turn b x (kind_of byte)).fate
unfolding turn acted
turn_kept b entry byte x i = go (originates b) refl
  where
    a : Awaited
    a = x.hearing.awaited

    y : Exchange
    y = acted b x (kind_of byte)

    theirs : ℕ
    theirs = get_or y.hearing.values 0 0

    m : Moved a y.hearing.awaited
    m = moves b x.hearing (kind_of byte)

    h : HearingIn b y.hearing
    h = hear_kept b x.hearing byte i.hearing

    go : (f : Bool) → originates b ≡ f → TurnIn b (turn_by b y (fate_heard b x y))
    go true o =
        let s : originating_in b a x.sending ≡ true = rw o at i.sending in
        originating_turn b entry x y m h o s
        (version_acted b a y.hearing.awaited m x.sending x.version theirs
        (λ none has zero. settles_hail b a y.hearing.awaited m x.sending o s none has) i.version)
    go false o =
        answering_turn b entry x y m h o (rw o at i.sending)
        (λ t.
        version_acted b a y.hearing.awaited m x.sending x.version theirs
        (λ none has zero. absurd (true≢false (cc (eq-eqb (highest (identifier b) theirs) 0 zero, rw (none, has) at t)))) i.version)
