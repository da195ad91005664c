-- Every state that a start or a slot yields is well formed. Assumes nothing.
use Rattle.std.specs.Prelude.{Option, Some, None}
use mathlib.Core.Path.{◌≡◌, refl}
use mathlib.Core.Bool.{Bool, true, false, cond, not, ◌&&◌, ◌||◌}
use mathlib.Core.List.{List}
use Prim.Native.Nat.{ℕ, zero, suc, ◌+◌, ◌<◌}
use native.Mathlib.Omega.{arith}
use lib.Dec.{eqb, ltb}
use borrow.Author.Tests.{lt-ltb, ltb-true, ltb-false, eq-eqb, not-true}
use Rattle.ground.specs.Digits.{all_below}
use Rattle.ground.proofs.Test.{by_test, both_left, both_right}
use Rattle.book.specs.declared.Book.{Book}
use Rattle.book.specs.Kept.{book_ok}
use Rattle.channel.specs.Kinds.{kind_of}
use Rattle.protocol.specs.Lengths.{identifier_run}
use Rattle.protocol.specs.Collecting.{no_nibbles}
use Rattle.protocol.specs.Exchange.{originates, entry_of, left_out, first_exchange, Turn, turn}
use Rattle.protocol.specs.Opened.{shape_of, fresh_line, writing}
use Rattle.protocol.specs.Ranges.{all_zero, awaited_in, nibbles_in, values_in, answering_in, originating_in, sending_in, is_version, version_in, outbound_in, inbound_in, refused_in, phase_in, well_formed}
use Rattle.protocol.specs.Slot.{exchange_of, started, clocked, step_by, exchange_step, open_step, step_at, step_of, offer_fits, offer_allowed, slot_of}
use Rattle.protocol.specs.Call.{end_at}
use Rattle.protocol.specs.declared.Sending.{Sending}
use Rattle.protocol.specs.declared.Sending.TheVariants.{Idle, Hail}
use Rattle.protocol.specs.declared.Exchange.{Exchange}
use Rattle.protocol.specs.declared.Fate.{Fate}
use Rattle.protocol.specs.declared.Fate.TheVariants.{Stays, OpensHearing, OpensSending, Refuses}
use Rattle.protocol.specs.declared.Awaited.{Awaited}
use Rattle.protocol.specs.declared.Awaited.TheVariants.{Run}
use Rattle.protocol.specs.declared.Line.{Line}
use Rattle.protocol.specs.declared.Phase.{Phase}
use Rattle.protocol.specs.declared.Phase.TheVariants.{Exchanging, Open, Refused}
use Rattle.protocol.specs.declared.Endpoint.{Endpoint}
use Rattle.protocol.specs.declared.Drive.{Drive}
use Rattle.protocol.specs.declared.SlotAnswer.{SlotAnswer}
use Rattle.protocol.proofs.Kept.Cases.{both, negated, or_left}
use Rattle.protocol.proofs.Kept.BookFacts.{limit_least, has_entry_lem}
use Rattle.protocol.proofs.Kept.TurnKept.{ExchangeIn, OpensIn, FateIn, turn_kept}
use Rattle.protocol.proofs.Kept.WritingKept.{Fits, writing_kept, fresh_outbound, first_outbound}
use Rattle.protocol.proofs.Kept.ReadingKept.{reading_kept, fresh_inbound}

-- An end in the exchange.

-- the parts of its range
pub parts : (b : Book) (slot version : ℕ) (a : Awaited) (s : Sending) (nibbles values : List ℕ)
    → phase_in b nibbles values (Exchanging slot version a s) ≡ true
    → (ltb slot b.limit ≡ true)
    × ExchangeIn b (record { hearing = record { awaited = a; nibbles = nibbles; values = values }; version = version; sending = s })
unfolding phase_in
parts b slot version a s nibbles values e =
    let p1 = ltb slot b.limit in
    let p2 = p1 && awaited_in b a in
    let p3 = p2 && sending_in b a s in
    let p4 = p3 && version_in b a s version in
    let p5 = p4 && nibbles_in a nibbles in
    let e5 = both_left p5 (values_in a values) e in
    let e4 = both_left p4 (nibbles_in a nibbles) e5 in
    let e3 = both_left p3 (version_in b a s version) e4 in
    let e2 = both_left p2 (sending_in b a s) e3 in (
      both_left p1 (awaited_in b a) e2,
      record {
        hearing =
            record {
              awaited = both_right p1 (awaited_in b a) e2;
              nibbles = both_right p4 (nibbles_in a nibbles) e5;
              values = both_right p5 (values_in a values) e;
            };
        sending = both_right p2 (sending_in b a s) e3;
        version = both_right p3 (version_in b a s version) e4;
      },
    )

whole : (b : Book) (slot : ℕ) (x : Exchange) → ltb slot b.limit ≡ true → ExchangeIn b x
    → phase_in b x.hearing.nibbles x.hearing.values (Exchanging slot x.version x.hearing.awaited x.sending) ≡ true
unfolding phase_in
whole b slot x l i =
    both (both (both (both (both l i.hearing.awaited) i.sending) i.version) i.hearing.nibbles) i.hearing.values

-- An open end: the parts of its range, and these put together.

pub record OpenIn (b : Book) (slot version i : ℕ) (line : Line) : Type 0 where
  pub in_time : slot < b.limit
  pub opens : OpensIn b version i
  pub outbound : outbound_in (shape_of (entry_of b i) version) line.outbound ≡ true
  pub inbound : inbound_in (shape_of (entry_of b i) version) line.inbound ≡ true

module _ (b : Book) (slot version i : ℕ) (line : Line) (nibbles values : List ℕ) where
  pub open_parts : phase_in b nibbles values (Open slot version i line) ≡ true → OpenIn b slot version i line × (all_zero nibbles ≡ true)
  unfolding phase_in
  open_parts e =
      let s = shape_of (entry_of b i) version in
      let out = outbound_in s line.outbound in
      let inward = inbound_in s line.inbound in
      let stands = not (left_out version (entry_of b i)) in
      let p1 = ltb slot b.limit in
      let p2 = p1 && is_version b version in
      let p3 = p2 && ltb i b.n in
      let p4 = p3 && stands in
      let p5 = p4 && out in
      let p6 = p5 && inward in
      let e6 = both_left p6 (all_zero nibbles) e in
      let e5 = both_left p5 inward e6 in
      let e4 = both_left p4 out e5 in
      let e3 = both_left p3 stands e4 in
      let e2 = both_left p2 (ltb i b.n) e3 in (
        record {
          in_time = ltb-true slot b.limit (both_left p1 (is_version b version) e2);
          opens =
              record {
                shared = both_right p1 (is_version b version) e2;
                below = ltb-true i b.n (both_right p2 (ltb i b.n) e3);
                stands = not-true _ (both_right p3 stands e4);
              };
          outbound = both_right p4 out e5;
          inbound = both_right p5 inward e6;
        },
        both_right p6 (all_zero nibbles) e,
      )

  open_whole : OpenIn b slot version i line → all_zero nibbles ≡ true → phase_in b nibbles values (Open slot version i line) ≡ true
  unfolding phase_in
  open_whole p z =
      both
      (both
      (both
      (both
      (both (both (lt-ltb slot b.limit p.in_time) p.opens.shared) (lt-ltb i b.n p.opens.below))
      (negated p.opens.stands))
      p.outbound)
      p.inbound)
      z

-- an end that has refused
refuses_in : (b : Book) (number slot : ℕ) (values : List ℕ) → slot < b.limit → (eqb number 21 || eqb number 22) ≡ true
    → phase_in b no_nibbles values (Refused number slot) ≡ true
unfolding phase_in refused_in all_below
refuses_in b number slot values l e = both (both (lt-ltb slot b.limit l) (or_left (eqb number 23 && eqb (slot + 1) b.limit) e)) refl

module _ (b : Book) (ok : book_ok b ≡ true) (slot : ℕ) (l : slot < b.limit) where
  clocked_kept : (x : Exchange) → ExchangeIn b x → well_formed (clocked b slot x) ≡ true
  unfolding clocked well_formed phase_in refused_in all_below
  clocked_kept x i =
      by_test (λ e. well_formed e ≡ true) (ltb (slot + 1) b.limit) (λ t. both ok (whole b (slot + 1) x t i))
      (λ t.
      let last : slot + 1 ≡ b.limit = omega (arith, ltb-false (slot + 1) b.limit t) in
      both ok (both (both (lt-ltb slot b.limit l) (eq-eqb (slot + 1) b.limit last)) refl))

  -- an end that has just opened
  fresh : (t : Turn) (n : ℕ) (line : Line) → OpensIn b t.exchange.version n
      → outbound_in (shape_of (entry_of b n) t.exchange.version) line.outbound ≡ true
      → inbound_in (shape_of (entry_of b n) t.exchange.version) line.inbound ≡ true
      → phase_in b no_nibbles t.exchange.hearing.values (Open slot t.exchange.version n line) ≡ true
  unfolding all_below
  fresh t n line i o r =
      open_whole b slot t.exchange.version n line no_nibbles t.exchange.hearing.values
      (record { in_time = l; opens = i; outbound = o; inbound = r }) refl

  by_kept : (t : Turn) (g : Drive) (f : Fate) → FateIn b t.exchange f → well_formed (step_by b slot t g f).state ≡ true
  unfolding well_formed
  by_kept t g Stays i = clocked_kept t.exchange i
  by_kept t g (OpensHearing n) i =
      let s = shape_of (entry_of b n) t.exchange.version in
      let line : Line = record { outbound = (writing s fresh_line.outbound g).outbound; inbound = fresh_line.inbound } in
      both ok (fresh t n line i (first_outbound s g) (fresh_inbound s))
  by_kept t g (OpensSending n) i =
      let s = shape_of (entry_of b n) t.exchange.version in
      both ok (fresh t n fresh_line i (fresh_outbound s) (fresh_inbound s))
  by_kept t g (Refuses n) i = both ok (refuses_in b n slot t.exchange.hearing.values l i)

  exchange_kept : (x : Exchange) (heard : ℕ) (g : Drive) → ExchangeIn b x → well_formed (exchange_step b slot x heard g).state ≡ true
  unfolding exchange_step
  exchange_kept x heard g i =
      let t = turn b x (kind_of heard) in
      by_kept t g t.fate (turn_kept b (has_entry_lem b ok) heard x i)

-- A slot of an open end.

fits_allowed : (e : Endpoint) (version i : ℕ) (f : Option ℕ) → offer_fits e version i f ≡ true → Fits (shape_of (entry_of e.book i) version) f
fits_allowed e version i None a = tt
fits_allowed e version i (Some u) a = a

open_kept : (e : Endpoint) (slot version i : ℕ) (line : Line) (heard : ℕ) (g : Drive) → book_ok e.book ≡ true
    → phase_in e.book e.nibbles e.values (Open slot version i line) ≡ true → offer_fits e version i g.offer ≡ true
    → well_formed (open_step e slot version i line heard g).state ≡ true
unfolding open_step well_formed
open_kept e slot version i line heard g ok p a =
    let b = e.book in
    let s = shape_of (entry_of b i) version in
    let q = open_parts b slot version i line e.nibbles e.values p in
    both ok
    (open_whole b slot version i _ e.nibbles e.values
    (record {
      in_time = q.0.in_time;
      opens = q.0.opens;
      outbound = writing_kept s line.outbound g q.0.outbound (fits_allowed e version i g.offer a);
      inbound = reading_kept s line.inbound heard q.0.inbound;
    })
    q.1)

-- A start, a slot, a call.

pub started_kept : (b : Book) → book_ok b ≡ true → well_formed (started b) ≡ true
unfolding started well_formed phase_in first_exchange awaited_in originating_in answering_in version_in nibbles_in values_in all_below identifier_run
started_kept b ok =
    both ok
    (both (both (both (both (both (lt-ltb 0 b.limit (omega (arith, limit_least b ok))) refl) (first_sending (originates b) refl)) refl) refl) refl)
  where
    first_sending : (f : Bool) → originates b ≡ f → sending_in b (Run 0 0) (cond f Idle (Hail 0)) ≡ true
    first_sending true o = rw o
    first_sending false o = rw o

pub book_in_lem : (e : Endpoint) → well_formed e ≡ true → book_ok e.book ≡ true
unfolding well_formed
book_in_lem e w = both_left (book_ok e.book) (phase_in e.book e.nibbles e.values e.phase) w

pub phase_in_lem : (e : Endpoint) → well_formed e ≡ true → phase_in e.book e.nibbles e.values e.phase ≡ true
unfolding well_formed
phase_in_lem e w = both_right (book_ok e.book) (phase_in e.book e.nibbles e.values e.phase) w

at_kept : (e : Endpoint) (heard : ℕ) (g : Drive) (p : Phase) → e.phase ≡ p → well_formed e ≡ true → offer_allowed e g p ≡ true
    → well_formed (step_at e heard g p).state ≡ true
unfolding step_at offer_allowed
at_kept e heard g (Exchanging slot version a s) q w allowed =
    let i = parts e.book slot version a s e.nibbles e.values (rw q at (phase_in_lem e w)) in
    exchange_kept e.book (book_in_lem e w) slot (ltb-true slot e.book.limit i.0) (exchange_of e version a s) heard g i.1
at_kept e heard g (Open slot version i line) q w allowed =
    open_kept e slot version i line heard g (book_in_lem e w) (rw q at (phase_in_lem e w)) allowed
at_kept e heard g (Refused number slot) q w allowed = w

pub step_kept : (e : Endpoint) (heard : ℕ) (g : Drive) → well_formed e ≡ true → offer_allowed e g e.phase ≡ true
    → well_formed (step_of e heard g).state ≡ true
step_kept e heard g w allowed = at_kept e heard g e.phase refl w allowed

pub slot_kept : (e : Endpoint) (heard : ℕ) (g : Drive) → well_formed e ≡ true → well_formed (slot_of e heard g).state ≡ true
unfolding slot_of
slot_kept e heard g w =
    by_test (λ (r : SlotAnswer). well_formed r.state ≡ true) (well_formed e)
    (λ t. by_test (λ (r : SlotAnswer). well_formed r.state ≡ true) (offer_allowed e g e.phase) (λ a. step_kept e heard g w a) (λ a. w))
    (λ t. w)

pub call_kept : (b : Book) → book_ok b ≡ true → (heard : ℕ → ℕ) (given : ℕ → Drive) (t : ℕ)
    → well_formed (end_at (started b) heard given t) ≡ true
unfolding end_at
call_kept b ok heard given zero = started_kept b ok
call_kept b ok heard given (suc t) = slot_kept (end_at (started b) heard given t) _ _ (call_kept b ok heard given t)
