-- The stored slot is the count of slots since the start, and of an end that has concluded the slot in which it did. Assumes nothing.
use mathlib.Core.Path.{◌≡◌, refl}
use mathlib.Core.Bool.{true}
use Prim.Native.Nat.{ℕ, zero, suc, ◌+◌}
use native.Mathlib.Omega.{arith}
use lib.Dec.{ltb}
use Rattle.ground.proofs.Test.{by_test}
use Rattle.book.specs.declared.Book.{Book}
use Rattle.book.specs.Kept.{book_ok}
use Rattle.channel.specs.Kinds.{kind_of}
use Rattle.protocol.specs.Exchange.{Turn, turn}
use Rattle.protocol.specs.Ranges.{well_formed}
use Rattle.protocol.specs.Slot.{exchange_of, started, clocked, step_by, exchange_step, slot_of}
use Rattle.protocol.specs.Call.{end_at}
use Rattle.protocol.specs.declared.Awaited.{Awaited}
use Rattle.protocol.specs.declared.Sending.{Sending}
use Rattle.protocol.specs.declared.Exchange.{Exchange}
use Rattle.protocol.specs.declared.Fate.{Fate}
use Rattle.protocol.specs.declared.Fate.TheVariants.{Stays, OpensHearing, OpensSending, Refuses}
use Rattle.protocol.specs.declared.Phase.{Phase}
use Rattle.protocol.specs.declared.Phase.TheVariants.{Exchanging, Open, Refused}
use Rattle.protocol.specs.declared.Endpoint.{Endpoint}
use Rattle.protocol.specs.declared.Drive.{Drive}
use Rattle.protocol.proofs.Calls.SlotPasses.{exchange_passes}
use Rattle.protocol.proofs.Calls.ConcludedStays.{open_slot_lem, refused_slot}
use Rattle.protocol.proofs.Kept.StateKept.{call_kept}

-- the slot that an end stores after slot t, before which it stood in the exchange
abbrev pub After : ℕ → Phase → Type 0
After t (Exchanging slot version a s) = slot ≡ t + 1
After t (Open slot version i line) = slot ≡ t
After t (Refused number slot) = slot ≡ t

clocked_after : (b : Book) (slot : ℕ) (x : Exchange) → After slot (clocked b slot x).phase
unfolding clocked
clocked_after b slot x = by_test (λ (e : Endpoint). After slot e.phase) (ltb (slot + 1) b.limit) (λ t. refl) (λ t. refl)

by_after : (b : Book) (slot : ℕ) (t : Turn) (g : Drive) (f : Fate) → After slot (step_by b slot t g f).state.phase
by_after b slot t g Stays = clocked_after b slot t.exchange
by_after b slot t g (OpensHearing i) = refl
by_after b slot t g (OpensSending i) = refl
by_after b slot t g (Refuses n) = refl

exchange_after : (b : Book) (slot : ℕ) (x : Exchange) (heard : ℕ) (g : Drive) → After slot (exchange_step b slot x heard g).state.phase
unfolding exchange_step
exchange_after b slot x heard g = let t = turn b x (kind_of heard) in by_after b slot t g t.fate

-- the slot that an end stores which stands in the exchange before slot t
abbrev Before : ℕ → Phase → Type 0
Before t (Exchanging slot version a s) = slot ≡ t
Before t (Open slot version i line) = Unit {0}
Before t (Refused number slot) = Unit {0}

next_before : (t : ℕ) (p : Phase) → After t p → Before (suc t) p
next_before t (Exchanging slot version a s) e = omega arith
next_before t (Open slot version i line) e = tt
next_before t (Refused number slot) e = tt

module _ (e : Endpoint) (heard : ℕ) (g : Drive) (w : well_formed e ≡ true) where
  slot_after : (slot version : ℕ) (a : Awaited) (s : Sending) → e.phase ≡ Exchanging slot version a s
      → After slot (slot_of e heard g).state.phase
  slot_after slot version a s q =
      rw (exchange_passes e heard g w q) (exchange_after e.book slot (exchange_of e version a s) heard g)

  slot_before : (t : ℕ) (p : Phase) → e.phase ≡ p → Before t p → Before (suc t) (slot_of e heard g).state.phase
  slot_before t (Exchanging slot version a s) q c =
      next_before t (slot_of e heard g).state.phase (rw c at (slot_after slot version a s q))
  slot_before t (Open slot version i line) q c = rw (open_slot_lem e heard g q).same tt
  slot_before t (Refused number slot) q c = rw (refused_slot e heard g q, q) tt

before : (b : Book) → book_ok b ≡ true → (heard : ℕ → ℕ) (given : ℕ → Drive) (t : ℕ) → Before t (end_at (started b) heard given t).phase
unfolding end_at started
before b ok heard given zero = refl
before b ok heard given (suc t) =
    let e = end_at (started b) heard given t in
    slot_before e (heard t) (given t) (call_kept b ok heard given t) t e.phase refl (before b ok heard given t)

-- while an end is neither open nor refused its stored slot is the count of slots since the start
pub clock : (b : Book) → book_ok b ≡ true → (heard : ℕ → ℕ) (given : ℕ → Drive) (t : ℕ) {slot version : ℕ} {a : Awaited} {s : Sending}
    → (end_at (started b) heard given t).phase ≡ Exchanging slot version a s → slot ≡ t
clock b ok heard given t q = rw q at (before b ok heard given t)

-- and if it concludes in slot t, that is the slot which it stores
pub clock_after : (b : Book) → book_ok b ≡ true → (heard : ℕ → ℕ) (given : ℕ → Drive) (t : ℕ) {slot version : ℕ} {a : Awaited} {s : Sending}
    → (end_at (started b) heard given t).phase ≡ Exchanging slot version a s → After t (end_at (started b) heard given (suc t)).phase
unfolding end_at
clock_after b ok heard given t {slot} {version} {a} {s} q =
    let e = end_at (started b) heard given t in
    rw (clock b ok heard given t q) at (slot_after e (heard t) (given t) (call_kept b ok heard given t) slot version a s q)
