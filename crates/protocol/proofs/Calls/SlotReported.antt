-- The slot that an open or refused end reports is the one in which it opened or refused. Assumes nothing.
use mathlib.Core.Path.{◌≡◌, refl}
use mathlib.Core.Bool.{true}
use Prim.Native.Nat.{ℕ, zero, suc}
use native.Mathlib.Omega.{arith}
use Rattle.book.specs.declared.Entry.{Entry}
use Rattle.book.specs.declared.Book.{Book}
use Rattle.book.specs.Kept.{book_ok}
use Rattle.protocol.specs.Slot.{started, outcome_at}
use Rattle.protocol.specs.Call.{end_at, stands_at}
use Rattle.protocol.specs.Concluding.{LeavesIn}
use Rattle.protocol.specs.declared.Signals.{Signals}
use Rattle.protocol.specs.declared.Phase.{Phase}
use Rattle.protocol.specs.declared.Phase.TheVariants.{Exchanging, Open, Refused}
use Rattle.protocol.specs.declared.Endpoint.{Endpoint}
use Rattle.protocol.specs.declared.Drive.{Drive}
use Rattle.protocol.specs.declared.Outcome.TheVariants as outcome
use Rattle.protocol.proofs.Calls.Clock.{After, clock_after}
use Rattle.protocol.proofs.Calls.ConcludedStays.{open_slot_lem, refused_slot}

module _ (b : Book) (ok : book_ok b ≡ true) (heard : ℕ → ℕ) (given : ℕ → Drive) where
  -- a concluded end left the exchange in the slot that it stores
  abbrev Told : Phase → Type 0
  Told (Exchanging slot version a s) = Unit {0}
  Told (Open slot version i line) = LeavesIn (started b) heard given slot
  Told (Refused number slot) = LeavesIn (started b) heard given slot

  leaves : (t : ℕ) → stands_at (started b) heard given t ≡ outcome.Exchanging → (p : Phase)
      → (end_at (started b) heard given (suc t)).phase ≡ p → After t p → Told p
  unfolding outcome_at
  leaves t o (Exchanging slot version a s) q c = tt
  leaves t o (Open slot version i line) q c =
      rw c (record { before = o; after = λ x. let y = rw q at x in let z : ◌≡◌ {A = ℕ} 0 1 = cc in omega arith })
  leaves t o (Refused number slot) q c =
      rw c (record { before = o; after = λ x. let y = rw q at x in let z : ◌≡◌ {A = ℕ} 0 1 = cc in omega arith })

  next_told : (t : ℕ) (p : Phase) → (end_at (started b) heard given t).phase ≡ p → Told p
      → Told (end_at (started b) heard given (suc t)).phase
  unfolding end_at outcome_at
  next_told t (Exchanging slot version a s) q c =
      leaves t (rw q refl) (end_at (started b) heard given (suc t)).phase refl (clock_after b ok heard given t q)
  next_told t (Open slot version i line) q c = rw (open_slot_lem (end_at (started b) heard given t) (heard t) (given t) q).same c
  next_told t (Refused number slot) q c = rw (refused_slot (end_at (started b) heard given t) (heard t) (given t) q, q) c

  told : (t : ℕ) → Told (end_at (started b) heard given t).phase
  unfolding end_at started
  told zero = tt
  told (suc t) = next_told t (end_at (started b) heard given t).phase refl (told t)

  open_told : (e : Endpoint) (p : Phase) {version slot : ℕ} {profile : Entry} {signals : Signals}
      → outcome_at e p ≡ outcome.Open version profile slot signals → Told p → LeavesIn (started b) heard given slot
  unfolding outcome_at
  open_told e (Exchanging slot version a s) o c = let z : ◌≡◌ {A = ℕ} 0 1 = cc in absurd (omega arith)
  open_told e (Open stored version i line) {slot} o c = let same : stored ≡ slot = cc in rw same at c
  open_told e (Refused number slot) o c = let z : ◌≡◌ {A = ℕ} 0 1 = cc in absurd (omega arith)

  refused_told : (e : Endpoint) (p : Phase) {number slot : ℕ} → outcome_at e p ≡ outcome.Refused number slot → Told p
      → LeavesIn (started b) heard given slot
  unfolding outcome_at
  refused_told e (Exchanging slot version a s) o c = let z : ◌≡◌ {A = ℕ} 0 1 = cc in absurd (omega arith)
  refused_told e (Open slot version i line) o c = let z : ◌≡◌ {A = ℕ} 0 1 = cc in absurd (omega arith)
  refused_told e (Refused number stored) {slot} o c = let same : stored ≡ slot = cc in rw same at c

pub opened_in_lem : (b : Book) → book_ok b ≡ true → (heard : ℕ → ℕ) (given : ℕ → Drive) (t : ℕ) {version slot : ℕ} {profile : Entry} {signals : Signals}
    → stands_at (started b) heard given t ≡ outcome.Open version profile slot signals → LeavesIn (started b) heard given slot
opened_in_lem b ok heard given t o =
    let e = end_at (started b) heard given t in open_told b ok heard given e e.phase o (told b ok heard given t)

pub refused_in_lem : (b : Book) → book_ok b ≡ true → (heard : ℕ → ℕ) (given : ℕ → Drive) (t : ℕ) {number slot : ℕ}
    → stands_at (started b) heard given t ≡ outcome.Refused number slot → LeavesIn (started b) heard given slot
refused_in_lem b ok heard given t o =
    let e = end_at (started b) heard given t in refused_told b ok heard given e e.phase o (told b ok heard given t)
