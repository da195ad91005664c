-- By its limit an end is open or refused. Assumes nothing.
use mathlib.Core.Path.{◌≡◌, refl}
use mathlib.Core.Bool.{true}
use Prim.Native.Nat.{ℕ, ◌≤◌, ◌<◌}
use native.Mathlib.Omega.{arith}
use borrow.Author.Tests.{ltb-true}
use Rattle.book.specs.declared.Book.{Book}
use Rattle.book.specs.Kept.{book_ok}
use Rattle.protocol.specs.Ranges.{well_formed}
use Rattle.protocol.specs.Slot.{started, outcome_at}
use Rattle.protocol.specs.Call.{end_at, stands_at}
use Rattle.protocol.specs.declared.Awaited.{Awaited}
use Rattle.protocol.specs.declared.Sending.{Sending}
use Rattle.protocol.specs.declared.Phase.{Phase}
use Rattle.protocol.specs.declared.Phase.TheVariants.{Exchanging, Open, Refused}
use Rattle.protocol.specs.declared.Endpoint.{Endpoint}
use Rattle.protocol.specs.declared.Drive.{Drive}
use Rattle.protocol.specs.declared.Outcome.TheVariants as outcome
use Rattle.protocol.proofs.Kept.StateKept.{parts, phase_in_lem, call_kept}
use Rattle.protocol.proofs.Kept.BookStays.{book_stays}
use Rattle.protocol.proofs.Calls.Clock.{clock}

in_time : (e : Endpoint) → well_formed e ≡ true → {slot version : ℕ} {a : Awaited} {s : Sending} → e.phase ≡ Exchanging slot version a s
    → slot < e.book.limit
in_time e w {slot} {version} {a} {s} q =
    ltb-true slot e.book.limit (parts e.book slot version a s e.nibbles e.values (rw q at (phase_in_lem e w))).0

module _ (b : Book) (ok : book_ok b ≡ true) (heard : ℕ → ℕ) (given : ℕ → Drive) (t : ℕ) (late : b.limit ≤ t) where
  not_exchanging : (p : Phase) → (end_at (started b) heard given t).phase ≡ p → outcome_at (end_at (started b) heard given t) p ≡ outcome.Exchanging → ⊥
  unfolding outcome_at
  not_exchanging (Exchanging slot version a s) q o =
      let e = end_at (started b) heard given t in
      let within : slot < b.limit = rw (book_stays b heard given t) at (in_time e (call_kept b ok heard given t) q) in
      let counted = clock b ok heard given t q in
      omega arith
  not_exchanging (Open slot version i line) q o = let z : ◌≡◌ {A = ℕ} 0 1 = cc in omega arith
  not_exchanging (Refused number slot) q o = let z : ◌≡◌ {A = ℕ} 0 1 = cc in omega arith

  pub ends_by_limit : stands_at (started b) heard given t ≡ outcome.Exchanging → ⊥
  ends_by_limit = not_exchanging (end_at (started b) heard given t).phase refl
