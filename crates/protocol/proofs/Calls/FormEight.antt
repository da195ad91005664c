-- An end that stands open on form 8 is on version 2. Assumes nothing.
use mathlib.Core.Path.{◌≡◌}
use mathlib.Core.Bool.{Bool, true, not, ◌&&◌, ◌||◌, true≢false}
use Prim.Native.Nat.{ℕ, ◌-◌, ◌<◌, ◌≤◌}
use native.Mathlib.Omega.{arith}
use lib.Dec.{T, eqb, ltb, leb}
use borrow.Author.Tests.{eq-eqb, eqb-false, ltb-true, leb-true, not-true}
use Rattle.ground.specs.Digits.{bit}
use Rattle.ground.proofs.Test.{flag_true, both_left, both_right}
use Rattle.ground.proofs.Each.{up_to, each}
use Rattle.book.specs.declared.Entry.{Entry}
use Rattle.book.specs.declared.Book.{Book}
use Rattle.book.specs.Kept.{book_ok}
use Rattle.protocol.specs.Exchange.{entry_of, identifier}
use Rattle.protocol.specs.Ranges.{is_version, phase_in}
use Rattle.protocol.specs.Slot.{started, outcome_at}
use Rattle.protocol.specs.Call.{end_at, stands_at}
use Rattle.protocol.specs.declared.Signals.{Signals}
use Rattle.protocol.specs.declared.Phase.{Phase}
use Rattle.protocol.specs.declared.Phase.TheVariants.{Exchanging, Open, Refused}
use Rattle.protocol.specs.declared.Endpoint.{Endpoint}
use Rattle.protocol.specs.declared.Drive.{Drive}
use Rattle.protocol.specs.declared.Outcome.TheVariants as outcome
use Rattle.protocol.proofs.Kept.Cases.{either, first_fails}
use Rattle.protocol.proofs.Kept.BookFacts.{identifier_most}
use Rattle.protocol.proofs.Kept.TurnKept.{OpensIn}
use Rattle.protocol.proofs.Kept.StateKept.{open_parts, phase_in_lem, book_in_lem, call_kept}

-- below version 3, or no version that an identifier below 4 has
abbrev low : ℕ → ℕ → Bool
low version mask = ltb version 3 || not (eqb (bit (version - 1) mask) 1)

each_low : (version mask : ℕ) → version < 9 → mask < 4 → T (low version mask)
each_low version mask p q = each (low version) 4 (each (λ v. up_to (low v) 4) 9 tt version p) mask q

-- the versions of an accepted book are 1 and 2
two_versions : (b : Book) → book_ok b ≡ true → (version : ℕ) → is_version b version ≡ true → (1 ≤ version) × (version < 3)
unfolding is_version
two_versions b ok version v =
    let bits : Bool = eqb (bit (version - 1) (identifier b)) 1 in
    let has = both_right (leb 1 version && leb version 8) bits v in
    let range = both_left (leb 1 version && leb version 8) _ v in
    let least : 1 ≤ version = leb-true 1 version (both_left (leb 1 version) _ range) in
    let most : version ≤ 8 = leb-true version 8 (both_right (leb 1 version) _ range) in
    let fits = flag_true _ (each_low version (identifier b) (omega arith) (identifier_most b ok)) in (
      least,
      either (ltb version 3) (not bits) (λ t. ltb-true version 3 t) (λ t. absurd (true≢false (cc (not-true bits t, has)))) fits,
    )

opens_on_2 : (b : Book) → book_ok b ≡ true → (version i : ℕ) → OpensIn b version i → (entry_of b i).form ≡ 8 → version ≡ 2
opens_on_2 b ok version i o eight =
    let v = two_versions b ok version o.shared in
    let n = eqb-false version 1 (first_fails (eqb version 1) (eqb (entry_of b i).form 8) o.stands (eq-eqb (entry_of b i).form 8 eight)) in
    omega arith

stands_on_2 : (e : Endpoint) (p : Phase) → book_ok e.book ≡ true → phase_in e.book e.nibbles e.values p ≡ true
    → {version slot : ℕ} {profile : Entry} {signals : Signals} → outcome_at e p ≡ outcome.Open version profile slot signals
    → profile.form ≡ 8 → version ≡ 2
unfolding outcome_at
stands_on_2 e (Exchanging slot version a s) ok w o eight = let z : ◌≡◌ {A = ℕ} 0 1 = cc in absurd (omega arith)
stands_on_2 e (Open slot stored i line) ok w {version} {profile = profile} o eight =
    let same : stored ≡ version = cc in
    let on : entry_of e.book i ≡ profile = cc in
    let parts = open_parts e.book slot stored i line e.nibbles e.values w in
    rw same at (opens_on_2 e.book ok stored i parts.0.opens (rw on eight))
stands_on_2 e (Refused number slot) ok w o eight = let z : ◌≡◌ {A = ℕ} 0 1 = cc in absurd (omega arith)

pub eight_on_2 : (b : Book) → book_ok b ≡ true → (heard : ℕ → ℕ) (given : ℕ → Drive) (t : ℕ) {version slot : ℕ} {profile : Entry} {signals : Signals}
    → stands_at (started b) heard given t ≡ outcome.Open version profile slot signals → profile.form ≡ 8 → version ≡ 2
eight_on_2 b ok heard given t o eight =
    let e = end_at (started b) heard given t in
    let w = call_kept b ok heard given t in
    stands_on_2 e e.phase (book_in_lem e w) (phase_in_lem e w) o eight
