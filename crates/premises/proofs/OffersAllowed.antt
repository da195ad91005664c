-- When neither end is given an offer that 12 refuses: where nothing is offered, and where each unit offered is in the range of every entry
-- of the end's book. Assumes nothing.
use Rattle.std.specs.Prelude.{Option, Some, None}
use mathlib.Core.Path.{◌≡◌, refl}
use mathlib.Core.Bool.{true}
use Prim.Native.Nat.{ℕ, ◌<◌}
use Rattle.ground.proofs.Test.{both_right}
use Rattle.book.specs.declared.Book.{Book}
use Rattle.book.specs.Kept.{book_ok}
use Rattle.protocol.specs.Exchange.{entry_of}
use Rattle.protocol.specs.Opened.{shape_of, has_unit}
use Rattle.protocol.specs.Ranges.{phase_in, well_formed}
use Rattle.protocol.specs.Slot.{started, offer_fits, offer_allowed}
use Rattle.protocol.specs.Call.{end_at, Allowed, OffersNothing, OffersFit}
use Rattle.protocol.specs.declared.Phase.{Phase}
use Rattle.protocol.specs.declared.Phase.TheVariants.{Exchanging, Open, Refused}
use Rattle.protocol.specs.declared.Endpoint.{Endpoint}
use Rattle.protocol.specs.declared.Drive.{Drive}
use Rattle.protocol.proofs.Kept.StateKept.{open_parts, call_kept}
use Rattle.protocol.proofs.Kept.BookStays.{book_stays}

pub nothing_allowed : (e : Endpoint) (g : Drive) → g.offer ≡ None → (p : Phase) → offer_allowed e g p ≡ true
unfolding offer_allowed
nothing_allowed e g q (Exchanging slot version a s) = refl
nothing_allowed e g q (Open slot version i line) = rw q
nothing_allowed e g q (Refused number slot) = refl

pub offers_nothing_allowed : (e : Endpoint) (heard : ℕ → ℕ) (given : ℕ → Drive) → OffersNothing given → Allowed e heard given
offers_nothing_allowed e heard given q t = nothing_allowed (end_at e heard given t) (given t) (q t) (end_at e heard given t).phase

module _ (e : Endpoint) (w : well_formed e ≡ true) (g : Drive)
    (fits : (u : ℕ) → g.offer ≡ Some u → (i version : ℕ) → i < e.book.n → has_unit (shape_of (entry_of e.book i) version) u ≡ true) where
  offer_fits_lem : (version i : ℕ) → i < e.book.n → (f : Option ℕ) → g.offer ≡ f → offer_fits e version i f ≡ true
  offer_fits_lem version i l None q = refl
  offer_fits_lem version i l (Some u) q = fits u q i version l

  fit_allowed : (p : Phase) → e.phase ≡ p → offer_allowed e g p ≡ true
  unfolding offer_allowed well_formed
  fit_allowed (Exchanging slot version a s) q = refl
  fit_allowed (Open slot version i line) q =
      let within = rw q at (both_right (book_ok e.book) (phase_in e.book e.nibbles e.values e.phase) w) in
      offer_fits_lem version i (open_parts e.book slot version i line e.nibbles e.values within).0.opens.below g.offer refl
  fit_allowed (Refused number slot) q = refl

pub offers_fit_allowed : (b : Book) → book_ok b ≡ true → (heard : ℕ → ℕ) (given : ℕ → Drive) → OffersFit b given → Allowed (started b) heard given
offers_fit_allowed b ok heard given fits t =
    let e = end_at (started b) heard given t in
    fit_allowed e (call_kept b ok heard given t) (given t) (rw (book_stays b heard given t) (fits t)) e.phase refl
