-- The receiving half of an open end mirrors the sending half of the other, slot by slot, with the form as a parameter. Assumes nothing.
use Rattle.std.specs.Prelude.{Some}
use mathlib.Core.Path.{◌≡◌, refl, sym, subst}
use mathlib.Core.Bool.{true}
use mathlib.Core.List.{List, []}
use Prim.Native.Nat.{ℕ, ◌≤◌, zero-le}
use Rattle.protocol.specs.Opened.{reading, writing, has_unit, fresh_line, idle_signals}
use Rattle.protocol.specs.Carried.{Shown}
use Rattle.protocol.specs.declared.Shape.{Shape}
use Rattle.protocol.specs.declared.Shape.TheVariants as shape
use Rattle.protocol.specs.declared.Outbound.{Outbound}
use Rattle.protocol.specs.declared.Inbound.{Inbound}
use Rattle.protocol.specs.declared.Drive.{Drive}
use Rattle.protocol.proofs.Delivery.MirrorKept.{ArrivesOne, Kept, late, at_once}
use Rattle.protocol.proofs.Delivery.WordsMirrored.{none, Words, word_step}
use Rattle.protocol.proofs.Delivery.UnitsMirrored.{Units, unit_step}

abbrev pub Mirror : Shape → Outbound → Inbound → Shown → List ℕ → Type 0
Mirror (shape.Word w) o i h pending = (w ≤ 8) × Words w o i h pending
Mirror (shape.Unit f) o i h pending = Units f o i h pending

abbrev pub comes_out : Shape → List ℕ → List ℕ → List ℕ
comes_out (shape.Word w) = late
comes_out (shape.Unit f) = at_once

pub mirror_step : (s : Shape) (o : Outbound) (i : Inbound) (h : Shown) (pending : List ℕ) (g : Drive) (heard : ℕ) → Mirror s o i h pending
    → ((u : ℕ) → g.offer ≡ Some u → has_unit s u ≡ true) → ArrivesOne (writing s o g).sent heard
    → Kept (Mirror s) (comes_out s) h pending (writing s o g) (reading s i heard) g.offer
unfolding has_unit
mirror_step (shape.Word w) o i h pending g heard m allowed a =
    let k = word_step w m.0 i h heard o g pending allowed m.1 a in
    record { now = k.now; mirror = (m.0, k.mirror); units = k.units; delivers = k.delivers }
mirror_step (shape.Unit f) o i h pending g heard m allowed a =
    subst (λ (p : List ℕ). Kept (Units f) at_once h p (writing (shape.Unit f) o g) (reading (shape.Unit f) i heard) g.offer) (sym m.empty)
    (unit_step f o i h g heard allowed (subst (λ (p : List ℕ). Units f o i h p) m.empty m) a)

-- it holds of two ends that have just opened
pub mirror_fresh : (s : Shape) → ((w : ℕ) → s ≡ shape.Word w → w ≤ 8)
    → Mirror s fresh_line.outbound fresh_line.inbound (record { last = idle_signals; before = idle_signals; standing = idle_signals }) []
unfolding fresh_line
mirror_fresh (shape.Word w) small =
    (small w refl, record { signals = record { last = refl; standing = refl }; last = refl; off = λ p q. refl; unit = none refl refl })
mirror_fresh (shape.Unit f) small =
    record { signals = record { last = refl; standing = refl }; empty = refl; pair = refl; opening = zero-le }
