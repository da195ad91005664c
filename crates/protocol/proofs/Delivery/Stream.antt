-- What an open end carries is what the other delivers, in order, from the slot in which the first opening byte goes. Assumes nothing.
use Rattle.std.specs.Prelude.{Some}
use mathlib.Core.Path.{◌≡◌, refl, sym, ap, ◌∙◌, subst}
use mathlib.Core.Bool.{true}
use mathlib.Core.List.{List, [], ◌++◌, append_assoc, append-nil}
use Prim.Native.Nat.{ℕ, zero, suc, ◌+◌, ◌≤◌}
use native.Mathlib.Nat.{add-zero}
use native.Mathlib.Numerals.{add-one}
use Rattle.protocol.specs.Opened.{Writing, Reading, has_unit, reading, writing, fresh_line}
use Rattle.protocol.specs.Carried.{carried, units_out, lag, Shown, shown_after}
use Rattle.protocol.specs.declared.Shape.{Shape}
use Rattle.protocol.specs.declared.Shape.TheVariants as shape
use Rattle.protocol.specs.declared.Outbound.{Outbound}
use Rattle.protocol.specs.declared.Inbound.{Inbound}
use Rattle.protocol.specs.declared.Drive.{Drive}
use Rattle.protocol.proofs.Delivery.MirrorKept.{ArrivesOne, Kept}
use Rattle.protocol.proofs.Delivery.UnitsMirrored.{Units}
use Rattle.protocol.proofs.Delivery.Mirror.{Mirror, comes_out, mirror_step, mirror_fresh}
use Rattle.protocol.proofs.Delivery.OpenRuns.{outs, ins}

-- n slots after the first opening byte goes
module _ (s : Shape) (given : ℕ → Drive) where
  abbrev pub goes : ℕ → Writing
  goes n = writing s (outs s given fresh_line.outbound n) (given n)

  unfoldable pub carried_in : ℕ → List ℕ
  carried_in zero = []
  carried_in (suc n) = carried_in n ++ carried (goes n).taken (given n).offer (goes n).sent

  abbrev pub shown : ℕ → Shown
  shown n = shown_after (λ m. (goes m).sent) n

-- n slots after it comes
module _ (s : Shape) (heard : ℕ → ℕ) where
  abbrev pub comes : ℕ → Reading
  comes n = reading s (ins s heard fresh_line.inbound n) (heard n)

  unfoldable pub delivered_in : ℕ → List ℕ
  delivered_in zero = []
  delivered_in (suc n) = delivered_in n ++ units_out (comes n).delivered

module _ (s : Shape) (given : ℕ → Drive) (heard : ℕ → ℕ) where
  record Upto (n : ℕ) : Type 0 where
    pending : List ℕ
    mirror : Mirror s (outs s given fresh_line.outbound n) (ins s heard fresh_line.inbound n) (shown s given n) pending
    lists : carried_in s given n ≡ delivered_in s heard n ++ pending

  module _ (small : (w : ℕ) → s ≡ shape.Word w → w ≤ 8) (allowed : (n u : ℕ) → (given n).offer ≡ Some u → has_unit s u ≡ true)
      (arrives : (n : ℕ) → ArrivesOne (goes s given n).sent (heard n)) where
    one_more : (n : ℕ) (u : Upto n)
        → Kept (Mirror s) (comes_out s) (shown s given n) u.pending (goes s given n) (comes s heard n) (given n).offer
    one_more n u =
        mirror_step s (outs s given fresh_line.outbound n) (ins s heard fresh_line.inbound n) (shown s given n) u.pending (given n) (heard n) u.mirror (allowed n) (arrives n)

    upto : (n : ℕ) → Upto n
    unfolding outs ins carried_in delivered_in shown_after
    upto zero = record { pending = []; mirror = mirror_fresh s small; lists = refl }
    upto (suc n) =
        let u = upto n in
        let k = one_more n u in
        record {
          pending = k.now;
          mirror = k.mirror;
          lists =
              ap (λ l. l ++ carried (goes s given n).taken (given n).offer (goes s given n).sent) u.lists
              ∙ append_assoc (delivered_in s heard n) u.pending (carried (goes s given n).taken (given n).offer (goes s given n).sent)
              ∙ ap (λ l. delivered_in s heard n ++ l) k.units
              ∙ sym (append_assoc (delivered_in s heard n) (units_out (comes s heard n).delivered) k.now);
        }

    by_shape : (n : ℕ) (t : Shape) → s ≡ t → delivered_in s heard (n + lag t) ≡ carried_in s given n
    unfolding delivered_in
    by_shape n (shape.Word w) e =
        let u = upto n in
        let k = one_more n u in
        rw (add-one n)
        (ap (λ l. delivered_in s heard n ++ l) (k.delivers ∙ ap (λ z. comes_out z u.pending (carried (goes s given n).taken (given n).offer (goes s given n).sent)) e) ∙ sym u.lists)
    by_shape n (shape.Unit f) e =
        let u = upto n in
        let m : Units f (outs s given fresh_line.outbound n) (ins s heard fresh_line.inbound n) (shown s given n) u.pending
        = subst (λ z. Mirror z (outs s given fresh_line.outbound n) (ins s heard fresh_line.inbound n) (shown s given n) u.pending) e u.mirror in
        rw (add-zero n) (sym (u.lists ∙ ap (λ l. delivered_in s heard n ++ l) m.empty ∙ append-nil (delivered_in s heard n)))

    -- all that is carried is delivered, given the slots to arrive
    pub all_delivered : (n : ℕ) → delivered_in s heard (n + lag s) ≡ carried_in s given n
    all_delivered n = by_shape n s refl

    signalled : (t : Shape) (o : Outbound) (i : Inbound) (h : Shown) (pending : List ℕ) → Mirror t o i h pending → i.standing ≡ h.standing
    signalled (shape.Word w) o i h pending m = m.1.signals.standing
    signalled (shape.Unit f) o i h pending m = m.signals.standing

    -- and the signals that stand are those that the rule gives over the Sd that were sent
    pub all_shown : (n : ℕ) → (ins s heard fresh_line.inbound n).standing ≡ (shown s given n).standing
    all_shown n =
        signalled s (outs s given fresh_line.outbound n) (ins s heard fresh_line.inbound n) (shown s given n) (upto n).pending (upto n).mirror
