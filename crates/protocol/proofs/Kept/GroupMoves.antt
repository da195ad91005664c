-- What a received byte may do to the group in hand: one law for every kind. Assumes nothing.
use mathlib.Core.Path.{◌≡◌, refl}
use mathlib.Core.Bool.{true}
use Prim.Native.Nat.{ℕ}
use Rattle.ground.proofs.Test.{by_test}
use Rattle.channel.specs.declared.kind.Kind.{Kind}
use Rattle.channel.specs.declared.kind.Kind.TheVariants.{Sgvi, Sgp, Sgr, Dl, Dh, Sd, Other}
use Rattle.protocol.specs.Collecting.{dl_due, dh_due, last_due, dropped, begun, grown, completed, in_group}
use Rattle.protocol.specs.declared.Hearing.{Hearing}

module _ (P : Hearing → Type 0) (h : Hearing) (item count : ℕ) where
  -- P holds wherever a byte of kind k may lead: only a DL or a DH does anything but drop the group
  pub record Ways (k : Kind) : Type 0 where
    pub low_grows : (x : ℕ) → k ≡ Dl x → dl_due count ≡ true → P (grown h item count x)
    pub begins : (x : ℕ) → k ≡ Dl x → P (begun h item x)
    pub high_grows : (x : ℕ) → k ≡ Dh x → dh_due count ≡ true → P (grown h item count x)
    pub completes : (x : ℕ) → k ≡ Dh x → last_due count ≡ true → P (completed h item x)
    pub drops : P (dropped h item)

  pub any_way : (k : Kind) → Ways k → P (in_group h item count k)
  unfolding in_group
  any_way (Dl x) w = by_test P (dl_due count) (w.low_grows x refl) (λ t. w.begins x refl)
  any_way (Dh x) w =
      by_test P (dh_due count) (w.high_grows x refl) (λ t. by_test P (last_due count) (w.completes x refl) (λ u. w.drops))
  any_way Sgvi w = w.drops
  any_way (Sgp k) w = w.drops
  any_way Sgr w = w.drops
  any_way (Sd s bk) w = w.drops
  any_way Other w = w.drops
