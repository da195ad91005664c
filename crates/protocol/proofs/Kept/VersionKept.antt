-- The version keeps to what is awaited and sent: where it is settled, and where what is to be sent changes. Assumes nothing.
use mathlib.Core.Path.{◌≡◌, refl}
use mathlib.Core.Bool.{Bool, true, false, cond, not, ◌&&◌, ◌||◌, false≢true, true≢false}
use mathlib.Core.Logic.{⊎_elim}
use Prim.Native.Nat.{ℕ}
use native.Mathlib.Omega.{arith}
use lib.Dec.{eqb, ltb}
use borrow.Author.Tests.{lt-ltb, ltb-true, eqb-true, eq-eqb}
use Rattle.ground.proofs.Test.{both_left, both_right}
use Rattle.book.specs.declared.Book.{Book}
use Rattle.channel.specs.Versions.{highest}
use Rattle.protocol.specs.Lengths.{all_parameter_bytes}
use Rattle.protocol.specs.Collecting.{item_of, has_identifier, has_all}
use Rattle.protocol.specs.Exchange.{originates, identifier}
use Rattle.protocol.specs.Ranges.{originating_in, is_version, may_lack, version_in}
use Rattle.protocol.specs.declared.Awaited.{Awaited}
use Rattle.protocol.specs.declared.Sending.{Sending}
use Rattle.protocol.specs.declared.Sending.TheVariants.{Idle, Hail, Mask, Parameters, Done}
use Rattle.protocol.proofs.Kept.Cases.{both, either, or_left, or_right}
use Rattle.protocol.proofs.Kept.AwaitedMoves.{Moved}
use Rattle.protocol.proofs.Kept.VersionSettled.{settled}

-- all has come, so the identifier has
pub all_identified : (a : Awaited) → has_all a ≡ true → has_identifier a ≡ true
all_identified a e = lt-ltb 0 (item_of a) (omega (arith, ltb-true 5 (item_of a) e))

module _ (b : Book) where
  -- the version of an end that has the identifier, and does not go on with its mask, is shared
  pub is_shared : (a : Awaited) (s : Sending) (v : ℕ) → has_identifier a ≡ true → may_lack b s ≡ false → version_in b a s v ≡ true
      → is_version b v ≡ true
  unfolding version_in
  is_shared a s v has lack e =
      either (is_version b v) (may_lack b s && eqb v 0) (λ t. t)
      (λ t. absurd (true≢false (cc (both_left (may_lack b s) (eqb v 0) t, lack)))) (rw has at e)

  -- what is to be sent may change, where the mask of 00 is not skipped
  pub sent_on : (a : Awaited) (s next : Sending) (v : ℕ) → (may_lack b s ≡ true → v ≡ 0 → may_lack b next ≡ true)
      → version_in b a s v ≡ true → version_in b a next v ≡ true
  unfolding version_in
  sent_on a s next v f e = go (has_identifier a) e
    where
      go : (has : Bool) → cond has (is_version b v || (may_lack b s && eqb v 0)) (eqb v 0) ≡ true
          → cond has (is_version b v || (may_lack b next && eqb v 0)) (eqb v 0) ≡ true
      go true e =
          either (is_version b v) (may_lack b s && eqb v 0) (λ t. or_left _ t)
          (λ t.
          let none = both_right (may_lack b s) (eqb v 0) t in
          or_right (is_version b v) (both (f (both_left (may_lack b s) (eqb v 0) t) (eqb-true v 0 none)) none))
          e
      go false e = e

  module _ (a after : Awaited) (m : Moved a after) where
    -- an identifier comes to an originator while it sends Sgvi
    pub settles_hail : (s : Sending) → originates b ≡ true → originating_in b a s ≡ true → has_identifier a ≡ false
        → has_identifier after ≡ true → may_lack b s ≡ true
    unfolding originating_in
    settles_hail Idle o i none has = absurd (true≢false (cc (m.hail_lacks i, has)))
    settles_hail (Hail n) o i none has = o
    settles_hail (Mask n) o i none has = o
    settles_hail (Parameters n) o i none has = absurd (true≢false (cc (both_left (has_identifier a) (ltb n (all_parameter_bytes b)) i, none)))
    settles_hail Done o i none has = absurd (true≢false (cc (both_left (has_identifier a) (not (has_all a)) i, none)))

    -- on the other's identifier the version is settled; where none is shared the end has yet to send its mask
    pub version_acted : (s : Sending) (v theirs : ℕ)
        → (has_identifier a ≡ false → has_identifier after ≡ true → highest (identifier b) theirs ≡ 0 → may_lack b s ≡ true)
        → version_in b a s v ≡ true
        → version_in b after s (cond (not (has_identifier a) && has_identifier after) (highest (identifier b) theirs) v) ≡ true
    unfolding version_in
    version_acted s v theirs f e = go (has_identifier a) (has_identifier after) m.identifier_stays f e
      where
        top : ℕ
        top = highest (identifier b) theirs

        range : Bool → ℕ → Bool
        range has n = cond has (is_version b n || (may_lack b s && eqb n 0)) (eqb n 0)

        go : (had has : Bool) → (had ≡ true → has ≡ true) → (had ≡ false → has ≡ true → top ≡ 0 → may_lack b s ≡ true)
            → range had v ≡ true → range has (cond (not had && has) top v) ≡ true
        go true true stays f e = e
        go true false stays f e = absurd (false≢true (stays refl))
        go false true stays f e =
            ⊎_elim (λ t. or_left _ t) (λ t. or_right (is_version b top) (both (f refl refl t) (eq-eqb top 0 t))) (settled b theirs)
        go false false stays f e = e
