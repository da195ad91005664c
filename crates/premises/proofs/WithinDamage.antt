-- A channel that makes one byte of whatever is sent in a slot: when what arrives of it is within the allowed damage. Assumes nothing.
use mathlib.Core.Path.{◌≡◌, refl, sym, ap, ◌∙◌, subst}
use mathlib.Core.List.{List, [], ◌∷◌, ◌++◌}
use Prim.Native.Nat.{ℕ, zero, suc, ◌+◌, ◌*◌, ◌/◌, ◌%◌, ◌≤◌, ◌<◌}
use native.Mathlib.Nat.{zero-add}
use native.Mathlib.Omega.{arith}
use lib.Dec.{lit<}
use lib.ListN.{drop, replicate}
use borrow.Author.Tests.{eq-eqb}
use Rattle.ground.specs.Digits.{val, bit}
use Rattle.ground.proofs.Each.{each_eq}
use Rattle.channel.specs.Bytes.{laid, sgidle, dl_byte, dh_byte}
use Rattle.channel.specs.Kinds.{nibble_in}
use Rattle.channel.specs.Forms.{unit_byte, ArrivesAs}
use Rattle.channel.specs.Vote.{as_sent}
use Rattle.channel.specs.declared.unit.Form.{Form}
use Rattle.protocol.specs.Sent.{Sent, Alone, Part, Unit}
use Rattle.protocol.specs.Damage.{GroupArrives, Arrives}
use Rattle.protocol.specs.Joined.{arriving}
use Rattle.premises.proofs.DelayLine.{arrives_early, arrives_late}

-- A copy whose nibbles are those sent has every bit as sent. Only the bits 0 to 7 of a value are sent.

pub low_bit : (v i : ℕ) → i < 8 → bit i (v % 256) ≡ bit i v
low_bit v zero h = omega arith
low_bit v (suc zero) h = omega arith
low_bit v (suc (suc zero)) h = omega arith
low_bit v (suc (suc (suc zero))) h = omega arith
low_bit v (suc (suc (suc (suc zero)))) h = omega arith
low_bit v (suc (suc (suc (suc (suc zero))))) h = omega arith
low_bit v (suc (suc (suc (suc (suc (suc zero)))))) h = omega arith
low_bit v (suc (suc (suc (suc (suc (suc (suc zero))))))) h = omega arith
low_bit v (suc (suc (suc (suc (suc (suc (suc (suc i)))))))) h = absurd (omega arith)

-- what is sent of a value is what is sent of its bits 0 to 7
pub dl_low : (v : ℕ) → dl_byte v ≡ dl_byte (v % 256)
unfolding dl_byte
dl_low v = rw (low_bit v 0 (lit< tt), low_bit v 1 (lit< tt), low_bit v 2 (lit< tt), low_bit v 3 (lit< tt))

pub dh_low : (v : ℕ) → dh_byte v ≡ dh_byte (v % 256)
unfolding dh_byte
dh_low v = rw (low_bit v 4 (lit< tt), low_bit v 5 (lit< tt), low_bit v 6 (lit< tt), low_bit v 7 (lit< tt))

abbrev copy_sent : ℕ → ℕ
copy_sent v = nibble_in (dl_byte v) + 16 * nibble_in (dh_byte v)

copy_sent_lem : (v : ℕ) → copy_sent v ≡ v % 256
unfolding nibble_in dl_byte dh_byte laid val
copy_sent_lem v = rw (dl_low v, dh_low v) (each_eq copy_sent (λ v. v) 256 tt (v % 256) (omega arith))

pub copy_as_sent : (v i low high : ℕ) → i < 8 → nibble_in low ≡ nibble_in (dl_byte v) → nibble_in high ≡ nibble_in (dh_byte v)
    → as_sent i (nibble_in low + 16 * nibble_in high) v ≡ 1
copy_as_sent v i low high h l r = rw (l, r, copy_sent_lem v, low_bit v i h, eq-eqb (bit i v) (bit i v) refl)

-- what the channel makes of a byte alone, of a unit and of each group is within the allowed damage
pub record Within (made : Sent → ℕ) : Type 0 where
  pub alone : (b : ℕ) → made (Alone b) / 2 ≡ b / 2
  pub units : (f : Form) (u : ℕ) → ArrivesAs f (unit_byte f u) (made (Unit f u))
  pub groups : (v : ℕ) → GroupArrives v (λ place. made (Part place v)) 0

-- a group arrives in one stretch of slots as in another
pub group_moved : (v x y : ℕ) (heard heard' : ℕ → ℕ) → ((place : ℕ) → place < 6 → heard' (y + place) ≡ heard (x + place)) → GroupArrives v heard x
    → GroupArrives v heard' y
group_moved v x y heard heard' at g =
    record {
      marks = λ place l. rw (at place l) (g.marks place l);
      copies =
          λ i l.
          rw (at 0 (lit< tt), at 1 (lit< tt), at 2 (lit< tt), at 3 (lit< tt), at 4 (lit< tt), at 5 (lit< tt)) (g.copies i l);
    }

pub group_at : (v x : ℕ) (heard group : ℕ → ℕ) → ((place : ℕ) → place < 6 → heard (x + place) ≡ group place) → GroupArrives v group 0
    → GroupArrives v heard x
group_at v x heard group at = group_moved v 0 x group heard (λ place l. at place l ∙ ap group (sym (zero-add place)))

pub arrives : (made : Sent → ℕ) → Within made → (d : ℕ) (sent : ℕ → Sent) (heard : ℕ → ℕ)
    → ((t : ℕ) → t < d → heard t / 2 ≡ sgidle / 2) → ((t : ℕ) → heard (t + d) ≡ made (sent t)) → Arrives d sent heard
arrives made w d sent heard early late =
    record {
      early = early;
      alone = λ t b e. rw (late t, e) (w.alone b);
      units = λ t f u e. rw (late t, e) (w.units f u);
      groups =
          λ t v e.
          group_at v (t + d) heard (λ place. made (Part place v))
          (λ place l.
          let slot : t + place + d ≡ t + d + place = omega arith in
          subst (λ u. heard u ≡ made (Part place v)) slot (late (t + place) ∙ ap made (e place l)))
          (w.groups v);
    }

-- the same of a line of d bytes that takes in each slot what the channel makes of what is sent
pub line_arrives : (made : Sent → ℕ) → Within made → (d : ℕ) → 1 ≤ d → (sent : ℕ → Sent) (line : ℕ → List ℕ)
    → line 0 ≡ replicate d sgidle → ((t : ℕ) → line (suc t) ≡ drop 1 (line t) ++ (made (sent t) ∷ []))
    → Arrives d sent (λ t. arriving (line t))
line_arrives made w d delay sent line first next =
    arrives made w d sent (λ t. arriving (line t))
    (λ t l. ap (λ b. b / 2) (arrives_early d delay line (λ t. made (sent t)) first next t l))
    (arrives_late d delay line (λ t. made (sent t)) first next)
