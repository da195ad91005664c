-- What one end says arrives at the other d slots later, as kinds: what the allowed damage leaves. Assumes nothing.
use mathlib.Core.Path.{◌≡◌, subst}
use mathlib.Core.List.{[], ◌∷◌}
use Prim.Native.Nat.{ℕ, zero, suc, ◌+◌, ◌-◌, ◌≤◌, ◌<◌}
use native.Mathlib.Nat.{add-zero}
use native.Mathlib.Omega.{arith}
use lib.ListN.{get_or}
use Rattle.channel.specs.declared.kind.Kind.{Kind}
use Rattle.channel.specs.declared.kind.Kind.TheVariants.{Dl, Dh, Other}
use Rattle.channel.specs.Kinds.{kind_of}
use Rattle.protocol.specs.Collecting.{value_of}
use Rattle.protocol.specs.Sent.{Alone, Part}
use Rattle.protocol.proofs.Chain.Segments.{Said, Says, During}

-- a group that carries v is heard from slot x on: some nibbles, by which v is voted
pub record GroupHeard (v : ℕ) (heard : ℕ → Kind) (x : ℕ) : Type 0 where
  pub l0 : ℕ
  pub h0 : ℕ
  pub l1 : ℕ
  pub h1 : ℕ
  pub l2 : ℕ
  pub h2 : ℕ
  pub at0 : heard x ≡ Dl l0
  pub at1 : heard (x + 1) ≡ Dh h0
  pub at2 : heard (x + 2) ≡ Dl l1
  pub at3 : heard (x + 3) ≡ Dh h1
  pub at4 : heard (x + 4) ≡ Dl l2
  pub at5 : heard (x + 5) ≡ Dh h2
  pub votes : value_of (l0 ∷ h0 ∷ l1 ∷ h1 ∷ l2 ∷ h2 ∷ []) ≡ v

-- what is said in the slots from `from` up to n
pub record Link (from n d : ℕ) (out : ℕ → Said) (heard : ℕ → Kind) : Type 0 where
  pub alone : (t b : ℕ) → from ≤ t → t < n → out t ≡ Says (Alone b) → heard (t + d) ≡ kind_of b
  pub group : (t v : ℕ) → from ≤ t → t + 6 ≤ n → v < 256 → ((j : ℕ) → j < 6 → out (t + j) ≡ Says (Part j v)) → GroupHeard v heard (t + d)

-- what is said alone in a stretch of slots arrives d slots later
pub arrive : {from n d : ℕ} {out : ℕ → Said} {heard : ℕ → Kind} → Link from n d out heard → (x y b : ℕ) → from ≤ x → y ≤ n
    → During x y (λ t. out t ≡ Says (Alone b)) → During (x + d) (y + d) (λ t. heard t ≡ kind_of b)
arrive {from} {n} {d} {out} {heard} l x y b hx hy h t lx ly =
    subst (λ u. heard u ≡ kind_of b) (omega arith) (l.alone (t - d) b (omega arith) (omega arith) (h (t - d) (omega arith) (omega arith)))

-- the six kinds of a group that was heard
abbrev pub six : {v x : ℕ} {heard : ℕ → Kind} → GroupHeard v heard x → ℕ → Kind
six g i = get_or (Dl g.l0 ∷ Dh g.h0 ∷ Dl g.l1 ∷ Dh g.h1 ∷ Dl g.l2 ∷ Dh g.h2 ∷ []) i Other

pub hears_six : {v x : ℕ} {heard : ℕ → Kind} (g : GroupHeard v heard x) (i : ℕ) → i < 6 → heard (x + i) ≡ six g i
hears_six g zero h = rw add-zero g.at0
hears_six g (suc zero) h = g.at1
hears_six g (suc (suc zero)) h = g.at2
hears_six g (suc (suc (suc zero))) h = g.at3
hears_six g (suc (suc (suc (suc zero)))) h = g.at4
hears_six g (suc (suc (suc (suc (suc zero))))) h = g.at5
hears_six g (suc (suc (suc (suc (suc (suc i)))))) h = absurd (omega arith)
