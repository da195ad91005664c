-- A byte of a kind that is not named. Assumes nothing.
use mathlib.Core.Path.{◌≡◌, refl}
use mathlib.Core.Bool.{Bool}
use Prim.Native.Nat.{ℕ}
use Rattle.channel.specs.declared.byte.Leads.{Leads}
use Rattle.channel.specs.declared.kind.Kind.{Kind}
use Rattle.channel.specs.declared.kind.Kind.TheVariants.{Sgvi, Sgp, Sgr, Dl, Dh, Sd, Other}
use Rattle.protocol.specs.Opened.{quiet, reads_word, reads_idle, reads_pair}
use Rattle.protocol.specs.declared.Inbound.{Inbound}

module _ (i : Inbound) where
  pub rest_word : (w : ℕ) (k : Kind) → ((x : ℕ) → k ≡ Dl x → ⊥) → ((x : ℕ) → k ≡ Dh x → ⊥) → ((s : Leads) (bk : Bool) → k ≡ Sd s bk → ⊥)
      → quiet i ≡ reads_word w i k
  unfolding reads_word
  rest_word w Sgvi l h d = refl
  rest_word w (Sgp j) l h d = refl
  rest_word w Sgr l h d = refl
  rest_word w (Dl x) l h d = absurd (l x refl)
  rest_word w (Dh x) l h d = absurd (h x refl)
  rest_word w (Sd s bk) l h d = absurd (d s bk refl)
  rest_word w Other l h d = refl

  pub rest_idle : (k : Kind) → ((s : Leads) (bk : Bool) → k ≡ Sd s bk → ⊥) → quiet i ≡ reads_idle i k
  rest_idle Sgvi d = refl
  rest_idle (Sgp j) d = refl
  rest_idle Sgr d = refl
  rest_idle (Dl x) d = refl
  rest_idle (Dh x) d = refl
  rest_idle (Sd s bk) d = absurd (d s bk refl)
  rest_idle Other d = refl

  pub rest_pair : (k : Kind) → ((x : ℕ) → k ≡ Dl x → ⊥) → ((x : ℕ) → k ≡ Dh x → ⊥) → ((s : Leads) (bk : Bool) → k ≡ Sd s bk → ⊥)
      → quiet i ≡ reads_pair i k
  rest_pair Sgvi l h d = refl
  rest_pair (Sgp j) l h d = refl
  rest_pair Sgr l h d = refl
  rest_pair (Dl x) l h d = absurd (l x refl)
  rest_pair (Dh x) l h d = absurd (h x refl)
  rest_pair (Sd s bk) l h d = absurd (d s bk refl)
  rest_pair Other l h d = refl
