-- A byte of a kind that is not named. Assumes nothing.
use Rattle.std.specs.Prelude.{None}
use mathlib.Core.Path.{◌≡◌, refl}
use mathlib.Core.Bool.{false}
use Prim.Native.Nat.{ℕ}
use Rattle.channel.specs.declared.kind.Kind.{Kind}
use Rattle.channel.specs.declared.kind.Kind.TheVariants.{Sgvi, Sgp, Sgr, Dl, Dh, Sd, Other}
use Rattle.protocol.specs.Collecting.{of_run, dropped}
use Rattle.protocol.specs.declared.Hearing.{Hearing}
use Rattle.collecting.specs.DueNibble.{due_nibble, dropped_by}

pub no_run : (item : ℕ) (k : Kind) → (k ≡ Sgvi → ⊥) → ((i : ℕ) → k ≡ Sgp i → ⊥) → false ≡ of_run item k
unfolding of_run
no_run item Sgvi v p = absurd (v refl)
no_run item (Sgp i) v p = absurd (p i refl)
no_run item Sgr v p = refl
no_run item (Dl x) v p = refl
no_run item (Dh x) v p = refl
no_run item (Sd s bk) v p = refl
no_run item Other v p = refl

pub no_nibble : (count : ℕ) (k : Kind) → ((x : ℕ) → k ≡ Dl x → ⊥) → ((x : ℕ) → k ≡ Dh x → ⊥) → None ≡ due_nibble count k
unfolding due_nibble
no_nibble count Sgvi l h = refl
no_nibble count (Sgp i) l h = refl
no_nibble count Sgr l h = refl
no_nibble count (Dl x) l h = absurd (l x refl)
no_nibble count (Dh x) l h = absurd (h x refl)
no_nibble count (Sd s bk) l h = refl
no_nibble count Other l h = refl

pub no_dl : (h : Hearing) (item : ℕ) (k : Kind) → ((x : ℕ) → k ≡ Dl x → ⊥) → dropped h item ≡ dropped_by h item k
unfolding dropped_by
no_dl h item Sgvi l = refl
no_dl h item (Sgp i) l = refl
no_dl h item Sgr l = refl
no_dl h item (Dl x) l = absurd (l x refl)
no_dl h item (Dh x) l = refl
no_dl h item (Sd s bk) l = refl
no_dl h item Other l = refl
