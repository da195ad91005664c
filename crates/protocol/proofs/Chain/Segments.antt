-- Runs of a machine that hears a kind and says something in each slot, taken stretch by stretch. Assumes nothing.
use mathlib.Core.Path.{◌≡◌, refl, ap, ◌∙◌, subst}
use Prim.Native.Nat.{ℕ, zero, suc, ◌+◌, ◌-◌, ◌≤◌, ◌<◌}
use native.Mathlib.Nat.{add-zero, add-suc}
use native.Mathlib.Decide.{dec_lt}
use native.Mathlib.Omega.{arith}
use Rattle.channel.specs.declared.kind.Kind.{Kind}
use Rattle.protocol.specs.Sent.{Sent}

-- what is said of a slot: what it sends, or nothing that counts
pub data Said : Type 0 where
  Says : Sent → Said
  Silent : Said

pub record Move (S : Type 0) : Type 0 where
  pub to : S
  pub out : Said

-- from a slot on, the states s and what is said follow from what is heard
pub record Runs {S : Type 0} (f : S → Kind → Move S) (from : ℕ) (s : ℕ → S) (heard : ℕ → Kind) (out : ℕ → Said) : Type 0 where
  pub to : (t : ℕ) → from ≤ t → s (suc t) ≡ (f (s t) (heard t)).to
  pub said : (t : ℕ) → from ≤ t → out t ≡ (f (s t) (heard t)).out

-- P holds in the slots from x up to y, y left out
abbrev pub During : ℕ → ℕ → (ℕ → Type 0) → Type 0
During x y P = (t : ℕ) → x ≤ t → t < y → P t

-- two stretches that meet
pub join : {P : ℕ → Type 0} {x z : ℕ} (y : ℕ) → During x y P → During y z P → During x z P
join {P} y h g t hx hz = go (dec_lt t y)
  where
    go : Dec (t < y) → P t
    go (yes p) = h t hx p
    go (no p) = g t (omega arith) hz

-- the slots of a stretch by their offset
pub at_offset : (P : ℕ → Type 0) (x n : ℕ) → ((i : ℕ) → i < n → P (x + i)) → During x (x + n) P
at_offset P x n h t hx hy = subst P (omega arith) (h (t - x) (omega arith))

-- the state after i slots along what is heard
unfoldable pub walk : {S : Type 0} → (S → Kind → Move S) → S → (ℕ → Kind) → ℕ → S
walk f u k zero = u
walk f u k (suc i) = (f (walk f u k i) (k i)).to

module _ {S : Type 0} {f : S → Kind → Move S} {from : ℕ} {s : ℕ → S} {heard : ℕ → Kind} {out : ℕ → Said} (r : Runs f from s heard out) where
  -- one slot, from what is known of the state before it and of the byte
  pub one : (t : ℕ) (u : S) (k : Kind) → from ≤ t → s t ≡ u → heard t ≡ k → s (suc t) ≡ (f u k).to
  one t u k l e h = r.to t l ∙ ap (λ v. (f v (heard t)).to) e ∙ ap (λ v. (f u v).to) h

  pub one_said : (t : ℕ) (u : S) (k : Kind) → from ≤ t → s t ≡ u → heard t ≡ k → out t ≡ (f u k).out
  one_said t u k l e h = r.said t l ∙ ap (λ v. (f v (heard t)).out) e ∙ ap (λ v. (f u v).out) h

  -- a stretch of n slots from slot x on, along the states u 0, u 1, …
  module _ (u : ℕ → S) (k : ℕ → Kind) (x n : ℕ) (l : from ≤ x) (start : s x ≡ u 0)
      (hears : (i : ℕ) → i < n → heard (x + i) ≡ k i)
      (moves : (i : ℕ) → i < n → (f (u i) (k i)).to ≡ u (suc i)) where
    pub climb : (i : ℕ) → i ≤ n → s (x + i) ≡ u i
    climb zero h = rw add-zero start
    climb (suc i) h =
        rw add-suc
        (one (x + i) (u i) (k i) (omega arith) (climb i (omega arith)) (hears i h) ∙ moves i h)

    pub climb_said : (i : ℕ) → i < n → out (x + i) ≡ (f (u i) (k i)).out
    climb_said i h = one_said (x + i) (u i) (k i) (omega arith) (climb i (omega arith)) (hears i h)

  -- the states along what is heard
  module _ (u : S) (k : ℕ → Kind) (x n : ℕ) (l : from ≤ x) (start : s x ≡ u) (hears : (i : ℕ) → i < n → heard (x + i) ≡ k i) where
    pub along : (i : ℕ) → i ≤ n → s (x + i) ≡ walk f u k i
    unfolding walk
    along = climb (walk f u k) k x n l start hears (λ i h. refl)

    pub along_said : (i : ℕ) → i < n → out (x + i) ≡ (f (walk f u k i) (k i)).out
    unfolding walk
    along_said = climb_said (walk f u k) k x n l start hears (λ i h. refl)

  -- nothing changes from x up to y
  module _ (x y : ℕ) (u : S) (l : from ≤ x) (start : s x ≡ u) (stays : During x y (λ t. (f u (heard t)).to ≡ u)) where
    pub hold : (t : ℕ) → x ≤ t → t ≤ y → s t ≡ u
    hold t hx hy =
        subst (λ t. s t ≡ u) (omega arith)
        (climb (λ i. u) (λ i. heard (x + i)) x (t - x) l start (λ i h. refl) (λ i h. stays (x + i) (omega arith) (omega arith)) (t - x) (omega arith))

    pub hold_said : During x y (λ t. out t ≡ (f u (heard t)).out)
    hold_said t hx hy = one_said t u (heard t) (omega arith) (hold t hx (omega arith)) refl

  -- what holds n slots after slot x, for as long as n is at most top
  module _ (I : ℕ → S → Type 0) (o : ℕ → Said) (top x : ℕ) (l : from ≤ x) (start : I 0 (s x))
      (moves : (n : ℕ) (u : S) → n < top → I n u → I (suc n) (f u (heard (x + n))).to × ((f u (heard (x + n))).out ≡ o n)) where
    pub keep : (n : ℕ) → n ≤ top → I n (s (x + n))
    keep zero h = rw add-zero start
    keep (suc n) h =
        rw (add-suc, one (x + n) (s (x + n)) (heard (x + n)) (omega arith) refl refl)
        (moves n (s (x + n)) h (keep n (omega arith))).0

    pub keep_said : (n : ℕ) → n < top → out (x + n) ≡ o n
    keep_said n h =
        one_said (x + n) (s (x + n)) (heard (x + n)) (omega arith) refl refl
        ∙ (moves n (s (x + n)) h (keep n (omega arith))).1
