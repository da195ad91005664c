-- A line of d bytes that takes a new byte and gives its oldest in each slot: sgidle d times, then each byte taken, d slots later.
-- Assumes nothing.
use mathlib.Core.Path.{◌≡◌, ap, ◌∙◌, subst}
use mathlib.Core.List.{List, [], ◌∷◌, ◌++◌}
use Prim.Native.Nat.{ℕ, zero, suc, pred, ◌+◌, ◌≤◌, ◌<◌}
use native.Mathlib.Nat.{add-zero, add-suc, suc-add}
use native.Mathlib.Omega.{arith}
use lib.ListN.{length, get_or, drop, replicate, get_or-replicate, length-replicate, length-append, length-drop, get_or-append}
use lib.Seq.{get_or-drop, get_or_at}
use Rattle.channel.specs.Bytes.{sgidle}
use Rattle.protocol.specs.Joined.{arriving}

module _ (d : ℕ) (delay : 1 ≤ d) (line : ℕ → List ℕ) (taken : ℕ → ℕ) (first : line 0 ≡ replicate d sgidle)
    (next : (t : ℕ) → line (suc t) ≡ drop 1 (line t) ++ (taken t ∷ [])) where
  line_length : (t : ℕ) → length (line t) ≡ d
  line_length zero = rw first (length-replicate d sgidle)
  line_length (suc t) = rw (next t, length-append, length-drop, line_length t) (omega arith)

  -- each byte moves on by one place a slot
  moves : (t i : ℕ) → suc i < d → get_or (line (suc t)) i sgidle ≡ get_or (line t) (suc i) sgidle
  moves t i h =
      let within : i < length (drop 1 (line t)) = rw (length-drop, line_length t) (omega arith) in
      let place : 1 + i ≡ suc i = omega arith in
      rw (next t) (get_or-append (drop 1 (line t)) _ sgidle i within ∙ get_or-drop 1 (line t) i sgidle ∙ ap (λ k. get_or (line t) k sgidle) place)

  moves_by : (m t i : ℕ) → i + m < d → get_or (line (t + m)) i sgidle ≡ get_or (line t) (i + m) sgidle
  moves_by zero t i h = rw (add-zero t, add-zero i)
  moves_by (suc m) t i h = rw (add-suc t m) (moves (t + m) i (omega arith) ∙ moves_by m t (suc i) (omega arith) ∙ rw (suc-add i m, add-suc i m))

  newest : (t : ℕ) → get_or (line (suc t)) (pred d) sgidle ≡ taken t
  newest t =
      let end : length (drop 1 (line t)) ≡ pred d = rw (length-drop, line_length t) (omega arith) in
      rw (next t) (get_or_at (drop 1 (line t)) (taken t) [] sgidle (pred d) end)

  pub arrives_early : (t : ℕ) → t < d → arriving (line t) ≡ sgidle
  arrives_early t h =
      let start : 0 + t ≡ t = omega arith in
      subst (λ u. arriving (line u) ≡ sgidle) start (moves_by t 0 0 (omega arith) ∙ rw (start, first) (get_or-replicate d t sgidle sgidle h))

  pub arrives_late : (t : ℕ) → arriving (line (t + d)) ≡ taken t
  arrives_late t =
      let slot : suc t + pred d ≡ t + d = omega arith in
      let place : 0 + pred d ≡ pred d = omega arith in
      subst (λ u. arriving (line u) ≡ taken t) slot (moves_by (pred d) (suc t) 0 (omega arith) ∙ rw place (newest t))
