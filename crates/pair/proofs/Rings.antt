-- The ring takes the byte that is sent in place of the one that has arrived. Assumes nothing.
use mathlib.Core.Path.{◌≡◌, sym, ap, ◌∙◌}
use mathlib.Core.List.{List, [], ◌∷◌, ◌++◌, append-nil, append_assoc}
use Prim.Native.Nat.{ℕ, suc, ◌+◌, ◌≤◌, ◌<◌}
use native.Mathlib.Numerals.{add-one}
use native.Mathlib.Omega.{arith}
use lib.ListN.{length, get_or, take, drop, set, length-set, replicate}
use lib.Seq.{length-take-le, drop-cons, drop-length, get_or-take, take-suc-set, take-set-lt, drop-set-lt}
use Rattle.ground.proofs.Lists.{take-replicate}
use Rattle.pair.specs.Ring.{around}

module _ (d next : ℕ) (ring : List ℕ) (place : next < d) (room : d ≤ length ring) where
  front : drop next (take d ring) ≡ get_or ring next 0 ∷ drop (suc next) (take d ring)
  front =
      let l = length-take-le d ring room in
      drop-cons (take d ring) next 0 (omega arith) ∙ ap (λ b. b ∷ drop (suc next) (take d ring)) (get_or-take d ring next 0 place)

  moved : (x : ℕ) → drop 1 (around d next ring) ++ (x ∷ []) ≡ around d (suc next) (set ring next x)
  moved x =
      rw (front, take-suc-set ring next x (omega arith), take-set-lt d ring next x place, drop-set-lt (suc next) (take d ring) next x (omega arith))
      (append_assoc (drop (suc next) (take d ring)) (take next ring) (x ∷ []))

-- past the last place comes the first
full : (d : ℕ) (ring : List ℕ) → d ≤ length ring → around d d ring ≡ around d 0 ring
full d ring room =
    let none : drop d (take d ring) ≡ [] = rw (length-take-le d ring room) at (drop-length (take d ring)) in
    rw (none, append-nil)

-- once around, and a place on
pub turned_on : (d next : ℕ) (ring : List ℕ) → next < d → d ≤ length ring → (x : ℕ) → next + 1 < d
    → around d (next + 1) (set ring next x) ≡ drop 1 (around d next ring) ++ (x ∷ [])
turned_on d next ring place room x t = rw add-one (sym (moved d next ring place room x))

pub turned_back : (d next : ℕ) (ring : List ℕ) → next < d → d ≤ length ring → (x : ℕ) → d ≤ next + 1
    → around d 0 (set ring next x) ≡ drop 1 (around d next ring) ++ (x ∷ [])
turned_back d next ring place room x t =
    let l = length-set ring next x in
    let e : suc next ≡ d = omega arith in
    sym (rw e at (moved d next ring place room x) ∙ full d (set ring next x) (omega arith))

-- at the start the same byte is on its way in all places
pub idle_ring : (d x : ℕ) → d ≤ 255 → around d 0 (replicate 255 x) ≡ replicate d x
idle_ring d x short = rw (append-nil, take-replicate d 255 x short)
