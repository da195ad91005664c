-- What is appended piece by piece is appended whole, and a text that was empty holds the characters appended. Assumes nothing.
use mathlib.Core.Path.{◌≡◌, refl, ap, ap₂, sym, ◌∙◌}
use mathlib.Core.Bool.{Bool, true, false}
use mathlib.Core.List.{List, [], ◌∷◌, ◌++◌, append-nil, append_assoc}
use Prim.Native.Nat.{ℕ, suc, ◌+◌, ◌-◌, ◌≤◌, ◌<◌}
use native.Mathlib.Nat.{min-eq_left, min-eq_right}
use native.Mathlib.Omega.{arith}
use lib.Dec.{ltb}
use lib.ListN.{length, take, replicate, length-append}
use lib.Seq.{take-append-add, take-append-le, set-append_seam, append_snoc}
use borrow.Author.Tests.{lt-ltb, ltb-true, ltb-false}
use Rattle.ground.proofs.Lists.{take-replicate}
use Rattle.text.specs.declared.Text.{Text}
use Rattle.text.specs.Text.{room, text, pushed, appended}

pub appended_append : (t : Text) (xs ys : List ℕ) → appended (appended t xs) ys ≡ appended t (xs ++ ys)
unfolding appended
appended_append t [] ys = refl
appended_append t (x ∷ xs) ys = appended_append (pushed t x) xs ys

-- the text by its parts
text_with : List ℕ → ℕ → Text
text_with bytes n = record { bytes = bytes; length = n }

-- characters that fit, with zeros past them
fitting : (xs : List ℕ) (k : ℕ) → length xs + k ≡ room → text xs ≡ text_with (xs ++ replicate k 0) (length xs)
unfolding text text_with
fitting xs k e =
    let h : length xs ≤ room = omega arith in
    let k-fits : k ≤ room = omega arith in
    let b : take room (xs ++ replicate room 0) ≡ xs ++ replicate k 0 =
    ap (λ (m : ℕ). take m (xs ++ replicate room 0)) (sym e)
    ∙ take-append-add xs (replicate room 0) k
    ∙ ap (λ (l : List ℕ). xs ++ l) (take-replicate k room 0 k-fits) in
    ap₂ text_with b (min-eq_left h)

-- characters past the room leave no trace
past_room : (xs ys : List ℕ) → room ≤ length xs → text (xs ++ ys) ≡ text xs
unfolding text text_with
past_room xs ys h =
    let l : room ≤ length (xs ++ ys) = omega (arith, length-append xs ys) in
    let b : take room (xs ++ ys ++ replicate room 0) ≡ take room (xs ++ replicate room 0) =
    take-append-le room (xs ++ ys) (replicate room 0) l ∙ take-append-le room xs ys h ∙ sym (take-append-le room xs (replicate room 0) h) in
    ap₂ text_with b (min-eq_right l ∙ sym (min-eq_right h))

inside : (xs : List ℕ) (c k : ℕ) → length xs < room
    → pushed (text_with (xs ++ replicate (suc k) 0) (length xs)) c ≡ text_with (xs ++ (c ∷ replicate k 0)) (length xs + 1)
unfolding pushed text_with
inside xs c k h = rw (lt-ltb (length xs) room h, set-append_seam xs 0 (replicate k 0) c)

full : (xs : List ℕ) (c : ℕ) → room ≤ length xs → pushed (text xs) c ≡ text xs
unfolding pushed text
full xs c h = rw (min-eq_right h)

pushed_text : (xs : List ℕ) (c : ℕ) → pushed (text xs) c ≡ text (xs ++ (c ∷ []))
pushed_text xs c = by (ltb (length xs) room) refl
  where
    more : length (xs ++ (c ∷ [])) ≡ length xs + 1
    more = length-append xs (c ∷ [])

    by : (t : Bool) → ltb (length xs) room ≡ t → pushed (text xs) c ≡ text (xs ++ (c ∷ []))
    by true e =
        let lt : length xs < room = ltb-true (length xs) room e in
        let k : ℕ = room - (length xs + 1) in
        let ek : length xs + suc k ≡ room = omega arith in
        let el : length (xs ++ (c ∷ [])) + k ≡ room = omega (arith, more) in
        ap (λ (t : Text). pushed t c) (fitting xs (suc k) ek)
        ∙ inside xs c k lt
        ∙ ap₂ text_with (sym (append_snoc xs c (replicate k 0))) (sym more)
        ∙ sym (fitting (xs ++ (c ∷ [])) k el)
    by false e =
        let h : room ≤ length xs = ltb-false (length xs) room e in
        full xs c h ∙ sym (past_room xs (c ∷ []) h)

-- a text that was empty holds the characters appended, the first 64 of them
pub appended_text : (xs ys : List ℕ) → appended (text xs) ys ≡ text (xs ++ ys)
unfolding appended
appended_text xs [] = ap text (sym (append-nil xs))
appended_text xs (y ∷ ys) =
    ap (λ (t : Text). appended t ys) (pushed_text xs y)
    ∙ appended_text (xs ++ (y ∷ [])) ys
    ∙ ap text (append_assoc xs (y ∷ []) ys)

-- so does what is appended to a text of characters
pub text_then : (xs ys : List ℕ) {s r : Text} → s ≡ text xs → r ≡ appended s ys → r ≡ text (xs ++ ys)
text_then xs ys p q = q ∙ ap (λ (u : Text). appended u ys) p ∙ appended_text xs ys
