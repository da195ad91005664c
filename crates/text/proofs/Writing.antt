-- What each function of a text leaves to prove, on plain values. Assumes nothing.
use mathlib.Core.Path.{◌≡◌, ap, ap₂, sym, ◌∙◌}
use mathlib.Core.List.{List, ◌++◌, append_assoc}
use Prim.Native.Nat.{ℕ, ◌+◌, ◌-◌, ◌/◌, ◌%◌, ◌≤◌, ◌<◌, min}
use native.Mathlib.Nat.{add-zero, min-zero}
use native.Mathlib.Numerals.{add-one}
use native.Mathlib.Omega.{arith}
use lib.ListN.{length, take, drop, get_or, drop_of_length-le}
use lib.Seq.{drop-cons, drop-drop, paste, paste-zero}
use borrow.Rule.Slice.PartMut.{put_mid}
use borrow.Author.Tests.{lt-ltb, le-ltb}
use Rattle.text.specs.declared.Text.{Text}
use Rattle.text.specs.Text.{room, pushed, appended}
use Rattle.text.specs.Numerals.{digit, place_of, decimal_of, hex_digit, hex_of}
use Rattle.text.specs.Output.{put_count}
use Rattle.text.proofs.Joined.{appended_append}

-- `t` is the text with the characters of w before i, appended to `first`
module _ (w : List ℕ) (i : ℕ) (first t : Text) (so_far : appended first w ≡ appended t (drop i w)) where
  pub word_next : {u : Text} → i < length w → u ≡ pushed t (get_or w i 0) → appended first w ≡ appended u (drop (i + 1) w)
  unfolding appended
  word_next h e = so_far ∙ rw (drop-cons w i 0 h, add-one i, e)

  pub word_end : length w ≤ i → t ≡ appended first w
  unfolding appended
  word_end h = sym (so_far ∙ rw (drop_of_length-le w h))

pub place_left_out : {n unit : ℕ} {t : Text} → n < unit → t ≡ appended t (place_of n unit)
unfolding appended
place_left_out h = simp (lt-ltb _ _ h)

pub place_written : (t : Text) {n unit x : ℕ} {r : Text} → unit ≤ n → x ≡ digit (n / unit % 10) → r ≡ pushed t x
    → r ≡ appended t (place_of n unit)
unfolding appended
place_written t h d e = simp (le-ltb _ _ h, e, d)

-- four places, and the last digit
pub all_places : (n : ℕ) (t : Text) {x : ℕ} {a b c d r : Text} → a ≡ appended t (place_of n 10000) → b ≡ appended a (place_of n 1000)
    → c ≡ appended b (place_of n 100) → d ≡ appended c (place_of n 10) → x ≡ digit (n % 10) → r ≡ pushed d x
    → r ≡ appended t (decimal_of n)
unfolding appended decimal_of
all_places n t ea eb ec ed ex er =
    simp (er, ed, ec, eb, ea, ex, ← appended_append)

pub two_digits : (b : ℕ) (t : Text) {x y : ℕ} {s r : Text} → x ≡ hex_digit (b / 16) → s ≡ pushed t x → y ≡ hex_digit (b % 16) → r ≡ pushed s y
    → r ≡ appended t (hex_of b)
unfolding appended hex_of
two_digits b t ex es ey er = simp (er, es, ex, ey)

-- from the end on nothing is put
module _ (t : Text) (at : ℕ) (out : List ℕ) (end : length out ≤ at) where
  none_put : put_count t at out ≡ 0
  unfolding put_count
  none_put =
      let z : length out - at ≡ 0 = omega arith in
      rw (z, min-zero)

  pub put_nothing : (at ≡ at + put_count t at out) × (out ≡ paste out at t.bytes (put_count t at out))
  put_nothing = rw none_put (sym (add-zero at), paste-zero out at t.bytes)

-- the count as the code finds it
pub put_counted : (t : Text) (at : ℕ) (out : List ℕ) {k n : ℕ} → k ≡ min t.length room → n ≡ min k (length out - at) → n ≡ put_count t at out
unfolding put_count
put_counted t at out ek en = en ∙ ap (λ (k : ℕ). min k (length out - at)) ek

-- n of the bytes, written to their part of the buffer
pub put_pasted : (bytes : List ℕ) (at : ℕ) (out ys : List ℕ) (n : ℕ) {m : ℕ} → ys ≡ take n bytes → n ≡ m
    → put_mid at (at + n - at) out ys ≡ paste out at bytes m
put_pasted bytes at out ys n e same =
    let k : at + n - at ≡ n = omega arith in
    let rest : drop (at + n - at) (drop at out) ≡ drop (at + n) out = rw k (drop-drop n at out) in
    ap₂ (λ (xs zs : List ℕ). take at out ++ (xs ++ zs)) e rest
    ∙ sym (append_assoc (take at out) (take n bytes) (drop (at + n) out))
    ∙ ap (paste out at bytes) same
