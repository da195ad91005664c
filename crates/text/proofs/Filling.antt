-- A buffer that is being filled: what is still to be said, after what stands in it. Assumes nothing.
use mathlib.Core.Path.{◌≡◌, refl, ap, sym, ◌∙◌, subst}
use mathlib.Core.List.{List, [], ◌∷◌, ◌++◌, append_assoc, append-nil}
use Prim.Native.Nat.{ℕ, suc, ◌+◌, ◌-◌, ◌≤◌, min}
use native.Mathlib.Nat.{add-zero, zero-add, add_assoc, sub-zero, suc-add, zero-min, min-zero, suc-min-suc, min-le_left, min-le_right, min-eq_left}
use native.Mathlib.Omega.{arith}
use lib.ListN.{length, take, drop, replicate, length-drop, take-append-drop}
use lib.Seq.{length-take-le, take-nil, take_all, drop-nil, take-take, take-append-le, take-append_seam, drop-drop, paste, length-paste, take-paste, drop-paste}
use Rattle.text.specs.declared.Text.{Text}
use Rattle.text.specs.Text.{room, text}
use Rattle.text.specs.Output.{over, put_count}

-- `whole` goes over out₀; out is out₀ with the part before `at` said, and `rest` is still to be said
pub record SoFar (whole out₀ rest out : List ℕ) (at : ℕ) : Type 0 where
  pub inside : at ≤ length out
  pub same : length out ≡ length out₀
  pub buffer : over whole out₀ ≡ take at out ++ over rest (drop at out)
  pub count : min (length whole) (length out₀) ≡ at + min (length rest) (length out - at)

pub begin : (whole out : List ℕ) → SoFar whole out whole out 0
begin whole out =
    record {
      inside = omega arith;
      same = refl;
      buffer = refl;
      count = rw (sub-zero, zero-add);
    }

-- xs goes first, as much of it as there is room for
over_append : (xs rest d : List ℕ)
    → over (xs ++ rest) d ≡ take (min (length xs) (length d)) xs ++ over rest (drop (min (length xs) (length d)) d)
over_append [] rest d = rw zero-min
over_append (x ∷ xs) rest [] = simp (min-zero, drop-nil)
over_append (x ∷ xs) rest (y ∷ d) = rw suc-min-suc (ap (λ (l : List ℕ). x ∷ l) (over_append xs rest d))

count-append : (xs rest d : List ℕ)
    → min (length (xs ++ rest)) (length d)
    ≡ min (length xs) (length d) + min (length rest) (length (drop (min (length xs) (length d)) d))
count-append [] rest d = rw (zero-min, zero-add)
count-append (x ∷ xs) rest [] = simp min-zero
count-append (x ∷ xs) rest (y ∷ d) = simp (suc-min-suc, suc-add) (ap suc (count-append xs rest d))

-- the characters xs, put at `at`
module _ {whole out₀ out : List ℕ} {at : ℕ} (xs rest : List ℕ) (f : SoFar whole out₀ (xs ++ rest) out at) (m : ℕ)
    (e : m ≡ min (length xs) (length (drop at out))) where
  filled : SoFar whole out₀ rest (paste out at xs m) (at + m)
  filled =
      let d : length (drop at out) ≡ length out - at = length-drop at out in
      let few : m ≤ length xs = omega (arith, min-le_left (length xs) (length (drop at out))) in
      let space : at + m ≤ length out = omega (arith, min-le_right (length xs) (length (drop at out)), f.inside) in
      let l : length (paste out at xs m) ≡ length out = length-paste out at xs m space few in
      let head : take (at + m) (paste out at xs m) ≡ take at out ++ take m xs = take-paste out at xs m f.inside few in
      let tail : drop (at + m) (paste out at xs m) ≡ drop (at + m) out = drop-paste out at xs m f.inside few in
      let left : length (drop m (drop at out)) ≡ length (paste out at xs m) - (at + m) =
      length-drop m (drop at out) ∙ omega arith in
      record {
        inside = omega arith;
        same = l ∙ f.same;
        buffer =
            f.buffer
            ∙ ap (λ (l : List ℕ). take at out ++ l) (over_append xs rest (drop at out))
            ∙ ap (λ (k : ℕ). take at out ++ (take k xs ++ over rest (drop k (drop at out)))) (sym e)
            ∙ sym (append_assoc (take at out) (take m xs) (over rest (drop m (drop at out))))
            ∙ ap (λ (l : List ℕ). take at out ++ take m xs ++ over rest l) (drop-drop m at out ∙ sym tail)
            ∙ ap (λ (l : List ℕ). l ++ over rest (drop (at + m) (paste out at xs m))) (sym head);
        count =
            f.count
            ∙ ap (λ (k : ℕ). at + min (length (xs ++ rest)) k) (sym d)
            ∙ ap (λ (k : ℕ). at + k) (count-append xs rest (drop at out))
            ∙ ap (λ (k : ℕ). at + (k + min (length rest) (length (drop k (drop at out))))) (sym e)
            ∙ sym (add_assoc at m (min (length rest) (length (drop m (drop at out)))))
            ∙ ap (λ (k : ℕ). at + m + min (length rest) k) left;
      }

-- of a text that has room for all of xs, as much of xs is put as there is room for
count_text : (xs out : List ℕ) (at : ℕ) → length xs ≤ room → put_count (text xs) at out ≡ min (length xs) (length out - at)
unfolding text put_count
count_text xs out at fits = rw (min-eq_left fits, min-eq_left fits)

-- the text of xs, which has room for all of it, put at `at` as the code does it
module _ {whole out₀ out : List ℕ} {at : ℕ} (xs rest : List ℕ) (fits : length xs ≤ room) (f : SoFar whole out₀ (xs ++ rest) out at)
    {t : Text} (is : t ≡ text xs) {next : ℕ} {after : List ℕ} (n : next ≡ at + put_count t at out)
    (a : after ≡ paste out at t.bytes (put_count t at out)) where
  pub go_on : SoFar whole out₀ rest after next
  unfolding text
  go_on =
      let m : ℕ = min (length xs) (length out - at) in
      let em : put_count t at out ≡ m = ap (λ (t : Text). put_count t at out) is ∙ count_text xs out at fits in
      let few : m ≤ length xs = min-le_left (length xs) (length out - at) in
      let same : take m t.bytes ≡ take m xs =
      ap (λ (t : Text). take m t.bytes) is
      ∙ take-take m room (xs ++ replicate room 0) (omega arith)
      ∙ take-append-le m xs (replicate room 0) few in
      let now : after ≡ paste out at xs m =
      a ∙ ap (paste out at t.bytes) em ∙ ap (λ (l : List ℕ). take at out ++ l ++ drop (at + m) out) same in
      subst (λ (l : List ℕ). SoFar whole out₀ rest l next) (sym now)
      (subst (λ (k : ℕ). SoFar whole out₀ rest (paste out at xs m) k) (sym (n ∙ ap (λ (k : ℕ). at + k) em))
      (filled xs rest f m (ap (min (length xs)) (sym (length-drop at out)))))

module _ {whole out₀ out : List ℕ} {at : ℕ} (f : SoFar whole out₀ [] out at) where
  pub finish_buffer : out ≡ over whole out₀
  finish_buffer = sym (f.buffer ∙ rw take-nil (take-append-drop at out))

  pub finish_count : at ≡ min (length whole) (length out₀)
  finish_count = sym (f.count ∙ rw (zero-min, add-zero))

-- a text is all that is said
pub said_alone : {whole : List ℕ} (xs out : List ℕ) → whole ≡ xs → length xs ≤ room → {t : Text} → t ≡ text xs
    → {r : ℕ} → r ≡ 0 + put_count t 0 out → {after : List ℕ} → after ≡ paste out 0 t.bytes (put_count t 0 out)
    → (r ≡ min (length whole) (length out)) × (after ≡ over whole out)
said_alone {whole} xs out e fits et er eb =
    let f = go_on xs [] fits (subst (λ (l : List ℕ). SoFar whole out l out 0) (e ∙ sym (append-nil xs)) (begin whole out)) et er eb in
    (finish_count f, finish_buffer f)

-- what is said is w
pub said_as : {whole w : List ℕ} (out : List ℕ) → whole ≡ w → {r : ℕ} → r ≡ min (length w) (length out) → {after : List ℕ} → after ≡ over w out
    → (r ≡ min (length whole) (length out)) × (after ≡ over whole out)
said_as out e er eb =
    (er ∙ ap (λ (l : List ℕ). min (length l) (length out)) (sym e), eb ∙ ap (λ (l : List ℕ). over l out) (sym e))

pub over_length : (xs out : List ℕ) → length (over xs out) ≡ length out
over_length [] [] = refl
over_length [] (y ∷ out) = refl
over_length (x ∷ xs) [] = refl
over_length (x ∷ xs) (y ∷ out) = ap suc (over_length xs out)

-- out is lent and xs is said: r is the reply, `after` the buffer
module _ (xs out : List ℕ) {r : ℕ} (er : r ≡ min (length xs) (length out)) {after : List ℕ} (ea : after ≡ over xs out) where
  -- the part of the buffer that was written is as long as the reply says
  pub written : r ≡ length (take r after)
  written =
      let l : length after ≡ length out = ap length ea ∙ over_length xs out in
      let h : r ≤ length after = omega (arith, min-le_right (length xs) (length out)) in
      sym (length-take-le r after h)

  -- and where there is room it is all that was to be said
  pub written_whole : length xs ≤ length out → take r after ≡ xs
  written_whole h =
      ap (λ (k : ℕ). take k after) (er ∙ min-eq_left h)
      ∙ ap (take (length xs)) (ea ∙ ap (λ (l : List ℕ). l ++ drop (length xs) out) (take_all (length out) xs h))
      ∙ take-append_seam xs (drop (length xs) out)
