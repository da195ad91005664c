-- What a reading came to, by what the library answered. Assumes nothing.
use Prim.Native.Nat.{ℕ, ◌+◌, ◌-◌, ◌<◌, ◌≤◌}
use mathlib.Core.Path.{◌≡◌, refl, sym, ap, ◌∙◌, subst}
use mathlib.Core.List.{List, ◌++◌}
use native.Mathlib.Omega.{arith}
use lib.ListN.{length, take, drop}
use borrow.Rule.Slice.PartMut.{put_mid}
use Rattle.std.proofs.Math.Nat.{min-eq_left}
use Rattle.std.proofs.Math.Seq.{take-append-add}
use Rattle.std.proofs.lemmas.List.{take-append-le, length-take-le}
use Rattle.std.proofs.KnownBytes.{Consumes-trans}
use Rattle.std.specs.Prelude.{Option, Result, Ok, Err, IfOk}
use Rattle.std.specs.Io.{ReadsAtMost}
use Rattle.std.specs.Io.KnownBytes.{Consumes, IsAtEnd, ReadConsumes}
use Rattle.console.specs.declared.Failure.{Failure}
use Rattle.console.specs.Reading.{Within, came_of}

pub within : {E : Type 0} (read : Result ℕ E) (n : ℕ) → Within n (came_of read n)
unfolding came_of
within (Ok k) n = omega arith
within (Err e) n = refl

pub ends : {E : Type 0} (read : Result ℕ E) (buf : List ℕ) (old new : Option (List ℕ)) → ReadConsumes old new read buf
    → IfOk (came_of read (length buf)) (λ n. n ≡ 0 → 0 < length buf → IsAtEnd new)
unfolding came_of
ends (Ok k) buf old new consumes = λ none more. consumes.1 (omega arith) more
ends (Err e) buf old new consumes = tt

pub gives : {E : Type 0} (read : Result ℕ E) (buf : List ℕ) (old new : Option (List ℕ)) → ReadsAtMost read buf → ReadConsumes old new read buf
    → IfOk (came_of read (length buf)) (λ n. Consumes old new (take n buf))
unfolding came_of
gives (Ok k) buf old new most consumes =
    subst (λ (n : ℕ). Consumes old new (take n buf)) (sym (min-eq_left most.0)) consumes.0
gives (Err e) buf old new most consumes = tt

-- what came before, and then the n bytes that were read into the rest of the buffer
pub filled_on : (a b c : Option (List ℕ)) (buf part : List ℕ) (done n : ℕ) → done ≤ length buf → n ≤ length part
    → Consumes a b (take done buf) → Consumes b c (take n part)
    → Consumes a c (take (done + n) (put_mid done (length buf - done) buf part))
filled_on a b c buf part done n within fits before read =
    let front = take done buf in
    let rest = drop (length buf - done) (drop done buf) in
    let at : length front ≡ done = length-take-le done buf within in
    let both = ap (λ (k : ℕ). take (k + n) (front ++ (part ++ rest))) (sym at) ∙ take-append-add front (part ++ rest) n in
    let whole = both ∙ ap (λ (l : List ℕ). front ++ l) (take-append-le n part rest fits) in
    subst (Consumes a c) (sym whole) (Consumes-trans a b c front (take n part) before read)
