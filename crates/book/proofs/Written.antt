-- Entries as bytes and back. Assumes nothing.
use Prim.Native.Nat.{ℕ, zero, suc, ◌+◌, ◌*◌, ◌<◌, ◌≤◌}
use mathlib.Core.Path.{◌≡◌, refl, ap, ◌∙◌}
use mathlib.Core.List.{List, [], ◌∷◌, ◌++◌, append-nil}
use mathlib.Core.Logic.{⊎_elim}
use native.Mathlib.Omega.{arith}
use native.Mathlib.Nat.{add_assoc, not-suc-le-zero, le_of_suc-le-suc, eq-or-lt_of_le}
use native.Mathlib.Numerals.{towards_suc}
use lib.ListN.{length, get_or, take, drop, get_or-append}
use lib.Seq.{take-suc, drop-cons, take-add, drop-drop, get_or-append-add, get_or_at}
use Rattle.book.specs.declared.Entry.{Entry}
use Rattle.book.specs.Book.{header_length, entry_length, entry_start, entry_at, entries_of, no_entry}
use Rattle.book.specs.Written.{entry_bytes, entries_bytes}
use Rattle.book.proofs.Loading.{entries_length}

-- m bytes from k on, one by one
abbrev pub run : List ℕ → ℕ → ℕ → List ℕ
run s k zero = []
run s k (suc m) = get_or s k 0 ∷ run s (suc k) m

pub run_is : (s : List ℕ) (k m : ℕ) → k + m ≤ length s → run s k m ≡ take m (drop k s)
run_is s k zero h = refl
run_is s k (suc m) h =
    let l : k < length s = omega arith in
    let r = run_is s (suc k) m (omega arith) in
    rw (drop-cons s k 0, r)

-- the seven bytes at k are those of the entry at k
pub entry_run : (s : List ℕ) (k : ℕ) → k + entry_length ≤ length s → entry_bytes (entry_at s k) ≡ take entry_length (drop k s)
entry_run s k h = simp towards_suc (run_is s k entry_length h)

pub bytes_length : (es : List Entry) → length (entries_bytes es) ≡ entry_length * length es
unfolding entries_bytes
bytes_length [] = refl
bytes_length (e ∷ es) = omega (arith, bytes_length es)

pub bytes_append : (xs ys : List Entry) → entries_bytes (xs ++ ys) ≡ entries_bytes xs ++ entries_bytes ys
unfolding entries_bytes
bytes_append [] ys = refl
bytes_append (x ∷ xs) ys = ap (λ (l : List ℕ). entry_bytes x ++ l) (bytes_append xs ys)

-- the entries of s, written again
pub entries_run : (version : ℕ) (s : List ℕ) (n : ℕ) → entry_start version n ≤ length s
    → entries_bytes (entries_of version s n) ≡ take (entry_length * n) (drop (header_length version) s)
unfolding entries_of entries_bytes
entries_run version s zero h = refl
entries_run version s (suc n) h =
    let x : entry_length * suc n ≡ entry_length * n + entry_length = omega arith in
    let r = entries_run version s n (omega arith) in
    let e = entry_run s (entry_start version n) (omega arith) in
    rw (bytes_append, r, append-nil, e, x, take-add, drop-drop)

-- entry i of s
pub entry_kept : (version : ℕ) (s : List ℕ) (n i : ℕ) → i < n
    → get_or (entries_of version s n) i no_entry ≡ entry_at s (entry_start version i)
unfolding entries_of
entry_kept version s zero i h = absurd (not-suc-le-zero h)
entry_kept version s (suc n) i h =
    ⊎_elim
    (λ e. rw e (get_or_at (entries_of version s n) (entry_at s (entry_start version n)) [] no_entry n (entries_length version s n)))
    (λ l.
    let k : i < length (entries_of version s n) = rw (entries_length version s n) l in
    get_or-append (entries_of version s n) (entry_at s (entry_start version n) ∷ []) no_entry i k ∙ entry_kept version s n i l)
    (eq-or-lt_of_le (le_of_suc-le-suc h))

-- what stands before is passed over
skip : (h ys : List ℕ) (k : ℕ) → entry_at (h ++ ys) (length h + k) ≡ entry_at ys k
skip h ys k = simp (add_assoc, get_or-append-add)

written_at : (es : List Entry) (i : ℕ) → i < length es → entry_at (entries_bytes es) (entry_length * i) ≡ get_or es i no_entry
unfolding entries_bytes
written_at [] i h = absurd (not-suc-le-zero h)
written_at (e ∷ es) zero h = refl
written_at (e ∷ es) (suc i) h =
    let x : entry_length * suc i ≡ length (entry_bytes e) + entry_length * i = omega arith in
    rw x (skip (entry_bytes e) (entries_bytes es) (entry_length * i) ∙ written_at es i (le_of_suc-le-suc h))

-- written entries behind a header are read again
pub written_read : (version : ℕ) (h : List ℕ) (es : List Entry) (n : ℕ) → length h ≡ header_length version → n ≤ length es
    → entries_of version (h ++ entries_bytes es) n ≡ take n es
unfolding entries_of
written_read version h es zero l m = refl
written_read version h es (suc n) l m =
    let r = written_read version h es n l (omega arith) in
    let x : entry_start version n ≡ length h + entry_length * n = omega arith in
    rw (r, x, skip, written_at es n m, take-suc es n no_entry)
