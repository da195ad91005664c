-- The array of entries, loaded one by one. Assumes nothing.
use Prim.Native.Nat.{ℕ, zero, suc, ◌+◌, ◌-◌, ◌*◌, ◌/◌, ◌<◌, ◌≤◌}
use mathlib.Core.Path.{◌≡◌, refl, sym, ap, ◌∙◌}
use mathlib.Core.List.{List, [], ◌∷◌, ◌++◌, append_assoc}
use native.Mathlib.Omega.{arith}
use native.Mathlib.Numerals.{add-one}
use lib.ListN.{length, get_or, take, drop, replicate, set, length-append, length-drop}
use lib.Seq.{set_at, drop-drop}
use Rattle.std.specs.Simd.{first_chunks}
use Rattle.std.proofs.lemmas.List.{take_rest}
use Rattle.std.proofs.lemmas.Simd.{get_or-chunk}
use Rattle.book.specs.declared.Entry.{Entry}
use Rattle.book.specs.Book.{form_in, width_in, header_length, entry_length, most_entries, entry_start, entry_at, entries_of, no_entry, kept_entries}

pub entries_length : (version : ℕ) (s : List ℕ) (n : ℕ) → length (entries_of version s n) ≡ n
unfolding entries_of
entries_length version s zero = refl
entries_length version s (suc n) = rw (length-append, entries_length version s n) (add-one n)

-- chunk i of the first c
chunk_at : (m c i : ℕ) (xs : List ℕ) → i < c → get_or (first_chunks m c xs) i [] ≡ take m (drop (m * i) xs)
chunk_at m zero i xs h = absurd (omega arith)
chunk_at m (suc c) zero xs h = let z : m * 0 ≡ 0 = omega arith in rw z
chunk_at m (suc c) (suc i) xs h = let k : m * suc i ≡ m + m * i = omega arith in rw (chunk_at m c i (drop m xs) (omega arith), drop-drop, k)

-- the entry of a chunk
entry_in_chunk : (s : List ℕ) (k : ℕ) → entry_at (take entry_length (drop k s)) 0 ≡ entry_at s k
entry_in_chunk s k =
    let byte = λ (i : ℕ) (h : i < entry_length). get_or-chunk k entry_length s i 0 h in
    let z : k + 0 ≡ k = omega arith in
    rw (
      byte 0 (omega arith),
      byte 1 (omega arith),
      byte 2 (omega arith),
      byte 3 (omega arith),
      byte 4 (omega arith),
      byte form_in (omega arith),
      byte width_in (omega arith),
      z,
    )

-- what follows the header, and its chunks
abbrev rest : ℕ → List ℕ → List ℕ
rest version s = take (length s - header_length version) (drop (header_length version) s)

abbrev chunks : ℕ → List ℕ → List (List ℕ)
chunks version s = first_chunks entry_length (length (rest version s) / entry_length) (rest version s)

entry_of_chunk : (version : ℕ) (s : List ℕ) (i : ℕ) → entry_start version i + entry_length ≤ length s
    → entry_at (get_or (chunks version s) i []) 0 ≡ entry_at s (entry_start version i)
entry_of_chunk version s i h =
    let l : i < length (drop (header_length version) s) / entry_length = omega (arith, length-drop (header_length version) s) in
    rw (take_rest s (header_length version), chunk_at entry_length _ i _ l, drop-drop, entry_in_chunk)

pub kept_suc : (version : ℕ) (s : List ℕ) (e : Entry) (i : ℕ) → i < most_entries → entry_start version i + entry_length ≤ length s
    → e ≡ entry_at (get_or (chunks version s) i []) 0 → set (kept_entries version s i) i e ≡ kept_entries version s (suc i)
unfolding kept_entries entries_of
kept_suc version s e i lt h k =
    let d : most_entries - i ≡ suc (most_entries - suc i) = omega arith in
    ap (λ (m : ℕ). set (entries_of version s i ++ replicate m no_entry) i e) d
    ∙ set_at (entries_of version s i) no_entry (replicate (most_entries - suc i) no_entry) e i (entries_length version s i)
    ∙ ap (λ (x : Entry). entries_of version s i ++ x ∷ replicate (most_entries - suc i) no_entry) (k ∙ entry_of_chunk version s i h)
    ∙ sym (append_assoc (entries_of version s i) (entry_at s (entry_start version i) ∷ []) (replicate (most_entries - suc i) no_entry))
