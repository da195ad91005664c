-- The texts of a book put into the buffer one after the other: a refusal, or the header and each entry. Assumes nothing.
use mathlib.Core.Path.{◌≡◌, sym, ap, ◌∙◌, subst}
use mathlib.Core.Bool.{true}
use mathlib.Core.List.{List, [], ◌∷◌, ◌++◌, append-nil}
use Prim.Native.Nat.{ℕ, ◌+◌, ◌^◌, ◌≤◌, ◌<◌, min}
use native.Mathlib.Numerals.{add-one}
use native.Mathlib.Omega.{arith}
use lib.Dec.{eqb}
use lib.ListN.{length, get_or, take, drop, length-append, drop_of_length-le}
use lib.Seq.{drop-cons, paste}
use Rattle.std.specs.Prelude.{Err}
use Rattle.ground.proofs.Test.{either_way}
use Rattle.book.specs.declared.Entry.{Entry}
use Rattle.book.specs.declared.Book.{Book}
use Rattle.book.specs.declared.Fault.{Fault}
use Rattle.book.specs.declared.BookRead.{BookRead}
use Rattle.book.specs.Book.{originating, no_entry}
use Rattle.book.specs.Refusals.{refusal_number, nothing_wrong}
use Rattle.book.specs.Reading.{number_of, offset_of, read_book}
use Rattle.book.specs.Kept.{book_ok}
use Rattle.book.proofs.Offending.{offset_short}
use Rattle.book.proofs.Reply.{read_offset}
use Rattle.book.proofs.RoundTrip.{number_passes}
use Rattle.text.specs.declared.Text.{Text}
use Rattle.text.specs.Ascii.{ascii}
use Rattle.text.specs.Output.{over, put_count}
use Rattle.text.specs.Text.{room, text, appended}
use Rattle.text.proofs.Filling.{SoFar, begin, go_on, finish_buffer, finish_count}
use Rattle.text.proofs.Joined.{appended_text}
use Rattle.text.proofs.Lengths.{decimal_most, parameters_length}
use Rattle.bookwords.specs.Words.{fault_named, fault_at, refused_line, role_named, versions_named, header_lines, width_named, entry_line, entry_lines, accepted_lines, says_of, book_says}

-- How long each text is.

Short : ℕ → List ℕ → Type 0
Short n xs = length xs ≤ n

pub at_most : (f : Fault) → length (fault_at f) ≤ 39
unfolding fault_at
at_most f = simp length-append (omega (arith, decimal_most (refusal_number f.refusal), decimal_most f.offset))

pub named_most : (number : ℕ) → length (fault_named number) ≤ 34
unfolding fault_named Short
named_most number =
    either_way (Short 34) (eqb number 1) (omega arith)
    (either_way (Short 34) (eqb number 2) (omega arith)
    (either_way (Short 34) (eqb number 3) (omega arith)
    (either_way (Short 34) (eqb number 4) (omega arith)
    (either_way (Short 34) (eqb number 5) (omega arith)
    (either_way (Short 34) (eqb number 6) (omega arith)
    (either_way (Short 34) (eqb number 7) (omega arith)
    (either_way (Short 34) (eqb number 8) (omega arith)
    (either_way (Short 34) (eqb number 9) (omega arith)
    (either_way (Short 34) (eqb number 10) (omega arith)
    (either_way (Short 34) (eqb number 11) (omega arith)
    (either_way (Short 34) (eqb number 17) (omega arith) (omega arith))))))))))))

role_most : (role : ℕ) → length (role_named role) ≤ 12
unfolding Short
role_most role = either_way (Short 12) (eqb role originating) (omega arith) (omega arith)

versions_most : (mask : ℕ) → length (versions_named mask) ≤ 13
unfolding Short
versions_most mask =
    either_way (Short 13) (eqb mask 1) (omega arith) (either_way (Short 13) (eqb mask 2) (omega arith) (omega arith))

pub header_most : (b : Book) → length (header_lines b) ≤ 46
unfolding header_lines
header_most b =
    simp length-append (omega (arith, role_most b.role, versions_most b.mask, decimal_most b.limit))

width_most : (e : Entry) → length (width_named e) ≤ 8
unfolding Short
width_most e = either_way (Short 8) (eqb e.form 0) (simp length-append (omega (arith, decimal_most e.w))) (omega arith)

pub entry_most : (i : ℕ) (e : Entry) → length (entry_line i e) ≤ 43
unfolding entry_line
entry_most i e =
    simp length-append (omega (arith, decimal_most i, parameters_length e, decimal_most e.form, width_most e))

-- A refusal: number and byte, then what is wrong.

pub named_line : (number : ℕ) {e n u : Text} → e ≡ text [] → n ≡ appended e (fault_named number) → u ≡ appended n (ascii "\n")
    → u ≡ text (fault_named number ++ ascii "\n")
named_line number ee en eu = simp (eu, en, ee, appended_text)

module _ (f : Fault) (out : List ℕ) {t : Text} (et : t ≡ text (fault_at f))
    {at : ℕ} (ea : at ≡ 0 + put_count t 0 out) {mid : List ℕ} (em : mid ≡ paste out 0 t.bytes (put_count t 0 out))
    {u : Text} (eu : u ≡ text (fault_named (refusal_number f.refusal) ++ ascii "\n"))
    {r : ℕ} (er : r ≡ at + put_count u at mid) {after : List ℕ} (ef : after ≡ paste mid at u.bytes (put_count u at mid)) where
  named : List ℕ
  named = fault_named (refusal_number f.refusal) ++ ascii "\n"

  all_put : SoFar (refused_line f) out [] after r
  unfolding refused_line named
  all_put =
      let fits : length named ≤ room = simp length-append (omega (arith, named_most (refusal_number f.refusal))) in
      let first = go_on (fault_at f) named (omega (arith, at_most f)) (begin (refused_line f) out) et ea em in
      go_on named [] fits (subst (λ (l : List ℕ). SoFar (refused_line f) out l mid at) (sym (append-nil named)) first) eu er ef

  pub refusal : (r ≡ min (length (refused_line f)) (length out)) × (after ≡ over (refused_line f) out)
  refusal = (finish_count all_put, finish_buffer all_put)

-- The entries of an accepted book, from i on: what was to be said when they began has come so far.

pub record Telling (es : List Entry) (out₀ : List ℕ) (at₀ i : ℕ) (out : List ℕ) (at : ℕ) : Type 0 where
  pub told : (whole first : List ℕ) → SoFar whole first (entry_lines 0 es) out₀ at₀ → SoFar whole first (entry_lines i (drop i es)) out at

module _ (es : List Entry) where
  pub start : (out : List ℕ) (at : ℕ) → Telling es out at 0 out at
  start out at = record { told = λ whole first f. f }

  module _ {out₀ : List ℕ} {at₀ i : ℕ} {out : List ℕ} {at : ℕ} (f : Telling es out₀ at₀ i out at) where
    -- the line of the entry at k, where k is i
    pub next : i < length es → {t : Text} {k : ℕ} → t ≡ text (entry_line k (get_or es i no_entry)) → k ≡ i
        → {r : ℕ} → r ≡ at + put_count t at out → {after : List ℕ} → after ≡ paste out at t.bytes (put_count t at out)
        → Telling es out₀ at₀ (i + 1) after r
    unfolding entry_lines
    next h et ek er ef =
        let e = get_or es i no_entry in
        let line = et ∙ ap (λ (j : ℕ). text (entry_line j e)) ek in
        let here : drop i es ≡ get_or es i no_entry ∷ drop (i + 1) es = rw (add-one, drop-cons es i no_entry h) in
        record {
          told =
              λ whole first g.
              go_on (entry_line i e) (entry_lines (i + 1) (drop (i + 1) es)) (omega (arith, entry_most i e))
              (subst (λ (xs : List Entry). SoFar whole first (entry_lines i xs) out at) here (f.told whole first g)) line er ef;
        }

    pub finish : length es ≤ i → (whole first : List ℕ) → SoFar whole first (entry_lines 0 es) out₀ at₀ → SoFar whole first [] out at
    unfolding entry_lines
    finish h whole first g =
        subst (λ (xs : List Entry). SoFar whole first (entry_lines i xs) out at) (drop_of_length-le es h) (f.told whole first g)

-- An accepted book: the header, then the entries.
module _ (b : Book) (out : List ℕ) {t : Text} (et : t ≡ text (header_lines b))
    {at₀ : ℕ} (ea : at₀ ≡ 0 + put_count t 0 out) {out₀ : List ℕ} (em : out₀ ≡ paste out 0 t.bytes (put_count t 0 out)) where
  header_put : SoFar (accepted_lines b) out (entry_lines 0 (take b.n b.entries)) out₀ at₀
  unfolding accepted_lines
  header_put =
      go_on (header_lines b) (entry_lines 0 (take b.n b.entries)) (omega (arith, header_most b)) (begin (accepted_lines b) out) et ea em

  pub accepted : {es : List Entry} → es ≡ take b.n b.entries → {i : ℕ} {after : List ℕ} {at : ℕ} → Telling es out₀ at₀ i after at → length es ≤ i
      → (at ≡ min (length (accepted_lines b)) (length out)) × (after ≡ over (accepted_lines b) out)
  accepted {es} e f h =
      let put = rw (← e) at header_put in
      let g = finish es f h (accepted_lines b) out put in
      (finish_count g, finish_buffer g)

-- What is told of the bytes s goes by the verdict on them.
module _ (s : List ℕ) {a : BookRead} (ea : a ≡ read_book s) where
  says : book_says s ≡ says_of a.book a.verdict
  unfolding book_says
  says = ap (λ (r : BookRead). says_of r.book r.verdict) (sym ea)

  module _ (v : a.verdict ≡ nothing_wrong) where
    pub kept_book : book_ok a.book ≡ true
    kept_book =
        let z : number_of (read_book s).verdict ≡ 0 = ap (λ (r : BookRead). number_of r.verdict) (sym ea) ∙ ap number_of v in
        rw ea (number_passes s z)

    pub says_accepted : book_says s ≡ accepted_lines a.book
    says_accepted = says ∙ ap (says_of a.book) v

  module _ (f : Fault) (v : a.verdict ≡ Err f) where
    pub offset_fits : f.offset < 2 ^ 16
    offset_fits = rw (sym (ap offset_of v) ∙ read_offset s a ea) (offset_short s)

    pub says_refused : book_says s ≡ refused_line f
    says_refused = says ∙ ap (says_of a.book) v
