-- What a kept book that passes its check is sure of. Assumes nothing.
use Prim.Native.Nat.{ℕ, zero, suc, ◌<◌, ◌≤◌}
use mathlib.Core.Path.{◌≡◌, refl, sym, ◌∙◌}
use mathlib.Core.Bool.{Bool, true, false, not, ◌&&◌, ◌||◌, true≢false}
use mathlib.Core.List.{List, [], ◌∷◌, ◌++◌, append-nil, append_assoc}
use mathlib.Core.Logic.{◌⊎◌, inl, inr, ⊎_elim}
use native.Mathlib.Omega.{arith}
use native.Mathlib.Nat.{not-suc-le-zero, le_of_suc-le-suc}
use lib.ListN.{length, get_or, take, drop}
use lib.Seq.{length-take-le, get_or-take, take-take}
use lib.Dec.{eqb, ltb, leb}
use borrow.Author.Tests.{eqb-true, ne_eqb, leb-true, not-false, eqb-false}
use Rattle.std.specs.Prelude.{Ok, Err, is_ok}
use Rattle.ground.proofs.Test.{both_left, both_right}
use Rattle.book.specs.declared.Entry.{Entry}
use Rattle.book.specs.declared.Book.{Book}
use Rattle.book.specs.Book.{most_entries, entry_start, no_entry, version_of, params_of, same_params}
use Rattle.book.specs.declared.Refusal.TheVariants.{Form, WordLength, BarredForm, SameParameters}
use Rattle.book.specs.Refusals.{Verdict, nothing_wrong, least_limit, is_mask, wrong_count, is_form, is_width, is_barred, seen_in, entry_fault, each_fault, values_fault, entries_fault}
use Rattle.book.specs.Kept.{all_none, is_padded, book_ok}
use Rattle.book.proofs.NothingWrong.{neither, cond_fine, else_fine, valued}
use Rattle.book.proofs.Params.{equal_same}

-- one of its entries, with the book's mask
pub record KeptEntry (mask : ℕ) (e : Entry) : Type 0 where
  pub form : (e.form ≡ 0) ⊎ (e.form ≡ 6) ⊎ (e.form ≡ 7) ⊎ (e.form ≡ 8)
  pub word : e.form ≡ 0 → (5 ≤ e.w) × (e.w ≤ 8)
  pub no_word : (e.form ≡ 0 → ⊥) → e.w ≡ 0
  pub form_8 : e.form ≡ 8 → mask ≡ 1 → ⊥

pub record KeptBook (b : Book) : Type 0 where
  pub role : b.role ≤ 1
  pub mask_least : 1 ≤ b.mask
  pub mask_most : b.mask ≤ 3
  pub limit : least_limit ≤ b.limit
  pub some : 1 ≤ b.n
  pub few : b.n ≤ most_entries
  pub originating : b.role ≡ 0 → b.n ≡ 1
  pub room : length b.entries ≡ most_entries
  pub entry : (i : ℕ) → i < b.n → KeptEntry b.mask (get_or b.entries i no_entry)
  pub differ : (i j : ℕ) → i < j → j < b.n → params_of (get_or b.entries i no_entry) ≡ params_of (get_or b.entries j no_entry) → ⊥

each_at : (version mask : ℕ) (earlier es : List Entry) → each_fault version mask earlier es ≡ nothing_wrong → (i : ℕ) → i < length es
    → entry_fault mask (earlier ++ take i es) (entry_start version (length (earlier ++ take i es))) (get_or es i no_entry) ≡ nothing_wrong
unfolding each_fault
each_at version mask earlier [] h i l = absurd (not-suc-le-zero l)
each_at version mask earlier (e ∷ es) h zero l =
    rw append-nil (else_fine (entry_fault mask earlier (entry_start version (length earlier)) e) _ h).0
each_at version mask earlier (e ∷ es) h (suc i) l =
    let rest = (else_fine (entry_fault mask earlier (entry_start version (length earlier)) e) _ h).1 in
    let t = each_at version mask (earlier ++ (e ∷ [])) es rest i (le_of_suc-le-suc l) in
    rw append_assoc at t

not_seen : (earlier : List Entry) (e : Entry) → seen_in earlier e ≡ false → (i : ℕ) → i < length earlier → same_params (get_or earlier i no_entry) e ≡ false
unfolding seen_in
not_seen [] e h i l = absurd (not-suc-le-zero l)
not_seen (x ∷ xs) e h zero l = (neither (same_params x e) _ h).0
not_seen (x ∷ xs) e h (suc i) l = not_seen xs e (neither (same_params x e) _ h).1 i (le_of_suc-le-suc l)

or_true : (a b : Bool) → (a || b) ≡ true → (a ≡ true) ⊎ (b ≡ true)
or_true true b h = inl refl
or_true false b h = inr h

form_cases : (f : ℕ) → is_form f ≡ true → (f ≡ 0) ⊎ (f ≡ 6) ⊎ (f ≡ 7) ⊎ (f ≡ 8)
form_cases f h =
    ⊎_elim
    (λ p.
    ⊎_elim
    (λ q. ⊎_elim (λ r. inl (eqb-true f 0 r)) (λ r. inr (inl (eqb-true f 6 r))) (or_true (eqb f 0) (eqb f 6) q))
    (λ q. inr (inr (inl (eqb-true f 7 q))))
    (or_true (eqb f 0 || eqb f 6) (eqb f 7) p))
    (λ p. inr (inr (inr (eqb-true f 8 p))))
    (or_true (eqb f 0 || eqb f 6 || eqb f 7) (eqb f 8) h)

mask_bounds : (m : ℕ) → is_mask m ≡ true → (1 ≤ m) × (m ≤ 3)
mask_bounds m h =
    ⊎_elim
    (λ p. ⊎_elim (λ q. omega (arith, eqb-true m 1 q)) (λ q. omega (arith, eqb-true m 2 q)) (or_true (eqb m 1) (eqb m 2) p))
    (λ p. omega (arith, eqb-true m 3 p))
    (or_true (eqb m 1 || eqb m 2) (eqb m 3) h)

module _ (mask : ℕ) (earlier : List Entry) (start : ℕ) (e : Entry) (h : entry_fault mask earlier start e ≡ nothing_wrong) where
  pub record EntryFacts : Type 0 where
    pub form : is_form e.form ≡ true
    pub width : is_width e.form e.w ≡ true
    pub allowed : is_barred mask e.form ≡ false
    pub new : seen_in earlier e ≡ false

  entry_facts : EntryFacts
  unfolding entry_fault
  entry_facts =
      let x = cond_fine (not (is_form e.form)) Form _ _ h in
      let y = cond_fine (not (is_width e.form e.w)) WordLength _ _ x.1 in
      let z = cond_fine (is_barred mask e.form) BarredForm _ _ y.1 in
      let v = cond_fine (seen_in earlier e) SameParameters _ _ z.1 in
      record { form = not-false _ x.0; width = not-false _ y.0; allowed = z.0; new = v.0 }

  kept_entry : KeptEntry mask e
  kept_entry =
      let w = entry_facts.width in
      record {
        form = form_cases e.form entry_facts.form;
        word =
            λ (q : e.form ≡ 0).
            let v = rw q at w in
            (leb-true 5 e.w (both_left (leb 5 e.w) (leb e.w 8) v), leb-true e.w 8 (both_right (leb 5 e.w) (leb e.w 8) v));
        no_word = λ (q : e.form ≡ 0 → ⊥). eqb-true e.w 0 (rw (ne_eqb e.form 0 q) at w);
        form_8 = λ (q : e.form ≡ 8). eqb-false mask 1 (rw q at entry_facts.allowed);
      }

not_refused : (v : Verdict) → is_ok v ≡ true → v ≡ nothing_wrong
not_refused (Ok _) h = refl
not_refused (Err f) h = absurd (cc)

-- what the check tests
pub record Passed (b : Book) : Type 0 where
  pub values : values_fault b ≡ nothing_wrong
  pub entries : entries_fault (version_of b) b ≡ nothing_wrong
  pub room : length b.entries ≡ most_entries
  pub rest : all_none (drop b.n b.entries) ≡ true

pub passed : (b : Book) → book_ok b ≡ true → Passed b
unfolding book_ok is_padded
passed b h =
    let values : Bool = is_ok (values_fault b) in
    let entries : Bool = is_ok (entries_fault (version_of b) b) in
    let x = both_left (values && entries) _ h in
    let y = both_right (values && entries) _ h in
    record {
      values = not_refused _ (both_left values entries x);
      entries = not_refused _ (both_right values entries x);
      room = eqb-true _ _ (both_left (eqb (length b.entries) most_entries) _ y);
      rest = both_right (eqb (length b.entries) most_entries) _ y;
    }

count_facts : (b : Book) → wrong_count b.role b.n ≡ false → (1 ≤ b.n) × (b.role ≡ 0 → b.n ≡ 1)
count_facts b h =
    let x = neither (eqb b.n 0 || ltb most_entries b.n) (eqb b.role 0 && not (eqb b.n 1)) h in
    let y = eqb-false b.n 0 (neither (eqb b.n 0) (ltb most_entries b.n) x.0).0 in
    (omega arith, λ (q : b.role ≡ 0). eqb-true b.n 1 (not-false _ (rw q at x.1)))

module _ (b : Book) (p : Passed b) where
  few : b.n ≤ most_entries
  few = (valued b p.values).few

  -- entry i is fine against the entries before it
  fine_at : (i : ℕ) → i < b.n
      → entry_fault b.mask (take i b.entries) (entry_start (version_of b) (length (take i b.entries))) (get_or b.entries i no_entry) ≡ nothing_wrong
  unfolding entries_fault
  fine_at i l =
      let r = p.room in
      let m = few in
      let k : i < length (take b.n b.entries) = omega (arith, length-take-le b.n b.entries (omega arith)) in
      let j : i ≤ b.n = omega arith in
      rw (get_or-take, take-take) at (each_at (version_of b) b.mask [] (take b.n b.entries) p.entries i k)

  entries_differ : (i j : ℕ) → i < j → j < b.n → params_of (get_or b.entries i no_entry) ≡ params_of (get_or b.entries j no_entry) → ⊥
  entries_differ i j l m e =
      let r = p.room in
      let f = few in
      let k : i < length (take j b.entries) = omega (arith, length-take-le j b.entries (omega arith)) in
      let t = not_seen (take j b.entries) (get_or b.entries j no_entry) (entry_facts b.mask (take j b.entries) _ (get_or b.entries j no_entry) (fine_at j m)).new i k in
      let u : same_params (get_or b.entries i no_entry) (get_or b.entries j no_entry) ≡ false = rw get_or-take at t in
      true≢false (sym (equal_same (get_or b.entries i no_entry) (get_or b.entries j no_entry) e) ∙ u)

pub kept : (b : Book) → book_ok b ≡ true → KeptBook b
kept b h =
    let p = passed b h in
    let v = valued b p.values in
    let c = count_facts b v.count in
    let m = mask_bounds b.mask v.mask in
    record {
      role = v.role;
      mask_least = m.0;
      mask_most = m.1;
      limit = v.limit;
      some = c.0;
      few = v.few;
      originating = c.1;
      room = p.room;
      entry = λ i l. kept_entry b.mask (take i b.entries) _ (get_or b.entries i no_entry) (fine_at b p i l);
      differ = entries_differ b p;
    }
