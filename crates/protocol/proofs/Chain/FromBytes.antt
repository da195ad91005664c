-- What the allowed damage leaves of bytes, as kinds: a byte alone is read as what it is, and a group by its vote. Assumes nothing.
use mathlib.Core.Path.{◌≡◌, refl, ◌∙◌, subst, sym, ap, fun_ext}
use mathlib.Core.Bool.{true}
use Prim.Native.Nat.{ℕ, ◌+◌, ◌-◌, ◌%◌, ◌≤◌, ◌<◌}
use native.Mathlib.Nat.{add-zero, sub-zero}
use native.Mathlib.Omega.{arith}
use lib.Dec.{lit<}
use Rattle.book.specs.declared.Book.{Book}
use Rattle.channel.specs.Bytes.{sgidle}
use Rattle.channel.specs.Kinds.{kind_of, nibble_in}
use Rattle.channel.specs.declared.kind.Kind.TheVariants.{Dl, Dh}
use Rattle.channel.proofs.ReadBack.{b8_ignored, marks_dl, marks_dh, dl_marked, dh_marked}
use Rattle.channel.proofs.TwoOfThree.{two_of_three}
use Rattle.protocol.specs.Collecting.{value_of}
use Rattle.protocol.specs.Sent.{Sent, Alone, Part}
use Rattle.protocol.specs.Ranges.{well_formed}
use Rattle.protocol.specs.Slot.{started}
use Rattle.protocol.specs.Call.{sent_at}
use Rattle.protocol.specs.Damage.{copy_heard, GroupArrives, Arrives}
use Rattle.protocol.specs.Late.{starting}
use Rattle.protocol.specs.declared.Drive.{Drive}
use Rattle.protocol.proofs.Chain.Segments.{Says}
use Rattle.protocol.proofs.Chain.Link.{Link, GroupHeard}
use Rattle.protocol.proofs.Chain.Timed.{said_at, end, timed_said}
use Rattle.protocol.proofs.Chain.OwnSlots.{once_started, starting_none}

module _ (heard : ℕ → ℕ) (v x : ℕ) (small : v < 256) (a : GroupArrives v heard x) where
  low : (place : ℕ) → place < 6 → place % 2 ≡ 0 → kind_of (heard (x + place)) ≡ Dl (nibble_in (heard (x + place)))
  low place l e = marks_dl (heard (x + place)) (a.marks place l ∙ rw e (dl_marked v small))

  high : (place : ℕ) → place < 6 → place % 2 ≡ 1 → kind_of (heard (x + place)) ≡ Dh (nibble_in (heard (x + place)))
  high place l e = marks_dh (heard (x + place)) (a.marks place l ∙ rw e (dh_marked v small))

  pub group_heard : GroupHeard v (λ t. kind_of (heard t)) x
  unfolding value_of
  group_heard =
      record {
        l0 = nibble_in (heard (x + 0));
        h0 = nibble_in (heard (x + 1));
        l1 = nibble_in (heard (x + 2));
        h1 = nibble_in (heard (x + 3));
        l2 = nibble_in (heard (x + 4));
        h2 = nibble_in (heard (x + 5));
        at0 = subst (λ t. kind_of (heard t) ≡ Dl (nibble_in (heard (x + 0)))) (add-zero x) (low 0 (lit< tt) refl);
        at1 = high 1 (lit< tt) refl;
        at2 = low 2 (lit< tt) refl;
        at3 = high 3 (lit< tt) refl;
        at4 = low 4 (lit< tt) refl;
        at5 = high 5 (lit< tt) refl;
        votes = two_of_three (copy_heard heard x 0) (copy_heard heard x 1) (copy_heard heard x 2) v small a.copies;
      }

-- What an end that starts in slot s sends in its exchange arrives at the other.
module _ (s : ℕ) (b : Book) (heard : ℕ → ℕ) (given : ℕ → Drive) (kept : (t : ℕ) → well_formed (end b heard given t) ≡ true)
    (d n : ℕ) (within : n ≤ s + b.limit) (other : ℕ → ℕ)
    (a : Arrives d (starting s (Alone sgidle) (sent_at (started b) heard given)) other) where
  sends : (t : ℕ) (q : Sent) → s ≤ t → t < n → said_at b heard given (t - s) ≡ Says q
      → starting s (Alone sgidle) (sent_at (started b) heard given) t ≡ q
  sends t q l h e =
      once_started s (Alone sgidle) (sent_at (started b) heard given) t l ∙ timed_said b heard given kept (t - s) (omega arith) q e

  pub link_late : Link s n d (λ t. said_at b heard given (t - s)) (λ t. kind_of (other t))
  link_late =
      record {
        alone = λ t c l h e. b8_ignored (other (t + d)) c (a.alone t c (sends t (Alone c) l h e));
        group =
            λ t v l h small e.
            group_heard other v (t + d) small (a.groups t v (λ j hj. sends (t + j) (Part j v) (omega arith) (omega arith) (e j hj)));
      }

-- And of an end that starts in slot 0.
module _ (b : Book) (heard : ℕ → ℕ) (given : ℕ → Drive) (kept : (t : ℕ) → well_formed (end b heard given t) ≡ true)
    (d n : ℕ) (within : n ≤ b.limit) (other : ℕ → ℕ) (a : Arrives d (sent_at (started b) heard given) other) where
  pub link : Link 0 n d (said_at b heard given) (λ t. kind_of (other t))
  link =
      subst (λ said. Link 0 n d said (λ t. kind_of (other t))) (fun_ext (λ t. ap (said_at b heard given) (sub-zero t)))
      (link_late 0 b heard given kept d n (omega (arith, within)) other
      (subst (λ sent. Arrives d sent other) (sym (starting_none (Alone sgidle) (sent_at (started b) heard given))) a))
