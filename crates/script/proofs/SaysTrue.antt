-- What a script says is what the call of demand 2 does. Assumes nothing.
use mathlib.Core.Path.{◌≡◌, refl, sym, ap, ◌∙◌}
use mathlib.Core.Bool.{Bool, true, false, true≢false}
use mathlib.Core.List.{List, [], ◌∷◌, ◌++◌, append_assoc, append-nil}
use Prim.Native.Nat.{ℕ, zero, suc, ◌+◌, ◌*◌, ◌/◌, ◌≤◌}
use native.Mathlib.Numerals.{add-one}
use native.Mathlib.Omega.{arith}
use lib.ListN.{length, drop, drop_of_length-le}
use Rattle.book.specs.declared.Book.{Book}
use Rattle.book.specs.Kept.{book_ok}
use Rattle.book.proofs.RoundTrip.{read_passes}
use Rattle.protocol.specs.Ranges.{well_formed}
use Rattle.protocol.specs.Slot.{started, start_of, offer_allowed, slot_of}
use Rattle.protocol.specs.Call.{end_at, stands_at}
use Rattle.protocol.specs.declared.Endpoint.{Endpoint}
use Rattle.protocol.specs.declared.Drive.{Drive}
use Rattle.protocol.specs.declared.SlotAnswer.{SlotAnswer}
use Rattle.protocol.proofs.Calls.SlotPasses.{reply_passes, slot_refused}
use Rattle.protocol.proofs.Kept.StateKept.{call_kept}
use Rattle.script.specs.Input.{is_stray, book_in, slots_in, slots_fault}
use Rattle.script.specs.Line.{line_of}
use Rattle.script.specs.Output.{line_by, lines_from, script_says}
use Rattle.script.specs.SaysTrue.{heard_in, given_in, replies_in, lines_of, SaysTrue}
use Rattle.script.proofs.Saying.{fine}
use Rattle.script.proofs.Slots.{three, or_right}

-- slots without fault are whole
whole : (xs : List ℕ) → slots_fault xs ≡ false → 3 * (length xs / 3) ≡ length xs
unfolding slots_fault
whole [] e = refl
whole (x ∷ []) e = absurd (true≢false e)
whole (x ∷ y ∷ []) e = absurd (true≢false e)
whole (x ∷ y ∷ z ∷ xs) e = let r = whole xs (or_right (is_stray y) (slots_fault xs) e) in omega arith

module _ (b : Book) (ok : book_ok b ≡ true) (xs : List ℕ) where
  abbrev heard : ℕ → ℕ
  heard = heard_in xs

  abbrev given : ℕ → Drive
  given = given_in xs

  abbrev end : ℕ → Endpoint
  end t = end_at (started b) heard given t

  abbrev answer : ℕ → SlotAnswer
  answer t = slot_of (end t) (heard t) (given t)

  next : (t : ℕ) → end (suc t) ≡ (answer t).state
  unfolding end_at
  next t = refl

  -- a slot's answer is what the call replies in it
  reply_is : (t : ℕ) → (answer t).reply ≡ replies_in (started b) heard given t
  unfolding end_at
  reply_is t = by (offer_allowed (end t) (given t) (end t).phase) refl
    where
      kept : well_formed (end t) ≡ true
      kept = call_kept b ok heard given t

      by : (allowed : Bool) → offer_allowed (end t) (given t) (end t).phase ≡ allowed → (answer t).reply ≡ replies_in (started b) heard given t
      by true o = rw o (reply_passes (end t) (heard t) (given t) kept o)
      by false o = rw o (ap (λ (a : SlotAnswer). a.reply) (slot_refused (end t) (heard t) (given t) kept o))

  line_is : (t : ℕ) → line_by t (answer t) ≡ line_of t (stands_at (started b) heard given (suc t)) (replies_in (started b) heard given t)
  line_is t = rw (reply_is t, next t) refl

  -- the lines from slot t on begin with that slot's
  first_line : (t : ℕ) (e : Endpoint) → 3 * t + 3 ≤ length xs
      → lines_from t e (drop (3 * t) xs) ≡ line_by t (slot_of e (heard t) (given t)) ++ lines_from (t + 1) (slot_of e (heard t) (given t)).state (drop (3 * t + 3) xs)
  unfolding lines_from
  first_line t e l = rw (three xs (3 * t) l) refl

  one_line : (t : ℕ) → 3 * suc t ≤ length xs → lines_from t (end t) (drop (3 * t) xs) ≡ line_by t (answer t) ++ lines_from (suc t) (end (suc t)) (drop (3 * suc t) xs)
  unfolding end_at
  one_line t l =
      let z : 3 * t + 3 ≡ 3 * suc t = omega arith in
      first_line t (end t) (omega arith)
      ∙ ap (λ n. line_by t (answer t) ++ lines_from n (end (suc t)) (drop (3 * t + 3) xs)) (add-one t)
      ∙ ap (λ n. line_by t (answer t) ++ lines_from (suc t) (end (suc t)) (drop n xs)) z

  so_far : (t : ℕ) → 3 * t ≤ length xs → lines_from 0 (started b) xs ≡ lines_of (started b) heard given t ++ lines_from t (end t) (drop (3 * t) xs)
  unfolding lines_of end_at
  so_far zero l = refl
  so_far (suc t) l =
      so_far t (omega arith)
      ∙ ap (λ (r : List ℕ). lines_of (started b) heard given t ++ r) (one_line t l ∙ rw (line_is t) refl)
      ∙ sym (append_assoc (lines_of (started b) heard given t) _ _)

  all_lines : slots_fault xs ≡ false → lines_from 0 (started b) xs ≡ lines_of (started b) heard given (length xs / 3)
  unfolding lines_from
  all_lines f =
      let past : length xs ≤ 3 * (length xs / 3) = omega (arith, whole xs f) in
      so_far (length xs / 3) (omega (arith, whole xs f))
      ∙ rw (drop_of_length-le xs past, append-nil) refl

pub says_true : SaysTrue
unfolding script_says start_of
says_true s b f r = rw (f, r) (all_lines b (read_passes (book_in s) b r) (slots_in s) (fine s f).slots)
