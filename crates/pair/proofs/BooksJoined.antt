-- Each way through joining two books. Assumes nothing.
use mathlib.Core.Path.{◌≡◌, sym, ap, ap₂, ◌∙◌}
use mathlib.Core.Bool.{Bool, true, false}
use mathlib.Core.List.{List}
use Prim.Native.Nat.{ℕ, ◌<◌, max}
use native.Mathlib.Omega.{arith}
use borrow.Author.Tests.{ne_eqb}
use Rattle.std.specs.Prelude.{Ok, Err}
use Rattle.book.specs.declared.Fault.{Fault}
use Rattle.book.specs.Book.{book_of}
use Rattle.book.specs.Refusals.{nothing_wrong, book_fault}
use Rattle.book.specs.Reading.{yields, read_book}
use Rattle.book.proofs.Reply.{read_verdict}
use Rattle.protocol.specs.Slot.{started, start_of}
use Rattle.protocol.specs.Joined.{joined}
use Rattle.protocol.specs.declared.Endpoint.{Endpoint}
use Rattle.protocol.specs.declared.Start.{Start}
use Rattle.pair.specs.Running.{ran_for}
use Rattle.pair.specs.Join.{right_roles, concluded_of, join_of}
use Rattle.pair.specs.declared.join.Concluded.{Concluded}
use Rattle.pair.specs.declared.join.NotJoined.TheVariants.{WrongRole}

-- what starts from the bytes of a book
module _ (s : List ℕ) {x : Start} (e : x ≡ start_of (read_book s)) where
  verdict : x.verdict ≡ book_fault s
  unfolding start_of
  verdict = ap (λ (x : Start). x.verdict) e ∙ read_verdict s

  pub starts : x.verdict ≡ nothing_wrong → (book_fault s ≡ nothing_wrong) × (x.state ≡ started (book_of s))
  unfolding start_of read_book
  starts ok =
      let fine : book_fault s ≡ nothing_wrong = sym verdict ∙ ok in
      (fine, ap (λ (x : Start). x.state) e ∙ ap (λ v. started (yields v (book_of s)).book) fine)

  pub is_refused : {f : Fault} → x.verdict ≡ Err f → book_fault s ≡ Err f
  is_refused bad = sym verdict ∙ bad

-- two books that start
module _ (o a : List ℕ) (d : ℕ) (delay : 0 < d) {x y : Endpoint} {r : Bool} (fine-o : (book_fault o ≡ nothing_wrong) × (x ≡ started (book_of o)))
    (fine-a : (book_fault a ≡ nothing_wrong) × (y ≡ started (book_of a))) (e : r ≡ right_roles x.book y.book) where
  roles : right_roles (book_of o) (book_of a) ≡ r
  unfolding started
  roles = sym (e ∙ ap₂ (λ (v w : Endpoint). right_roles v.book w.book) fine-o.1 fine-a.1)

  pub wrong_role : r ≡ false → Err WrongRole ≡ join_of o a d
  unfolding join_of
  wrong_role f = rw (ne_eqb d 0 (λ z. omega arith), fine-o.0, fine-a.0, roles, f)

  pub both_run : r ≡ true → {j : Concluded} → j ≡ concluded_of (ran_for (max x.book.limit y.book.limit) (joined x y d)) → Ok j ≡ join_of o a d
  unfolding join_of started
  both_run t q =
      rw (ne_eqb d 0 (λ z. omega arith), fine-o.0, fine-a.0, roles, t)
      (ap Ok (q ∙ ap₂ (λ (v w : Endpoint). concluded_of (ran_for (max v.book.limit w.book.limit) (joined v w d))) fine-o.1 fine-a.1))
