-- What a book that passes the checks has, as the proofs here ask for it. Assumes nothing.
use mathlib.Core.Path.{◌≡◌}
use mathlib.Core.Bool.{true}
use Prim.Native.Nat.{ℕ, ◌<◌, ◌≤◌}
use native.Mathlib.Omega.{arith}
use Rattle.ground.proofs.Test.{either_way}
use Rattle.book.specs.declared.Book.{Book}
use Rattle.book.specs.Refusals.{least_limit}
use Rattle.book.specs.Kept.{book_ok}
use Rattle.book.proofs.Kept.{kept}
use Rattle.protocol.specs.Exchange.{calls_on_form8, identifier}

module _ (b : Book) (ok : book_ok b ≡ true) where
  pub limit_least : least_limit ≤ b.limit
  limit_least = (kept b ok).limit

  pub has_entry_lem : 0 < b.n
  has_entry_lem = (kept b ok).some

  pub identifier_most : identifier b < 4
  unfolding identifier
  identifier_most = either_way (λ (v : ℕ). v < 4) (calls_on_form8 b) (omega arith) (omega (arith, (kept b ok).mask_most))

  pub identifier_small : identifier b < 256
  identifier_small = omega (arith, identifier_most)
