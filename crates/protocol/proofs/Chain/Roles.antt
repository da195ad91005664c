-- A book in each role, what it sends as its identifier, and the version that two such books share. Assumes nothing.
use mathlib.Core.Path.{◌≡◌, sym, ap, subst₂}
use Prim.Native.Nat.{ℕ}
use Rattle.book.specs.declared.Book.{Book}
use Rattle.book.specs.Book.{originating, answering, book_with}
use Rattle.protocol.specs.Exchange.{identifier}
use Rattle.protocol.specs.Pair.{shared_version}

-- the book with another role
abbrev in_role : ℕ → Book → Book
in_role role b = book_with role b.mask b.limit b.n b.entries

-- the originator's book, and the answerer's
abbrev pub as_o : Book → Book
as_o b = in_role originating b

abbrev pub as_a : Book → Book
as_a b = in_role answering b

abbrev pub id_o : Book → ℕ
id_o b = identifier (as_o b)

abbrev pub id_a : Book → ℕ
id_a b = identifier (as_a b)

abbrev pub common : Book → Book → ℕ
common bo ba = shared_version (as_o bo) (as_a ba)

-- a book of the role is the book itself
own_role : (role : ℕ) (b : Book) → b.role ≡ role → in_role role b ≡ b
own_role role b e = ap (λ r. in_role r b) (sym e)

-- what is shown of books in their roles holds of all that have them
pub by_roles : (P C : Book → Book → Type 0) → ((bo ba : Book) → P (as_o bo) (as_a ba) → C (as_o bo) (as_a ba))
    → (bo ba : Book) → bo.role ≡ originating → ba.role ≡ answering → P bo ba → C bo ba
by_roles P C f bo ba o a =
    subst₂ (λ x y. P x y → C x y) (own_role originating bo o) (own_role answering ba a) (f bo ba)
