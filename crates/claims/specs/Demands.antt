-- The three demands, each as one statement about the definitions. That the code is these definitions, for all inputs, is what its promises
-- say, and no public function has a `requires`: in `endpoint`, `start` is start_of of what the book reads as and `slot` is slot_of; in
-- `book`, `read_book` is read_book and `entry_part` entry_part; in `packing`, `pack` promises Packs and `unpack` Unpacks; in `channel`,
-- `ChannelByte::kind` is kind_of, and `encode`, `encode_word` and `decode` are encoded, encoded_word and decoded. Assumes nothing.
use Rattle.std.specs.Prelude.{◌≡◌, true, false, List, ℕ}
use Rattle.book.specs.declared.Book.{Book}
use Rattle.book.specs.Kept.{book_ok}
use Rattle.packing.specs.NumbersOfRefusal.{not_packed, Packs, Unpacks}
use Rattle.protocol.specs.Pair.{JoinedPair}
use Rattle.protocol.specs.Late.{Later, JoinedLate}
use Rattle.protocol.specs.declared.Endpoint.{Endpoint}
use Rattle.protocol.specs.declared.Drive.{Drive}
use Rattle.claims.specs.Books.{BookAnswered, BooksUndone}
use Rattle.claims.specs.Packing.{pack_numbers, unpack_numbers, Answers, PackingUndone}
use Rattle.claims.specs.Channel.{ChannelAnswered, UnitsUndone}
use Rattle.claims.specs.OneEnd.{AnswersAll, CallHolds}
use Rattle.claims.specs.JoinedPair.{JoinsAsPromised, OneOfThree, SlotsInNumbers}
use Rattle.claims.specs.LatePair.{JoinsLate, OneOfThreeLate, SlotsLate}

-- Every input has a defined reply. Any book, octet, channel byte and stored state: bad ones are refused under a fixed number, no caller has
-- to check first, and what is refused changes neither the call nor a lent buffer.
pub record Demand1 : Type 0 where
  pub books : (s : List ℕ) → BookAnswered s
  pub packing : (k : ℕ) (s out : List ℕ) (at : ℕ) → Answers pack_numbers out (Packs k s out at)
  pub unpacking : (k : ℕ) (us out : List ℕ) (at : ℕ) → Answers unpack_numbers out (Unpacks k us out at)
  pub bytes : ChannelAnswered
  pub slots : (e : Endpoint) (heard : ℕ) (g : Drive) → AnswersAll e heard g

-- Each slot, the unit sends, delivers and concludes exactly what the definitions say. Packing and unpacking undo each other. A new call
-- depends on its book and what that call is given, on nothing earlier.
pub record Demand2 : Type 0 where
  pub calls : (b : Book) → book_ok b ≡ true → (heard : ℕ → ℕ) (given : ℕ → Drive) → CallHolds b heard given
  -- in forms 6, 7 and 8
  pub packing : (k : ℕ) → not_packed k ≡ false → PackingUndone k
  pub units : UnitsUndone
  pub books : BooksUndone

-- Two ends joined by a channel open alike by a bound of slots on the highest shared version and the originator's profile and deliver each
-- unit taken once, in order, unchanged; or neither opens and both refuse with the same true reason. The premises are those of JoinedPair,
-- and no more; the slots are those of protocol's schedule, which are given in numbers beside them.
abbrev pub Demand3 : Type 0
Demand3 = (d : ℕ) (bo ba : Book) (go ga : ℕ → Drive) (ho ha : ℕ → ℕ) → JoinedPair d bo ba go ga ho ha
    → JoinsAsPromised d bo ba go ga ho ha × OneOfThree d bo ba go ga ho ha × SlotsInNumbers d bo ba

-- The same of two ends of which one starts e slots after the other, whichever it is, until then sending 7F and hearing nothing. The premises
-- are those of JoinedLate, and no more. At e = 0 it is demand 3.
abbrev pub Demand3Late : Type 0
Demand3Late = (d e : ℕ) (later : Later) (bo ba : Book) (go ga : ℕ → Drive) (ho ha : ℕ → ℕ) → JoinedLate d e later bo ba go ga ho ha
    → JoinsLate d e later bo ba go ga ho ha × OneOfThreeLate d e later bo ba go ga ho ha × SlotsLate d e later bo ba
