-- An end keeps its book through a call. Assumes nothing.
use mathlib.Core.Path.{◌≡◌, refl, ◌∙◌}
use Prim.Native.Nat.{ℕ, zero, suc, ◌+◌}
use lib.Dec.{ltb}
use Rattle.ground.proofs.Test.{either_way}
use Rattle.book.specs.declared.Book.{Book}
use Rattle.channel.specs.Kinds.{kind_of}
use Rattle.protocol.specs.Exchange.{Turn, turn}
use Rattle.protocol.specs.Ranges.{well_formed}
use Rattle.protocol.specs.Slot.{exchange_of, started, clocked, step_by, exchange_step, open_step, step_at, offer_allowed, slot_of}
use Rattle.protocol.specs.Call.{end_at}
use Rattle.protocol.specs.declared.Exchange.{Exchange}
use Rattle.protocol.specs.declared.Fate.{Fate}
use Rattle.protocol.specs.declared.Fate.TheVariants.{Stays, OpensHearing, OpensSending, Refuses}
use Rattle.protocol.specs.declared.Phase.{Phase}
use Rattle.protocol.specs.declared.Phase.TheVariants.{Exchanging, Open, Refused}
use Rattle.protocol.specs.declared.Endpoint.{Endpoint}
use Rattle.protocol.specs.declared.Drive.{Drive}
use Rattle.protocol.specs.declared.SlotAnswer.{SlotAnswer}

clocked_book : (b : Book) (slot : ℕ) (x : Exchange) → (clocked b slot x).book ≡ b
unfolding clocked
clocked_book b slot x = either_way (λ (e : Endpoint). e.book ≡ b) (ltb (slot + 1) b.limit) refl refl

by_book : (b : Book) (slot : ℕ) (t : Turn) (g : Drive) (f : Fate) → (step_by b slot t g f).state.book ≡ b
by_book b slot t g Stays = clocked_book b slot t.exchange
by_book b slot t g (OpensHearing i) = refl
by_book b slot t g (OpensSending i) = refl
by_book b slot t g (Refuses n) = refl

pub step_book : (e : Endpoint) (heard : ℕ) (g : Drive) (p : Phase) → (step_at e heard g p).state.book ≡ e.book
unfolding started step_at exchange_step open_step
step_book e heard g (Exchanging slot version a s) =
    let t = turn e.book (exchange_of e version a s) (kind_of heard) in
    by_book e.book slot t g t.fate
step_book e heard g (Open slot version i line) = refl
step_book e heard g (Refused number slot) = refl

slot_book : (e : Endpoint) (heard : ℕ) (g : Drive) → (slot_of e heard g).state.book ≡ e.book
unfolding slot_of
slot_book e heard g =
    either_way (λ (r : SlotAnswer). r.state.book ≡ e.book) (well_formed e)
    (either_way (λ (r : SlotAnswer). r.state.book ≡ e.book) (offer_allowed e g e.phase) (step_book e heard g e.phase) refl) refl

pub book_stays : (b : Book) (heard : ℕ → ℕ) (given : ℕ → Drive) (t : ℕ) → (end_at (started b) heard given t).book ≡ b
unfolding end_at started
book_stays b heard given zero = refl
book_stays b heard given (suc t) = slot_book (end_at (started b) heard given t) _ _ ∙ book_stays b heard given t
