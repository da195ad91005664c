-- A slot of the exchange leaves an end with what the received byte made of the hearing, or concluded with the values. Assumes nothing.
use mathlib.Core.Path.{◌≡◌, refl}
use mathlib.Core.List.{List}
use Prim.Native.Nat.{ℕ, ◌+◌}
use lib.Dec.{ltb}
use Rattle.ground.proofs.Test.{by_test}
use Rattle.book.specs.declared.Book.{Book}
use Rattle.channel.specs.declared.kind.Kind.{Kind}
use Rattle.channel.specs.Kinds.{kind_of}
use Rattle.protocol.specs.Collecting.{no_nibbles, hear}
use Rattle.protocol.specs.Exchange.{acted, fate_heard, Turn, sends, turn_by, turn}
use Rattle.protocol.specs.Slot.{clocked, step_by, exchange_step}
use Rattle.protocol.specs.Votes.{awaited_by}
use Rattle.protocol.specs.declared.Awaited.{Awaited}
use Rattle.protocol.specs.declared.Awaited.TheVariants.{Nothing}
use Rattle.protocol.specs.declared.Hearing.{Hearing}
use Rattle.protocol.specs.declared.Exchange.{Exchange}
use Rattle.protocol.specs.declared.Fate.{Fate}
use Rattle.protocol.specs.declared.Fate.TheVariants.{Stays, OpensHearing, OpensSending, Refuses}
use Rattle.protocol.specs.declared.Endpoint.{Endpoint}
use Rattle.protocol.specs.declared.Drive.{Drive}

-- choosing and sending a byte changes nothing of the hearing
by_hearing : (b : Book) (y : Exchange) (f : Fate) → (turn_by b y f).exchange.hearing ≡ y.hearing
unfolding sends
by_hearing b y Stays = refl
by_hearing b y (OpensHearing i) = refl
by_hearing b y (OpensSending i) = refl
by_hearing b y (Refuses n) = refl

turn_hearing : (b : Book) (x : Exchange) (k : Kind) → (turn b x k).exchange.hearing ≡ hear b x.hearing k
unfolding turn acted
turn_hearing b x k = by_hearing b (acted b x k) (fate_heard b x (acted b x k))

module _ (P : Awaited → List ℕ → List ℕ → Type 0) (b : Book) (slot : ℕ) where
  -- what P says of an end's hearing
  abbrev Of : Endpoint → Type 0
  Of e = P (awaited_by e.phase) e.nibbles e.values

  module _ (h : Hearing) (p : P h.awaited h.nibbles h.values) (q : P Nothing no_nibbles h.values) where
    clocked_hears : (x : Exchange) → x.hearing ≡ h → Of (clocked b slot x)
    unfolding clocked
    clocked_hears x e = by_test Of (ltb (slot + 1) b.limit) (λ t. rw e p) (λ t. rw e q)

    by_hears : (t : Turn) (g : Drive) (f : Fate) → t.exchange.hearing ≡ h → Of (step_by b slot t g f).state
    by_hears t g Stays e = clocked_hears t.exchange e
    by_hears t g (OpensHearing i) e = rw e q
    by_hears t g (OpensSending i) e = rw e q
    by_hears t g (Refuses n) e = rw e q

  pub exchange_hears : (x : Exchange) (heard : ℕ) (g : Drive)
      → (let h = hear b x.hearing (kind_of heard) in P h.awaited h.nibbles h.values)
      → P Nothing no_nibbles (hear b x.hearing (kind_of heard)).values
      → (let e = (exchange_step b slot x heard g).state in P (awaited_by e.phase) e.nibbles e.values)
  unfolding exchange_step
  exchange_hears x heard g p q =
      let t = turn b x (kind_of heard) in by_hears (hear b x.hearing (kind_of heard)) p q t g t.fate (turn_hearing b x (kind_of heard))

pub exchange_values : (b : Book) (slot : ℕ) (x : Exchange) (heard : ℕ) (g : Drive)
    → (exchange_step b slot x heard g).state.values ≡ (hear b x.hearing (kind_of heard)).values
exchange_values b slot x heard g = exchange_hears (λ a n v. v ≡ (hear b x.hearing (kind_of heard)).values) b slot x heard g refl refl
