-- Single slots of the two ends while they hail each other. Assumes nothing.
use mathlib.Core.Path.{◌≡◌, refl}
use mathlib.Core.Bool.{Bool, true, false, cond}
use mathlib.Core.List.{List}
use Prim.Native.Nat.{ℕ, zero, suc, ◌+◌, ◌≤◌, ◌<◌, min}
use native.Mathlib.Omega.{arith}
use lib.Dec.{ltb}
use borrow.Author.Tests.{eqb-true}
use Rattle.book.specs.declared.Book.{Book}
use Rattle.channel.specs.declared.kind.Kind.{Kind}
use Rattle.channel.specs.declared.kind.Kind.TheVariants.{Sgvi}
use Rattle.channel.specs.Bytes.{sgvi, sdidle}
use Rattle.protocol.specs.Collecting.{of_run, hear, hear_at}
use Rattle.protocol.specs.Sent.{Alone, Part}
use Rattle.protocol.proofs.Computing.{moving}
use Rattle.protocol.specs.declared.Awaited.TheVariants.{Run, Group}
use Rattle.protocol.specs.declared.Hearing.{Hearing}
use Rattle.protocol.specs.declared.Exchange.{Exchange}
use Rattle.protocol.specs.declared.Sending.TheVariants.{Idle, Hail, Mask}
use Rattle.protocol.proofs.Chain.Segments.{Says}
use Rattle.protocol.proofs.Chain.Roles.{as_o, as_a, id_a}
use Rattle.protocol.proofs.Kept.GroupMoves.{any_way}
use Rattle.protocol.proofs.Chain.Core.{Core, Talks, core, heard_as, run_grows, run_breaks, talk, no_values}

-- an originator that waits, of whose run c bytes have come; an answerer that hails
abbrev pub wait_o : ℕ → Core
wait_o c = Talks (talk (Run 0 c) no_values 0 Idle)

abbrev pub hail_a : ℕ → ℕ → Core
hail_a m c = Talks (talk (Run 0 c) no_values 0 (Hail m))

-- an originator that sends Sgvi, so many gone; an answerer of whose identifier i + 1 bytes have gone, or all six
abbrev pub ask_o : ℕ → Core
ask_o m = Talks (talk (Group 0 0) no_values 0 (Hail m))

abbrev pub mask_a : ℕ → Core
mask_a i = Talks (talk (Group 0 0) no_values 0 (cond (ltb i 5) (Mask (suc i)) Idle))

-- an identifier's group in hand
abbrev pub group_o : ℕ → List ℕ → Hearing
group_o c nibbles = record { awaited = Group 0 c; nibbles = nibbles; values = no_values }

data InHand (n : ℕ) : Hearing → Type 0 where
  in_hand : (c : ℕ) (nibbles : List ℕ) → c ≤ n → InHand n (group_o c nibbles)

pub data AsksO (n : ℕ) (u : Core) : Type 0 where
  asks_o : (c : ℕ) (nibbles : List ℕ) → c ≤ n → u ≡ Talks (record { hearing = group_o c nibbles; version = 0; sending = Hail 16 }) → AsksO n u

-- n slots of an end that counts a run, whatever it hears: the count is at most n
pub data WaitsO (n : ℕ) (u : Core) : Type 0 where
  waits_o : (c : ℕ) → c ≤ n → u ≡ wait_o c → WaitsO n u

pub data HailsA (n : ℕ) (u : Core) : Type 0 where
  hails_a : (c m : ℕ) → c ≤ n → u ≡ hail_a m c → HailsA n u

module _ (b : Book) where
  -- one slot of a waiting originator
  pub wait_more : (c : ℕ) (k : Kind) → c + 1 < 16 → of_run 0 k ≡ true
      → core (as_o b) (wait_o c) k ≡ record { to = wait_o (c + 1); out = Says (Alone sdidle) }
  unfolding moving
  wait_more c k l e = run_grows (as_o b) 0 c no_values 0 Idle k e l

  pub wait_again : (c : ℕ) (k : Kind) → of_run 0 k ≡ false
      → core (as_o b) (wait_o c) k ≡ record { to = wait_o 0; out = Says (Alone sdidle) }
  unfolding moving
  wait_again c k e = run_breaks (as_o b) 0 c no_values 0 Idle k e

  -- one slot of a hailing answerer
  pub hail_more : (c m : ℕ) (k : Kind) → c + 1 < 16 → of_run 0 k ≡ true
      → core (as_a b) (hail_a m c) k ≡ record { to = hail_a (min (m + 1) 16) (c + 1); out = Says (Alone sgvi) }
  unfolding moving
  hail_more c m k l e = run_grows (as_a b) 0 c no_values 0 (Hail m) k e l

  pub hail_again : (c m : ℕ) (k : Kind) → of_run 0 k ≡ false
      → core (as_a b) (hail_a m c) k ≡ record { to = hail_a (min (m + 1) 16) 0; out = Says (Alone sgvi) }
  unfolding moving
  hail_again c m k e = run_breaks (as_a b) 0 c no_values 0 (Hail m) k e

  -- whatever is heard
  pub wait_rises : (i : ℕ) (u : Core) (k : Kind) → i < 15 → WaitsO i u
      → WaitsO (suc i) (core (as_o b) u k).to × ((core (as_o b) u k).out ≡ Says (Alone sdidle))
  wait_rises i u k h (waits_o c l e) = rw e (go (of_run 0 k) refl)
    where
      go : (f : Bool) → of_run 0 k ≡ f
          → WaitsO (suc i) (core (as_o b) (wait_o c) k).to × ((core (as_o b) (wait_o c) k).out ≡ Says (Alone sdidle))
      go true r = rw (wait_more c k (omega arith) r) (waits_o (c + 1) (omega arith) refl, refl)
      go false r = rw (wait_again c k r) (waits_o 0 (omega arith) refl, refl)

  pub hail_rises : (i : ℕ) (u : Core) (k : Kind) → i < 15 → HailsA i u
      → HailsA (suc i) (core (as_a b) u k).to × ((core (as_a b) u k).out ≡ Says (Alone sgvi))
  hail_rises i u k h (hails_a c m l e) = rw e (go (of_run 0 k) refl)
    where
      go : (f : Bool) → of_run 0 k ≡ f
          → HailsA (suc i) (core (as_a b) (hail_a m c) k).to × ((core (as_a b) (hail_a m c) k).out ≡ Says (Alone sgvi))
      go true r = rw (hail_more c m k (omega arith) r) (hails_a (c + 1) (min (m + 1) 16) (omega arith) refl, refl)
      go false r = rw (hail_again c m k r) (hails_a 0 (min (m + 1) 16) (omega arith) refl, refl)

  -- the sixteenth Sgvi: an originator begins to send Sgvi, an answerer its identifier
  pub wait_over : core (as_o b) (wait_o 15) Sgvi ≡ record { to = ask_o 1; out = Says (Alone sgvi) }
  unfolding moving
  wait_over = refl

  pub hail_over : (m : ℕ) → core (as_a b) (hail_a m 15) Sgvi ≡ record { to = mask_a 0; out = Says (Part 0 (id_a b)) }
  unfolding moving
  hail_over m = refl

  -- an originator that sends Sgvi and hears Sgvi
  pub ask_more : (m : ℕ) → core (as_o b) (ask_o m) Sgvi ≡ record { to = ask_o (min (m + 1) 16); out = Says (Alone sgvi) }
  unfolding moving
  ask_more m = refl

  -- an answerer that sends its identifier, or has sent it, and hears Sgvi
  pub mask_more : (i : ℕ) → i < 5 → core (as_a b) (mask_a i) Sgvi ≡ record { to = mask_a (suc i); out = Says (Part (suc i) (id_a b)) }
  unfolding moving
  mask_more zero h = refl
  mask_more (suc zero) h = refl
  mask_more (suc (suc zero)) h = refl
  mask_more (suc (suc (suc zero))) h = refl
  mask_more (suc (suc (suc (suc zero)))) h = refl
  mask_more (suc (suc (suc (suc (suc i))))) h = absurd (omega arith)

  pub idle_more : core (as_a b) (mask_a 5) Sgvi ≡ record { to = mask_a 5; out = Says (Alone sdidle) }
  unfolding moving
  idle_more = refl

  -- a group of an identifier in hand, whatever is heard: as long as fewer than six slots have passed it is not whole
  ask_hears : (i c : ℕ) (nibbles : List ℕ) (k : Kind) → i < 5 → c ≤ i → InHand (suc i) (hear (as_o b) (group_o c nibbles) k)
  unfolding hear_at
  ask_hears i c ns k h l =
      any_way (InHand (suc i)) (group_o c ns) 0 c k
      (record {
        low_grows = λ x e t. in_hand (c + 1) _ (omega arith);
        begins = λ x e. in_hand 1 _ (omega arith);
        high_grows = λ x e t. in_hand (c + 1) _ (omega arith);
        completes = λ x e t. absurd (omega (arith, eqb-true c 5 t));
        drops = in_hand 0 _ (omega arith);
      })

  pub ask_rises : (i : ℕ) (u : Core) (k : Kind) → i < 5 → AsksO i u
      → AsksO (suc i) (core (as_o b) u k).to × ((core (as_o b) u k).out ≡ Says (Alone sgvi))
  unfolding moving
  ask_rises i u k h (asks_o c ns l e) = rw e (go (hear (as_o b) (group_o c ns) k) refl (ask_hears i c ns k h l))
    where
      x : Exchange
      x = record { hearing = group_o c ns; version = 0; sending = Hail 16 }

      go : (g : Hearing) → hear (as_o b) (group_o c ns) k ≡ g → InHand (suc i) g
          → AsksO (suc i) (core (as_o b) (Talks x) k).to × ((core (as_o b) (Talks x) k).out ≡ Says (Alone sgvi))
      go g r (in_hand c2 ns2 l2) = rw (heard_as (as_o b) x k (group_o c2 ns2) r) (asks_o c2 ns2 l2 refl, refl)
