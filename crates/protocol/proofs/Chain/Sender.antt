-- What an originator sends from its identifier on does not depend on what it hears. Assumes nothing.
use mathlib.Core.Path.{◌≡◌, refl}
use mathlib.Core.Bool.{true, false, cond, ◌&&◌}
use Prim.Native.Nat.{ℕ, zero, suc, ◌+◌, ◌<◌}
use native.Mathlib.Numerals.{add-one}
use native.Mathlib.Omega.{arith}
use lib.Dec.{ltb, leb, eqb}
use borrow.Author.Tests.{lt-ltb, le-ltb, lt-leb, le-leb}
use Rattle.ground.proofs.Test.{either_way}
use Rattle.book.specs.declared.Book.{Book}
use Rattle.book.specs.Book.{params_of}
use Rattle.channel.specs.declared.kind.Kind.{Kind}
use Rattle.protocol.specs.Lengths.{all_parameter_bytes}
use Rattle.protocol.specs.Collecting.{hear, has_identifier, has_all}
use Rattle.protocol.specs.Exchange.{Turn, entry_of, has_params, heard_params}
use Rattle.protocol.specs.Sent.{Part, parameter_sent}
use Rattle.protocol.specs.declared.Hearing.{Hearing}
use Rattle.protocol.specs.declared.Exchange.{Exchange}
use Rattle.protocol.specs.declared.Sending.{Sending}
use Rattle.protocol.specs.declared.Sending.TheVariants.{Mask, Parameters, Done}
use Rattle.protocol.specs.declared.Fate.{Fate}
use Rattle.protocol.specs.declared.Fate.TheVariants.{Refuses}
use Rattle.protocol.proofs.Kept.AwaitedMoves.{moves}
use Rattle.protocol.proofs.Chain.Segments.{Says}
use Rattle.protocol.proofs.Chain.Core.{Core, Talks, Over, core, core_by, turn_with, heard_as, Ended, ended, slots}
use Rattle.protocol.proofs.Chain.Roles.{as_o, id_o}

-- once the identifier is voted, it stays so
hear_beyond : (b : Book) (h : Hearing) (k : Kind) → has_identifier h.awaited ≡ true → has_identifier (hear b h k).awaited ≡ true
hear_beyond b h k e = (moves b h k).identifier_stays e

-- the version is settled as v, and s is to be sent
pub data SendsO (v : ℕ) (s : Sending) (u : Core) : Type 0 where
  sends_o : (h : Hearing) → has_identifier h.awaited ≡ true → u ≡ Talks (record { hearing = h; version = v; sending = s }) → SendsO v s u

abbrev pub settled : Hearing → ℕ → Sending → Exchange
settled h v s = record { hearing = h; version = v; sending = s }

-- i + 1 bytes of the identifier have gone
abbrev pub masks : ℕ → Sending
masks i = cond (ltb i 5) (Mask (suc i)) (Parameters 0)

module _ (b : Book) (v : ℕ) (h g : Hearing) (k : Kind) (e : has_identifier h.awaited ≡ true)
    (q : hear (as_o b) h k ≡ g) where
  pub mask_on : eqb v 0 ≡ false → (i : ℕ) → i < 5
      → core (as_o b) (Talks (settled h v (masks i))) k
      ≡ record { to = Talks (settled g v (masks (suc i))); out = Says (Part (suc i) (id_o b)) }
  unfolding slots
  mask_on z zero l = rw (heard_as (as_o b) (settled h v (Mask 1)) k g q) (rw (e, z))
  mask_on z (suc zero) l = rw (heard_as (as_o b) (settled h v (Mask 2)) k g q) (rw (e, z))
  mask_on z (suc (suc zero)) l = rw (heard_as (as_o b) (settled h v (Mask 3)) k g q) (rw (e, z))
  mask_on z (suc (suc (suc zero))) l = rw (heard_as (as_o b) (settled h v (Mask 4)) k g q) (rw (e, z))
  mask_on z (suc (suc (suc (suc zero)))) l = rw (heard_as (as_o b) (settled h v (Mask 5)) k g q) (rw (e, z))
  mask_on z (suc (suc (suc (suc (suc i))))) l = absurd (omega arith)

  -- where no version is shared the identifier sent is 00, and 21 is refused with its sixth byte
  lack_on : v ≡ 0 → (i : ℕ) → i < 4
      → core (as_o b) (Talks (settled h v (Mask (suc i)))) k
      ≡ record { to = Talks (settled g v (Mask (suc (suc i)))); out = Says (Part (suc i) 0) }
  unfolding slots
  lack_on z zero l = rw (heard_as (as_o b) (settled h v (Mask 1)) k g q) (rw (e, z))
  lack_on z (suc zero) l = rw (heard_as (as_o b) (settled h v (Mask 2)) k g q) (rw (e, z))
  lack_on z (suc (suc zero)) l = rw (heard_as (as_o b) (settled h v (Mask 3)) k g q) (rw (e, z))
  lack_on z (suc (suc (suc zero))) l = rw (heard_as (as_o b) (settled h v (Mask 4)) k g q) (rw (e, z))
  lack_on z (suc (suc (suc (suc i)))) l = absurd (omega arith)

  lack_last : v ≡ 0
      → core (as_o b) (Talks (settled h v (Mask 5))) k
      ≡ record { to = Over (Refuses 21) (settled g v (Parameters 0)); out = Says (Part 5 0) }
  unfolding slots
  lack_last z = rw (heard_as (as_o b) (settled h v (Mask 5)) k g q) (rw (e, z))

  -- a parameter byte, the last one left out
  pub parameter_on : (i : ℕ) → i + 1 < all_parameter_bytes (as_o b)
      → core (as_o b) (Talks (settled h v (Parameters i))) k
      ≡ record { to = Talks (settled g v (Parameters (i + 1))); out = Says (parameter_sent (as_o b) (params_of (entry_of (as_o b) 0)) i) }
  unfolding slots
  parameter_on i l =
      rw (heard_as (as_o b) (settled h v (Parameters i)) k g q)
      (rw (e, lt-leb (all_parameter_bytes (as_o b)) (i + 1) l, lt-ltb (i + 1) (all_parameter_bytes (as_o b)) l))

  -- the last one, where the other end's have not all come
  pub parameter_last : (i : ℕ) → i + 1 ≡ all_parameter_bytes (as_o b) → has_all g.awaited ≡ false
      → (core (as_o b) (Talks (settled h v (Parameters i))) k).to ≡ Talks (settled g v Done)
  unfolding slots
  parameter_last i l f =
      rw (heard_as (as_o b) (settled h v (Parameters i)) k g q)
      (rw (e, le-leb (all_parameter_bytes (as_o b)) (i + 1) (omega arith), le-ltb (i + 1) (all_parameter_bytes (as_o b)) (omega arith), f))

  -- and what any of them says
  parameter_said : (i : ℕ) → (core (as_o b) (Talks (settled h v (Parameters i))) k).out
      ≡ Says (parameter_sent (as_o b) (params_of (entry_of (as_o b) 0)) i)
  unfolding slots
  parameter_said i =
      let o = as_o b in
      let t : Turn = turn_with o (settled h v (Parameters i)) g in
      rw (heard_as o (settled h v (Parameters i)) k g q)
      (either_way (λ (f : Fate). (core_by t f).out ≡ Says (parameter_sent o (params_of (entry_of o 0)) i))
      (leb (all_parameter_bytes o) (i + 1) && has_all g.awaited)
      (either_way (λ (f : Fate). (core_by t f).out ≡ Says (parameter_sent o (params_of (entry_of o 0)) i)) (has_params (entry_of o 0) (heard_params g)) refl refl)
      refl)

-- The same, whatever is heard.
module _ (b : Book) (v : ℕ) where
  pub mask_sends : eqb v 0 ≡ false → (i : ℕ) (u : Core) (k : Kind) → i < 5 → SendsO v (masks i) u
      → SendsO v (masks (suc i)) (core (as_o b) u k).to × ((core (as_o b) u k).out ≡ Says (Part (suc i) (id_o b)))
  mask_sends z i u k l (sends_o h e r) =
      let g = hear (as_o b) h k in
      rw (r, mask_on b v h g k e refl z i l) (sends_o g (hear_beyond (as_o b) h k e) refl, refl)

  pub lack_sends : v ≡ 0 → (i : ℕ) (u : Core) (k : Kind) → i < 4 → SendsO v (Mask (suc i)) u
      → SendsO v (Mask (suc (suc i))) (core (as_o b) u k).to × ((core (as_o b) u k).out ≡ Says (Part (suc i) 0))
  lack_sends z i u k l (sends_o h e r) =
      let g = hear (as_o b) h k in
      rw (r, lack_on b v h g k e refl z i l) (sends_o g (hear_beyond (as_o b) h k e) refl, refl)

  pub parameter_sends : (i : ℕ) (u : Core) (k : Kind) → SendsO v (Parameters i) u
      → (suc i < all_parameter_bytes (as_o b) → SendsO v (Parameters (suc i)) (core (as_o b) u k).to)
      × ((core (as_o b) u k).out ≡ Says (parameter_sent (as_o b) (params_of (entry_of (as_o b) 0)) i))
  parameter_sends i u k (sends_o h e r) =
      let g = hear (as_o b) h k in
      rw r (
        λ l. rw (parameter_on b v h g k e refl i (omega arith), add-one i)
            (sends_o g (hear_beyond (as_o b) h k e) refl),
        parameter_said b v h g k e refl i,
      )

  pub lack_ends : v ≡ 0 → (u : Core) (k : Kind) → SendsO v (Mask 5) u
      → Ended (Refuses 21) (core (as_o b) u k).to × ((core (as_o b) u k).out ≡ Says (Part 5 0))
  lack_ends z u k (sends_o h e r) =
      let g = hear (as_o b) h k in
      rw (r, lack_last b v h g k e refl z) (ended (settled g v (Parameters 0)) refl, refl)
