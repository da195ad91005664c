-- The slots that leads wait are exact, and so is the third of three slots: states from which they take as long. Each is computed.
-- Assumes nothing.
use Rattle.std.specs.Prelude.{Some, None}
use mathlib.Core.Path.{◌≡◌, refl}
use mathlib.Core.Bool.{Bool, true, false}
use mathlib.Core.List.{[], ◌∷◌, map}
use Prim.Native.Nat.{ℕ, ◌-◌}
use Rattle.channel.specs.declared.byte.Leads.{Leads}
use Rattle.channel.specs.declared.unit.Form.TheVariants.{Six}
use Rattle.protocol.specs.Opened.{drive_with, outbound_of, idle_leads, changed, writing}
use Rattle.protocol.specs.declared.Shape.{Shape}
use Rattle.protocol.specs.declared.Shape.TheVariants as shape
use Rattle.protocol.specs.declared.Claim.{Claim}
use Rattle.protocol.specs.declared.Claim.TheVariants.{Free, Second}
use Rattle.protocol.specs.declared.Outbound.{Outbound}
use Rattle.protocol.specs.declared.Drive.{Drive}
use Rattle.protocol.proofs.Computing.{moving}
use Rattle.protocol.proofs.Delivery.OpenRuns.{outs}
use Rattle.leads.specs.LeadsAhead.{asks, waits}

-- the leads that are given in every slot, with a unit offered
abbrev ready : Leads
ready = record { s0 = false; s1 = false; s2 = true; s3 = true }

abbrev offering : ℕ → Drive
offering n = drive_with ready false (Some 0x21)

-- a second Sd is due with the leads of Sdidle, which the last two Sd had; the one before the last had BK on or off
abbrev due : Claim
due = Second idle_leads

abbrev begun : Shape → Claim → Bool → ℕ → Outbound
begun s c bk n =
    outs s offering (outbound_of 16 None c (record { leads = idle_leads; bk = false }) (record { leads = idle_leads; bk = bk })) n

-- form 6, nobody having a claim: whether a slot asks, and whether it takes its unit
abbrev slot : ℕ → Bool × Bool
slot n =
    let o = begun (shape.Unit Six) Free false n in (asks (shape.Unit Six) o (offering n), (writing (shape.Unit Six) o (offering n)).taken)

-- one slot before, the leads are not out yet, and with it they are
pub record Exact : Type 0 where
  pub word_waits : changed ready (begun (shape.Word 8) due true (waits (shape.Word 8) - 1)) ≡ true
  pub word_out : changed ready (begun (shape.Word 8) due true (waits (shape.Word 8))) ≡ false
  pub unit_waits : changed ready (begun (shape.Unit Six) due false (waits (shape.Unit Six) - 1)) ≡ true
  pub unit_out : changed ready (begun (shape.Unit Six) due false (waits (shape.Unit Six))) ≡ false
  -- three slots that ask, of which the third alone takes its unit
  pub three : map slot (0 ∷ 1 ∷ 2 ∷ []) ≡ (true, false) ∷ (true, false) ∷ (true, true) ∷ []

pub exact : Exact
unfolding moving outs
exact = record { word_waits = refl; word_out = refl; unit_waits = refl; unit_out = refl; three = refl }
