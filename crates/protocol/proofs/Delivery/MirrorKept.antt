-- What one slot keeps of the mirror: the signals that the receiving half shows, and the units that are on their way. Assumes nothing.
use Rattle.std.specs.Prelude.{Option}
use mathlib.Core.Path.{◌≡◌, refl, sym, ◌∙◌, subst}
use mathlib.Core.Bool.{Bool}
use mathlib.Core.List.{List, ◌++◌}
use Prim.Native.Nat.{ℕ, ◌/◌}
use Rattle.channel.specs.declared.byte.Leads.{Leads}
use Rattle.channel.specs.declared.kind.Kind.TheVariants.{Sd}
use Rattle.channel.specs.Bytes.{sd_byte}
use Rattle.channel.specs.Kinds.{kind_of}
use Rattle.channel.specs.Forms.{unit_byte, ArrivesAs}
use Rattle.channel.proofs.ReadBack.{b8_ignored, sd_read}
use Rattle.protocol.specs.Sent.{Sent, Silence, Alone, Part, Unit}
use Rattle.protocol.specs.Opened.{Reading, Writing, reads, reads_sd}
use Rattle.protocol.specs.Carried.{carried, units_out, Shown, shown_next}
use Rattle.protocol.specs.declared.Outbound.{Outbound}
use Rattle.protocol.specs.declared.Inbound.{Inbound}

-- what of one byte sent may arrive
abbrev pub ArrivesOne : Sent → ℕ → Type 0
ArrivesOne Silence heard = Prim.Unit {0}
ArrivesOne (Alone b) heard = heard / 2 ≡ b / 2
ArrivesOne (Part place value) heard = Prim.Unit {0}
ArrivesOne (Unit f u) heard = ArrivesAs f (unit_byte f u) heard

-- the signals received are those that the rule gives over what was sent
pub record Signalled (h : Shown) (i : Inbound) : Type 0 where
  pub last : i.last ≡ h.last
  pub standing : i.standing ≡ h.standing

-- an Sd is read as what it carries, whatever B8
pub heard_sd : (l : Leads) (b : Bool) (heard : ℕ) → heard / 2 ≡ sd_byte l b / 2 → kind_of heard ≡ Sd l b
heard_sd l b heard e = b8_ignored heard (sd_byte l b) e ∙ sd_read l b

pub signalled_sd : {h : Shown} {i : Inbound} → Signalled h i → (l : Leads) (b : Bool) → Signalled (shown_next (Alone (sd_byte l b)) h) (reads_sd i l b).inbound
signalled_sd {h} {i} q l b = rw (sd_read l b) (record { last = refl; standing = rw (q.last, q.standing) })

-- a byte that is no Sd leaves them
pub signalled_on : {h : Shown} {i : Inbound} → Signalled h i → (half : Option ℕ) (pair : ℕ) (d : Option ℕ) → Signalled h (reads i half pair d).inbound
signalled_on q half pair d = record { last = q.last; standing = q.standing }

-- what a slot gives: the mirror is kept, and what was pending and is carried is what is delivered and is pending now
pub record Kept (M : Outbound → Inbound → Shown → List ℕ → Type 0) (out : List ℕ → List ℕ → List ℕ) (h : Shown) (pending : List ℕ) (w : Writing) (r : Reading) (o : Option ℕ)
    : Type 0 where
  pub now : List ℕ
  pub mirror : M w.outbound r.inbound (shown_next w.sent h) now
  pub units : pending ++ carried w.taken o w.sent ≡ units_out r.delivered ++ now
  pub delivers : units_out r.delivered ≡ out pending (carried w.taken o w.sent)

-- a slot delivers what was pending, in form 0, or what it carries, in every other
abbrev pub late : List ℕ → List ℕ → List ℕ
late pending now = pending

abbrev pub at_once : List ℕ → List ℕ → List ℕ
at_once pending now = now

-- a slot whose writing is known
pub kept_as : {M : Outbound → Inbound → Shown → List ℕ → Type 0} {out : List ℕ → List ℕ → List ℕ} {h : Shown} {pending : List ℕ} {w x : Writing} {r : Reading} {o : Option ℕ} (heard : ℕ) → w ≡ x
    → ArrivesOne w.sent heard → (ArrivesOne x.sent heard → Kept M out h pending x r o) → Kept M out h pending w r o
kept_as {M} {out} {h} {pending} {r = r} {o} heard e a f =
    subst (λ w. Kept M out h pending w r o) (sym e) (f (subst (λ w. ArrivesOne w.sent heard) e a))
