-- What an end puts on the channel and what the other delivers and shows, slot by slot. Assumes nothing.
use Rattle.std.specs.Prelude.{Bool, cond, List, [], ◌∷◌, ◌++◌, ℕ, zero, suc, Option, Some, None}
use Rattle.channel.specs.declared.kind.Kind.{Kind}
use Rattle.channel.specs.declared.kind.Kind.TheVariants.{Sgvi, Sgp, Sgr, Dl, Dh, Sd, Other}
use Rattle.channel.specs.Kinds.{kind_of}
use Rattle.protocol.specs.Sent.{Sent, Silence, Alone, Part, Unit}
use Rattle.protocol.specs.Opened.{agreed_signals, idle_signals}
use Rattle.protocol.specs.Call.{sent_at, delivered_at, taken_at}
use Rattle.protocol.specs.declared.Shape.{Shape}
use Rattle.protocol.specs.declared.Shape.TheVariants as shape
use Rattle.protocol.specs.declared.Signals.{Signals}
use Rattle.protocol.specs.declared.Drive.{Drive}
use Rattle.protocol.specs.declared.Endpoint.{Endpoint}

abbrev pub offered : Option ℕ → List ℕ
offered None = []
offered (Some u) = u ∷ []

-- a unit that goes though none was taken
abbrev pub fill : Sent → List ℕ
fill Silence = []
fill (Alone b) = []
fill (Part place value) = []
fill (Unit f u) = u ∷ []

-- the unit taken, or the fill
abbrev pub carried : Bool → Option ℕ → Sent → List ℕ
carried taken o sent = cond taken (offered o) (fill sent)

abbrev pub units_out : Option ℕ → List ℕ
units_out None = []
units_out (Some u) = u ∷ []

-- all units that a call carried, and delivered, in the slots before t
unfoldable pub carried_before : Endpoint → (ℕ → ℕ) → (ℕ → Drive) → ℕ → List ℕ
carried_before e heard given zero = []
carried_before e heard given (suc t) =
    carried_before e heard given t ++ carried (taken_at e heard given t) (given t).offer (sent_at e heard given t)

unfoldable pub delivered_before : Endpoint → (ℕ → ℕ) → (ℕ → Drive) → ℕ → List ℕ
delivered_before e heard given zero = []
delivered_before e heard given (suc t) = delivered_before e heard given t ++ units_out (delivered_at e heard given t)

-- a word is two bytes, so it takes a slot more to arrive
abbrev pub lag : Shape → ℕ
lag (shape.Word w) = 1
lag (shape.Unit f) = 0

-- the signals that the rule gives over the Sd sent: the last of them and the one before it, and what stands
pub record Shown : Type 0 where
  pub last : Signals
  pub before : Signals
  pub standing : Signals

abbrev pub shown_kind : Kind → Shown → Shown
shown_kind (Sd s bk) h =
    let now : Signals = record { leads = s; bk = bk } in
    record { last = now; before = h.last; standing = agreed_signals h.last now h.standing }
shown_kind Sgvi h = h
shown_kind (Sgp k) h = h
shown_kind Sgr h = h
shown_kind (Dl x) h = h
shown_kind (Dh x) h = h
shown_kind Other h = h

abbrev pub shown_next : Sent → Shown → Shown
shown_next Silence h = h
shown_next (Alone b) h = shown_kind (kind_of b) h
shown_next (Part place value) h = h
shown_next (Unit f u) h = h

-- over the n slots from slot x on, starting as if two Sdidle had come
unfoldable pub shown_after : (ℕ → Sent) → ℕ → Shown
shown_after sent zero = record { last = idle_signals; before = idle_signals; standing = idle_signals }
shown_after sent (suc n) = shown_next (sent n) (shown_after sent n)
