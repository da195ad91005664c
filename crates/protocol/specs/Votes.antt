-- What a vote rests on: the six bytes received last, and no byte before them. Assumes nothing.
use Rattle.std.specs.Prelude.{◌≡◌, ℕ, suc, ◌+◌, ◌*◌, set}
use Rattle.channel.specs.declared.kind.Kind.TheVariants.{Dl, Dh}
use Rattle.channel.specs.Kinds.{nibble_in, kind_of}
use Rattle.channel.specs.Vote.{voted}
use Rattle.protocol.specs.Call.{end_at}
use Rattle.protocol.specs.declared.Awaited.{Awaited}
use Rattle.protocol.specs.declared.Awaited.TheVariants.{Group, Nothing}
use Rattle.protocol.specs.declared.Phase.{Phase}
use Rattle.protocol.specs.declared.Phase.TheVariants.{Exchanging, Open, Refused}
use Rattle.protocol.specs.declared.Endpoint.{Endpoint}
use Rattle.protocol.specs.declared.Drive.{Drive}

-- a received byte is a DL, a DH
abbrev pub IsDl : ℕ → Type 0
IsDl byte = kind_of byte ≡ Dl (nibble_in byte)

abbrev pub IsDh : ℕ → Type 0
IsDh byte = kind_of byte ≡ Dh (nibble_in byte)

-- the bytes received in slots t to t + 5 are a group: three DL DH pairs
pub record GroupFrom (heard : ℕ → ℕ) (t : ℕ) : Type 0 where
  pub low1 : IsDl (heard t)
  pub high1 : IsDh (heard (t + 1))
  pub low2 : IsDl (heard (t + 2))
  pub high2 : IsDh (heard (t + 3))
  pub low3 : IsDl (heard (t + 4))
  pub high3 : IsDh (heard (t + 5))

-- a copy is a DL's nibble and the one of the DH after it
abbrev pub copy_in : ℕ → ℕ → ℕ
copy_in low high = nibble_in low + 16 * nibble_in high

-- the majority of the three copies in the bytes received in slots t to t + 5
abbrev pub vote_from : (ℕ → ℕ) → ℕ → ℕ
vote_from heard t =
    voted (copy_in (heard t) (heard (t + 1))) (copy_in (heard (t + 2)) (heard (t + 3))) (copy_in (heard (t + 4)) (heard (t + 5)))

-- what an end awaits; nothing once it has concluded
abbrev pub awaited_by : Phase → Awaited
awaited_by (Exchanging slot version a s) = a
awaited_by (Open slot version i line) = Nothing
awaited_by (Refused number slot) = Nothing

-- slot u votes the item awaited: the six bytes received in the slots that end with u are a group, and the item's value becomes their vote
pub record Votes (e : Endpoint) (heard : ℕ → ℕ) (given : ℕ → Drive) (u item : ℕ) : Type 0 where
  pub awaited : awaited_by (end_at e heard given u).phase ≡ Group item 5
  pub first : ℕ
  pub last : first + 5 ≡ u
  pub group : GroupFrom heard first
  pub value : (end_at e heard given (suc u)).values ≡ set (end_at e heard given u).values item (vote_from heard first)
