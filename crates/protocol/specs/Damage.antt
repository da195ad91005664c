-- Allowed damage: what may arrive of what is sent, d slots later. Assumes nothing.
use Rattle.std.specs.Prelude.{◌≡◌, ℕ, ◌+◌, ◌*◌, ◌/◌, ◌%◌, ◌≤◌, ◌<◌}
use Rattle.channel.specs.Bytes.{sgidle}
use Rattle.channel.specs.Kinds.{nibble_in}
use Rattle.channel.specs.Forms.{unit_byte, ArrivesAs}
use Rattle.channel.specs.Vote.{as_sent}
use Rattle.channel.specs.declared.unit.Form.{Form}
use Rattle.protocol.specs.Sent.{Sent, Alone, Part, Unit, group_byte}

-- one of the three copies of a group that arrives from slot x on
abbrev pub copy_heard : (ℕ → ℕ) → ℕ → ℕ → ℕ
copy_heard heard x copy = nibble_in (heard (x + 2 * copy)) + 16 * nibble_in (heard (x + (2 * copy + 1)))

-- In each group sent, at every value bit at least two of the three copies arrive as sent. The bits B5 to B7, which make a DL or a DH,
-- arrive as sent; B8 may change.
pub record GroupArrives (value : ℕ) (heard : ℕ → ℕ) (x : ℕ) : Type 0 where
  pub marks : (place : ℕ) → place < 6 → heard (x + place) / 2 % 8 ≡ group_byte place value / 2 % 8
  pub copies : (i : ℕ) → i < 8
      → 2 ≤ as_sent i (copy_heard heard x 0) value + as_sent i (copy_heard heard x 1) value + as_sent i (copy_heard heard x 2) value

-- Before the first byte of the other end arrives, 7F arrives. B8 may change anywhere except in form 8 units. All else arrives as sent,
-- order kept.
pub record Arrives (d : ℕ) (sent : ℕ → Sent) (heard : ℕ → ℕ) : Type 0 where
  pub early : (t : ℕ) → t < d → heard t / 2 ≡ sgidle / 2
  pub alone : (t b : ℕ) → sent t ≡ Alone b → heard (t + d) / 2 ≡ b / 2
  pub units : (t : ℕ) (f : Form) (u : ℕ) → sent t ≡ Unit f u → ArrivesAs f (unit_byte f u) (heard (t + d))
  pub groups : (t value : ℕ) → ((place : ℕ) → place < 6 → sent (t + place) ≡ Part place value) → GroupArrives value heard (t + d)
