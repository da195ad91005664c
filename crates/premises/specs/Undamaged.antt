-- The undamaged pair over time, and what each of its ends hears. Assumes nothing.
use Rattle.std.specs.Prelude.{ℕ, zero, suc}
use Rattle.protocol.specs.Joined.{Joined, arriving, joined, joined_slot}
use Rattle.protocol.specs.declared.Endpoint.{Endpoint}
use Rattle.protocol.specs.declared.Drive.{Drive}

module _ (o a : Endpoint) (d : ℕ) (go ga : ℕ → Drive) where
  -- the pair before slot t
  unfoldable pub joined_at : ℕ → Joined
  joined_at zero = joined o a d
  joined_at (suc t) = joined_slot (go t) (ga t) (joined_at t)

  -- the byte that arrives at the originator, and at the answerer, in slot t
  abbrev pub hears_o : ℕ → ℕ
  hears_o t = arriving (joined_at t).to_o

  abbrev pub hears_a : ℕ → ℕ
  hears_a t = arriving (joined_at t).to_a
