-- An end that concludes: the slot in which it leaves the exchange, and what stays of an open end. Assumes nothing.
use Rattle.std.specs.Prelude.{◌≡◌, ℕ, suc}
use Rattle.protocol.specs.Slot.{open_at}
use Rattle.protocol.specs.Call.{stands_at}
use Rattle.protocol.specs.declared.Line.{Line}
use Rattle.protocol.specs.declared.Endpoint.{Endpoint}
use Rattle.protocol.specs.declared.Drive.{Drive}
use Rattle.protocol.specs.declared.Outcome.TheVariants as outcome

-- before the slot the end stands in the exchange, and after it no more
pub record LeavesIn (e : Endpoint) (heard : ℕ → ℕ) (given : ℕ → Drive) (slot : ℕ) : Type 0 where
  pub before : stands_at e heard given slot ≡ outcome.Exchanging
  pub after : stands_at e heard given (suc slot) ≡ outcome.Exchanging → ⊥

-- the end after is the end e, open with the same slot, version and entry: only its line is another
pub record StaysOpen (e : Endpoint) (slot version entry : ℕ) (after : Endpoint) : Type 0 where
  pub line : Line
  pub same : after ≡ open_at e slot version entry line
