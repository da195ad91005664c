-- The nibble of the next one due in a group, and what a byte of any other kind does. Assumes nothing.
use Rattle.std.specs.Prelude.{◌||◌, ℕ, Option, None}
use Rattle.std.specs.Bool.{then_some}
use Rattle.channel.specs.declared.kind.Kind.{Kind}
use Rattle.channel.specs.declared.kind.Kind.TheVariants.{Sgvi, Sgp, Sgr, Dl, Dh, Sd, Other}
use Rattle.protocol.specs.Collecting.{dl_due, dh_due, last_due, dropped, begun}
use Rattle.protocol.specs.declared.Hearing.{Hearing}

unfoldable pub due_nibble : ℕ → Kind → Option ℕ
due_nibble count (Dl x) = then_some (dl_due count) x
due_nibble count (Dh x) = then_some (dh_due count || last_due count) x
due_nibble count Sgvi = None
due_nibble count (Sgp k) = None
due_nibble count Sgr = None
due_nibble count (Sd s bk) = None
due_nibble count Other = None

-- a DL that drops a group begins another
unfoldable pub dropped_by : Hearing → ℕ → Kind → Hearing
dropped_by h item (Dl x) = begun h item x
dropped_by h item (Dh x) = dropped h item
dropped_by h item Sgvi = dropped h item
dropped_by h item (Sgp k) = dropped h item
dropped_by h item Sgr = dropped h item
dropped_by h item (Sd s bk) = dropped h item
dropped_by h item Other = dropped h item
