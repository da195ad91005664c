-- Collecting: what is awaited, and what a received byte does to it. Assumes nothing.
use Rattle.std.specs.Prelude.{Bool, false, cond, ◌||◌, List, ℕ, ◌+◌, ◌*◌, eqb, ltb, get_or, set, replicate}
use Rattle.book.specs.declared.Book.{Book}
use Rattle.channel.specs.declared.kind.Kind.{Kind}
use Rattle.channel.specs.declared.kind.Kind.TheVariants.{Sgvi, Sgp, Sgr, Dl, Dh, Sd, Other}
use Rattle.channel.specs.Vote.{voted}
use Rattle.protocol.specs.Lengths.{run_length, group_length}
use Rattle.protocol.specs.declared.Awaited.{Awaited}
use Rattle.protocol.specs.declared.Awaited.TheVariants.{Run, Group, Nothing}
use Rattle.protocol.specs.declared.Hearing.{Hearing}

-- no group is in hand
abbrev pub no_nibbles : List ℕ
no_nibbles = replicate group_length 0

-- a byte of the run for an item: Sgvi for the identifier, Sgpk for parameter k
unfoldable pub of_run : ℕ → Kind → Bool
of_run item Sgvi = eqb item 0
of_run item (Sgp k) = eqb item (k + 1)
of_run item Sgr = false
of_run item (Dl x) = false
of_run item (Dh x) = false
of_run item (Sd s bk) = false
of_run item Other = false

-- the next one due in a group of which so many bytes are in hand
abbrev pub dl_due : ℕ → Bool
dl_due count = eqb count 0 || eqb count 2 || eqb count 4

abbrev pub dh_due : ℕ → Bool
dh_due count = eqb count 1 || eqb count 3

-- the sixth byte completes the group
abbrev pub last_due : ℕ → Bool
last_due count = eqb count 5

-- one of the three copies
abbrev pub copy_at : List ℕ → ℕ → ℕ
copy_at nibbles place = get_or nibbles place 0 + 16 * get_or nibbles (place + 1) 0

-- the value is the majority of the three copies bit by bit
unfoldable pub value_of : List ℕ → ℕ
value_of nibbles = voted (copy_at nibbles 0) (copy_at nibbles 2) (copy_at nibbles 4)

abbrev pub awaiting : Hearing → Awaited → List ℕ → Hearing
awaiting h awaited nibbles = record { awaited = awaited; nibbles = nibbles; values = h.values }

-- a byte that is not awaited makes a run or a group begin anew
abbrev pub dropped : Hearing → ℕ → Hearing
dropped h item = awaiting h (Group item 0) no_nibbles

-- a DL that drops a group begins another
abbrev pub begun : Hearing → ℕ → ℕ → Hearing
begun h item x = awaiting h (Group item 1) (set no_nibbles 0 x)

abbrev pub grown : Hearing → ℕ → ℕ → ℕ → Hearing
grown h item count x = awaiting h (Group item (count + 1)) (set h.nibbles count x)

-- only one thing is awaited at a time: the identifier, then p0 to p4, then nothing
abbrev pub next_after : ℕ → Awaited
next_after item = cond (ltb item 5) (Run (item + 1) 0) Nothing

abbrev pub completed : Hearing → ℕ → ℕ → Hearing
completed h item x =
    record {
      awaited = next_after item;
      nibbles = no_nibbles;
      values = set h.values item (value_of (set h.nibbles 5 x));
    }

-- the run counts; once it has come it need not come again
unfoldable pub in_run : Book → Hearing → ℕ → ℕ → Kind → Hearing
in_run b h item count k =
    awaiting h
    (cond (of_run item k) (cond (ltb (count + 1) (run_length b item)) (Run item (count + 1)) (Group item 0)) (Run item 0))
    no_nibbles

-- a byte of any other kind than the next one due drops the group
unfoldable pub in_group : Hearing → ℕ → ℕ → Kind → Hearing
in_group h item count (Dl x) = cond (dl_due count) (grown h item count x) (begun h item x)
in_group h item count (Dh x) = cond (dh_due count) (grown h item count x) (cond (last_due count) (completed h item x) (dropped h item))
in_group h item count Sgvi = dropped h item
in_group h item count (Sgp k) = dropped h item
in_group h item count Sgr = dropped h item
in_group h item count (Sd s bk) = dropped h item
in_group h item count Other = dropped h item

unfoldable pub hear_at : Book → Hearing → Kind → Awaited → Hearing
hear_at b h k (Run item count) = in_run b h item count k
hear_at b h k (Group item count) = in_group h item count k
hear_at b h k Nothing = h

abbrev pub hear : Book → Hearing → Kind → Hearing
hear b h k = hear_at b h k h.awaited

-- which item is awaited; 6 for nothing
abbrev pub item_of : Awaited → ℕ
item_of (Run item count) = item
item_of (Group item count) = item
item_of Nothing = 6

-- the run of 16 Sgvi is awaited; the identifier has been voted; all has come
abbrev pub awaits_hail : Awaited → Bool
awaits_hail (Run item count) = eqb item 0
awaits_hail (Group item count) = false
awaits_hail Nothing = false

abbrev pub has_identifier : Awaited → Bool
has_identifier a = ltb 0 (item_of a)

abbrev pub has_all : Awaited → Bool
has_all a = ltb 5 (item_of a)
