-- How many bytes are awaited and sent. Assumes nothing.
use Rattle.std.specs.Prelude.{cond, ℕ, ◌+◌, ◌*◌, eqb}
use Rattle.book.specs.declared.Book.{Book}

-- an identifier is awaited after the run of 16 Sgvi, and so many at least are sent by the originator
unfoldable pub identifier_run : ℕ
identifier_run = 16

-- parameter k is awaited after 4 contiguous Sgpk
unfoldable pub parameter_run : Book → ℕ
parameter_run b = 4

-- each parameter is 32 Sgpk and its group
unfoldable pub parameter_lead : Book → ℕ
parameter_lead b = 32

-- an identifier or parameter is a group: three DL DH pairs, six bytes
abbrev pub group_length : ℕ
group_length = 6

-- the run for an item: item 0 is the identifier, item k + 1 is parameter k
abbrev pub run_length : Book → ℕ → ℕ
run_length b item = cond (eqb item 0) identifier_run (parameter_run b)

-- one parameter, and all five
abbrev pub parameter_bytes : Book → ℕ
parameter_bytes b = parameter_lead b + group_length

abbrev pub all_parameter_bytes : Book → ℕ
all_parameter_bytes b = 5 * parameter_bytes b
