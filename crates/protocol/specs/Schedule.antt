-- The schedule of two ends that meet, step by step: O waits, and first hears A's unbroken Sgvi in slot h; the delay is d slots each way.
-- Assumes nothing.
use Rattle.std.specs.Prelude.{ℕ, ◌+◌, ◌-◌, ◌*◌}
use Rattle.book.specs.declared.Book.{Book}
use Rattle.protocol.specs.Lengths.{all_parameter_bytes}

-- O's run of 16 Sgvi is complete: it sends Sgvi from this slot on
abbrev pub hails_o : ℕ → ℕ
hails_o h = h + 15

-- A's run of 16 is complete: its identifier goes in this slot and the five after it, then Sdidle
abbrev pub masks_a : ℕ → ℕ → ℕ
masks_a h d = h + d + 30

-- O has A's identifier: its own goes in this slot and the five after it
abbrev pub masks_o : ℕ → ℕ → ℕ
masks_o h d = h + 2 * d + 35

-- O's identifier is out; if no version is shared, O refuses 21
abbrev pub lacks_o : ℕ → ℕ → ℕ
lacks_o h d = h + 2 * d + 40

-- A has O's identifier; if no version is shared, A refuses 21
abbrev pub lacks_a : ℕ → ℕ → ℕ
lacks_a h d = h + 3 * d + 40

-- O's parameters go from this slot on, then Sdidle
abbrev pub parameters_o : ℕ → ℕ → ℕ
parameters_o h d = h + 2 * d + 41

-- A has p4: its own parameters go from this slot on
abbrev pub parameters_a : ℕ → ℕ → Book → ℕ
parameters_a h d bo = h + 3 * d + 40 + all_parameter_bytes bo

-- A's last parameter byte is out: A opens, or refuses 22
abbrev pub concludes_a : ℕ → ℕ → Book → Book → ℕ
concludes_a h d bo ba = parameters_a h d bo + all_parameter_bytes ba - 1

-- O has it: O opens, or refuses 22
abbrev pub concludes_o : ℕ → ℕ → Book → Book → ℕ
concludes_o h d bo ba = concludes_a h d bo ba + d

-- two ends that are started together meet in slot d
abbrev pub meets : ℕ → ℕ
meets d = d

-- the least limit with which both conclude so
abbrev pub enough : ℕ → Book → Book → ℕ
enough d bo ba = concludes_o (meets d) d bo ba + 1
