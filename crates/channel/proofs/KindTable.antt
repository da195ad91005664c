-- The table of kinds: its rule at every entry, and each code read as what it is, whatever B8 is. Assumes nothing.
use mathlib.Core.Path.{◌≡◌, refl, sym, ◌∙◌}
use mathlib.Core.Bool.{cond}
use mathlib.Core.List.{List, []}
use Prim.Native.Nat.{ℕ, ◌/◌, ◌%◌, ◌<◌, ◌≤◌}
use lib.Dec.{T, eqb, leb}
use lib.ListN.{get_or}
use borrow.Author.Tests.{le-leb}
use Rattle.ground.specs.Digits.{val}
use Rattle.ground.proofs.Each.{up_to, each_eq}
use Rattle.channel.specs.Kinds.{kind_number, nibble_in, how_many}

-- the entry of a byte: its row by B1 to B4, its place there by B5 to B8
abbrev entry : List (List ℕ) → ℕ → ℕ
entry table b = get_or (get_or table (b / 16) []) (b % 16) 0

-- a table whose every entry is the number by the rules, which is one computed test, gives the number of each byte
pub table_rule : (table : List (List ℕ)) → T (up_to (λ b. eqb (entry table b) (kind_number b)) 256) → (b : ℕ) → b < 256 → entry table b ≡ kind_number b
table_rule table t b h = each_eq (entry table) kind_number 256 t b h

pub nibble_is : (b : ℕ) → b < 256 → b / 16 ≡ nibble_in b
unfolding nibble_in val
nibble_is b h = each_eq (λ b. b / 16) nibble_in 256 tt b h

-- 16 DL, 16 DH and 32 Sd codes, and 54 unassigned, of 128
pub kinds_counted : (how_many 1 128 ≡ 16) × (how_many 2 128 ≡ 16) × (how_many 3 128 ≡ 32) × (how_many 0 128 ≡ 54)
unfolding how_many kind_number
kinds_counted = (refl, refl, refl, refl)

-- and 10 others, numbered 4 to 13, one of each
pub others_counted : (k : ℕ) → k < 14 → 4 ≤ k → how_many k 128 ≡ 1
unfolding how_many kind_number
others_counted k h l =
    sym (rw (le-leb 4 k l)) ∙ each_eq (λ k. cond (leb 4 k) (how_many k 128) 1) (λ k. 1) 14 tt k h
