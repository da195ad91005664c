-- A vote looks at the eight lowest bits of each copy, and at no other. Assumes nothing.
use mathlib.Core.Path.{◌≡◌, refl}
use Prim.Native.Nat.{ℕ, zero, suc, ◌/◌, ◌%◌, ◌^◌}
use native.Mathlib.Numerals.{add-one}
use lib.Pow.{field, mod-mod-pow}
use Rattle.channel.specs.Vote.{majorities, voted}

low : (n a : ℕ) → a % 2 ^ suc n % 2 ≡ a % 2
low n a = rw (← add-one n) (mod-mod-pow a n 1)

half : (n a : ℕ) → a % 2 ^ suc n / 2 ≡ a / 2 % 2 ^ n
half n a = rw (← add-one n) (field a n 1)

lowest : (n a b c : ℕ) → majorities n (a % 2 ^ n) (b % 2 ^ n) (c % 2 ^ n) ≡ majorities n a b c
unfolding majorities
lowest zero a b c = refl
lowest (suc n) a b c =
    simp (low, half, lowest n (a / 2) (b / 2) (c / 2))

pub eight_bits : (a b c : ℕ) → voted (a % 256) (b % 256) (c % 256) ≡ voted a b c
unfolding voted
eight_bits a b c = rw (lowest 8 a b c)
