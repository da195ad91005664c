-- "Numbers of refusal" of packing and unpacking, in their order, and what each call promises. Assumes nothing.
use Rattle.std.specs.Prelude.{◌≡◌, Bool, false, cond, not, ◌||◌, Result, Ok, Err, List, [], ◌∷◌, ◌++◌, ℕ, ◌+◌, ◌-◌, ◌^◌, eqb, ltb, length, take, drop}
use Rattle.ground.specs.Digits.{all_below}
use Rattle.packing.specs.FormsOfData.{units_for, octets_in, packed, unpacked, left_over}
use Rattle.packing.specs.declared.Refusal.{Refusal}
use Rattle.packing.specs.declared.Refusal.TheVariants.{FormNotPacked, UnitOutOfRange, NotWholeOctets, NoRoom}

-- so many units or octets were written, or none
abbrev pub Reply : Type 0
Reply = Result ℕ Refusal

-- the number of refusal that a reply tells, 0 for none
abbrev pub number_of : Reply → ℕ
number_of (Ok n) = 0
number_of (Err FormNotPacked) = 15
number_of (Err UnitOutOfRange) = 12
number_of (Err NotWholeOctets) = 16
number_of (Err NoRoom) = 14

-- how many units or octets a reply says were written
abbrev pub count_of : Reply → ℕ
count_of (Ok n) = n
count_of (Err refusal) = 0

-- 15: form not 6, 7, 8
abbrev pub not_packed : ℕ → Bool
not_packed k = not (eqb k 6 || eqb k 7 || eqb k 8)

-- 12: unit out of range
abbrev pub out_of_range : ℕ → List ℕ → Bool
out_of_range k us = not (all_below (2 ^ k) us)

-- some of the bits is 1
unfoldable pub some_one : List ℕ → Bool
some_one [] = false
some_one (b ∷ bs) = eqb b 1 || some_one bs

-- 16: U is not ceil (8 N / k), or a bit left over is 1
abbrev pub not_whole : ℕ → List ℕ → Bool
not_whole k us = not (eqb (length us) (units_for k (octets_in k (length us)))) || some_one (left_over k us)

-- 14: named place beyond the end of a buffer of len places, or fewer places from it on than are needed
abbrev pub no_room : ℕ → ℕ → ℕ → Bool
no_room need len at = ltb len at || ltb (len - at) need

-- 14 where there is no room, else 0
abbrev pub room_refusal : ℕ → ℕ → ℕ → ℕ
room_refusal need len at = cond (no_room need len at) 14 0

-- packing: 15, then 14
unfoldable pub pack_refusal : ℕ → List ℕ → ℕ → ℕ → ℕ
pack_refusal k s len at =
    cond (not_packed k) 15
    (room_refusal (units_for k (length s)) len at)

-- unpacking: 15, then 12, then 16, 14 last
unfoldable pub unpack_refusal : ℕ → List ℕ → ℕ → ℕ → ℕ
unpack_refusal k us len at =
    cond (not_packed k) 15
    (cond (out_of_range k us) 12
    (cond (not_whole k us) 16
    (room_refusal (octets_in k (length us)) len at)))

-- the buffer with xs in the places from `at` on, all other places as they were
abbrev pub put_from : ℕ → List ℕ → List ℕ → List ℕ
put_from at xs out = take at out ++ (xs ++ drop (at + length xs) out)

-- What a call promises that has the given number of refusal, 0 for none, and the units or octets xs to write into the buffer out
-- from the place `at` on: its reply r, and the buffer after it. A refusal writes nothing.
pub record Answer (refusal : ℕ) (xs out : List ℕ) (at : ℕ) (r : Reply) (after : List ℕ) : Type 0 where
  pub number : number_of r ≡ refusal
  pub count : count_of r ≡ cond (eqb refusal 0) (length xs) 0
  pub buffer : after ≡ cond (eqb refusal 0) (put_from at xs out) out

-- the promise of packing the octets s in form k
abbrev pub Packs : ℕ → List ℕ → List ℕ → ℕ → Reply → List ℕ → Type 0
Packs k s out at = Answer (pack_refusal k s (length out) at) (packed k s) out at

-- the promise of unpacking the units us of form k
abbrev pub Unpacks : ℕ → List ℕ → List ℕ → ℕ → Reply → List ℕ → Type 0
Unpacks k us out at = Answer (unpack_refusal k us (length out) at) (unpacked k us) out at
