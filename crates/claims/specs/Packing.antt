-- Packing and unpacking: any octets or units, in any form, into any buffer from any place; and that they undo each other. Assumes nothing.
use Rattle.std.specs.Prelude.{◌≡◌, true, List, [], ◌∷◌, ℕ, length}
use Rattle.ground.specs.Digits.{all_below}
use Rattle.ground.specs.Lists.{is_among}
use Rattle.packing.specs.FormsOfData.{packed, unpacked}
use Rattle.packing.specs.NumbersOfRefusal.{Reply, number_of, room_refusal, unpack_refusal}

-- the numbers of refusal of packing, and of unpacking
abbrev pub pack_numbers : List ℕ
pack_numbers = 14 ∷ 15 ∷ []

abbrev pub unpack_numbers : List ℕ
unpack_numbers = 12 ∷ 14 ∷ 15 ∷ 16 ∷ []

-- a call that refuses under the given numbers, into the buffer `out`
pub record Answers (numbers out : List ℕ) (Promise : Reply → List ℕ → Type 0) : Type 0 where
  -- the promise admits one reply and one buffer after it, and no other
  pub reply : Reply
  pub buffer : List ℕ
  pub promised : Promise reply buffer
  pub alone : (r : Reply) (after : List ℕ) → Promise r after → (r ≡ reply) × (after ≡ buffer)
  -- its number is 0 or one of those, and what is refused leaves the buffer as it was
  pub number : is_among (number_of reply) (0 ∷ numbers) ≡ true
  pub untouched : (number_of reply ≡ 0 → ⊥) → buffer ≡ out

-- in form k
pub record PackingUndone (k : ℕ) : Type 0 where
  -- the units of any octets are unpacked into those octets, and nothing but the room is asked for
  pub unpacks : (s : List ℕ) → all_below 256 s ≡ true → unpacked k (packed k s) ≡ s
  pub takes : (s : List ℕ) → all_below 256 s ≡ true → (len at : ℕ) → unpack_refusal k (packed k s) len at ≡ room_refusal (length s) len at
  -- units that are unpacked without refusal are what their octets are packed into
  pub packs : (us : List ℕ) (len at : ℕ) → unpack_refusal k us len at ≡ 0 → packed k (unpacked k us) ≡ us
