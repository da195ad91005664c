-- Figures of packing and unpacking and of their refusals: beside each what this paper says. All of it is computed. Assumes nothing.
use mathlib.Core.Path.{◌≡◌, refl}
use mathlib.Core.List.{List, [], ◌∷◌, map}
use Prim.Native.Nat.{ℕ}
use Rattle.std.specs.Prelude.{Ok, Err}
use Rattle.ground.specs.Digits.{val, digits, all_below}
use Rattle.packing.specs.FormsOfData.{bits_of, grouped, units_for, octets_in, packed, unpacked, left_over}
use Rattle.packing.specs.NumbersOfRefusal.{Reply, number_of, count_of, some_one, pack_refusal, unpack_refusal, Packs, Unpacks}
use Rattle.packing.specs.declared.Refusal.TheVariants.{FormNotPacked, UnitOutOfRange, NotWholeOctets, NoRoom}

pub record PackedAsCounted : Type 0 where
  -- N octets into ceil(8N/k) units
  pub units : map (units_for 6) (0 ∷ 1 ∷ 2 ∷ 3 ∷ 4 ∷ []) ∷ map (units_for 7) (0 ∷ 1 ∷ 6 ∷ 7 ∷ 8 ∷ []) ∷ map (units_for 8) (0 ∷ 1 ∷ 8 ∷ []) ∷ []
      ≡ (0 ∷ 2 ∷ 3 ∷ 4 ∷ 6 ∷ []) ∷ (0 ∷ 2 ∷ 7 ∷ 8 ∷ 10 ∷ []) ∷ (0 ∷ 1 ∷ 8 ∷ []) ∷ []
  -- U units give floor(k_u/8) octets
  pub octets : map (octets_in 6) (0 ∷ 1 ∷ 2 ∷ 3 ∷ 4 ∷ 5 ∷ []) ∷ map (octets_in 7) (0 ∷ 1 ∷ 2 ∷ 8 ∷ 9 ∷ []) ∷ map (octets_in 8) (0 ∷ 1 ∷ 8 ∷ []) ∷ []
      ≡ (0 ∷ 0 ∷ 1 ∷ 2 ∷ 3 ∷ 3 ∷ []) ∷ (0 ∷ 0 ∷ 1 ∷ 7 ∷ 7 ∷ []) ∷ (0 ∷ 1 ∷ 8 ∷ []) ∷ []
  -- least bit first, unused positions zero; N may be 0
  pub six : map (packed 6) ([] ∷ (0x01 ∷ 0x02 ∷ 0x03 ∷ []) ∷ (0xFF ∷ []) ∷ (0xA5 ∷ 0x5A ∷ []) ∷ [])
      ≡ [] ∷ (1 ∷ 8 ∷ 48 ∷ 0 ∷ []) ∷ (63 ∷ 3 ∷ []) ∷ (37 ∷ 42 ∷ 5 ∷ []) ∷ []
  pub seven : map (packed 7) ([] ∷ (0x01 ∷ 0x02 ∷ 0x03 ∷ []) ∷ (0xFF ∷ []) ∷ (1 ∷ 2 ∷ 3 ∷ 4 ∷ 5 ∷ 6 ∷ 7 ∷ []) ∷ [])
      ≡ [] ∷ (1 ∷ 4 ∷ 12 ∷ 0 ∷ []) ∷ (127 ∷ 1 ∷ []) ∷ (1 ∷ 4 ∷ 12 ∷ 32 ∷ 80 ∷ 64 ∷ 65 ∷ 3 ∷ []) ∷ []
  pub eight : map (packed 8) ([] ∷ (0x01 ∷ 0xA5 ∷ 0xFF ∷ []) ∷ []) ≡ [] ∷ (0x01 ∷ 0xA5 ∷ 0xFF ∷ []) ∷ []
  -- and back
  pub from_six : map (unpacked 6) ([] ∷ (1 ∷ 8 ∷ 48 ∷ 0 ∷ []) ∷ (63 ∷ 3 ∷ []) ∷ (1 ∷ 2 ∷ 4 ∷ 8 ∷ []) ∷ [])
      ≡ [] ∷ (0x01 ∷ 0x02 ∷ 0x03 ∷ []) ∷ (0xFF ∷ []) ∷ (0x81 ∷ 0x40 ∷ 0x20 ∷ []) ∷ []
  pub from_seven : map (unpacked 7) ([] ∷ (1 ∷ 4 ∷ 12 ∷ 0 ∷ []) ∷ (1 ∷ 2 ∷ 4 ∷ 8 ∷ 16 ∷ 32 ∷ 64 ∷ 127 ∷ []) ∷ [])
      ≡ [] ∷ (0x01 ∷ 0x02 ∷ 0x03 ∷ []) ∷ (1 ∷ 1 ∷ 1 ∷ 1 ∷ 1 ∷ 1 ∷ 255 ∷ []) ∷ []
  pub from_eight : map (unpacked 8) ([] ∷ (0x01 ∷ 0xA5 ∷ 0xFF ∷ []) ∷ []) ≡ [] ∷ (0x01 ∷ 0xA5 ∷ 0xFF ∷ []) ∷ []
  -- the bits left over
  pub left_over_lem : left_over 6 (63 ∷ 7 ∷ []) ∷ left_over 7 (127 ∷ 5 ∷ []) ∷ left_over 8 (255 ∷ []) ∷ []
      ≡ (1 ∷ 0 ∷ 0 ∷ 0 ∷ []) ∷ (0 ∷ 1 ∷ 0 ∷ 0 ∷ 0 ∷ 0 ∷ []) ∷ [] ∷ []

pub packed_as_counted : PackedAsCounted
unfolding units_for octets_in packed unpacked left_over grouped bits_of digits val
packed_as_counted =
    record {
      units = refl;
      octets = refl;
      six = refl;
      seven = refl;
      eight = refl;
      from_six = refl;
      from_seven = refl;
      from_eight = refl;
      left_over_lem = refl;
    }

pub record PackingRefused : Type 0 where
  -- 15: form not 6, 7, 8
  pub forms : map (λ k. pack_refusal k (0xFF ∷ []) 2 0) (0 ∷ 5 ∷ 6 ∷ 7 ∷ 8 ∷ 9 ∷ []) ≡ 15 ∷ 15 ∷ 0 ∷ 0 ∷ 0 ∷ 15 ∷ []
  pub forms_back : map (λ k. unpack_refusal k [] 0 0) (0 ∷ 5 ∷ 6 ∷ 7 ∷ 8 ∷ 9 ∷ []) ≡ 15 ∷ 15 ∷ 0 ∷ 0 ∷ 0 ∷ 15 ∷ []
  -- 14: two units, in a buffer of four places, from each place on; none, at its end and beyond
  pub room : map (pack_refusal 6 (0xFF ∷ []) 4) (0 ∷ 2 ∷ 3 ∷ 4 ∷ 5 ∷ []) ≡ 0 ∷ 0 ∷ 14 ∷ 14 ∷ 14 ∷ []
  pub room_for_none : map (pack_refusal 6 [] 4) (0 ∷ 4 ∷ 5 ∷ []) ≡ 0 ∷ 0 ∷ 14 ∷ []
  pub room_back : map (unpack_refusal 6 (63 ∷ 3 ∷ []) 2) (0 ∷ 1 ∷ 2 ∷ 3 ∷ []) ≡ 0 ∷ 0 ∷ 14 ∷ 14 ∷ []
  -- 12: unit out of range, the first or a later one
  pub range_six : map (λ us. unpack_refusal 6 us 9 0) ((63 ∷ 3 ∷ []) ∷ (64 ∷ 3 ∷ []) ∷ (63 ∷ 64 ∷ []) ∷ []) ≡ 0 ∷ 12 ∷ 12 ∷ []
  pub range_seven : map (λ us. unpack_refusal 7 us 9 0) ((127 ∷ 1 ∷ []) ∷ (128 ∷ 1 ∷ []) ∷ (127 ∷ 128 ∷ []) ∷ []) ≡ 0 ∷ 12 ∷ 12 ∷ []
  pub range_eight : map (λ us. unpack_refusal 8 us 9 0) ((255 ∷ []) ∷ (256 ∷ []) ∷ []) ≡ 0 ∷ 12 ∷ []
  -- 16: U is not ceil(8N/k)
  pub count_six : map (λ us. unpack_refusal 6 us 9 0)
      ([] ∷ (0 ∷ []) ∷ (0 ∷ 0 ∷ []) ∷ (0 ∷ 0 ∷ 0 ∷ []) ∷ (0 ∷ 0 ∷ 0 ∷ 0 ∷ []) ∷ (0 ∷ 0 ∷ 0 ∷ 0 ∷ 0 ∷ []) ∷ [])
      ≡ 0 ∷ 16 ∷ 0 ∷ 0 ∷ 0 ∷ 16 ∷ []
  pub count_seven : map (λ us. unpack_refusal 7 us 9 0) ([] ∷ (0 ∷ []) ∷ (0 ∷ 0 ∷ []) ∷ []) ≡ 0 ∷ 16 ∷ 0 ∷ []
  -- or a bit left over is 1
  pub left_over_six : map (λ u. unpack_refusal 6 (63 ∷ u ∷ []) 9 0) (3 ∷ 4 ∷ 8 ∷ 16 ∷ 32 ∷ []) ≡ 0 ∷ 16 ∷ 16 ∷ 16 ∷ 16 ∷ []
  pub left_over_seven : map (λ u. unpack_refusal 7 (127 ∷ u ∷ []) 9 0) (1 ∷ 2 ∷ 64 ∷ []) ≡ 0 ∷ 16 ∷ 16 ∷ []
  -- packing: 15, then 14; unpacking: 15, then 12, then 16, 14 last
  pub order : pack_refusal 5 (0xFF ∷ []) 0 1
      ∷ unpack_refusal 5 (64 ∷ []) 0 1
      ∷ unpack_refusal 6 (64 ∷ []) 0 1
      ∷ unpack_refusal 6 (0 ∷ []) 0 1
      ∷ unpack_refusal 6 (63 ∷ 3 ∷ []) 0 1
      ∷ []
      ≡ 15 ∷ 15 ∷ 12 ∷ 16 ∷ 14 ∷ []
  -- the number of each reply, and its count
  pub numbers : map number_of (Ok 3 ∷ Err FormNotPacked ∷ Err UnitOutOfRange ∷ Err NotWholeOctets ∷ Err NoRoom ∷ []) ≡ 0 ∷ 15 ∷ 12 ∷ 16 ∷ 14 ∷ []
  pub counts : map count_of (Ok 3 ∷ Err FormNotPacked ∷ Err UnitOutOfRange ∷ Err NotWholeOctets ∷ Err NoRoom ∷ []) ≡ 3 ∷ 0 ∷ 0 ∷ 0 ∷ 0 ∷ []

pub packing_refused : PackingRefused
unfolding pack_refusal unpack_refusal units_for octets_in left_over some_one all_below bits_of digits val
packing_refused =
    record {
      forms = refl;
      forms_back = refl;
      room = refl;
      room_for_none = refl;
      room_back = refl;
      range_six = refl;
      range_seven = refl;
      range_eight = refl;
      count_six = refl;
      count_seven = refl;
      left_over_six = refl;
      left_over_seven = refl;
      order = refl;
      numbers = refl;
      counts = refl;
    }

-- what a reply says with the buffer after it
abbrev pub Says : ℕ → ℕ → List ℕ → Reply → List ℕ → Type 0
Says number count buffer r after = (number_of r ≡ number) × (count_of r ≡ count) × (after ≡ buffer)

-- into a buffer of 9 9 9 9, from place 1 on
pub record WrittenAsPromised : Type 0 where
  -- octet FF, form 6: units 63 3; all other places keep their values
  pub packs : (r : Reply) (after : List ℕ) → Packs 6 (0xFF ∷ []) (9 ∷ 9 ∷ 9 ∷ 9 ∷ []) 1 r after
      → Says 0 2 (9 ∷ 63 ∷ 3 ∷ 9 ∷ []) r after
  pub unpacks : (r : Reply) (after : List ℕ) → Unpacks 6 (63 ∷ 3 ∷ []) (9 ∷ 9 ∷ 9 ∷ 9 ∷ []) 1 r after
      → Says 0 1 (9 ∷ 0xFF ∷ 9 ∷ 9 ∷ []) r after
  -- refusals write nothing
  pub no_form : (r : Reply) (after : List ℕ) → Packs 5 (0xFF ∷ []) (9 ∷ 9 ∷ 9 ∷ 9 ∷ []) 1 r after
      → Says 15 0 (9 ∷ 9 ∷ 9 ∷ 9 ∷ []) r after
  pub no_room_lem : (r : Reply) (after : List ℕ) → Packs 6 (0xFF ∷ []) (9 ∷ 9 ∷ 9 ∷ 9 ∷ []) 3 r after
      → Says 14 0 (9 ∷ 9 ∷ 9 ∷ 9 ∷ []) r after
  pub no_unit : (r : Reply) (after : List ℕ) → Unpacks 6 (64 ∷ 3 ∷ []) (9 ∷ 9 ∷ 9 ∷ 9 ∷ []) 1 r after
      → Says 12 0 (9 ∷ 9 ∷ 9 ∷ 9 ∷ []) r after
  pub not_whole_lem : (r : Reply) (after : List ℕ) → Unpacks 6 (0 ∷ []) (9 ∷ 9 ∷ 9 ∷ 9 ∷ []) 1 r after
      → Says 16 0 (9 ∷ 9 ∷ 9 ∷ 9 ∷ []) r after

pub written_as_promised : WrittenAsPromised
unfolding pack_refusal unpack_refusal units_for octets_in left_over some_one all_below packed unpacked grouped bits_of digits val
written_as_promised =
    record {
      packs = λ r after a. (a.number, a.count, a.buffer);
      unpacks = λ r after a. (a.number, a.count, a.buffer);
      no_form = λ r after a. (a.number, a.count, a.buffer);
      no_room_lem = λ r after a. (a.number, a.count, a.buffer);
      no_unit = λ r after a. (a.number, a.count, a.buffer);
      not_whole_lem = λ r after a. (a.number, a.count, a.buffer);
    }
