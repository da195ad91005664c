-- Packing and unpacking answer anything, and undo each other. Assumes nothing.
use mathlib.Core.Path.{◌≡◌, refl}
use mathlib.Core.Bool.{true, false}
use mathlib.Core.List.{List, ◌∷◌}
use Prim.Native.Nat.{ℕ}
use lib.ListN.{length}
use Rattle.std.specs.Prelude.{Ok, Err}
use Rattle.ground.specs.Lists.{is_among}
use Rattle.ground.proofs.Test.{either_way}
use Rattle.packing.specs.FormsOfData.{units_for, octets_in, packed, unpacked}
use Rattle.packing.specs.NumbersOfRefusal.{Reply, number_of, not_packed, out_of_range, not_whole, no_room, pack_refusal, unpack_refusal}
use Rattle.packing.specs.NumbersOfRefusal.{put_from, Answer, Packs, Unpacks}
use Rattle.packing.specs.declared.Refusal.TheVariants.{FormNotPacked, UnitOutOfRange, NotWholeOctets, NoRoom}
use Rattle.packing.proofs.OneReply.{one_answer}
use Rattle.packing.proofs.Trips.{unpack_packed, unpack_takes, pack_unpacked}
use Rattle.claims.specs.Packing.{pack_numbers, unpack_numbers, Answers, PackingUndone}

module _ (numbers xs out : List ℕ) (at : ℕ) where
  -- a call that has the number of refusal
  abbrev Has : ℕ → Type 0
  Has refusal = Answers numbers out (Answer refusal xs out at)

  answer : (refusal : ℕ) (r : Reply) (after : List ℕ) → Answer refusal xs out at r after → is_among (number_of r) (0 ∷ numbers) ≡ true
      → ((number_of r ≡ 0 → ⊥) → after ≡ out) → Has refusal
  answer refusal r after a e f =
      record { reply = r; buffer = after; promised = a; alone = λ s then b. one_answer b a; number = e; untouched = f }

  wrote : Has 0
  wrote =
      answer 0 (Ok (length xs)) (put_from at xs out) (record { number = refl; count = refl; buffer = refl }) refl (λ n. absurd (n refl))

  refused_15 : is_among 15 (0 ∷ numbers) ≡ true → Has 15
  refused_15 e = answer 15 (Err FormNotPacked) out (record { number = refl; count = refl; buffer = refl }) e (λ n. refl)

  refused_14 : is_among 14 (0 ∷ numbers) ≡ true → Has 14
  refused_14 e = answer 14 (Err NoRoom) out (record { number = refl; count = refl; buffer = refl }) e (λ n. refl)

  refused_12 : is_among 12 (0 ∷ numbers) ≡ true → Has 12
  refused_12 e = answer 12 (Err UnitOutOfRange) out (record { number = refl; count = refl; buffer = refl }) e (λ n. refl)

  refused_16 : is_among 16 (0 ∷ numbers) ≡ true → Has 16
  refused_16 e = answer 16 (Err NotWholeOctets) out (record { number = refl; count = refl; buffer = refl }) e (λ n. refl)

pub pack_answered : (k : ℕ) (s out : List ℕ) (at : ℕ) → Answers pack_numbers out (Packs k s out at)
unfolding pack_refusal
pack_answered k s out at =
    let xs = packed k s in
    either_way (Has pack_numbers xs out at) (not_packed k) (refused_15 pack_numbers xs out at refl)
    (either_way (Has pack_numbers xs out at) (no_room (units_for k (length s)) (length out) at) (refused_14 pack_numbers xs out at refl)
    (wrote pack_numbers xs out at))

pub unpack_answered : (k : ℕ) (us out : List ℕ) (at : ℕ) → Answers unpack_numbers out (Unpacks k us out at)
unfolding unpack_refusal
unpack_answered k us out at =
    let xs = unpacked k us in
    either_way (Has unpack_numbers xs out at) (not_packed k) (refused_15 unpack_numbers xs out at refl)
    (either_way (Has unpack_numbers xs out at) (out_of_range k us) (refused_12 unpack_numbers xs out at refl)
    (either_way (Has unpack_numbers xs out at) (not_whole k us) (refused_16 unpack_numbers xs out at refl)
    (either_way (Has unpack_numbers xs out at) (no_room (octets_in k (length us)) (length out) at) (refused_14 unpack_numbers xs out at refl)
    (wrote unpack_numbers xs out at))))

pub packing_undone : (k : ℕ) → not_packed k ≡ false → PackingUndone k
packing_undone k form =
    record {
      unpacks = λ s octets. unpack_packed k s form octets;
      takes = λ s octets. unpack_takes k s form octets;
      packs = pack_unpacked k;
    }
