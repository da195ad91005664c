-- A promise of packing or unpacking admits one reply only, and one final buffer. Assumes nothing.
use mathlib.Core.Path.{◌≡◌, refl, ap₂, ◌∙◌}
use mathlib.Core.Bool.{cond}
use mathlib.Core.List.{List}
use Prim.Native.Nat.{ℕ}
use lib.Dec.{eqb}
use Rattle.std.specs.Prelude.{Ok, Err}
use lib.ListN.{length}
use Rattle.ground.proofs.OneReply.{one_reply}
use Rattle.packing.specs.NumbersOfRefusal.{Reply, number_of, count_of, put_from, Answer}
use Rattle.packing.proofs.pack.Reads as pack
use Rattle.packing.proofs.unpack.Reads as unpack
use Rattle.packing.specs.declared.Refusal.TheVariants.{FormNotPacked, UnitOutOfRange, NotWholeOctets, NoRoom}

-- the reply that tells a number of refusal and a count
reply_of : ℕ → ℕ → Reply
reply_of refusal n =
    cond (eqb refusal 15) (Err FormNotPacked)
    (cond (eqb refusal 12) (Err UnitOutOfRange)
    (cond (eqb refusal 16) (Err NotWholeOctets)
    (cond (eqb refusal 14) (Err NoRoom)
    (Ok n))))

told : (r : Reply) → r ≡ reply_of (number_of r) (count_of r)
unfolding reply_of
told (Ok n) = refl
told (Err FormNotPacked) = refl
told (Err UnitOutOfRange) = refl
told (Err NotWholeOctets) = refl
told (Err NoRoom) = refl

-- `Packs` and `Unpacks` are such answers
pub one_answer : {refusal : ℕ} {xs out : List ℕ} {at : ℕ} {r r' : Reply} {after after' : List ℕ}
    → Answer refusal xs out at r after → Answer refusal xs out at r' after' → (r ≡ r') × (after ≡ after')
one_answer {refusal} {xs} {out} {at} {r} {r'} a b =
    let n : ℕ = cond (eqb refusal 0) (length xs) 0 in (
      one_reply (reply_of refusal n) (told r ∙ ap₂ reply_of a.number a.count) (told r' ∙ ap₂ reply_of b.number b.count),
      one_reply (cond (eqb refusal 0) (put_from at xs out) out) a.buffer b.buffer,
    )

-- read off the promises as the source states them; the lent buffer is the third argument
pub pack_one : (κs : _) (a : _) (r s : _) (x y : _) → pack.Post κs a r x → pack.Post κs a s y
    → (r ≡ s) × (x.1.1.0.now ≡ y.1.1.0.now)
pack_one κs a r s x y p q = one_answer p q

pub unpack_one : (κs : _) (a : _) (r s : _) (x y : _) → unpack.Post κs a r x → unpack.Post κs a s y
    → (r ≡ s) × (x.1.1.0.now ≡ y.1.1.0.now)
unpack_one κs a r s x y p q = one_answer p q
