-- The values of the bytes that carry leads or a nibble. Each by one computed test. Assumes nothing.
use mathlib.Core.Path.{◌≡◌}
use mathlib.Core.Bool.{Bool, cond}
use Prim.Native.Nat.{ℕ, ◌+◌, ◌*◌, ◌/◌, ◌%◌, ◌<◌}
use lib.Dec.{eqb, eqb→eq}
use Rattle.ground.specs.Digits.{val}
use Rattle.ground.proofs.Each.{each_eq}
use Rattle.ground.proofs.EachBool.{each5}
use Rattle.channel.specs.Bytes.{laid, sd_byte, dl_byte, dh_byte}
use Rattle.channel.specs.declared.byte.Leads.{Leads}

pub dl_value : (v : ℕ) → v < 256 → dl_byte v ≡ 16 * (v % 16) + 5
unfolding dl_byte laid val
dl_value v h = each_eq dl_byte (λ v. 16 * (v % 16) + 5) 256 tt v h

pub dh_value : (v : ℕ) → v < 256 → dh_byte v ≡ 16 * (v / 16) + 13
unfolding dh_byte laid val
dh_value v h = each_eq dh_byte (λ v. 16 * (v / 16) + 13) 256 tt v h

leads : Bool → Bool → Bool → Bool → Leads
leads a b c d = record { s0 = d; s1 = c; s2 = b; s3 = a }

sum : Bool → Bool → Bool → Bool → Bool → ℕ
sum a b c d e = cond a 128 0 + cond b 64 0 + cond c 32 0 + cond d 16 0 + cond e 8 0 + 3

pub sd_value : (s : Leads) (bk : Bool)
    → sd_byte s bk ≡ cond s.s3 128 0 + cond s.s2 64 0 + cond s.s1 32 0 + cond s.s0 16 0 + cond bk 8 0 + 3
unfolding sd_byte laid val leads sum
sd_value s bk =
    eqb→eq (sd_byte s bk) (sum s.s3 s.s2 s.s1 s.s0 bk)
    (each5 (λ a b c d e. eqb (sd_byte (leads a b c d) e) (sum a b c d e)) tt s.s3 s.s2 s.s1 s.s0 bk)
