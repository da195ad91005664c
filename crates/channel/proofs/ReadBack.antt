-- Each byte as it is sent is read as what it is, whatever B8 came as. Assumes nothing.
use mathlib.Core.Path.{◌≡◌, refl, ap, sym, ◌∙◌}
use mathlib.Core.Bool.{Bool, true, false, cond}
use Prim.Native.Nat.{ℕ, zero, suc, ◌*◌, ◌/◌, ◌%◌, ◌<◌, ◌≤◌}
use native.Mathlib.Nat.{div-div-eq-div-mul}
use native.Mathlib.Omega.{arith}
use lib.Dec.{T, eqb, eqb→eq, leb}
use borrow.Author.Tests.{le-leb}
use Rattle.ground.specs.Digits.{val}
use Rattle.ground.proofs.Each.{each_eq}
use Rattle.ground.proofs.EachBool.{every5, each5}
use Rattle.channel.specs.Bytes.{laid, B, bit_of, signalling, sgvi, sgp, sgr, sdidle, sd_byte, dl_byte, dh_byte}
use Rattle.channel.specs.Kinds.{kind_number, nibble_in, leads_in, kind_from, kind_of}
use Rattle.channel.specs.declared.byte.Leads.{Leads}
use Rattle.channel.specs.declared.kind.Kind.TheVariants.{Sgvi, Sgp, Sgr, Dl, Dh, Sd}

-- each signalling code has the number that the table gives its byte
pub signalling_read : (n : ℕ) → n < 14 → 4 ≤ n → kind_number (signalling n) ≡ n
unfolding kind_number signalling
signalling_read n h l =
    sym (rw (le-leb 4 n l)) ∙ each_eq (λ n. cond (leb 4 n) (kind_number (signalling n)) n) (λ n. n) 14 tt n h

pub sgvi_read : kind_of sgvi ≡ Sgvi
unfolding kind_of kind_from kind_number
sgvi_read = refl

pub sgp_read : (k : ℕ) → k < 5 → kind_of (sgp k) ≡ Sgp k
unfolding kind_of kind_from kind_number
sgp_read zero h = refl
sgp_read (suc zero) h = refl
sgp_read (suc (suc zero)) h = refl
sgp_read (suc (suc (suc zero))) h = refl
sgp_read (suc (suc (suc (suc zero)))) h = refl
sgp_read (suc (suc (suc (suc (suc k))))) h = absurd (omega arith)

pub sgr_read : kind_of sgr ≡ Sgr
unfolding kind_of kind_from kind_number
sgr_read = refl

dl_number : (v : ℕ) → v < 256 → kind_number (dl_byte v) ≡ 1
unfolding kind_number dl_byte laid val
dl_number v h = each_eq (λ v. kind_number (dl_byte v)) (λ v. 1) 256 tt v h

dl_nibble : (v : ℕ) → v < 256 → nibble_in (dl_byte v) ≡ v % 16
unfolding nibble_in dl_byte laid val
dl_nibble v h = each_eq (λ v. nibble_in (dl_byte v)) (λ v. v % 16) 256 tt v h

pub dl_read : (v : ℕ) → v < 256 → kind_of (dl_byte v) ≡ Dl (v % 16)
unfolding kind_of kind_from
dl_read v h = rw (dl_number v h) (ap Dl (dl_nibble v h))

dh_number : (v : ℕ) → v < 256 → kind_number (dh_byte v) ≡ 2
unfolding kind_number dh_byte laid val
dh_number v h = each_eq (λ v. kind_number (dh_byte v)) (λ v. 2) 256 tt v h

dh_nibble : (v : ℕ) → v < 256 → nibble_in (dh_byte v) ≡ v / 16
unfolding nibble_in dh_byte laid val
dh_nibble v h = each_eq (λ v. nibble_in (dh_byte v)) (λ v. v / 16) 256 tt v h

pub dh_read : (v : ℕ) → v < 256 → kind_of (dh_byte v) ≡ Dh (v / 16)
unfolding kind_of kind_from
dh_read v h = rw (dh_number v h) (ap Dh (dh_nibble v h))

-- the leads s3 s2 s1 s0
abbrev pub lead : Bool → Bool → Bool → Bool → Leads
lead a b c d = record { s0 = d; s1 = c; s2 = b; s3 = a }

-- an Sd: its number, and each of its five bits
flag_back : (f : Bool) (n : ℕ) → n ≡ bit_of f → eqb n 1 ≡ f
flag_back true n e = rw e
flag_back false n e = rw e

module _ (s : Leads) (bk : Bool) where
  sd_number : kind_number (sd_byte s bk) ≡ 3
  unfolding kind_number sd_byte laid val
  sd_number =
      eqb→eq (kind_number (sd_byte s bk)) 3
      (each5 (λ a b c d e. eqb (kind_number (sd_byte (lead a b c d) e)) 3) tt s.s3 s.s2 s.s1 s.s0 bk)

  -- Bk of an Sd is one of its flags
  sd_flag : (k : ℕ) (flag : Bool → Bool → Bool → Bool → Bool → Bool)
      → T (every5 λ a b c d e. eqb (B k (sd_byte (lead a b c d) e)) (bit_of (flag a b c d e)))
      → eqb (B k (sd_byte s bk)) 1 ≡ flag s.s3 s.s2 s.s1 s.s0 bk
  sd_flag k flag t =
      flag_back (flag s.s3 s.s2 s.s1 s.s0 bk) (B k (sd_byte s bk))
      (eqb→eq (B k (sd_byte s bk)) (bit_of (flag s.s3 s.s2 s.s1 s.s0 bk))
      (each5 (λ a b c d e. eqb (B k (sd_byte (lead a b c d) e)) (bit_of (flag a b c d e))) t s.s3 s.s2 s.s1 s.s0 bk))

  sd_flags : (eqb (B 1 (sd_byte s bk)) 1 ≡ s.s3) × (eqb (B 2 (sd_byte s bk)) 1 ≡ s.s2) × (eqb (B 3 (sd_byte s bk)) 1 ≡ s.s1)
      × (eqb (B 4 (sd_byte s bk)) 1 ≡ s.s0) × (eqb (B 5 (sd_byte s bk)) 1 ≡ bk)
  unfolding sd_byte laid val
  sd_flags = (
    sd_flag 1 (λ a b c d e. a) tt,
    sd_flag 2 (λ a b c d e. b) tt,
    sd_flag 3 (λ a b c d e. c) tt,
    sd_flag 4 (λ a b c d e. d) tt,
    sd_flag 5 (λ a b c d e. e) tt,
  )

  pub sd_read : kind_of (sd_byte s bk) ≡ Sd s bk
  unfolding kind_of kind_from leads_in
  sd_read = rw (sd_number, sd_flags.0, sd_flags.1, sd_flags.2, sd_flags.3, sd_flags.4)

-- Sdidle is the Sd with s2 on alone
pub sdidle_is : sd_byte (lead false true false false) false ≡ sdidle
unfolding sd_byte laid val
sdidle_is = refl

-- B8 is ignored on receipt: two bytes that differ in B8 alone are of one kind
bit_of_half : (a i : ℕ) → a / (2 * i) ≡ a / 2 / i
bit_of_half a i = sym (div-div-eq-div-mul a 2 i)

pub b8_ignored : (a b : ℕ) → a / 2 ≡ b / 2 → kind_of a ≡ kind_of b
unfolding kind_of kind_from kind_number nibble_in leads_in
b8_ignored a b e =
    rw (
      bit_of_half a 2,
      bit_of_half a 4,
      bit_of_half a 8,
      bit_of_half a 16,
      bit_of_half a 32,
      bit_of_half a 64,
      e,
      ← bit_of_half b 2,
      ← bit_of_half b 4,
      ← bit_of_half b 8,
      ← bit_of_half b 16,
      ← bit_of_half b 32,
      ← bit_of_half b 64,
    )

-- whatever nibble they carry, DL and DH are told by the three bits after it
pub marks_dl : (b : ℕ) → b / 2 % 8 ≡ 2 → kind_of b ≡ Dl (nibble_in b)
unfolding kind_of kind_from kind_number
marks_dl b e =
    let f : b / 8 % 2 ≡ 0 = omega arith in
    let g : b / 4 % 2 ≡ 1 = omega arith in
    let h : b / 2 % 2 ≡ 0 = omega arith in
    rw (f, g, h)

pub marks_dh : (b : ℕ) → b / 2 % 8 ≡ 6 → kind_of b ≡ Dh (nibble_in b)
unfolding kind_of kind_from kind_number
marks_dh b e =
    let f : b / 8 % 2 ≡ 1 = omega arith in
    let g : b / 4 % 2 ≡ 1 = omega arith in
    let h : b / 2 % 2 ≡ 0 = omega arith in
    rw (f, g, h)

pub dl_marked : (v : ℕ) → v < 256 → dl_byte v / 2 % 8 ≡ 2
unfolding dl_byte laid val
dl_marked v h = each_eq (λ v. dl_byte v / 2 % 8) (λ v. 2) 256 tt v h

pub dh_marked : (v : ℕ) → v < 256 → dh_byte v / 2 % 8 ≡ 6
unfolding dh_byte laid val
dh_marked v h = each_eq (λ v. dh_byte v / 2 % 8) (λ v. 6) 256 tt v h
