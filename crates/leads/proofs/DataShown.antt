-- What carries data is no Sd: it leaves the signals of the Sd sent as they are. Assumes nothing.
use mathlib.Core.Path.{◌≡◌, refl, ◌∙◌, ap}
use Prim.Native.Nat.{ℕ, ◌*◌, ◌/◌, ◌%◌}
use native.Mathlib.Omega.{arith}
use Rattle.channel.specs.Bytes.{dl_byte, dh_byte}
use Rattle.channel.specs.Kinds.{kind_of}
use Rattle.channel.proofs.ReadBack.{dl_read, dh_read}
use Rattle.protocol.specs.Sent.{Sent, Alone}
use Rattle.protocol.specs.Carried.{Shown, shown_kind, shown_next}

-- a DL goes by the low nibble alone, the DH of a nibble by its four bits
dl_nibble : (u : ℕ) → dl_byte u ≡ dl_byte (u % 16)
unfolding dl_byte
dl_nibble u =
    let b3 : u / 8 % 2 ≡ u % 16 / 8 % 2 = omega arith in
    let b2 : u / 4 % 2 ≡ u % 16 / 4 % 2 = omega arith in
    let b1 : u / 2 % 2 ≡ u % 16 / 2 % 2 = omega arith in
    let b0 : u / 1 % 2 ≡ u % 16 / 1 % 2 = omega arith in
    rw (b3, b2, b1, b0) refl

dh_nibble : (h : ℕ) → dh_byte (16 * h) ≡ dh_byte (16 * (h % 16))
unfolding dh_byte
dh_nibble h =
    let b7 : 16 * h / 128 % 2 ≡ 16 * (h % 16) / 128 % 2 = omega arith in
    let b6 : 16 * h / 64 % 2 ≡ 16 * (h % 16) / 64 % 2 = omega arith in
    let b5 : 16 * h / 32 % 2 ≡ 16 * (h % 16) / 32 % 2 = omega arith in
    let b4 : 16 * h / 16 % 2 ≡ 16 * (h % 16) / 16 % 2 = omega arith in
    rw (b7, b6, b5, b4) refl

abbrev pub NoSd : Sent → Type 0
NoSd sent = (h : Shown) → shown_next sent h ≡ h

pub shown_dl : (u : ℕ) → NoSd (Alone (dl_byte u))
shown_dl u h = ap (λ k. shown_kind k h) (ap kind_of (dl_nibble u) ∙ dl_read (u % 16) (omega arith))

pub shown_dh : (x : ℕ) → NoSd (Alone (dh_byte (16 * x)))
shown_dh x h = ap (λ k. shown_kind k h) (ap kind_of (dh_nibble x) ∙ dh_read (16 * (x % 16)) (omega arith))
