-- The receiving half of an open end stays in its range. Assumes nothing.
use Rattle.std.specs.Prelude.{None}
use mathlib.Core.Path.{◌≡◌, refl}
use mathlib.Core.Bool.{Bool, true, ◌&&◌, ◌||◌}
use Prim.Native.Nat.{ℕ, ◌≤◌}
use native.Mathlib.Omega.{arith}
use lib.Dec.{eqb, leb}
use borrow.Author.Tests.{lt-ltb, le-leb}
use Rattle.ground.proofs.Test.{by_test}
use Rattle.channel.specs.declared.byte.Leads.{Leads}
use Rattle.channel.specs.declared.kind.Kind.{Kind}
use Rattle.channel.specs.declared.kind.Kind.TheVariants.{Sgvi, Sgp, Sgr, Dl, Dh, Sd, Other}
use Rattle.channel.specs.declared.unit.Form.{Form}
use Rattle.channel.specs.declared.unit.Form.TheVariants.{Six, SevenV1, SevenV2, Eight}
use Rattle.channel.specs.Kinds.{kind_of}
use Rattle.channel.specs.Forms.{is_data}
use Rattle.protocol.specs.Opened.{pair_form, has_pair, fresh_line, Reading, reads_sd, reads_word, reads_idle, reads_six, reads_pair, reads_stream, reads_form, reading}
use Rattle.protocol.specs.Ranges.{inbound_in}
use Rattle.protocol.specs.declared.Shape.{Shape}
use Rattle.protocol.specs.declared.Shape.TheVariants as shape
use Rattle.protocol.specs.declared.Inbound.{Inbound}
use Rattle.protocol.proofs.Kept.Cases.{both, or_right}
use Rattle.protocol.proofs.Delivery.Carried.{Carries, kind_carries, nibble_below}

abbrev Kept : Shape → Reading → Type 0
Kept s r = inbound_in s r.inbound ≡ true

-- nothing is held
none_held : (s : Shape) (i : Inbound) → i.half ≡ None → i.pair ≡ 0 → inbound_in s i ≡ true
unfolding inbound_in
none_held s i h p = rw (h, p) (or_right (has_pair s) refl)

-- an Sd leaves no half and no part of a pair
sd_kept : (s : Shape) (i : Inbound) (leads : Leads) (bk : Bool) → Kept s (reads_sd i leads bk)
sd_kept s i leads bk = none_held s (reads_sd i leads bk).inbound refl refl

-- form 0: a low nibble may be held
module _ (w : ℕ) (i : Inbound) (ranged : inbound_in (shape.Word w) i ≡ true) (byte : ℕ) where
  word_kept : (k : Kind) → Carries byte k → Kept (shape.Word w) (reads_word w i k)
  unfolding reads_word inbound_in
  word_kept (Dl x) c =
      by_test (Kept (shape.Word w)) i.standing.bk (λ t. refl)
      (λ t. both (both (lt-ltb x 16 (omega (arith, nibble_below byte))) refl) refl)
  word_kept (Dh x) c = by_test (Kept (shape.Word w)) i.standing.bk (λ t. refl) (λ t. refl)
  word_kept (Sd s bk) c = sd_kept (shape.Word w) i s bk
  word_kept Sgvi c = refl
  word_kept (Sgp k) c = refl
  word_kept Sgr c = refl
  word_kept Other c = refl

-- form 6
module _ (i : Inbound) (ranged : inbound_in (shape.Unit Six) i ≡ true) where
  idle_kept : (k : Kind) → Kept (shape.Unit Six) (reads_idle i k)
  unfolding inbound_in
  idle_kept (Dl x) = refl
  idle_kept (Dh x) = refl
  idle_kept (Sd s bk) = sd_kept (shape.Unit Six) i s bk
  idle_kept Sgvi = refl
  idle_kept (Sgp k) = refl
  idle_kept Sgr = refl
  idle_kept Other = refl

  six_kept : (byte : ℕ) → Kept (shape.Unit Six) (reads_six i byte)
  unfolding reads_six inbound_in
  six_kept byte = by_test (Kept (shape.Unit Six)) (is_data Six byte) (λ t. refl) (λ t. idle_kept (kind_of byte))

-- forms 7 and 8: so much of the pair may have come
module _ (f : Form) (paired : pair_form f ≡ true) (i : Inbound) (ranged : inbound_in (shape.Unit f) i ≡ true) where
  abbrev PairIn : ℕ → Type 0
  PairIn n = (leb n 2 && (pair_form f || eqb n 0)) ≡ true

  pair_in_lem : (n : ℕ) → n ≤ 2 → PairIn n
  pair_in_lem n l = rw (le-leb n 2 l, paired)

  pair_kept : (k : Kind) → Kept (shape.Unit f) (reads_pair i k)
  unfolding inbound_in
  pair_kept (Dl x) = by_test PairIn (eqb x 0) (λ t. pair_in_lem 1 (omega arith)) (λ t. pair_in_lem 0 (omega arith))
  pair_kept (Dh x) = by_test PairIn (eqb x 0 && eqb i.pair 1) (λ t. pair_in_lem 2 (omega arith)) (λ t. pair_in_lem 0 (omega arith))
  pair_kept (Sd s bk) = sd_kept (shape.Unit f) i s bk
  pair_kept Sgvi = pair_in_lem 0 (omega arith)
  pair_kept (Sgp k) = pair_in_lem 0 (omega arith)
  pair_kept Sgr = pair_in_lem 0 (omega arith)
  pair_kept Other = pair_in_lem 0 (omega arith)

  stream_kept : (byte : ℕ) → Kept (shape.Unit f) (reads_stream f i byte)
  unfolding reads_stream inbound_in
  stream_kept byte =
      by_test (Kept (shape.Unit f)) (eqb i.pair 2) (λ t. pair_in_lem 2 (omega arith)) (λ t. pair_kept (kind_of byte))

form_kept : (f : Form) (i : Inbound) (byte : ℕ) → inbound_in (shape.Unit f) i ≡ true → Kept (shape.Unit f) (reads_form f i byte)
form_kept Six i byte r = six_kept i r byte
form_kept SevenV1 i byte r = stream_kept SevenV1 refl i r byte
form_kept SevenV2 i byte r = stream_kept SevenV2 refl i r byte
form_kept Eight i byte r = stream_kept Eight refl i r byte

pub reading_kept : (s : Shape) (i : Inbound) (byte : ℕ) → inbound_in s i ≡ true → inbound_in s (reading s i byte).inbound ≡ true
unfolding reading
reading_kept (shape.Word w) i byte r = word_kept w i r byte (kind_of byte) (kind_carries byte)
reading_kept (shape.Unit f) i byte r = form_kept f i byte r

pub fresh_inbound : (s : Shape) → inbound_in s fresh_line.inbound ≡ true
unfolding fresh_line
fresh_inbound s = none_held s fresh_line.inbound refl refl
