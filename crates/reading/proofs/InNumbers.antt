-- What a received byte delivers, in numbers. Assumes nothing.
use Rattle.std.specs.Prelude.{Option, Some, None}
use mathlib.Core.Path.{◌≡◌, refl, ap, ◌∙◌}
use mathlib.Core.Bool.{Bool, true, false, cond}
use mathlib.Core.List.{List, [], ◌∷◌}
use Prim.Native.Nat.{ℕ}
use lib.Dec.{eqb}
use Rattle.channel.specs.Kinds.{kind_of}
use Rattle.channel.specs.Forms.{unit_in, is_data}
use Rattle.channel.specs.declared.kind.Kind.{Kind}
use Rattle.channel.specs.declared.kind.Kind.TheVariants.{Sgvi, Sgp, Sgr, Dl, Dh, Sd, Other}
use Rattle.channel.specs.declared.unit.Form.{Form}
use Rattle.channel.specs.declared.unit.Form.TheVariants.{Six, SevenV1, SevenV2, Eight}
use Rattle.protocol.specs.Answers.{says_delivered, word_in, delivers_of}
use Rattle.protocol.specs.Opened.{Reading, reads, quiet, word_with, reads_word, reads_idle, reads_six, reads_pair, reads_stream, reads_form, reading}
use Rattle.protocol.specs.declared.Inbound.{Inbound}
use Rattle.protocol.specs.declared.Shape.{Shape}
use Rattle.protocol.specs.declared.Shape.TheVariants as shape
use Rattle.reading.specs.declared.ReadingMade.{ReadingMade}
use Rattle.reading.specs.Made.{reading_made}

abbrev says : Reading → List ℕ
says r = says_delivered r.delivered

module _ (i : Inbound) where
  none : (t : Bool) → says (quiet i) ≡ cond t [] []
  none true = refl
  none false = refl

  low : (x : ℕ) (t : Bool) → says (cond t (quiet i) (reads i (Some x) 0 None)) ≡ cond t [] []
  low x true = refl
  low x false = refl

  high : (w x : ℕ) (t : Bool) (half : Option ℕ)
      → says (cond t (quiet i) (reads i None 0 (word_with w half x))) ≡ cond t [] (word_in w (Dh x) half)
  high w x true half = refl
  high w x false None = refl
  high w x false (Some y) = refl

  word : (w : ℕ) (k : Kind) → says (reads_word w i k) ≡ cond i.standing.bk [] (word_in w k i.half)
  unfolding reads_word
  word w (Dl x) = low x i.standing.bk
  word w (Dh x) = high w x i.standing.bk i.half
  word w (Sd s bk) = none i.standing.bk
  word w Sgvi = none i.standing.bk
  word w (Sgp k) = none i.standing.bk
  word w Sgr = none i.standing.bk
  word w Other = none i.standing.bk

  six : (u : ℕ) (t : Bool) (k : Kind) → says (cond t (reads i None 0 (Some u)) (reads_idle i k)) ≡ cond t (u ∷ []) []
  six u true k = refl
  six u false (Dl x) = refl
  six u false (Dh x) = refl
  six u false (Sd s bk) = refl
  six u false Sgvi = refl
  six u false (Sgp j) = refl
  six u false Sgr = refl
  six u false Other = refl

  stream : (u : ℕ) (t : Bool) (k : Kind) → says (cond t (reads i None 2 (Some u)) (reads_pair i k)) ≡ cond t (u ∷ []) []
  stream u true k = refl
  stream u false (Dl x) = refl
  stream u false (Dh x) = refl
  stream u false (Sd s bk) = refl
  stream u false Sgvi = refl
  stream u false (Sgp j) = refl
  stream u false Sgr = refl
  stream u false Other = refl

  unit : (f : Form) (b : ℕ) → says (reads_form f i b) ≡ delivers_of (shape.Unit f) i b
  unfolding delivers_of reads_six reads_stream
  unit Six b = six (unit_in Six b) (is_data Six b) (kind_of b)
  unit SevenV1 b = stream (unit_in SevenV1 b) (eqb i.pair 2) (kind_of b)
  unit SevenV2 b = stream (unit_in SevenV2 b) (eqb i.pair 2) (kind_of b)
  unit Eight b = stream (unit_in Eight b) (eqb i.pair 2) (kind_of b)

  pub delivers : (s : Shape) (b : ℕ) → says (reading s i b) ≡ delivers_of s i b
  unfolding reading delivers_of
  delivers (shape.Word w) b = word w (kind_of b)
  delivers (shape.Unit f) b = unit f b

pub says_delivers : (s : Shape) (i : Inbound) (b : ℕ) {r : ReadingMade} → r ≡ reading_made (reading s i b)
    → says_delivered r.delivered ≡ delivers_of s i b
says_delivers s i b p = ap (λ (r : ReadingMade). says_delivered r.delivered) p ∙ delivers i s b
