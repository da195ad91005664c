-- Each end of the undamaged pair is the end of a call that hears what arrives, and what arrives is what the other sent d slots before.
-- Assumes nothing.
use mathlib.Core.Path.{◌≡◌, refl, sym, ap, ◌∙◌}
use mathlib.Core.Bool.{Bool, true, false, cond, ◌&&◌}
use mathlib.Core.List.{List, [], ◌∷◌, ◌++◌}
use Prim.Native.Nat.{ℕ, zero, suc, ◌≤◌}
use native.Mathlib.Nat.{zero-add}
use lib.Dec.{lit<}
use lib.ListN.{drop, replicate}
use Rattle.book.specs.declared.Book.{Book}
use Rattle.channel.specs.Bytes.{sgidle}
use Rattle.channel.specs.Forms.{unit_byte, ArrivesAs}
use Rattle.channel.specs.declared.unit.Form.{Form}
use Rattle.channel.specs.declared.unit.Form.TheVariants.{Six, SevenV1, SevenV2, Eight}
use Rattle.protocol.specs.Sent.{Silence, group_byte, byte_sent}
use Rattle.protocol.specs.Ranges.{well_formed}
use Rattle.protocol.specs.Slot.{started, step, step_of, offer_allowed, passes, refuses, slot_step, slot_of}
use Rattle.protocol.specs.Call.{end_at, sent_at}
use Rattle.protocol.specs.Damage.{GroupArrives, Arrives}
use Rattle.protocol.specs.Joined.{Joined, byte_of, arriving, joined, joined_slot}
use Rattle.premises.specs.Undamaged.{joined_at, hears_o, hears_a}
use Rattle.protocol.specs.declared.Endpoint.{Endpoint}
use Rattle.protocol.specs.declared.Drive.{Drive}
use Rattle.protocol.specs.declared.SlotRefusal.TheVariants.{UnitOutOfRange, OutsideRanges}
use Rattle.premises.proofs.WithinDamage.{Within, copy_as_sent, line_arrives}

-- what is sent, arriving as it was sent, is within the allowed damage
unit_as_sent : (f : Form) (b : ℕ) → ArrivesAs f b b
unit_as_sent Six b = refl
unit_as_sent SevenV1 b = refl
unit_as_sent SevenV2 b = refl
unit_as_sent Eight b = refl

group_as_sent : (v : ℕ) → GroupArrives v (λ place. group_byte place v) 0
group_as_sent v =
    record {
      marks = λ place l. rw zero-add refl;
      copies = λ i l. rw (copy_as_sent v i _ _ l refl refl) (lit< tt);
    }

pub as_sent_lem : Within byte_sent
unfolding byte_sent
as_sent_lem = record { alone = λ b. refl; units = λ f u. unit_as_sent f (unit_byte f u); groups = group_as_sent }

-- the byte of a slot is what the slot sends
byte_sent_lem : (e : Endpoint) (heard : ℕ) (g : Drive) → byte_of (slot_of e heard g).reply ≡ byte_sent (slot_step e heard g).sent
unfolding slot_of slot_step byte_sent
byte_sent_lem e heard g = by (well_formed e) (offer_allowed e g e.phase)
  where
    by : (w a : Bool) → byte_of (cond w (cond a (passes (step_of e heard g)) (refuses e UnitOutOfRange)) (refuses e OutsideRanges)).reply
        ≡ byte_sent (cond (w && a) (step_of e heard g) (step e Silence)).sent
    by true true = refl
    by true false = refl
    by false a = refl

-- an end that goes on by slots of a call is the end of that call
pub end_is : (e : Endpoint) (heard : ℕ → ℕ) (given : ℕ → Drive) (end : ℕ → Endpoint) → end 0 ≡ e
    → ((t : ℕ) → end (suc t) ≡ (slot_of (end t) (heard t) (given t)).state) → (t : ℕ) → end_at e heard given t ≡ end t
unfolding end_at
end_is e heard given end start next zero = sym start
end_is e heard given end start next (suc t) =
    ap (λ x. (slot_of x (heard t) (given t)).state) (end_is e heard given end start next t) ∙ sym (next t)

module _ (o a : Endpoint) (d : ℕ) (go ga : ℕ → Drive) where
  pub end_o : (t : ℕ) → end_at o (hears_o o a d go ga) go t ≡ (joined_at o a d go ga t).o
  unfolding joined_at joined joined_slot
  end_o = end_is o (hears_o o a d go ga) go (λ t. (joined_at o a d go ga t).o) refl (λ t. refl)

  pub end_a : (t : ℕ) → end_at a (hears_a o a d go ga) ga t ≡ (joined_at o a d go ga t).a
  unfolding joined_at joined joined_slot
  end_a = end_is a (hears_a o a d go ga) ga (λ t. (joined_at o a d go ga t).a) refl (λ t. refl)

-- the bytes on their way from an end, as its call sends them
from_end : (b : Book) (heard : ℕ → ℕ) (given : ℕ → Drive)
    → (d : ℕ) → 1 ≤ d → (line : ℕ → List ℕ) (end : ℕ → Endpoint) → ((t : ℕ) → end_at (started b) heard given t ≡ end t)
    → line 0 ≡ replicate d sgidle → ((t : ℕ) → line (suc t) ≡ drop 1 (line t) ++ (byte_of (slot_of (end t) (heard t) (given t)).reply ∷ []))
    → Arrives d (sent_at (started b) heard given) (λ t. arriving (line t))
from_end b heard given d delay line end is first next =
    line_arrives byte_sent as_sent_lem d delay (sent_at (started b) heard given) line first
    (λ t.
    next t
    ∙ ap (λ byte. drop 1 (line t) ++ (byte ∷ []))
    (rw (← is t) (byte_sent_lem (end_at (started b) heard given t) (heard t) (given t))))

module _ (bo ba : Book) (d : ℕ) (delay : 1 ≤ d) (go ga : ℕ → Drive) where
  abbrev pair : ℕ → Joined
  pair = joined_at (started bo) (started ba) d go ga

  abbrev ho : ℕ → ℕ
  ho = hears_o (started bo) (started ba) d go ga

  abbrev ha : ℕ → ℕ
  ha = hears_a (started bo) (started ba) d go ga

  pub to_a_lem : Arrives d (sent_at (started bo) ho go) ha
  unfolding joined_at joined joined_slot
  to_a_lem =
      from_end bo ho go d delay (λ t. (pair t).to_a) (λ t. (pair t).o) (end_o (started bo) (started ba) d go ga) refl (λ t. refl)

  pub to_o_lem : Arrives d (sent_at (started ba) ha ga) ho
  unfolding joined_at joined joined_slot
  to_o_lem =
      from_end ba ha ga d delay (λ t. (pair t).to_o) (λ t. (pair t).a) (end_a (started bo) (started ba) d go ga) refl (λ t. refl)
