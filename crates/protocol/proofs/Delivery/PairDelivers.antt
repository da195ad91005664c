-- The second half of what is promised of the joined pair: each unit taken is delivered once, in order, unchanged. Assumes nothing.
use Rattle.std.specs.Prelude.{Option, Some, None}
use mathlib.Core.Path.{◌≡◌, refl, sym, ap, ap₂, ◌∙◌, subst, subst₂}
use mathlib.Core.Bool.{Bool, true, false}
use mathlib.Core.List.{[]}
use Prim.Native.Nat.{ℕ, suc, ◌+◌, ◌*◌, ◌-◌, ◌/◌, ◌≤◌, ◌<◌}
use native.Mathlib.Nat.{add-zero}
use native.Mathlib.Decide.{dec_lt}
use native.Mathlib.Omega.{arith}
use lib.Dec.{eqb}
use lib.ListN.{length, get_or}
use borrow.Author.Tests.{ne_eqb, eqb-true}
use Rattle.ground.proofs.Test.{either_way}
use Rattle.book.specs.declared.Entry.{Entry}
use Rattle.book.specs.declared.Book.{Book}
use Rattle.book.specs.Book.{params_of}
use Rattle.book.proofs.Kept.{KeptEntry, kept}
use Rattle.channel.specs.declared.unit.Form.{Form}
use Rattle.channel.specs.declared.unit.Form.TheVariants.{Six, SevenV1, SevenV2, Eight}
use Rattle.channel.specs.Bytes.{sdidle, sgidle}
use Rattle.protocol.specs.Collecting.{no_nibbles}
use Rattle.protocol.specs.Sent.{Sent, Silence, Alone, Part, Unit}
use Rattle.protocol.specs.Exchange.{entry_of, match_in}
use Rattle.protocol.specs.Schedule.{meets, concludes_o, concludes_a}
use Rattle.protocol.specs.Opened.{shape_of}
use Rattle.protocol.specs.Slot.{started}
use Rattle.protocol.specs.Call.{sent_at, taken_at}
use Rattle.protocol.specs.Damage.{Arrives}
use Rattle.protocol.specs.Pair.{JoinedPair, ProfileIn, shared_version}
use Rattle.protocol.specs.Carried.{carried_before, delivered_before, lag, shown_after}
use Rattle.protocol.specs.Delivery.{signals_of, AllOnes, Offered, CarriesOver, CameFrom, BothCarry, Dipstick, Dipsticks}
use Rattle.protocol.specs.Late.{Later, AnswererLater, starts_o, starts_a, since, starting, sent_from, JoinedLate, meets_late, CarriesLate, BothCarryLate, DipsticksLate}
use Rattle.protocol.specs.declared.Shape.{Shape}
use Rattle.protocol.specs.declared.Shape.TheVariants as shape
use Rattle.protocol.specs.declared.Endpoint.{Endpoint}
use Rattle.protocol.specs.declared.Drive.{Drive}
use Rattle.protocol.proofs.Chain.Roles.{as_o, as_a, common}
use Rattle.protocol.proofs.Kept.StateKept.{call_kept}
use Rattle.protocol.proofs.Kept.BookFacts.{has_entry_lem}
use Rattle.protocol.proofs.Chain.Profile.{found_none}
use Rattle.protocol.proofs.Chain.OwnSlots.{not_yet, once_started, in_own, since_none, starting_none}
use Rattle.protocol.proofs.Chain.Starting.{after_o, after_a}
use Rattle.protocol.proofs.Chain.AtOnce.{together, sent_at_once, stands_at_once}
use Rattle.protocol.proofs.Chain.BothConclude.{profile_is, open_a, open_o, state_a, state_o, step_o, idled_o, last_exchange_a, last_exchange_o}
use Rattle.protocol.proofs.Chain.PairConcludes.{pair_by_roles}
use Rattle.protocol.proofs.Delivery.MirrorKept.{ArrivesOne}
use Rattle.protocol.proofs.Delivery.Stream.{goes}
use Rattle.protocol.proofs.Delivery.Delivers.{SendsFrom, ReadsFrom, delivers_late, signals_arrive_late}
use Rattle.protocol.proofs.Delivery.OpenEnds.{sends_after, reads_after_idle, sends_at_once, reads_after}
use Rattle.protocol.proofs.Delivery.Fills.{told, carried_from}

-- the damage of one byte, of what is sent and of what arrives
one_arrives : (d : ℕ) (sent : ℕ → Sent) (heard : ℕ → ℕ) → Arrives d sent heard → (t : ℕ) (s : Sent) → sent t ≡ s → ArrivesOne s (heard (t + d))
one_arrives d sent heard a t Silence e = Prim.tt
one_arrives d sent heard a t (Alone b) e = a.alone t b e
one_arrives d sent heard a t (Part place value) e = Prim.tt
one_arrives d sent heard a t (Unit f u) e = a.units t f u e

word_shape : (e : Entry) (version : ℕ) → eqb e.form 0 ≡ true → shape_of e version ≡ shape.Word e.w
unfolding shape_of
word_shape e version t = rw t refl

abbrev NoWord : Shape → Type 0
NoWord s = (w : ℕ) → s ≡ shape.Word w → w ≤ 8

unit_shape : (f : Form) → NoWord (shape.Unit f)
unit_shape f w q = let z : ◌≡◌ {A = ℕ} 0 1 = cc in absurd (omega arith)

no_word : (e : Entry) (version : ℕ) → eqb e.form 0 ≡ false → NoWord (shape_of e version)
unfolding shape_of
no_word e version t =
    rw t
    (either_way NoWord (eqb e.form 6) (unit_shape Six)
    (either_way NoWord (eqb e.form 7) (either_way NoWord (eqb version 1) (unit_shape SevenV1) (unit_shape SevenV2)) (unit_shape Eight)))

-- a word length is at most 8
small_word : (e : Entry) (mask version : ℕ) → KeptEntry mask e → (w : ℕ) → shape_of e version ≡ shape.Word w → w ≤ 8
small_word e mask version k w q = go (eqb e.form 0) refl
  where
    go : (x : Bool) → eqb e.form 0 ≡ x → w ≤ 8
    go true t =
        let z : shape.Word e.w ≡ shape.Word w = sym (word_shape e version t) ∙ q in
        let v : e.w ≡ w = cc in
        subst (λ n. n ≤ 8) v (k.word (eqb-true e.form 0 t)).1
    go false t = no_word e version t w q

-- One direction, from a sender that starts in slot b and a receiver that starts in slot c.
module _ (x d b c : ℕ) (s : Shape) (small : (w : ℕ) → s ≡ shape.Word w → w ≤ 8) (begun : b ≤ x) (there : c ≤ x + d)
    (sender receiver : Endpoint) (hs hr : ℕ → ℕ) (gs gr : ℕ → Drive)
    (sends : SendsFrom (x - b) s sender (since b hs) (since b gs)) (reads : ReadsFrom (x + d - c) s receiver (since c hr) (since c gr))
    (arrives : Arrives d (sent_from b sender hs gs) hr) where
  each_arrives : (n : ℕ) → ArrivesOne (goes s sends.drives n).sent (since c hr (x + d - c + n))
  each_arrives n =
      let own : x + n - b ≡ x - b + n = omega arith in
      let slot : x + n + d ≡ c + (x + d - c + n) = omega arith in
      subst (λ t. ArrivesOne (goes s sends.drives n).sent (hr t)) slot
      (one_arrives d (sent_from b sender hs gs) hr arrives (x + n) (goes s sends.drives n).sent
      (once_started b (Alone sgidle) (sent_at sender (since b hs) (since b gs)) (x + n) (omega arith)
      ∙ ap (sent_at sender (since b hs) (since b gs)) own
      ∙ sends.sent n))

  carries_late : CarriesLate d s x b sender hs gs c receiver hr gr
  carries_late =
      record {
        units = delivers_late x d b c s small begun there sender receiver (since b hs) (since c hr) (since b gs) (since c gr) sends reads each_arrives;
        taken = λ t. (told sender (since b hs) (since b gs) t).offered;
        between = λ t. (told sender (since b hs) (since b gs) t).ones;
        signals =
            signals_arrive_late x d b c s small begun there sender receiver (since b hs) (since c hr) (since b gs) (since c gr) sends reads each_arrives;
      }

-- Both directions, with the roles named.
module _ {d e : ℕ} {later : Later} (bo ba : Book) {go ga : ℕ → Drive} {ho ha : ℕ → ℕ}
    (p : JoinedLate d e later (as_o bo) (as_a ba) go ga ho ha) (shared : eqb (common bo ba) 0 ≡ false)
    (i : ℕ) (f : match_in (common bo ba) ba.entries (params_of (entry_of (as_o bo) 0)) ba.n ≡ Some i) where
  abbrev s : Shape
  s = shape_of (entry_of (as_o bo) 0) (common bo ba)

  -- the slots in which they start and open
  abbrev o : ℕ
  o = starts_o later e

  abbrev a : ℕ
  a = starts_a later e

  abbrev to : ℕ
  to = concludes_o (meets_late later d e) d (as_o bo) (as_a ba)

  abbrev ta : ℕ
  ta = concludes_a (meets_late later d e) d (as_o bo) (as_a ba)

  abbrev at_o : Endpoint
  at_o = started (as_o bo)

  abbrev at_a : Endpoint
  at_a = started (as_a ba)

  -- they have started before
  begun_o : o ≤ to
  begun_o = omega (arith, after_o d e later)

  begun_a : a + d ≤ ta
  begun_a = omega (arith, after_a d e later)

  small : (w : ℕ) → s ≡ shape.Word w → w ≤ 8
  small =
      small_word (entry_of (as_o bo) 0) bo.mask (common bo ba) ((kept (as_o bo) p.books.book_o).entry 0 (has_entry_lem (as_o bo) p.books.book_o))

  same_shape : shape_of (entry_of (as_a ba) i) (common bo ba) ≡ s
  same_shape = ap (λ x. shape_of x (common bo ba)) (profile_is bo ba p shared i f)

  sends_o_lem : SendsFrom (to - o) s at_o (since o ho) (since o go)
  sends_o_lem =
      sends_at_once at_o (since o ho) (since o go) (call_kept (as_o bo) p.books.book_o (since o ho) (since o go)) p.allowed_o (to - o)
      (open_o bo ba p shared i f).before 0 (as_o bo) (last_exchange_o bo ba p shared i f) (state_o bo ba p shared i f) (step_o bo ba p shared i f)

  reads_o : ReadsFrom (suc (to - o)) s at_o (since o ho) (since o go)
  reads_o =
      reads_after at_o (since o ho) (since o go) (call_kept (as_o bo) p.books.book_o (since o ho) (since o go)) p.allowed_o (to - o)
      (open_o bo ba p shared i f).before 0 (as_o bo) (last_exchange_o bo ba p shared i f) (state_o bo ba p shared i f) (step_o bo ba p shared i f)

  sends_a : SendsFrom (suc (ta - a)) s at_a (since a ha) (since a ga)
  sends_a =
      subst (λ x. SendsFrom (suc (ta - a)) x at_a (since a ha) (since a ga)) same_shape
      (sends_after at_a (since a ha) (since a ga) (call_kept (as_a ba) p.books.book_a (since a ha) (since a ga)) p.allowed_a (ta - a)
      (open_a bo ba p shared i f).before (common bo ba) i (as_a ba) no_nibbles (last_exchange_a bo ba p shared i f).hearing.values
      (state_a bo ba p shared i f))

  -- until O's first opening byte comes, A hears Sdidle
  idle_heard : (m : ℕ) → m < 2 * d - 1 → since a ha (suc (ta - a) + m) / 2 ≡ sdidle / 2
  idle_heard m l =
      let z : suc ta + m - d + d ≡ a + (suc (ta - a) + m) = omega (arith, begun_a) in
      subst (λ t. ha t / 2 ≡ sdidle / 2) z
      (p.to_a.alone (suc ta + m - d) sdidle (idled_o bo ba p shared i f (suc ta + m - d) (omega arith) (omega arith)))

  reads_a : ReadsFrom (suc (ta - a) + (2 * d - 1)) s at_a (since a ha) (since a ga)
  reads_a =
      subst (λ x. ReadsFrom (suc (ta - a) + (2 * d - 1)) x at_a (since a ha) (since a ga)) same_shape
      (reads_after_idle at_a (since a ha) (since a ga) (call_kept (as_a ba) p.books.book_a (since a ha) (since a ga)) p.allowed_a (ta - a)
      (open_a bo ba p shared i f).before (common bo ba) i (as_a ba) no_nibbles (last_exchange_a bo ba p shared i f).hearing.values
      (state_a bo ba p shared i f) (2 * d - 1) idle_heard)

  from_o_lem : CarriesLate d s to o at_o ho go a at_a ha ga
  from_o_lem =
      let z : suc (ta - a) + (2 * d - 1) ≡ to + d - a = omega (arith, p.books.delay, begun_a) in
      carries_late to d o a s small begun_o (omega (arith, begun_a)) at_o at_a ho ha go ga sends_o_lem
      (subst (λ y. ReadsFrom y s at_a (since a ha) (since a ga)) z reads_a) p.to_a

  from_next : SendsFrom (ta + 1 - a) s at_a (since a ha) (since a ga)
  from_next =
      let y : suc (ta - a) ≡ ta + 1 - a = omega (arith, begun_a) in subst (λ x. SendsFrom x s at_a (since a ha) (since a ga)) y sends_a

  from_a_lem : CarriesLate d s (ta + 1) a at_a ha ga o at_o ho go
  from_a_lem =
      let z : suc (to - o) ≡ ta + 1 + d - o = omega (arith, begun_o) in
      carries_late (ta + 1) d a o s small (omega (arith, begun_a)) (omega (arith, begun_o)) at_a at_o ha ho ga go from_next
      (subst (λ y. ReadsFrom y s at_o (since o ho) (since o go)) z reads_o) p.to_o

-- both ends, as senders, each in its own slots
pub record BothSendLate (d e : ℕ) (later : Later) (bo ba : Book) (go ga : ℕ → Drive) (ho ha : ℕ → ℕ) : Type 0 where
  pub from_o : SendsFrom (concludes_o (meets_late later d e) d bo ba - starts_o later e) (shape_of (entry_of bo 0) (shared_version bo ba))
      (started bo) (since (starts_o later e) ho) (since (starts_o later e) go)
  pub from_a : SendsFrom (concludes_a (meets_late later d e) d bo ba + 1 - starts_a later e) (shape_of (entry_of bo 0) (shared_version bo ba))
      (started ba) (since (starts_a later e) ha) (since (starts_a later e) ga)

module _ (d e : ℕ) (later : Later) (go ga : ℕ → Drive) (ho ha : ℕ → ℕ) where
  carry_by : (bo ba : Book) → JoinedLate d e later (as_o bo) (as_a ba) go ga ho ha → eqb (common bo ba) 0 ≡ false → ProfileIn (as_o bo) (as_a ba)
      → (m : Option ℕ) → match_in (common bo ba) ba.entries (params_of (entry_of bo 0)) ba.n ≡ m
      → BothCarryLate d e later (as_o bo) (as_a ba) go ga ho ha × BothSendLate d e later (as_o bo) (as_a ba) go ga ho ha
  carry_by bo ba p shared f (Some i) q = (
    record { from_o = from_o_lem bo ba p shared i q; from_a = from_a_lem bo ba p shared i q },
    record { from_o = sends_o_lem bo ba p shared i q; from_a = from_next bo ba p shared i q },
  )
  carry_by bo ba p shared f None q =
      let z : true ≡ false = sym f.same ∙ found_none d bo ba p.books shared f.entry q f.below in
      let w : ◌≡◌ {A = ℕ} 0 1 = cc in
      absurd (omega arith)

  both : (bo ba : Book) → JoinedLate d e later bo ba go ga ho ha → (shared_version bo ba ≡ 0 → ⊥) → ProfileIn bo ba
      → BothCarryLate d e later bo ba go ga ho ha × BothSendLate d e later bo ba go ga ho ha
  both =
      pair_by_roles d e later go ga ho ha
      (λ bo ba. (shared_version bo ba ≡ 0 → ⊥) → ProfileIn bo ba
      → BothCarryLate d e later bo ba go ga ho ha × BothSendLate d e later bo ba go ga ho ha)
      (λ bo ba p n f. carry_by bo ba p (ne_eqb (common bo ba) 0 n) f (match_in (common bo ba) ba.entries (params_of (entry_of bo 0)) ba.n) refl)

  -- once both are open, each unit taken is delivered once, in order, unchanged, with nothing between but fill, in both directions
  pub both_carry_late : (bo ba : Book) → JoinedLate d e later bo ba go ga ho ha → (shared_version bo ba ≡ 0 → ⊥) → ProfileIn bo ba
      → BothCarryLate d e later bo ba go ga ho ha
  both_carry_late bo ba p n f = (both bo ba p n f).0

-- an end that has not started has carried nothing
carried_own : (b : ℕ) (sender : Endpoint) (hs : ℕ → ℕ) (gs : ℕ → Drive) (t : ℕ)
    → starting b [] (carried_before sender hs gs) t ≡ carried_before sender hs gs (t - b)
unfolding carried_before
carried_own b sender hs gs t = go (dec_lt t b)
  where
    go : Dec (t < b) → starting b [] (carried_before sender hs gs) t ≡ carried_before sender hs gs (t - b)
    go (yes h) = let z : 0 ≡ t - b = omega arith in not_yet b [] (carried_before sender hs gs) t h ∙ ap (carried_before sender hs gs) z
    go (no h) = once_started b [] (carried_before sender hs gs) t (omega arith)

-- what is delivered is what was carried, and that was offered in its place or is fill
dipstick : {d : ℕ} {s : Shape} {x b : ℕ} {sender : Endpoint} {hs : ℕ → ℕ} {gs : ℕ → Drive} {c : ℕ} {receiver : Endpoint} {hr : ℕ → ℕ} {gr : ℕ → Drive}
    → CarriesLate d s x b sender hs gs c receiver hr gr → Dipstick sender (since b hs) (since b gs) receiver (since c hr) (since c gr)
dipstick {d} {s} {x} {b} {sender} {hs} {gs} {c} {receiver} {hr} {gr} q t place =
    subst (λ l. place < length l → CameFrom sender (since b hs) (since b gs) place (get_or l place 0)) (sym as_carried)
    (carried_from sender (since b hs) (since b gs) (c + t - (lag s + d) - b) place)
  where
    as_carried : delivered_before receiver (since c hr) (since c gr) t ≡ carried_before sender (since b hs) (since b gs) (c + t - (lag s + d) - b)
    as_carried =
        sym (in_own c [] (delivered_before receiver (since c hr) (since c gr)) t)
        ∙ q.units (c + t)
        ∙ carried_own b sender (since b hs) (since b gs) (c + t - (lag s + d))

pub dipsticks_late : {d e : ℕ} {later : Later} {bo ba : Book} {go ga : ℕ → Drive} {ho ha : ℕ → ℕ}
    → BothCarryLate d e later bo ba go ga ho ha → DipsticksLate e later bo ba go ga ho ha
dipsticks_late c = record { at_a = dipstick c.from_o; at_o = dipstick c.from_a }

-- Both ends start together: e = 0.

carry_own : {d : ℕ} {s : Shape} {x : ℕ} {sender : Endpoint} {hs : ℕ → ℕ} {gs : ℕ → Drive} {receiver : Endpoint} {hr : ℕ → ℕ} {gr : ℕ → Drive}
    → CarriesLate d s x 0 sender hs gs 0 receiver hr gr → CarriesOver d s x sender hs gs receiver hr gr
carry_own {d} {s} {x} {sender} {hs} {gs} {receiver} {hr} {gr} c =
    record {
      units =
          λ t.
          sym (ap (λ units. units t) delivered_own)
          ∙ c.units t
          ∙ ap (λ units. units (t - (lag s + d))) (starting_none [] (carried_before sender (since 0 hs) (since 0 gs)) ∙ ap₂ (carried_before sender) (since_none hs) (since_none gs));
      taken = subst₂ (λ h g. (t : ℕ) → taken_at sender h g t ≡ true → Offered (g t).offer) (since_none hs) (since_none gs) c.taken;
      between =
          subst₂ (λ h g. (t : ℕ) (form : Form) (u : ℕ) → taken_at sender h g t ≡ false → sent_at sender h g t ≡ Unit form u → AllOnes form u)
          (since_none hs) (since_none gs) c.between;
      signals =
          subst₂ (λ stands sent. (t : ℕ) → signals_of (stands t) ≡ (shown_after (λ m. sent (x + m)) (t - (x + d))).standing)
          (stands_at_once receiver hr gr) (sent_at_once sender hs gs) c.signals;
    }
  where
    delivered_own : starting 0 [] (delivered_before receiver (since 0 hr) (since 0 gr)) ≡ delivered_before receiver hr gr
    delivered_own = starting_none [] (delivered_before receiver (since 0 hr) (since 0 gr)) ∙ ap₂ (delivered_before receiver) (since_none hr) (since_none gr)

dipstick_over : {d : ℕ} {s : Shape} {x : ℕ} {sender : Endpoint} {hs : ℕ → ℕ} {gs : ℕ → Drive} {receiver : Endpoint} {hr : ℕ → ℕ} {gr : ℕ → Drive}
    → CarriesOver d s x sender hs gs receiver hr gr → Dipstick sender hs gs receiver hr gr
dipstick_over {sender = sender} {hs} {gs} c t place =
    subst (λ l. place < length l → CameFrom sender hs gs place (get_or l place 0)) (sym (c.units t)) (carried_from sender hs gs _ place)

-- both ends, as senders
pub record BothSend (d : ℕ) (bo ba : Book) (go ga : ℕ → Drive) (ho ha : ℕ → ℕ) : Type 0 where
  pub from_o : SendsFrom (concludes_o (meets d) d bo ba) (shape_of (entry_of bo 0) (shared_version bo ba)) (started bo) ho go
  pub from_a : SendsFrom (concludes_a (meets d) d bo ba + 1) (shape_of (entry_of bo 0) (shared_version bo ba)) (started ba) ha ga

send_own : (x y : ℕ) (s : Shape) (sender : Endpoint) (hs : ℕ → ℕ) (gs : ℕ → Drive) → x ≡ y
    → SendsFrom x s sender (since 0 hs) (since 0 gs) → SendsFrom y s sender hs gs
send_own x y s sender hs gs slot r =
    subst (λ t. SendsFrom t s sender hs gs) slot (subst₂ (SendsFrom x s sender) (since_none hs) (since_none gs) r)

module _ (d : ℕ) (go ga : ℕ → Drive) (ho ha : ℕ → ℕ) where
  pub carry_at_once : (bo ba : Book) → BothCarryLate d 0 AnswererLater bo ba go ga ho ha → BothCarry d bo ba go ga ho ha
  carry_at_once bo ba c =
      let z : d + 0 ≡ meets d = add-zero d in
      record {
        from_o =
            subst (λ h. CarriesOver d (shape_of (entry_of bo 0) (shared_version bo ba)) (concludes_o h d bo ba) (started bo) ho go (started ba) ha ga) z
            (carry_own c.from_o);
        from_a =
            subst (λ h. CarriesOver d (shape_of (entry_of bo 0) (shared_version bo ba)) (concludes_a h d bo ba + 1) (started ba) ha ga (started bo) ho go) z
            (carry_own c.from_a);
      }

  pub dipsticks_at_once : (bo ba : Book) → DipsticksLate 0 AnswererLater bo ba go ga ho ha → Dipsticks bo ba go ga ho ha
  dipsticks_at_once bo ba c =
      subst₂ (λ x y. Dipsticks bo ba x y ho ha) (since_none go) (since_none ga)
      (subst₂ (λ x y. Dipsticks bo ba (since 0 go) (since 0 ga) x y) (since_none ho) (since_none ha) c)

  pub both_carry : (bo ba : Book) → JoinedPair d bo ba go ga ho ha → (shared_version bo ba ≡ 0 → ⊥) → ProfileIn bo ba → BothCarry d bo ba go ga ho ha
  both_carry bo ba p n f =
      carry_at_once bo ba (both_carry_late d 0 AnswererLater go ga ho ha bo ba (together d bo ba go ga ho ha p) n f)

  pub dipsticks : (bo ba : Book) → BothCarry d bo ba go ga ho ha → Dipsticks bo ba go ga ho ha
  dipsticks bo ba c = record { at_a = dipstick_over c.from_o; at_o = dipstick_over c.from_a }

  pub both_send : (bo ba : Book) → JoinedPair d bo ba go ga ho ha → (shared_version bo ba ≡ 0 → ⊥) → ProfileIn bo ba → BothSend d bo ba go ga ho ha
  both_send bo ba p n f =
      let c = (both d 0 AnswererLater go ga ho ha bo ba (together d bo ba go ga ho ha p) n f).1 in
      let slot_o_lem : concludes_o (d + 0) d bo ba - 0 ≡ concludes_o (meets d) d bo ba = omega arith in
      let slot_a_lem : concludes_a (d + 0) d bo ba + 1 - 0 ≡ concludes_a (meets d) d bo ba + 1 = omega arith in
      record {
        from_o = send_own _ _ _ (started bo) ho go slot_o_lem c.from_o;
        from_a = send_own _ _ _ (started ba) ha ga slot_a_lem c.from_a;
      }
