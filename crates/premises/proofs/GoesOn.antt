-- Two ends that are joined up to a slot are the beginning of a joined pair: from that slot on nothing is offered, and all that is sent arrives
-- as sent. Assumes nothing.
use mathlib.Core.Path.{◌≡◌, refl, sym, ap, ◌∙◌, subst}
use mathlib.Core.Bool.{true, cond}
use mathlib.Core.List.{List, [], ◌∷◌, ◌++◌}
use Prim.Native.Nat.{ℕ, zero, suc, ◌+◌, ◌/◌, ◌≤◌, ◌<◌}
use native.Mathlib.Nat.{add-zero}
use native.Mathlib.Decide.{dec_lt}
use native.Mathlib.Omega.{arith}
use lib.Dec.{ltb}
use lib.ListN.{drop, replicate}
use borrow.Author.Tests.{lt-ltb, le-ltb}
use Rattle.book.specs.declared.Book.{Book}
use Rattle.channel.specs.Bytes.{sgidle}
use Rattle.channel.specs.Forms.{unit_byte, ArrivesAs}
use Rattle.channel.specs.declared.unit.Form.{Form}
use Rattle.protocol.specs.Sent.{Sent, Alone, Part, Unit, byte_sent}
use Rattle.protocol.specs.Slot.{started, slot_step, slot_of, offer_allowed}
use Rattle.protocol.specs.Call.{end_at, sent_at, Allowed}
use Rattle.protocol.specs.Damage.{GroupArrives, Arrives}
use Rattle.protocol.specs.Joined.{Joined, idle, arriving, joined}
use Rattle.premises.specs.Stretch.{ArrivesUpTo, AllowedUpTo, JoinedUpTo, GoesOn}
use Rattle.protocol.specs.declared.Endpoint.{Endpoint}
use Rattle.protocol.specs.declared.Drive.{Drive}
use Rattle.protocol.proofs.Calls.CallDetermined.{call_determined, sent_determined}
use Rattle.premises.proofs.DelayLine.{arrives_early, arrives_late}
use Rattle.premises.proofs.WithinDamage.{group_at, group_moved}
use Rattle.premises.proofs.UndamagedCalls.{as_sent_lem, end_is}
use Rattle.premises.proofs.OffersAllowed.{nothing_allowed}

-- the one before slot n, and the other from it on
module _ {A : Type 0} (n : ℕ) (f g : ℕ → A) where
  abbrev cut : ℕ → A
  cut t = cond (ltb t n) (f t) (g t)

  before : (t : ℕ) → t < n → cut t ≡ f t
  before t l = rw (lt-ltb t n l)

  after : (t : ℕ) → n ≤ t → cut t ≡ g t
  after t l = rw (le-ltb t n l)

-- One direction: what is sent is as before up to slot n, and from then on arrives as sent.
module _ (n d : ℕ) (delay : 1 ≤ d) (sent sent' : ℕ → Sent) (heard : ℕ → ℕ) (line : ℕ → List ℕ) (first : line 0 ≡ replicate d sgidle)
    (next : (t : ℕ) → line (suc t) ≡ drop 1 (line t) ++ (byte_sent (sent' t) ∷ []))
    (same : (t : ℕ) → t < n → sent' t ≡ sent t) (a : ArrivesUpTo n d sent heard) where
  abbrev heard' : ℕ → ℕ
  heard' = cut n heard (λ t. arriving (line t))

  below : (t : ℕ) → t < n → heard' t ≡ heard t
  below = before n heard (λ t. arriving (line t))

  beyond : (t : ℕ) → n ≤ t + d → heard' (t + d) ≡ byte_sent (sent' t)
  beyond t l =
      after n heard (λ t. arriving (line t)) (t + d) l ∙ arrives_late d delay line (λ t. byte_sent (sent' t)) first next t

  as_before : (t : ℕ) → t + d < n → sent' t ≡ sent t
  as_before t l = same t (omega arith)

  early : (t : ℕ) → t < d → heard' t / 2 ≡ sgidle / 2
  early t h = go (dec_lt t n)
    where
      go : Dec (t < n) → heard' t / 2 ≡ sgidle / 2
      go (yes l) = ap (λ b. b / 2) (below t l) ∙ a.early t h l
      go (no l) =
          ap (λ b. b / 2)
          (after n heard (λ t. arriving (line t)) t (omega arith) ∙ arrives_early d delay line (λ t. byte_sent (sent' t)) first next t h)

  alone : (t b : ℕ) → sent' t ≡ Alone b → heard' (t + d) / 2 ≡ b / 2
  alone t b e = go (dec_lt (t + d) n)
    where
      go : Dec (t + d < n) → heard' (t + d) / 2 ≡ b / 2
      go (yes l) = ap (λ b. b / 2) (below (t + d) l) ∙ a.alone t b l (sym (as_before t l) ∙ e)
      go (no l) = ap (λ b. b / 2) (beyond t (omega arith) ∙ ap byte_sent e) ∙ as_sent_lem.alone b

  units : (t : ℕ) (f : Form) (u : ℕ) → sent' t ≡ Unit f u → ArrivesAs f (unit_byte f u) (heard' (t + d))
  units t f u e = go (dec_lt (t + d) n)
    where
      go : Dec (t + d < n) → ArrivesAs f (unit_byte f u) (heard' (t + d))
      go (yes l) = subst (ArrivesAs f (unit_byte f u)) (sym (below (t + d) l)) (a.units t f u l (sym (as_before t l) ∙ e))
      go (no l) = subst (ArrivesAs f (unit_byte f u)) (sym (beyond t (omega arith) ∙ ap byte_sent e)) (as_sent_lem.units f u)

  groups : (t v : ℕ) → ((place : ℕ) → place < 6 → sent' (t + place) ≡ Part place v) → GroupArrives v heard' (t + d)
  groups t v e = go (dec_lt (t + d) n)
    where
      go : Dec (t + d < n) → GroupArrives v heard' (t + d)
      go (yes l) =
          let w = a.whole t v l (sym (as_before t l) ∙ ap sent' (sym (add-zero t)) ∙ e 0 (omega arith)) in
          group_moved v (t + d) (t + d) heard heard' (λ place h. below (t + d + place) (omega arith))
          (a.groups t v w (λ place h. sym (same (t + place) (omega arith)) ∙ e place h))
      go (no l) =
          group_at v (t + d) heard' (λ place. byte_sent (Part place v))
          (λ place h.
          let slot : t + place + d ≡ t + d + place = omega arith in
          subst (λ u. heard' u ≡ byte_sent (Part place v)) slot (beyond (t + place) (omega arith) ∙ ap byte_sent (e place h)))
          (as_sent_lem.groups v)

  arrives_on : Arrives d sent' heard'
  arrives_on = record { early = early; alone = alone; units = units; groups = groups }

-- nothing is refused: before slot n as it was, from then on since nothing is offered
allowed_on : (n : ℕ) (e : Endpoint) (heard heard' : ℕ → ℕ) (given : ℕ → Drive) → ((t : ℕ) → t < n → heard' t ≡ heard t) → AllowedUpTo n e heard given
    → Allowed e heard' (cut n given (λ t. idle))
allowed_on n e heard heard' given same allowed t = go (dec_lt t n)
  where
    go : Dec (t < n) → offer_allowed (end_at e heard' (cut n given (λ t. idle)) t) (cut n given (λ t. idle) t) (end_at e heard' (cut n given (λ t. idle)) t).phase ≡ true
    go (yes l) =
        rw (
          call_determined e heard' heard (cut n given (λ t. idle)) given t (λ i h. same i (omega arith)) (λ i h. before n given (λ t. idle) i (omega arith)),
          before n given (λ t. idle) t l,
        )
        (allowed t l)
    go (no l) =
        nothing_allowed (end_at e heard' (cut n given (λ t. idle)) t) (cut n given (λ t. idle) t) (ap (λ (g : Drive). g.offer) (after n given (λ t. idle) t (omega arith)))
        (end_at e heard' (cut n given (λ t. idle)) t).phase

module _ (n d : ℕ) (bo ba : Book) (go ga : ℕ → Drive) (ho ha : ℕ → ℕ) where
  given_o : ℕ → Drive
  given_o = cut n go (λ t. idle)

  given_a : ℕ → Drive
  given_a = cut n ga (λ t. idle)

  -- a slot of the pair, as of the undamaged one but for what is heard before slot n
  slot_on : ℕ → Joined → Joined
  slot_on t j =
      let o = cut n ho (λ u. arriving j.to_o) t in
      let a = cut n ha (λ u. arriving j.to_a) t in
      record {
        o = (slot_of j.o o (given_o t)).state;
        a = (slot_of j.a a (given_a t)).state;
        to_o = drop 1 j.to_o ++ (byte_sent (slot_step j.a a (given_a t)).sent ∷ []);
        to_a = drop 1 j.to_a ++ (byte_sent (slot_step j.o o (given_o t)).sent ∷ []);
      }

  pair_on : ℕ → Joined
  pair_on zero = joined (started bo) (started ba) d
  pair_on (suc t) = slot_on t (pair_on t)

  heard_o : ℕ → ℕ
  heard_o = cut n ho (λ t. arriving (pair_on t).to_o)

  heard_a : ℕ → ℕ
  heard_a = cut n ha (λ t. arriving (pair_on t).to_a)

  -- what each line takes is what the end's call sends
  next_o : (t : ℕ) → (pair_on (suc t)).to_o ≡ drop 1 (pair_on t).to_o ++ (byte_sent (sent_at (started ba) heard_a given_a t) ∷ [])
  unfolding pair_on slot_on joined heard_a
  next_o t =
      ap (λ e. drop 1 (pair_on t).to_o ++ (byte_sent (slot_step e (heard_a t) (given_a t)).sent ∷ []))
      (sym (end_is (started ba) heard_a given_a (λ t. (pair_on t).a) refl (λ t. refl) t))

  next_a : (t : ℕ) → (pair_on (suc t)).to_a ≡ drop 1 (pair_on t).to_a ++ (byte_sent (sent_at (started bo) heard_o given_o t) ∷ [])
  unfolding pair_on slot_on joined heard_o
  next_a t =
      ap (λ e. drop 1 (pair_on t).to_a ++ (byte_sent (slot_step e (heard_o t) (given_o t)).sent ∷ []))
      (sym (end_is (started bo) heard_o given_o (λ t. (pair_on t).o) refl (λ t. refl) t))

  same_heard_o_lem : (t : ℕ) → t < n → heard_o t ≡ ho t
  unfolding heard_o
  same_heard_o_lem = before n ho (λ t. arriving (pair_on t).to_o)

  same_heard_a_lem : (t : ℕ) → t < n → heard_a t ≡ ha t
  unfolding heard_a
  same_heard_a_lem = before n ha (λ t. arriving (pair_on t).to_a)

  same_given_o_lem : (t : ℕ) → t < n → given_o t ≡ go t
  unfolding given_o
  same_given_o_lem = before n go (λ t. idle)

  same_given_a_lem : (t : ℕ) → t < n → given_a t ≡ ga t
  unfolding given_a
  same_given_a_lem = before n ga (λ t. idle)

  same_sent_o : (t : ℕ) → t < n → sent_at (started bo) heard_o given_o t ≡ sent_at (started bo) ho go t
  same_sent_o t l =
      sent_determined (started bo) heard_o ho given_o go t (λ i h. same_heard_o_lem i (omega arith)) (λ i h. same_given_o_lem i (omega arith))

  same_sent_a : (t : ℕ) → t < n → sent_at (started ba) heard_a given_a t ≡ sent_at (started ba) ha ga t
  same_sent_a t l =
      sent_determined (started ba) heard_a ha given_a ga t (λ i h. same_heard_a_lem i (omega arith)) (λ i h. same_given_a_lem i (omega arith))

  pub goes_on : JoinedUpTo n d bo ba go ga ho ha → GoesOn n d bo ba go ga ho ha
  unfolding pair_on joined heard_o heard_a given_o given_a
  goes_on p =
      record {
        given_o = given_o;
        given_a = given_a;
        heard_o = heard_o;
        heard_a = heard_a;
        pair =
            record {
              books = p.books;
              allowed_o = allowed_on n (started bo) ho heard_o go same_heard_o_lem p.allowed_o;
              allowed_a = allowed_on n (started ba) ha heard_a ga same_heard_a_lem p.allowed_a;
              to_o =
                  arrives_on n d p.books.delay (sent_at (started ba) ha ga) (sent_at (started ba) heard_a given_a) ho (λ t. (pair_on t).to_o) refl
                  next_o same_sent_a p.to_o;
              to_a =
                  arrives_on n d p.books.delay (sent_at (started bo) ho go) (sent_at (started bo) heard_o given_o) ha (λ t. (pair_on t).to_a) refl
                  next_a same_sent_o p.to_a;
            };
        same_given_o = same_given_o_lem;
        same_given_a = same_given_a_lem;
        same_heard_o = same_heard_o_lem;
        same_heard_a = same_heard_a_lem;
      }
