-- Until its limit an end in a call does what the exchange does without a clock, slot by slot. Assumes nothing.
use mathlib.Core.Path.{◌≡◌, refl, sym, ap, ◌∙◌, subst}
use mathlib.Core.Bool.{true}
use Prim.Native.Nat.{ℕ, zero, suc, ◌+◌, ◌<◌}
use native.Mathlib.Numerals.{add-one}
use native.Mathlib.Omega.{arith}
use borrow.Author.Tests.{lt-ltb}
use Rattle.book.specs.declared.Book.{Book}
use Rattle.channel.specs.Kinds.{kind_of}
use Rattle.protocol.specs.Sent.{Sent}
use Rattle.protocol.specs.Exchange.{Turn, first_exchange, turn}
use Rattle.protocol.specs.Opened.{fresh_line}
use Rattle.protocol.specs.Ranges.{well_formed}
use Rattle.protocol.specs.Slot.{exchanging, concluded, started, clocked, opens, opens_hearing, Step, step_by, exchange_step, slot_step, slot_of}
use Rattle.protocol.specs.Call.{end_at, sent_at}
use Rattle.protocol.specs.declared.Exchange.{Exchange}
use Rattle.protocol.specs.declared.Fate.{Fate}
use Rattle.protocol.specs.declared.Fate.TheVariants.{Stays, OpensHearing, OpensSending, Refuses}
use Rattle.protocol.specs.declared.Phase.TheVariants.{Refused}
use Rattle.protocol.specs.declared.Endpoint.{Endpoint}
use Rattle.protocol.specs.declared.Drive.{Drive}
use Rattle.protocol.proofs.Calls.SlotPasses.{exchange_passes, exchange_steps}
use Rattle.protocol.proofs.Chain.Segments.{Said, Says, Silent, Runs}
use Rattle.protocol.proofs.Chain.Core.{Core, Talks, Over, Talking, talking, core, core_by}

-- what an end is that concludes in slot t
abbrev pub concludes : Book → ℕ → Drive → Fate → Exchange → Endpoint
concludes b t g Stays x = exchanging b (suc t) x
concludes b t g (OpensHearing i) x = (opens_hearing b t x i g).state
concludes b t g (OpensSending i) x = opens b t x i fresh_line
concludes b t g (Refuses n) x = concluded b x (Refused n t)

module _ (b : Book) (heard : ℕ → ℕ) (given : ℕ → Drive) where
  -- the exchange without a clock, from the start
  unfoldable pub core_at : ℕ → Core
  core_at zero = Talks (first_exchange b)
  core_at (suc t) = (core b (core_at t) (kind_of (heard t))).to

  unfoldable pub said_at : ℕ → Said
  said_at t = (core b (core_at t) (kind_of (heard t))).out

  pub core_runs : Runs (core b) 0 core_at (λ t. kind_of (heard t)) said_at
  unfolding core_at said_at
  core_runs = record { to = λ t l. refl; said = λ t l. refl }

  abbrev pub end : ℕ → Endpoint
  end t = end_at (started b) heard given t

  module _ (kept : (t : ℕ) → well_formed (end t) ≡ true) where
    passes_on : (t : ℕ) (x : Exchange) → end t ≡ exchanging b t x
        → end (suc t) ≡ (step_by b t (turn b x (kind_of (heard t))) (given t) (turn b x (kind_of (heard t))).fate).state
    unfolding end_at exchange_step
    passes_on t x e =
        ap (λ u. (slot_of u (heard t) (given t)).state) e
        ∙ exchange_passes (exchanging b t x) (heard t) (given t) (subst (λ u. well_formed u ≡ true) e (kept t)) refl

    steps_on : (t : ℕ) (x : Exchange) → end t ≡ exchanging b t x
        → slot_step (end t) (heard t) (given t) ≡ step_by b t (turn b x (kind_of (heard t))) (given t) (turn b x (kind_of (heard t))).fate
    unfolding exchange_step
    steps_on t x e =
        ap (λ u. slot_step u (heard t) (given t)) e
        ∙ exchange_steps (exchanging b t x) (heard t) (given t) (subst (λ u. well_formed u ≡ true) e (kept t)) refl

    sends_on : (t : ℕ) (x : Exchange) → end t ≡ exchanging b t x
        → sent_at (started b) heard given t ≡ (step_by b t (turn b x (kind_of (heard t))) (given t) (turn b x (kind_of (heard t))).fate).sent
    sends_on t x e = ap (λ (s : Step). s.sent) (steps_on t x e)

    stays_on : (t : ℕ) → suc t < b.limit → (u : Turn) (f : Fate) (y : Exchange) → (core_by u f).to ≡ Talks y
        → (step_by b t u (given t) f).state ≡ exchanging b (suc t) y
    unfolding clocked
    stays_on t l u Stays y e =
        let z : u.exchange ≡ y = cc in
        rw (lt-ltb (t + 1) b.limit (omega arith), add-one t) (ap (exchanging b (suc t)) z)
    stays_on t l u (OpensHearing i) y e = cc
    stays_on t l u (OpensSending i) y e = cc
    stays_on t l u (Refuses n) y e = cc

    -- while the core talks, the end exchanges, and its clock shows the slot
    pub timed : (t : ℕ) → t < b.limit → (x : Exchange) → core_at t ≡ Talks x → end t ≡ exchanging b t x
    unfolding end_at core_at started
    timed zero l x e = let z : first_exchange b ≡ x = cc in ap (exchanging b 0) z
    timed (suc t) l x e = go (core_at t) refl (timed t (omega arith))
      where
        go : (u : Core) → core_at t ≡ u → ((y : Exchange) → core_at t ≡ Talks y → end t ≡ exchanging b t y) → end (suc t) ≡ exchanging b (suc t) x
        go (Talks y) q before =
            passes_on t y (before y q)
            ∙ stays_on t l (turn b y (kind_of (heard t))) (turn b y (kind_of (heard t))).fate x (sym (ap (λ u. (core b u (kind_of (heard t))).to) q) ∙ e)
        go (Over f y) q before = let z : Over f y ≡ Talks x = sym (ap (λ u. (core b u (kind_of (heard t))).to) q) ∙ e in cc

    said_on : (t : ℕ) (u : Turn) (f : Fate) (q : Sent) → (core_by u f).out ≡ Says q → (step_by b t u (given t) f).sent ≡ q
    said_on t u Stays q e = cc
    said_on t u (OpensHearing i) q e = cc
    said_on t u (OpensSending i) q e = cc
    said_on t u (Refuses n) q e = cc

    -- and sends what the core says
    pub timed_said : (t : ℕ) → t < b.limit → (q : Sent) → said_at t ≡ Says q → sent_at (started b) heard given t ≡ q
    unfolding said_at
    timed_said t l q e = go (core_at t) refl
      where
        go : (u : Core) → core_at t ≡ u → sent_at (started b) heard given t ≡ q
        go (Talks y) r =
            sends_on t y (timed t l y r)
            ∙ said_on t (turn b y (kind_of (heard t))) (turn b y (kind_of (heard t))).fate q (sym (ap (λ u. (core b u (kind_of (heard t))).out) r) ∙ e)
        go (Over f y) r = let z : Silent ≡ Says q = sym (ap (λ u. (core b u (kind_of (heard t))).out) r) ∙ e in cc

    over_on : (t : ℕ) (u : Turn) (f g : Fate) (y : Exchange) → (core_by u f).to ≡ Over g y → (step_by b t u (given t) f).state ≡ concludes b t (given t) g y
    over_on t u Stays g y e = cc
    over_on t u (OpensHearing i) g y e =
        let z : OpensHearing i ≡ g = cc in let w : u.exchange ≡ y = cc in rw (← z, ← w)
    over_on t u (OpensSending i) g y e =
        let z : OpensSending i ≡ g = cc in let w : u.exchange ≡ y = cc in rw (← z, ← w)
    over_on t u (Refuses n) g y e =
        let z : Refuses n ≡ g = cc in let w : u.exchange ≡ y = cc in rw (← z, ← w)

    -- where the core ends in slot t, the end concludes in that slot
    pub timed_over : (t : ℕ) → t < b.limit → Talking (core_at t) → (f : Fate) (y : Exchange) → core_at (suc t) ≡ Over f y → end (suc t) ≡ concludes b t (given t) f y
    unfolding core_at
    timed_over t l (talking x q) f y e =
        passes_on t x (timed t l x q)
        ∙ over_on t (turn b x (kind_of (heard t))) (turn b x (kind_of (heard t))).fate f y (sym (ap (λ u. (core b u (kind_of (heard t))).to) q) ∙ e)

    hears_on : (t : ℕ) (u : Turn) (f : Fate) (i : ℕ) (y : Exchange) → (core_by u f).to ≡ Over (OpensHearing i) y
        → step_by b t u (given t) f ≡ opens_hearing b t y i (given t)
    hears_on t u Stays i y e = cc
    hears_on t u (OpensHearing j) i y e =
        let z : j ≡ i = cc in let w : u.exchange ≡ y = cc in rw (← z, ← w) refl
    hears_on t u (OpensSending j) i y e = cc
    hears_on t u (Refuses n) i y e = cc

    -- in the slot in which it opens by a received byte, an end sends as an open end
    pub timed_hearing : (t : ℕ) → t < b.limit → Talking (core_at t) → (i : ℕ) (y : Exchange) → core_at (suc t) ≡ Over (OpensHearing i) y
        → slot_step (end t) (heard t) (given t) ≡ opens_hearing b t y i (given t)
    unfolding core_at
    timed_hearing t l (talking x q) i y e =
        steps_on t x (timed t l x q)
        ∙ hears_on t (turn b x (kind_of (heard t))) (turn b x (kind_of (heard t))).fate i y (sym (ap (λ u. (core b u (kind_of (heard t))).to) q) ∙ e)
