-- Five parameters heard by an end that sends Sdidle meanwhile, one after the other; for any lengths of the runs. Assumes nothing.
use mathlib.Core.Path.{◌≡◌, refl, ap, ◌∙◌, subst}
use mathlib.Core.Bool.{Bool, true, false, cond}
use mathlib.Core.List.{List, [], ◌∷◌}
use Prim.Native.Nat.{ℕ, zero, suc, ◌+◌, ◌-◌, ◌*◌, ◌/◌, ◌%◌, ◌≤◌, ◌<◌}
use native.Mathlib.Nat.{add-zero, le_refl, mul-suc, mul-zero, mul-add-mod_self_left, mul-add-div, mod-eq_of_lt, div-eq_of_lt, mul-le-mul_left, mul_comm}
use native.Mathlib.Numerals.{add-one}
use native.Mathlib.Omega.{arith}
use lib.Dec.{ltb, eqb-suc-zero}
use lib.ListN.{get_or, set}
use borrow.Author.Tests.{lt-ltb, le-ltb, eq-eqb, ltb-true, ltb-false}
use Rattle.book.specs.declared.Book.{Book}
use Rattle.channel.specs.declared.kind.Kind.{Kind}
use Rattle.channel.specs.declared.kind.Kind.TheVariants.{Sgp, Dl, Dh}
use Rattle.channel.specs.Bytes.{sdidle, sgp}
use Rattle.channel.proofs.ReadBack.{sgp_read}
use Rattle.protocol.specs.Lengths.{parameter_run, parameter_lead, parameter_bytes, all_parameter_bytes, run_length}
use Rattle.protocol.specs.Collecting.{hear, hear_at, in_run, in_group, of_run, no_nibbles, has_identifier, has_all, value_of}
use Rattle.protocol.specs.Sent.{Alone, Part, parameter_sent}
use Rattle.protocol.specs.declared.Awaited.TheVariants.{Run, Group}
use Rattle.protocol.specs.declared.Hearing.{Hearing}
use Rattle.protocol.specs.declared.Sending.{Sending}
use Rattle.protocol.proofs.Chain.Segments.{Said, Says, Runs, During, join, at_offset, one, one_said, climb, climb_said}
use Rattle.protocol.proofs.Chain.Core.{Core, Talks, core, core_with, heard_as, hearing}
use Rattle.protocol.proofs.Chain.Link.{Link, GroupHeard, six, hears_six}
use Rattle.protocol.proofs.Chain.Sender.{settled}

-- an end that sends s goes on with it, and sends Sdidle, until all parameters have come
pub record Rests (b : Book) (s : Sending) : Type 0 where
  pub rests : (h g : Hearing) (v : ℕ) → has_identifier h.awaited ≡ true → has_all g.awaited ≡ false
      → core_with b (settled h v s) g ≡ record { to = Talks (settled g v s); out = Says (Alone sdidle) }

-- byte i of parameter k
module _ (b : Book) (ps : List ℕ) (k i : ℕ) where
  lead_at : i < parameter_lead b → parameter_sent b ps (parameter_bytes b * k + i) ≡ Alone (sgp k)
  unfolding parameter_sent
  lead_at l =
      let m : (parameter_bytes b * k + i) % parameter_bytes b ≡ i = mul-add-mod_self_left (parameter_bytes b) k i ∙ mod-eq_of_lt (omega arith) in
      let z : i / parameter_bytes b ≡ 0 = div-eq_of_lt (omega arith) in
      let q : (parameter_bytes b * k + i) / parameter_bytes b ≡ k = mul-add-div (omega arith) k i ∙ ap (λ j. k + j) z ∙ add-zero k in
      rw (m, q, lt-ltb i (parameter_lead b) l)

  group_at : i < 6 → parameter_sent b ps (parameter_bytes b * k + (parameter_lead b + i)) ≡ Part i (get_or ps k 0)
  unfolding parameter_sent
  group_at l =
      let m : (parameter_bytes b * k + (parameter_lead b + i)) % parameter_bytes b ≡ parameter_lead b + i
      = mul-add-mod_self_left (parameter_bytes b) k (parameter_lead b + i) ∙ mod-eq_of_lt (omega arith) in
      let z : (parameter_lead b + i) / parameter_bytes b ≡ 0 = div-eq_of_lt (omega arith) in
      let q : (parameter_bytes b * k + (parameter_lead b + i)) / parameter_bytes b ≡ k
      = mul-add-div (omega arith) k (parameter_lead b + i) ∙ ap (λ j. k + j) z ∙ add-zero k in
      let r : parameter_lead b + i - parameter_lead b ≡ i = omega arith in
      rw (m, q, le-ltb (parameter_lead b + i) (parameter_lead b) (omega arith), r)

-- One parameter, heard by an end that rests.
module _ (b : Book) (s : Sending) (v : ℕ) (r : Rests b s) (k : ℕ) (small : k < 5) (values : List ℕ) where
  run_is : run_length b (suc k) ≡ parameter_run b
  run_is = rw (eqb-suc-zero k)

  beyond : has_identifier (Run (suc k) 0) ≡ true
  beyond = lt-ltb 0 (suc k) (omega arith)

  not_all : (item : ℕ) → item < 6 → has_all (Run item 0) ≡ false
  not_all item l = le-ltb 5 item (omega arith)

  counts : of_run (suc k) (Sgp k) ≡ true
  unfolding of_run
  counts = eq-eqb (suc k) (k + 1) (omega arith)

  -- the hearing while the run counts, while the group is awaited, and while it comes
  abbrev pub counting : ℕ → Core
  counting i = Talks (settled (hearing (Run (suc k) i) values) v s)

  abbrev pub expecting : Core
  expecting = Talks (settled (hearing (Group (suc k) 0) values) v s)

  grows : (i : ℕ) → i + 1 < parameter_run b → core b (counting i) (Sgp k) ≡ record { to = counting (i + 1); out = Says (Alone sdidle) }
  unfolding hear_at in_run
  grows i l =
      heard_as b (settled (hearing (Run (suc k) i) values) v s) (Sgp k) (hearing (Run (suc k) (i + 1)) values)
      (rw (counts, run_is, lt-ltb (i + 1) (parameter_run b) l))
      ∙ r.rests (hearing (Run (suc k) i) values) (hearing (Run (suc k) (i + 1)) values) v beyond (not_all (suc k) (omega arith))

  comes : (i : ℕ) → parameter_run b ≤ i + 1 → core b (counting i) (Sgp k) ≡ record { to = expecting; out = Says (Alone sdidle) }
  unfolding hear_at in_run
  comes i l =
      heard_as b (settled (hearing (Run (suc k) i) values) v s) (Sgp k) (hearing (Group (suc k) 0) values)
      (rw (counts, run_is, le-ltb (i + 1) (parameter_run b) l))
      ∙ r.rests (hearing (Run (suc k) i) values) (hearing (Group (suc k) 0) values) v beyond (not_all (suc k) (omega arith))

  expects : core b expecting (Sgp k) ≡ record { to = expecting; out = Says (Alone sdidle) }
  unfolding hear_at in_group
  expects =
      heard_as b (settled (hearing (Group (suc k) 0) values) v s) (Sgp k) (hearing (Group (suc k) 0) values) refl
      ∙ r.rests (hearing (Group (suc k) 0) values) (hearing (Group (suc k) 0) values) v beyond (not_all (suc k) (omega arith))

  -- the state after i of the run's bytes, which go on after the run has come
  abbrev leading : ℕ → Core
  leading i = cond (ltb i (parameter_run b)) (counting i) expecting

  leads : (i : ℕ) → core b (leading i) (Sgp k) ≡ record { to = leading (suc i); out = Says (Alone sdidle) }
  leads i = go (ltb i (parameter_run b)) (ltb (suc i) (parameter_run b)) refl refl
    where
      go : (f g : Bool) → ltb i (parameter_run b) ≡ f → ltb (suc i) (parameter_run b) ≡ g
          → core b (cond f (counting i) expecting) (Sgp k) ≡ record { to = cond g (counting (suc i)) expecting; out = Says (Alone sdidle) }
      go true true e f = rw (← add-one i) (grows i (omega (arith, ltb-true (suc i) (parameter_run b) f)))
      go true false e f = comes i (omega (arith, ltb-false (suc i) (parameter_run b) f))
      go false true e f = absurd (omega (arith, ltb-true (suc i) (parameter_run b) f, ltb-false i (parameter_run b) e))
      go false false e f = expects

  module _ (l0 h0 l1 h1 l2 h2 : ℕ) where
    -- what is in hand after i bytes of the group
    abbrev pub in_hand : ℕ → List ℕ
    in_hand zero = no_nibbles
    in_hand (suc zero) = l0 ∷ 0 ∷ 0 ∷ 0 ∷ 0 ∷ 0 ∷ []
    in_hand (suc (suc zero)) = l0 ∷ h0 ∷ 0 ∷ 0 ∷ 0 ∷ 0 ∷ []
    in_hand (suc (suc (suc zero))) = l0 ∷ h0 ∷ l1 ∷ 0 ∷ 0 ∷ 0 ∷ []
    in_hand (suc (suc (suc (suc zero)))) = l0 ∷ h0 ∷ l1 ∷ h1 ∷ 0 ∷ 0 ∷ []
    in_hand (suc (suc (suc (suc (suc i))))) = l0 ∷ h0 ∷ l1 ∷ h1 ∷ l2 ∷ 0 ∷ []

    abbrev pub holding : ℕ → Hearing
    holding i = record { awaited = Group (suc k) i; nibbles = in_hand i; values = values }

    abbrev kinds : ℕ → Kind
    kinds i = get_or (Dl l0 ∷ Dh h0 ∷ Dl l1 ∷ Dh h1 ∷ Dl l2 ∷ Dh h2 ∷ []) i (Sgp k)

    takes : (i : ℕ) → i < 5 → hear b (holding i) (kinds i) ≡ holding (suc i)
    unfolding hear_at in_group
    takes zero l = refl
    takes (suc zero) l = refl
    takes (suc (suc zero)) l = refl
    takes (suc (suc (suc zero))) l = refl
    takes (suc (suc (suc (suc zero)))) l = refl
    takes (suc (suc (suc (suc (suc i))))) l = absurd (omega arith)

    holds : (i : ℕ) → i < 5 → core b (Talks (settled (holding i) v s)) (kinds i) ≡ record { to = Talks (settled (holding (suc i)) v s); out = Says (Alone sdidle) }
    holds i l =
        heard_as b (settled (holding i) v s) (kinds i) (holding (suc i)) (takes i l)
        ∙ r.rests (holding i) (holding (suc i)) v beyond (not_all (suc k) (omega arith))

-- All but the last byte of five parameters has come, from slot `first` to before slot `last`, and Sdidle was sent meanwhile.
pub record Collected (s : Sending) (v m p0 p1 p2 p3 p4 first last : ℕ) (states : ℕ → Core) (heard : ℕ → Kind) (out : ℕ → Said) : Type 0 where
  pub l0 : ℕ
  pub h0 : ℕ
  pub l1 : ℕ
  pub h1 : ℕ
  pub l2 : ℕ
  pub h2 : ℕ
  pub state : states last
      ≡ Talks
      (settled
      (record { awaited = Group 5 5; nibbles = l0 ∷ h0 ∷ l1 ∷ h1 ∷ l2 ∷ 0 ∷ []; values = m ∷ p0 ∷ p1 ∷ p2 ∷ p3 ∷ 0 ∷ [] })
      v s)
  pub hears : heard last ≡ Dh h2
  pub votes : value_of (l0 ∷ h0 ∷ l1 ∷ h1 ∷ l2 ∷ h2 ∷ []) ≡ p4
  pub idles : During first last (λ t. out t ≡ Says (Alone sdidle))

-- The five parameters that the other end sends from its slot x on.
module _ {b : Book} {s : Sending} {from : ℕ} {states : ℕ → Core} {heard : ℕ → Kind} {out : ℕ → Said} (r : Rests b s) (runs : Runs (core b) from states heard out)
    (b' : Book) {from' n d : ℕ} {out' : ℕ → Said} (l : Link from' n d out' heard)
    (x v m p0 p1 p2 p3 p4 : ℕ) (late : from ≤ x + d) (late' : from' ≤ x) (room : x + all_parameter_bytes b' ≤ n)
    (some : 1 ≤ parameter_run b) (enough : parameter_run b ≤ parameter_lead b')
    (bytes : (k : ℕ) → get_or (p0 ∷ p1 ∷ p2 ∷ p3 ∷ p4 ∷ []) k 0 < 256)
    (sent : (i : ℕ) → i < all_parameter_bytes b' → out' (x + i) ≡ Says (parameter_sent b' (p0 ∷ p1 ∷ p2 ∷ p3 ∷ p4 ∷ []) i)) where
  abbrev ps : List ℕ
  ps = p0 ∷ p1 ∷ p2 ∷ p3 ∷ p4 ∷ []

  -- the values voted before parameter k
  voted : ℕ → List ℕ
  voted zero = m ∷ 0 ∷ 0 ∷ 0 ∷ 0 ∷ 0 ∷ []
  voted (suc k) = set (voted k) (suc k) (get_or ps k 0)

  -- the slot in which parameter k begins to arrive
  abbrev begins : ℕ → ℕ
  begins k = x + parameter_bytes b' * k + d

  next_begins : (k : ℕ) → begins (suc k) ≡ begins k + (parameter_lead b' + 6)
  next_begins k = omega (arith, mul-suc (parameter_bytes b') k)

  fits : (k : ℕ) → k < 5 → parameter_bytes b' * k + parameter_bytes b' ≤ all_parameter_bytes b'
  fits k h =
      let z : parameter_bytes b' * suc k ≤ parameter_bytes b' * 5 = mul-le-mul_left (parameter_bytes b') h in
      omega (arith, mul-suc (parameter_bytes b') k, mul_comm (parameter_bytes b') 5)

  hears_lead : (k : ℕ) → k < 5 → (i : ℕ) → i < parameter_lead b' → heard (begins k + i) ≡ Sgp k
  hears_lead k h i hi =
      let z : parameter_bytes b' * k + parameter_bytes b' ≤ all_parameter_bytes b' = fits k h in
      subst (λ t. heard t ≡ Sgp k) (omega arith)
      (l.alone (x + (parameter_bytes b' * k + i)) (sgp k) (omega arith) (omega arith)
      (sent (parameter_bytes b' * k + i) (omega arith) ∙ ap Says (lead_at b' ps k i hi)) ∙ sgp_read k h)

  hears_group : (k : ℕ) → k < 5 → GroupHeard (get_or ps k 0) heard (begins k + parameter_lead b')
  hears_group k h =
      let z : parameter_bytes b' * k + parameter_bytes b' ≤ all_parameter_bytes b' = fits k h in
      subst (GroupHeard (get_or ps k 0) heard) (omega arith)
      (l.group (x + (parameter_bytes b' * k + parameter_lead b')) (get_or ps k 0) (omega arith) (omega arith) (bytes k)
      (λ j hj. subst (λ t. out' t ≡ Says (Part j (get_or ps k 0))) (omega arith)
      (sent (parameter_bytes b' * k + (parameter_lead b' + j)) (omega arith) ∙ ap Says (group_at b' ps k j hj))))

  -- parameter k from its first byte to the fifth of its group
  module _ (k : ℕ) (small : k < 5) (start : states (begins k) ≡ counting b s v r k small (voted k) 0) where
    g : GroupHeard (get_or ps k 0) heard (begins k + parameter_lead b')
    g = hears_group k small

    started : states (begins k) ≡ cond (ltb 0 (parameter_run b)) (counting b s v r k small (voted k) 0) (expecting b s v r k small (voted k))
    started = rw (lt-ltb 0 (parameter_run b) some) start

    expected : states (begins k + parameter_lead b') ≡ expecting b s v r k small (voted k)
    expected =
        climb runs (leading b s v r k small (voted k)) (λ i. Sgp k) (begins k) (parameter_lead b') (omega arith) started (hears_lead k small)
        (λ i hi. ap (λ q. q.to) (leads b s v r k small (voted k) i)) (parameter_lead b') (le_refl _)
        ∙ rw (le-ltb (parameter_lead b') (parameter_run b) enough)

    lead_said : (i : ℕ) → i < parameter_lead b' → out (begins k + i) ≡ Says (Alone sdidle)
    lead_said i hi =
        climb_said runs (leading b s v r k small (voted k)) (λ i. Sgp k) (begins k) (parameter_lead b') (omega arith) started (hears_lead k small)
        (λ i hi. ap (λ q. q.to) (leads b s v r k small (voted k) i)) i hi
        ∙ ap (λ q. q.out) (leads b s v r k small (voted k) i)

    held : ℕ → Core
    held i = Talks (settled (holding b s v r k small (voted k) g.l0 g.h0 g.l1 g.h1 g.l2 g.h2 i) v s)

    holds_on : (i : ℕ) → i < 5 → core b (held i) (six g i) ≡ record { to = held (suc i); out = Says (Alone sdidle) }
    unfolding held
    holds_on zero h = holds b s v r k small (voted k) g.l0 g.h0 g.l1 g.h1 g.l2 g.h2 0 h
    holds_on (suc zero) h = holds b s v r k small (voted k) g.l0 g.h0 g.l1 g.h1 g.l2 g.h2 1 h
    holds_on (suc (suc zero)) h = holds b s v r k small (voted k) g.l0 g.h0 g.l1 g.h1 g.l2 g.h2 2 h
    holds_on (suc (suc (suc zero))) h = holds b s v r k small (voted k) g.l0 g.h0 g.l1 g.h1 g.l2 g.h2 3 h
    holds_on (suc (suc (suc (suc zero)))) h = holds b s v r k small (voted k) g.l0 g.h0 g.l1 g.h1 g.l2 g.h2 4 h
    holds_on (suc (suc (suc (suc (suc i))))) h = absurd (omega arith)

    nearly : states (begins k + parameter_lead b' + 5) ≡ held 5
    unfolding held
    nearly =
        climb runs held (six g) (begins k + parameter_lead b') 5 (omega arith) expected
        (λ i hi. hears_six g i (omega arith)) (λ i hi. ap (λ q. q.to) (holds_on i hi)) 5 (le_refl 5)

    nearly_said : During (begins k) (begins k + parameter_lead b' + 5) (λ t. out t ≡ Says (Alone sdidle))
    unfolding held
    nearly_said =
        join (begins k + parameter_lead b')
        (at_offset (λ t. out t ≡ Says (Alone sdidle)) (begins k) (parameter_lead b') lead_said)
        (at_offset (λ t. out t ≡ Says (Alone sdidle)) (begins k + parameter_lead b') 5
        (λ i hi. climb_said runs held (six g) (begins k + parameter_lead b') 5 (omega arith) expected
        (λ i hi. hears_six g i (omega arith)) (λ i hi. ap (λ q. q.to) (holds_on i hi)) i hi ∙ ap (λ q. q.out) (holds_on i hi)))

    -- the sixth byte of its group, where another parameter follows
    module _ (more : k < 4) where
      completes : hear b (holding b s v r k small (voted k) g.l0 g.h0 g.l1 g.h1 g.l2 g.h2 5) (Dh g.h2) ≡ hearing (Run (suc (suc k)) 0) (voted (suc k))
      unfolding hear_at in_group voted
      completes = rw (lt-ltb (suc k) 5 (omega arith), g.votes, add-one (suc k))

      goes_on : core b (held 5) (Dh g.h2) ≡ record { to = counting b s v r (suc k) (omega arith) (voted (suc k)) 0; out = Says (Alone sdidle) }
      unfolding held
      goes_on =
          heard_as b (settled (holding b s v r k small (voted k) g.l0 g.h0 g.l1 g.h1 g.l2 g.h2 5) v s) (Dh g.h2)
          (hearing (Run (suc (suc k)) 0) (voted (suc k))) completes
          ∙ r.rests _ (hearing (Run (suc (suc k)) 0) (voted (suc k))) v (beyond b s v r k small (voted k)) (not_all b s v r k small (voted k) (suc (suc k)) (omega arith))

      next_state : states (begins (suc k)) ≡ counting b s v r (suc k) (omega arith) (voted (suc k)) 0
      next_state =
          subst (λ t. states t ≡ counting b s v r (suc k) (omega arith) (voted (suc k)) 0) (omega (arith, next_begins k))
          (one runs (begins k + parameter_lead b' + 5) (held 5) (Dh g.h2) (omega arith) nearly g.at5 ∙ ap (λ q. q.to) goes_on)

      whole_said : During (begins k) (begins (suc k)) (λ t. out t ≡ Says (Alone sdidle))
      whole_said =
          join (begins k + parameter_lead b' + 5) nearly_said
          (λ t hx hy. let z : begins k + parameter_lead b' + 5 ≡ t = omega (arith, next_begins k) in
          subst (λ t. out t ≡ Says (Alone sdidle)) z
          (one_said runs (begins k + parameter_lead b' + 5) (held 5) (Dh g.h2) (omega arith) nearly g.at5 ∙ ap (λ q. q.out) goes_on))

  -- one after the other
  module _ (start : states (x + d) ≡ Talks (settled (hearing (Run 1 0) (m ∷ 0 ∷ 0 ∷ 0 ∷ 0 ∷ 0 ∷ [])) v s)) where
    before : (k : ℕ) (small : k < 5) → states (begins k) ≡ counting b s v r k small (voted k) 0
    unfolding voted
    before zero small = subst (λ t. states t ≡ counting b s v r 0 small (voted 0) 0) (omega (arith, mul-zero (parameter_bytes b'))) start
    before (suc k) small = next_state k (omega arith) (before k (omega arith)) (omega arith)

    said_before : (k : ℕ) → k < 5 → During (x + d) (begins k) (λ t. out t ≡ Says (Alone sdidle))
    said_before zero small = λ t hx hy. absurd (omega (arith, mul-zero (parameter_bytes b')))
    said_before (suc k) small =
        join (begins k) (said_before k (omega arith)) (whole_said k (omega arith) (before k (omega arith)) (omega arith))

    -- the last byte comes in slot x + all_parameter_bytes - 1 + d
    last_group : GroupHeard p4 heard (begins 4 + parameter_lead b')
    last_group = hears_group 4 (omega arith)

    last_slot : begins 4 + parameter_lead b' + 5 ≡ x + all_parameter_bytes b' - 1 + d
    last_slot = omega (arith, mul_comm (parameter_bytes b') 4)

    last_state : states (x + all_parameter_bytes b' - 1 + d)
        ≡ Talks
        (settled
        (record {
          awaited = Group 5 5;
          nibbles = last_group.l0 ∷ last_group.h0 ∷ last_group.l1 ∷ last_group.h1 ∷ last_group.l2 ∷ 0 ∷ [];
          values = m ∷ p0 ∷ p1 ∷ p2 ∷ p3 ∷ 0 ∷ [];
        })
        v s)
    unfolding voted held last_group hears_group g
    last_state = rw (← last_slot) (nearly 4 (omega arith) (before 4 (omega arith)))

    last_heard : heard (x + all_parameter_bytes b' - 1 + d) ≡ Dh last_group.h2
    last_heard = rw (← last_slot) last_group.at5

    said : During (x + d) (x + all_parameter_bytes b' - 1 + d) (λ t. out t ≡ Says (Alone sdidle))
    said =
        rw (← last_slot) (join (begins 4) (said_before 4 (omega arith)) (nearly_said 4 (omega arith) (before 4 (omega arith))))

    pub collected : Collected s v m p0 p1 p2 p3 p4 (x + d) (x + all_parameter_bytes b' - 1 + d) states heard out
    collected =
        record {
          l0 = last_group.l0;
          h0 = last_group.h0;
          l1 = last_group.l1;
          h1 = last_group.h1;
          l2 = last_group.l2;
          h2 = last_group.h2;
          state = last_state;
          hears = last_heard;
          votes = last_group.votes;
          idles = said;
        }
