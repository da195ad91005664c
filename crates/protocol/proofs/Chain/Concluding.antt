-- The parameters are exchanged and the ends conclude, where a version is shared. Assumes nothing.
use Rattle.std.specs.Prelude.{Option, Some, None}
use mathlib.Core.Path.{◌≡◌, refl, ap, ◌∙◌, subst}
use mathlib.Core.Bool.{true, false}
use mathlib.Core.List.{List, [], ◌∷◌}
use Prim.Native.Nat.{ℕ, zero, suc, ◌+◌, ◌-◌, ◌≤◌, ◌<◌}
use native.Mathlib.Nat.{add-zero, le_refl}
use native.Mathlib.Numerals.{add-one}
use native.Mathlib.Omega.{arith}
use lib.Dec.{eqb, leb}
use lib.ListN.{get_or}
use borrow.Author.Tests.{lt-ltb, le-ltb, lt-leb, le-leb}
use Rattle.ground.proofs.Test.{either_way}
use Rattle.book.specs.declared.Book.{Book}
use Rattle.book.specs.Book.{params_of}
use Rattle.channel.specs.declared.kind.Kind.{Kind}
use Rattle.channel.specs.declared.kind.Kind.TheVariants.{Dh}
use Rattle.channel.specs.Bytes.{sdidle}
use Rattle.channel.specs.Kinds.{kind_of}
use Rattle.protocol.specs.Lengths.{parameter_run, parameter_lead, all_parameter_bytes}
use Rattle.protocol.specs.Schedule.{masks_a, masks_o, parameters_o, parameters_a, concludes_a, concludes_o}
use Rattle.protocol.specs.Collecting.{hear, value_of}
use Rattle.protocol.specs.Exchange.{Turn, entry_of, has_params, match_in, answered, opens_on}
use Rattle.protocol.specs.Sent.{Alone, parameter_sent}
use Rattle.protocol.proofs.Computing.{moving}
use Rattle.protocol.specs.declared.Awaited.TheVariants.{Run, Group, Nothing}
use Rattle.protocol.specs.declared.Sending.TheVariants.{Idle, Parameters, Done}
use Rattle.protocol.specs.declared.Fate.{Fate}
use Rattle.protocol.specs.declared.Fate.TheVariants.{OpensHearing, Refuses}
use Rattle.protocol.proofs.Chain.Segments.{Said, Says, During, join, one, one_said, climb, hold}
use Rattle.protocol.proofs.Chain.Core.{Core, Talks, Over, core, core_by, turn_with, heard_as, hearing, Talking, talking, slots}
use Rattle.protocol.proofs.Chain.Link.{arrive}
use Rattle.protocol.proofs.Chain.Roles.{as_o, as_a, id_o, id_a, common}
use Rattle.protocol.proofs.Chain.Meeting.{Meeting, identified}
use Rattle.protocol.proofs.Chain.Sender.{settled, masks, mask_on, parameter_on, parameter_last}
use Rattle.protocol.proofs.Chain.Collects.{Rests, Collected, collected}
use Rattle.protocol.proofs.Chain.Settling.{o_settles, o_parameters, a_settles, a_idle}

-- an answerer after its identifier, and an originator after its parameters, send Sdidle until all parameters of the other end have come
rests_a : (b : Book) → Rests (as_a b) Idle
unfolding slots
rests_a b = record { rests = λ h g v e f. rw (e, f) }

rests_o : (b : Book) → Rests (as_o b) Done
unfolding slots
rests_o b = record { rests = λ h g v e f. rw (e, f) }

-- Sdidle is no byte of a run
idle_heard : (b : Book) (values : List ℕ)
    → hear (as_o b) (hearing (Run 1 0) values) (kind_of sdidle) ≡ hearing (Run 1 0) values
unfolding moving
idle_heard b values = refl

-- with its last byte an answerer has concluded
opened_by : (t : Turn) (f : Option ℕ) → core_by t (opens_on f) ≡ record { to = Over (opens_on f) t.exchange; out = Says t.sent }
opened_by t (Some i) = refl
opened_by t None = refl

-- the first of the answerer's parameter bytes goes in the slot that completes p4, and each of the others in the next
module _ (b : Book) (v i0 p0 p1 p2 p3 p4 : ℕ) where
  abbrev pub theirs : List ℕ
  theirs = p0 ∷ p1 ∷ p2 ∷ p3 ∷ p4 ∷ []

  abbrev pub found : Option ℕ
  found = match_in v b.entries theirs b.n

  abbrev pub replies : List ℕ
  replies = answered found theirs (params_of (entry_of (as_a b) 0))

  abbrev pub replying : ℕ → Core
  replying i = Talks (settled (hearing Nothing (i0 ∷ theirs)) v (Parameters i))

  few : 1 < all_parameter_bytes (as_a b)
  few = omega arith

  replies_first : (l0 h0 l1 h1 l2 h2 : ℕ) → value_of (l0 ∷ h0 ∷ l1 ∷ h1 ∷ l2 ∷ h2 ∷ []) ≡ p4
      → core (as_a b)
      (Talks (settled (record { awaited = Group 5 5; nibbles = l0 ∷ h0 ∷ l1 ∷ h1 ∷ l2 ∷ 0 ∷ []; values = i0 ∷ p0 ∷ p1 ∷ p2 ∷ p3 ∷ 0 ∷ [] }) v Idle)) (Dh h2)
      ≡ record { to = replying 1; out = Says (parameter_sent (as_a b) replies 0) }
  unfolding slots
  replies_first l0 h0 l1 h1 l2 h2 e =
      rw (e, lt-ltb 1 (all_parameter_bytes (as_a b)) few, lt-leb (all_parameter_bytes (as_a b)) 1 few)

  replies_on : (i : ℕ) (k : Kind) → i + 1 < all_parameter_bytes (as_a b)
      → core (as_a b) (replying i) k ≡ record { to = replying (i + 1); out = Says (parameter_sent (as_a b) replies i) }
  unfolding slots
  replies_on i k l =
      rw (lt-ltb (i + 1) (all_parameter_bytes (as_a b)) l, lt-leb (all_parameter_bytes (as_a b)) (i + 1) l)

  replies_last : (i : ℕ) (k : Kind) → i + 1 ≡ all_parameter_bytes (as_a b)
      → core (as_a b) (replying i) k
      ≡ record { to = Over (opens_on found) (settled (hearing Nothing (i0 ∷ theirs)) v Done); out = Says (parameter_sent (as_a b) replies i) }
  unfolding slots
  replies_last i k l =
      let t : Turn = record { exchange = settled (hearing Nothing (i0 ∷ theirs)) v Done; fate = opens_on found; sent = parameter_sent (as_a b) replies i } in
      rw (le-ltb (i + 1) (all_parameter_bytes (as_a b)) (omega arith), le-leb (all_parameter_bytes (as_a b)) (i + 1) (omega arith))
      (opened_by t found)

  replies_said : (i : ℕ) (k : Kind) → (core (as_a b) (replying i) k).out ≡ Says (parameter_sent (as_a b) replies i)
  unfolding slots
  replies_said i k =
      let t : Turn = turn_with (as_a b) (settled (hearing Nothing (i0 ∷ theirs)) v (Parameters i)) (hearing Nothing (i0 ∷ theirs)) in
      either_way (λ (f : Fate). (core_by t f).out ≡ Says (parameter_sent (as_a b) replies i)) (leb (all_parameter_bytes (as_a b)) (i + 1))
      (ap (λ q. q.out) (opened_by t found)) refl

-- the originator compares when the last parameter has come
module _ (b : Book) (v i0 q0 q1 q2 q3 q4 l0 h0 l1 h1 l2 h2 : ℕ) (e : value_of (l0 ∷ h0 ∷ l1 ∷ h1 ∷ l2 ∷ h2 ∷ []) ≡ q4) where
  abbrev nearly : Core
  nearly =
      Talks (settled (record { awaited = Group 5 5; nibbles = l0 ∷ h0 ∷ l1 ∷ h1 ∷ l2 ∷ 0 ∷ []; values = i0 ∷ q0 ∷ q1 ∷ q2 ∷ q3 ∷ 0 ∷ [] }) v Done)

  equal_last : has_params (entry_of (as_o b) 0) (q0 ∷ q1 ∷ q2 ∷ q3 ∷ q4 ∷ []) ≡ true
      → (core (as_o b) nearly (Dh h2)).to ≡ Over (OpensHearing 0) (settled (hearing Nothing (i0 ∷ q0 ∷ q1 ∷ q2 ∷ q3 ∷ q4 ∷ [])) v Done)
  unfolding slots
  equal_last c = rw (e, c)

  unequal_last : has_params (entry_of (as_o b) 0) (q0 ∷ q1 ∷ q2 ∷ q3 ∷ q4 ∷ []) ≡ false
      → (core (as_o b) nearly (Dh h2)).to ≡ Over (Refuses 22) (settled (hearing Nothing (i0 ∷ q0 ∷ q1 ∷ q2 ∷ q3 ∷ q4 ∷ [])) v Done)
  unfolding slots
  unequal_last c = rw (e, c)

module _ {d a h n : ℕ} {bo ba : Book}
    {so sa : ℕ → Core} {ho ha : ℕ → Kind} {oo oa : ℕ → Said}
    (m : Meeting d a h n bo ba so sa ho ha oo oa) (small : id_a ba < 256) (small_o : id_o bo < 256) (shared : eqb (common bo ba) 0 ≡ false)
    (p0 p1 p2 p3 p4 : ℕ) (own : params_of (entry_of (as_o bo) 0) ≡ p0 ∷ p1 ∷ p2 ∷ p3 ∷ p4 ∷ [])
    (bytes : (k : ℕ) → get_or (p0 ∷ p1 ∷ p2 ∷ p3 ∷ p4 ∷ []) k 0 < 256)
    (some_a : 1 ≤ parameter_run (as_a ba)) (enough_a : parameter_run (as_a ba) ≤ parameter_lead (as_o bo)) where
  -- how many slots O's parameters take, and A's
  abbrev pub all_o : ℕ
  all_o = all_parameter_bytes (as_o bo)

  abbrev pub all_a : ℕ
  all_a = all_parameter_bytes (as_a ba)

  -- the slot in which A has p4, and sends the first byte of its own parameters
  abbrev pub turns : ℕ
  turns = parameters_a h d (as_o bo)

  sent_o : (i : ℕ) → i < all_o → oo (parameters_o h d + i) ≡ Says (parameter_sent (as_o bo) (p0 ∷ p1 ∷ p2 ∷ p3 ∷ p4 ∷ []) i)
  sent_o i hi = o_parameters m small small_o shared i hi ∙ ap (λ ps. Says (parameter_sent (as_o bo) ps i)) own

  a_from : sa (parameters_o h d + d) ≡ Talks (settled (hearing (Run 1 0) (identified (id_o bo))) (common bo ba) Idle)
  a_from = a_settles m small small_o shared

  a_collects : Collected Idle (common bo ba) (id_o bo) p0 p1 p2 p3 p4 (parameters_o h d + d) (parameters_o h d + all_o - 1 + d) sa ha oa
  a_collects =
      collected (rests_a ba) m.runs_a (as_o bo) m.to_a (parameters_o h d) (common bo ba) (id_o bo) p0 p1 p2 p3 p4
      (omega (arith, m.apart)) (omega arith) (omega (arith, m.room)) some_a enough_a bytes sent_o a_from

  turn_slot : parameters_o h d + all_o - 1 + d ≡ turns
  turn_slot = omega arith

  -- A sends Sdidle from its identifier to there
  pub a_idled : During (masks_a h d + 6) turns (λ t. oa t ≡ Says (Alone sdidle))
  a_idled =
      join (parameters_o h d + d) (λ t hx hy. a_idle m small small_o shared t hx (omega arith))
      (λ t hx hy. a_collects.idles t hx (omega arith))

  a_turn : core (as_a ba) (sa turns) (ha turns)
      ≡ record { to = replying ba (common bo ba) (id_o bo) p0 p1 p2 p3 p4 1; out = Says (parameter_sent (as_a ba) (replies ba (common bo ba) (id_o bo) p0 p1 p2 p3 p4) 0) }
  a_turn =
      rw (← turn_slot, a_collects.state, a_collects.hears)
      (replies_first ba (common bo ba) (id_o bo) p0 p1 p2 p3 p4 _ _ _ _ _ _ a_collects.votes)

  a_replies_from : sa (turns + 1) ≡ replying ba (common bo ba) (id_o bo) p0 p1 p2 p3 p4 1
  a_replies_from = rw (add-one turns) (m.runs_a.to turns (omega (arith, m.apart)) ∙ ap (λ q. q.to) a_turn)

  a_climbs : (i : ℕ) → i < all_a - 2 → (core (as_a ba) (replying ba (common bo ba) (id_o bo) p0 p1 p2 p3 p4 (i + 1)) (ha (turns + 1 + i))).to
      ≡ replying ba (common bo ba) (id_o bo) p0 p1 p2 p3 p4 (suc i + 1)
  a_climbs i hi =
      let z : i + 1 + 1 ≡ suc i + 1 = omega arith in
      ap (λ q. q.to) (replies_on ba (common bo ba) (id_o bo) p0 p1 p2 p3 p4 (i + 1) (ha (turns + 1 + i)) (omega arith))
      ∙ ap (replying ba (common bo ba) (id_o bo) p0 p1 p2 p3 p4) z

  a_start : sa (turns + 1) ≡ replying ba (common bo ba) (id_o bo) p0 p1 p2 p3 p4 (0 + 1)
  a_start = a_replies_from

  a_replying : (i : ℕ) → i ≤ all_a - 2 → sa (turns + 1 + i) ≡ replying ba (common bo ba) (id_o bo) p0 p1 p2 p3 p4 (i + 1)
  a_replying i hi =
      climb m.runs_a (λ i. replying ba (common bo ba) (id_o bo) p0 p1 p2 p3 p4 (i + 1)) (λ i. ha (turns + 1 + i)) (turns + 1) (all_a - 2)
      (omega (arith, m.apart)) a_start (λ i hi. refl) a_climbs i hi

  -- its last byte goes in slot concludes_a h d (as_o bo) (as_a ba)
  a_end : core (as_a ba) (sa (turns + 1 + (all_a - 2))) (ha (turns + 1 + (all_a - 2)))
      ≡ record {
        to = Over (opens_on (found ba (common bo ba) (id_o bo) p0 p1 p2 p3 p4)) (settled (hearing Nothing (id_o bo ∷ p0 ∷ p1 ∷ p2 ∷ p3 ∷ p4 ∷ [])) (common bo ba) Done);
        out = Says (parameter_sent (as_a ba) (replies ba (common bo ba) (id_o bo) p0 p1 p2 p3 p4) (all_a - 2 + 1));
      }
  a_end =
      rw (a_replying (all_a - 2) (le_refl _))
      (replies_last ba (common bo ba) (id_o bo) p0 p1 p2 p3 p4 (all_a - 2 + 1) (ha (turns + 1 + (all_a - 2))) (omega arith))

  -- until which it is exchanging
  pub a_talks : Talking (sa (concludes_a h d (as_o bo) (as_a ba)))
  a_talks =
      let z : turns + 1 + (all_a - 2) ≡ concludes_a h d (as_o bo) (as_a ba) = omega arith in
      subst (λ t. Talking (sa t)) z (talking _ (a_replying (all_a - 2) (le_refl _)))

  pub a_concludes : sa (suc (concludes_a h d (as_o bo) (as_a ba)))
      ≡ Over (opens_on (found ba (common bo ba) (id_o bo) p0 p1 p2 p3 p4)) (settled (hearing Nothing (id_o bo ∷ p0 ∷ p1 ∷ p2 ∷ p3 ∷ p4 ∷ [])) (common bo ba) Done)
  a_concludes =
      let z : turns + 1 + (all_a - 2) ≡ concludes_a h d (as_o bo) (as_a ba) = omega arith in
      rw (← z) (m.runs_a.to (turns + 1 + (all_a - 2)) (omega (arith, m.apart)) ∙ ap (λ q. q.to) a_end)

  -- A's parameters go in the slots from there on
  pub a_said : (i : ℕ) → i < all_a → oa (turns + i) ≡ Says (parameter_sent (as_a ba) (replies ba (common bo ba) (id_o bo) p0 p1 p2 p3 p4) i)
  a_said zero hi = rw (add-zero turns) (m.runs_a.said turns (omega (arith, m.apart)) ∙ ap (λ q. q.out) a_turn)
  a_said (suc i) hi =
      let z : turns + 1 + i ≡ turns + suc i = omega arith in
      rw (← z, ← add-one i)
      (one_said m.runs_a (turns + 1 + i) _ (ha (turns + 1 + i)) (omega (arith, m.apart)) (a_replying i (omega arith)) refl
      ∙ replies_said ba (common bo ba) (id_o bo) p0 p1 p2 p3 p4 (i + 1) (ha (turns + 1 + i)))

  -- O hears Sdidle from the slot after it has settled to the one in which A's parameters begin to arrive
  o_hears_idle : During (masks_o h d + 1) (turns + d) (λ t. ho t ≡ kind_of sdidle)
  o_hears_idle t hx hy = arrive m.to_o (masks_a h d + 6) turns sdidle (omega (arith, m.apart)) (omega (arith, m.room)) a_idled t (omega arith) hy

  same_o : (t : ℕ) → masks_o h d + 1 ≤ t → t < turns + d → hear (as_o bo) (hearing (Run 1 0) (identified (id_a ba))) (ho t) ≡ hearing (Run 1 0) (identified (id_a ba))
  same_o t hx hy = ap (hear (as_o bo) (hearing (Run 1 0) (identified (id_a ba)))) (o_hears_idle t hx hy) ∙ idle_heard bo (identified (id_a ba))

  o_masked : so (parameters_o h d) ≡ Talks (settled (hearing (Run 1 0) (identified (id_a ba))) (common bo ba) (Parameters 0))
  o_masked =
      let z : masks_o h d + 1 + 5 ≡ parameters_o h d = omega arith in
      rw (← z)
      (climb m.runs_o (λ i. Talks (settled (hearing (Run 1 0) (identified (id_a ba))) (common bo ba) (masks i))) (λ i. ho (masks_o h d + 1 + i)) (masks_o h d + 1) 5
      (omega arith) (o_settles m small) (λ i hi. refl)
      (λ i hi. ap (λ q. q.to) (mask_on bo (common bo ba) _ _ (ho (masks_o h d + 1 + i)) refl (same_o (masks_o h d + 1 + i) (omega arith) (omega (arith, m.ahead))) shared i hi)) 5 (le_refl 5))

  o_sending : so (parameters_o h d + (all_o - 1)) ≡ Talks (settled (hearing (Run 1 0) (identified (id_a ba))) (common bo ba) (Parameters (all_o - 1)))
  o_sending =
      climb m.runs_o (λ i. Talks (settled (hearing (Run 1 0) (identified (id_a ba))) (common bo ba) (Parameters i))) (λ i. ho (parameters_o h d + i)) (parameters_o h d) (all_o - 1)
      (omega arith) o_masked (λ i hi. refl)
      (λ i hi. ap (λ q. q.to) (parameter_on bo (common bo ba) _ _ (ho (parameters_o h d + i)) refl (same_o (parameters_o h d + i) (omega arith) (omega (arith, m.ahead))) i (omega arith))
      ∙ ap (λ j. Talks (settled (hearing (Run 1 0) (identified (id_a ba))) (common bo ba) (Parameters j))) (add-one i)) (all_o - 1) (le_refl _)

  -- O's own are all sent before slot parameters_o + all-o
  pub o_done : so (parameters_o h d + all_o) ≡ Talks (settled (hearing (Run 1 0) (identified (id_a ba))) (common bo ba) Done)
  o_done =
      let z : suc (parameters_o h d + (all_o - 1)) ≡ parameters_o h d + all_o = omega arith in
      rw (← z)
      (one m.runs_o (parameters_o h d + (all_o - 1)) _ (ho (parameters_o h d + (all_o - 1))) (omega arith) o_sending refl
      ∙ parameter_last bo (common bo ba) (hearing (Run 1 0) (identified (id_a ba))) (hearing (Run 1 0) (identified (id_a ba))) (ho (parameters_o h d + (all_o - 1))) refl
      (same_o (parameters_o h d + (all_o - 1)) (omega arith) (omega (arith, m.ahead))) (all_o - 1) (omega arith) refl)

  o_rests_whole : (t : ℕ) → masks_o h d + 1 ≤ t → t < turns + d
      → core (as_o bo) (Talks (settled (hearing (Run 1 0) (identified (id_a ba))) (common bo ba) Done)) (ho t)
      ≡ record { to = Talks (settled (hearing (Run 1 0) (identified (id_a ba))) (common bo ba) Done); out = Says (Alone sdidle) }
  o_rests_whole t hx hy =
      heard_as (as_o bo) (settled (hearing (Run 1 0) (identified (id_a ba))) (common bo ba) Done) (ho t) (hearing (Run 1 0) (identified (id_a ba))) (same_o t hx hy)
      ∙ (rests_o bo).rests (hearing (Run 1 0) (identified (id_a ba))) (hearing (Run 1 0) (identified (id_a ba))) (common bo ba) refl refl

  o_rests : (t : ℕ) → masks_o h d + 1 ≤ t → t < turns + d
      → (core (as_o bo) (Talks (settled (hearing (Run 1 0) (identified (id_a ba))) (common bo ba) Done)) (ho t)).to
      ≡ Talks (settled (hearing (Run 1 0) (identified (id_a ba))) (common bo ba) Done)
  o_rests t hx hy = ap (λ q. q.to) (o_rests_whole t hx hy)

  o_from : so (turns + d) ≡ Talks (settled (hearing (Run 1 0) (identified (id_a ba))) (common bo ba) Done)
  o_from =
      hold m.runs_o (parameters_o h d + all_o) (turns + d) (Talks (settled (hearing (Run 1 0) (identified (id_a ba))) (common bo ba) Done)) (omega arith) o_done
      (λ t hx hy. o_rests t (omega arith) hy) (turns + d) (omega (arith, m.ahead)) (le_refl _)

  -- meanwhile it sends Sdidle
  o_idles : During (parameters_o h d + all_o) (turns + d) (λ t. oo t ≡ Says (Alone sdidle))
  o_idles t hx hy =
      one_said m.runs_o t (Talks (settled (hearing (Run 1 0) (identified (id_a ba))) (common bo ba) Done)) (ho t) (omega arith)
      (hold m.runs_o (parameters_o h d + all_o) (turns + d) (Talks (settled (hearing (Run 1 0) (identified (id_a ba))) (common bo ba) Done)) (omega arith) o_done
      (λ t hx hy. o_rests t (omega arith) hy) t hx (omega arith)) refl
      ∙ ap (λ q. q.out) (o_rests_whole t (omega arith) hy)

  -- What A replied, value by value.
  module _ (q0 q1 q2 q3 q4 : ℕ) (theirs-are : replies ba (common bo ba) (id_o bo) p0 p1 p2 p3 p4 ≡ q0 ∷ q1 ∷ q2 ∷ q3 ∷ q4 ∷ [])
      (bytes-q : (k : ℕ) → get_or (q0 ∷ q1 ∷ q2 ∷ q3 ∷ q4 ∷ []) k 0 < 256)
      (some_o : 1 ≤ parameter_run (as_o bo)) (enough_o : parameter_run (as_o bo) ≤ parameter_lead (as_a ba)) where
    o_collects : Collected Done (common bo ba) (id_a ba) q0 q1 q2 q3 q4 (turns + d) (concludes_o h d (as_o bo) (as_a ba)) so ho oo
    o_collects =
        collected (rests_o bo) m.runs_o (as_a ba) m.to_o turns (common bo ba) (id_a ba) q0 q1 q2 q3 q4
        (omega arith) (omega (arith, m.apart)) (omega (arith, m.room)) some_o enough_o bytes-q
        (λ i hi. a_said i hi ∙ ap (λ qs. Says (parameter_sent (as_a ba) qs i)) theirs-are) o_from

    o_step : so (suc (concludes_o h d (as_o bo) (as_a ba))) ≡ (core (as_o bo) (so (concludes_o h d (as_o bo) (as_a ba))) (ho (concludes_o h d (as_o bo) (as_a ba)))).to
    o_step = m.runs_o.to (concludes_o h d (as_o bo) (as_a ba)) (omega arith)

    -- O concludes with slot concludes_o h d (as_o bo) (as_a ba)
    pub o_opens : has_params (entry_of (as_o bo) 0) (q0 ∷ q1 ∷ q2 ∷ q3 ∷ q4 ∷ []) ≡ true
        → so (suc (concludes_o h d (as_o bo) (as_a ba))) ≡ Over (OpensHearing 0) (settled (hearing Nothing (id_a ba ∷ q0 ∷ q1 ∷ q2 ∷ q3 ∷ q4 ∷ [])) (common bo ba) Done)
    o_opens e =
        o_step ∙ rw (o_collects.state, o_collects.hears) (equal_last bo (common bo ba) (id_a ba) q0 q1 q2 q3 q4 _ _ _ _ _ _ o_collects.votes e)

    pub o_refuses : has_params (entry_of (as_o bo) 0) (q0 ∷ q1 ∷ q2 ∷ q3 ∷ q4 ∷ []) ≡ false
        → so (suc (concludes_o h d (as_o bo) (as_a ba))) ≡ Over (Refuses 22) (settled (hearing Nothing (id_a ba ∷ q0 ∷ q1 ∷ q2 ∷ q3 ∷ q4 ∷ [])) (common bo ba) Done)
    o_refuses e =
        o_step ∙ rw (o_collects.state, o_collects.hears) (unequal_last bo (common bo ba) (id_a ba) q0 q1 q2 q3 q4 _ _ _ _ _ _ o_collects.votes e)

    -- in which it was still exchanging
    pub o_talks : Talking (so (concludes_o h d (as_o bo) (as_a ba)))
    o_talks = talking _ o_collects.state

    -- and sends Sdidle from its last parameter byte on
    pub o_idled : During (parameters_o h d + all_o) (concludes_o h d (as_o bo) (as_a ba)) (λ t. oo t ≡ Says (Alone sdidle))
    o_idled = join (turns + d) o_idles o_collects.idles
