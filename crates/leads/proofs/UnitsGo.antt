-- Chattering leads can't stop the data: a slot that takes no unit, though one is offered and nothing else comes first, brings it nearer.
-- Assumes nothing.
use mathlib.Core.Path.{◌≡◌, refl, sym, ap, ◌∙◌, subst}
use mathlib.Core.Bool.{true, ◌&&◌}
use mathlib.Core.Logic.{◌⊎◌, inl, inr}
use Prim.Native.Nat.{ℕ, zero, suc, ◌+◌, ◌-◌, ◌≤◌, ◌<◌}
use native.Mathlib.Nat.{add-zero, add-suc}
use native.Mathlib.Decide.{dec_lt}
use native.Mathlib.Omega.{arith}
use Rattle.ground.proofs.Test.{both_left, both_right}
use Rattle.protocol.specs.Exchange.{entry_of}
use Rattle.protocol.specs.Opened.{Writing, shape_of, writing}
use Rattle.protocol.specs.Ranges.{none_due, well_formed}
use Rattle.protocol.specs.Call.{end_at, taken_at, Allowed}
use Rattle.protocol.specs.declared.Shape.{Shape}
use Rattle.protocol.specs.declared.Claim.{Claim}
use Rattle.protocol.specs.declared.Claim.TheVariants.{Free, Second, Owed}
use Rattle.protocol.specs.declared.Outbound.{Outbound}
use Rattle.protocol.specs.declared.Line.{Line}
use Rattle.protocol.specs.declared.Phase.{Phase}
use Rattle.protocol.specs.declared.Phase.TheVariants.{Exchanging, Open, Refused}
use Rattle.protocol.specs.declared.Endpoint.{Endpoint}
use Rattle.protocol.specs.declared.Drive.{Drive}
use Rattle.protocol.proofs.Delivery.OpenRuns.{outs}
use Rattle.leads.specs.LeadsAhead.{past_sd, is_offered, is_free, asks, asks_in, asks_at, TakenFrom, DataGoes}
use Rattle.leads.proofs.OneSlot.{clash, Clear, Goes, high, broken, second, first, takes, idles}
use Rattle.leads.proofs.Running.{laid, out, takes_as, goes, past, asks_as}

-- how near an offered unit is to the line
abbrev near : Claim → ℕ
near Free = 0
near (Second leads) = 1
near Owed = 2

near_most : (c : Claim) → near c ≤ 2
near_most Free = omega arith
near_most (Second leads) = omega arith
near_most Owed = omega arith

-- what a slot does to that: it takes a unit, or leaves it as near, and nearer if it is one that asks
abbrev Nearer : Shape → Outbound → Drive → Writing → Type 0
Nearer s o g w = (near o.claim ≤ near w.outbound.claim) × (is_free s o g ≡ true → is_offered g.offer ≡ true → near o.claim < near w.outbound.claim)

pub record Takes (s : Shape) (o : Outbound) (g : Drive) (w : Writing) : Type 0 where
  pub taken : w.taken ≡ true
  pub free : is_free s o g ≡ true
  pub offered : is_offered g.offer ≡ true

free_clear : {s : Shape} {o : Outbound} {g : Drive} → Clear s o g → is_free s o g ≡ true
free_clear c = rw (c.none, c.rule) refl

nearer : {s : Shape} {o : Outbound} {g : Drive} {w : Writing} → Goes s o g w → Takes s o g w ⊎ Nearer s o g w
nearer {s} {o} {g} (high d c sent y) = inr (rw c (omega arith), λ f x. clash (both_left (none_due o.due) _ f) d)
nearer {s} {o} {g} (broken w d h) =
    inr (omega arith, λ f x. clash (both_right (none_due o.due) _ f) (rw (w, h) refl))
nearer {o = o} (second leads f c) = inr (rw c (omega arith), λ x y. rw c (omega arith))
nearer {o = o} (first f c x) = inr (rw c (omega arith), λ y z. rw c (omega arith))
nearer (takes f y u e due n sent x) = inl (record { taken = refl; free = free_clear f; offered = rw e refl })
nearer {g = g} (idles f y e) = inr (omega arith, λ z x. clash x (rw e refl))

-- From a slot a on.
module _ (e : Endpoint) (heard : ℕ → ℕ) (given : ℕ → Drive) (kept : (t : ℕ) → well_formed (end_at e heard given t) ≡ true)
    (allowed : Allowed e heard given) (a slot version i : ℕ) (line : Line) (q : (end_at e heard given a).phase ≡ Open slot version i line)
    (p : past_sd (laid e heard given kept allowed a slot version i line q) line.outbound ≡ true) where
  abbrev s : Shape
  s = laid e heard given kept allowed a slot version i line q

  abbrev o : ℕ → Outbound
  o n = out e heard given kept allowed a slot version i line q n

  abbrev claim : ℕ → Claim
  claim n = (o n).claim

  asked : (n : ℕ) → is_free s (o n) (given (a + n)) ≡ true → is_offered (given (a + n)).offer ≡ true → asks_at e heard given (a + n) ≡ true
  asked n f x = asks_as e heard given kept allowed a slot version i line q p n ∙ rw (past e heard given kept allowed a slot version i line q p n, f, x) refl

  -- a slot that asks is free, and a unit is offered in it
  asked_free : (n : ℕ) → asks_at e heard given (a + n) ≡ true → (is_free s (o n) (given (a + n)) ≡ true) × (is_offered (given (a + n)).offer ≡ true)
  asked_free n x =
      let z = sym (asks_as e heard given kept allowed a slot version i line q p n) ∙ x in
      let f = both_left (past_sd s (o n) && is_free s (o n) (given (a + n))) _ z in
      (both_right (past_sd s (o n)) _ f, both_right (past_sd s (o n) && is_free s (o n) (given (a + n))) _ z)

  abbrev From : ℕ → ℕ → Type 0
  From k n = TakenFrom e heard given (a + k) (a + n)

  one_slot : (n : ℕ) → From n n ⊎ Nearer s (o n) (given (a + n)) (writing s (o n) (given (a + n)))
  one_slot n = go (nearer (goes e heard given kept allowed a slot version i line q p n))
    where
      go : Takes s (o n) (given (a + n)) (writing s (o n) (given (a + n))) ⊎ Nearer s (o n) (given (a + n)) (writing s (o n) (given (a + n)))
          → From n n ⊎ Nearer s (o n) (given (a + n)) (writing s (o n) (given (a + n)))
      go (inl t) =
          inl
          (record {
            slot = a + n;
            after = omega arith;
            by = omega arith;
            asks = asked n t.free t.offered;
            takes = takes_as e heard given kept allowed a slot version i line q n ∙ t.taken;
          })
      go (inr r) = inr r

  wider : {k l m n : ℕ} → k ≤ l → m ≤ n → From l m → From k n
  wider x y t = record { slot = t.slot; after = omega (arith, t.after); by = omega (arith, t.by); asks = t.asks; takes = t.takes }

  -- from slot to slot it comes no farther off
  as_near : (k n : ℕ) → From k (k + n) ⊎ (near (claim k) ≤ near (claim (k + n)))
  unfolding outs
  as_near k zero = inr (rw (add-zero k) (omega arith))
  as_near k (suc n) = go (as_near k n) (one_slot (k + n))
    where
      go : From k (k + n) ⊎ (near (claim k) ≤ near (claim (k + n)))
          → From (k + n) (k + n) ⊎ Nearer s (o (k + n)) (given (a + (k + n))) (writing s (o (k + n)) (given (a + (k + n))))
          → From k (k + suc n) ⊎ (near (claim k) ≤ near (claim (k + suc n)))
      go (inl t) y = inl (wider (omega arith) (omega arith) t)
      go (inr r) (inl t) = inl (wider (omega arith) (omega arith) t)
      go (inr r) (inr y) =
          let z : near (claim (k + n)) ≤ near (writing s (o (k + n)) (given (a + (k + n)))).outbound.claim = y.0 in
          inr (rw (add-suc k n) (omega arith))

  -- and a slot that asks brings it nearer
  asked_slot : (n : ℕ) → asks_at e heard given (a + n) ≡ true → From n n ⊎ (near (claim n) < near (claim (suc n)))
  unfolding outs
  asked_slot n x = go (one_slot n)
    where
      go : From n n ⊎ Nearer s (o n) (given (a + n)) (writing s (o n) (given (a + n)))
          → From n n ⊎ (near (claim n) < near (writing s (o n) (given (a + n))).outbound.claim)
      go (inl t) = inl t
      go (inr r) = let f = asked_free n x in inr (r.1 f.0 f.1)

  three : (k l : ℕ) → 0 < k → k < l → asks_at e heard given (a + 0) ≡ true → asks_at e heard given (a + k) ≡ true → asks_at e heard given (a + l) ≡ true
      → From 0 l
  three k l lk ll x y z =
      let zk : 1 + (k - 1) ≡ k = omega arith in
      let zl : suc k + (l - suc k) ≡ l = omega arith in
      go (asked_slot 0 x) (subst (λ n. From 1 n ⊎ (near (claim 1) ≤ near (claim n))) zk (as_near 1 (k - 1))) (asked_slot k y)
      (subst (λ n. From (suc k) n ⊎ (near (claim (suc k)) ≤ near (claim n))) zl (as_near (suc k) (l - suc k))) (asked_slot l z)
    where
      go : From 0 0 ⊎ (near (claim 0) < near (claim 1)) → From 1 k ⊎ (near (claim 1) ≤ near (claim k))
          → From k k ⊎ (near (claim k) < near (claim (suc k))) → From (suc k) l ⊎ (near (claim (suc k)) ≤ near (claim l))
          → From l l ⊎ (near (claim l) < near (claim (suc l))) → From 0 l
      go (inl t) b c d f = wider (omega arith) (omega arith) t
      go (inr t) (inl b) c d f = wider (omega arith) (omega arith) b
      go (inr t) (inr b) (inl c) d f = wider (omega arith) (omega arith) c
      go (inr t) (inr b) (inr c) (inl d) f = wider (omega arith) (omega arith) d
      go (inr t) (inr b) (inr c) (inr d) (inl f) = wider (omega arith) (omega arith) f
      go (inr t) (inr b) (inr c) (inr d) (inr f) = absurd (omega (arith, near_most (claim (suc l))))

module _ (e : Endpoint) (heard : ℕ → ℕ) (given : ℕ → Drive) (kept : (t : ℕ) → well_formed (end_at e heard given t) ≡ true)
    (allowed : Allowed e heard given) where
  some_takes : (a b c : ℕ) → a < b → b < c → asks_at e heard given a ≡ true → asks_at e heard given b ≡ true → asks_at e heard given c ≡ true
      → TakenFrom e heard given a c
  some_takes a b c ab bc x y z = go (end_at e heard given a).phase refl
    where
      go : (p : Phase) → (end_at e heard given a).phase ≡ p → TakenFrom e heard given a c
      go (Exchanging slot version w v) q = clash x (ap (asks_in (end_at e heard given a) (given a)) q)
      go (Refused number slot) q = clash x (ap (asks_in (end_at e heard given a) (given a)) q)
      go (Open slot version i line) q =
          let l = shape_of (entry_of (end_at e heard given a).book i) version in
          let r : asks l line.outbound (given a) ≡ true = sym (ap (asks_in (end_at e heard given a) (given a)) q) ∙ x in
          let p = both_left (past_sd l line.outbound) _ (both_left (past_sd l line.outbound && is_free l line.outbound (given a)) _ r) in
          let za : a + 0 ≡ a = omega arith in
          let zb : a + (b - a) ≡ b = omega arith in
          let zc : a + (c - a) ≡ c = omega arith in
          subst (λ t. TakenFrom e heard given t c) za
          (subst (TakenFrom e heard given (a + 0)) zc
          (three e heard given kept allowed a slot version i line q p (b - a) (c - a) (omega arith) (omega arith)
          (subst (λ t. asks_at e heard given t ≡ true) (sym za) x)
          (subst (λ t. asks_at e heard given t ≡ true) (sym zb) y)
          (subst (λ t. asks_at e heard given t ≡ true) (sym zc) z)))

  -- of three that follow one another it is one of these
  one_takes : (a b c : ℕ) → a < b → b < c → ((t : ℕ) → a < t → t < c → asks_at e heard given t ≡ true → t ≡ b) → TakenFrom e heard given a c
      → (taken_at e heard given a ≡ true) ⊎ ((taken_at e heard given b ≡ true) ⊎ (taken_at e heard given c ≡ true))
  one_takes a b c ab bc no_other t = go (dec_lt a t.slot) (dec_lt t.slot c)
    where
      taken_at_lem : (u : ℕ) → t.slot ≡ u → taken_at e heard given u ≡ true
      taken_at_lem u q = subst (λ v. taken_at e heard given v ≡ true) q t.takes

      go : Dec (a < t.slot) → Dec (t.slot < c)
          → (taken_at e heard given a ≡ true) ⊎ ((taken_at e heard given b ≡ true) ⊎ (taken_at e heard given c ≡ true))
      go (no l) m = inl (taken_at_lem a (omega (arith, t.after)))
      go (yes l) (no m) = inr (inr (taken_at_lem c (omega (arith, t.by))))
      go (yes l) (yes m) = inr (inl (taken_at_lem b (no_other t.slot l m t.asks)))

  pub units_go : DataGoes e heard given
  units_go =
      record {
        one = λ a b c ab bc x y z no_other. one_takes a b c ab bc no_other (some_takes a b c ab bc x y z);
        some =
            λ a b c ab bc x y z.
            let t = some_takes a b c ab bc x y z in
            record { slot = t.slot; after = omega (arith, t.after); by = omega (arith, t.by); asks = t.asks; takes = t.takes };
      }
