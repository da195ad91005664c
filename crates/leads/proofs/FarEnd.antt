-- Leads that are given without a change stand at the far end d slots after they are out, and from then on. Assumes nothing.
use Rattle.std.specs.Prelude.{Option, Some, None}
use mathlib.Core.Path.{◌≡◌, refl, sym, ap, ◌∙◌, subst}
use mathlib.Core.Bool.{true, false, not, ◌&&◌}
use mathlib.Core.Logic.{inr}
use Prim.Native.Nat.{ℕ, zero, suc, ◌+◌, ◌-◌, ◌≤◌, ◌<◌}
use native.Mathlib.Nat.{add-zero, add-suc}
use native.Mathlib.Omega.{arith}
use lib.Dec.{leb}
use borrow.Author.Tests.{lt-ltb, leb-true}
use Rattle.ground.proofs.Test.{both_right}
use Rattle.book.specs.declared.Book.{Book}
use Rattle.channel.specs.declared.byte.Leads.{Leads}
use Rattle.protocol.specs.Exchange.{entry_of}
use Rattle.protocol.specs.Opened.{shape_of, has_pair, opening_sd, fresh_line, writes_opening, writing}
use Rattle.protocol.specs.Call.{sent_at, stands_at}
use Rattle.protocol.specs.Pair.{JoinedPair, ProfileIn, shared_version}
use Rattle.protocol.specs.Carried.{Shown, shown_next, shown_after}
use Rattle.protocol.specs.Delivery.{signals_of, CarriesOver}
use Rattle.protocol.specs.declared.Shape.{Shape}
use Rattle.protocol.specs.declared.Outbound.{Outbound}
use Rattle.protocol.specs.declared.Endpoint.{Endpoint}
use Rattle.protocol.specs.declared.Drive.{Drive}
use Rattle.protocol.proofs.Kept.WritingKept.{Fits, OutboundIn, parts, next_kept, fresh_outbound}
use Rattle.protocol.proofs.Delivery.OpenRuns.{outs}
use Rattle.protocol.proofs.Delivery.Delivers.{SendsFrom}
use Rattle.protocol.proofs.Delivery.PairDelivers.{both_carry, both_send}
use Rattle.leads.specs.LeadsAhead.{past_sd, waits, OutTwice, Stands, LeadsStand, BothStand}
use Rattle.leads.proofs.Tracked.{tracked}
use Rattle.leads.proofs.LastTwo.{Same, next_same, fresh_same}
use Rattle.leads.proofs.OneSlot.{Goes, goes_by}
use Rattle.leads.proofs.Running.{same_opening}
use Rattle.leads.proofs.Waiting.{equal_leads, OutBy, waits_most, out_by}
use Rattle.leads.proofs.Settled.{shown_agrees, Settled, settled}

first_bytes_lem : (s : Shape) (o : Outbound) (g : Drive) → has_pair s ≡ false → o.opening < opening_sd → (writing s o g).outbound.opening ≡ o.opening + 1
unfolding writing writes_opening
first_bytes_lem s o g p l = rw (p, lt-ltb o.opening opening_sd l) refl

-- One direction.
module _ (d : ℕ) (s : Shape) (x : ℕ) (sender : Endpoint) (hs : ℕ → ℕ) (gs : ℕ → Drive) (receiver : Endpoint) (hr : ℕ → ℕ) (gr : ℕ → Drive)
    (none : has_pair s ≡ false) (sends : SendsFrom x s sender hs gs) (carries : CarriesOver d s x sender hs gs receiver hr gr) where
  abbrev g : ℕ → Drive
  g = sends.drives

  abbrev o : ℕ → Outbound
  o n = outs s g fresh_line.outbound n

  abbrev h : ℕ → Shown
  h n = shown_after (λ m. sent_at sender hs gs (x + m)) n

  fits : (n : ℕ) → Fits s (g n).offer
  fits n = go (g n).offer refl
    where
      go : (f : Option ℕ) → (g n).offer ≡ f → Fits s f
      go None e = tt
      go (Some u) e = sends.allowed n u e

  in_range : (n : ℕ) → OutboundIn s (o n)
  unfolding outs
  in_range zero = parts s fresh_line.outbound (fresh_outbound s)
  in_range (suc n) = next_kept s (o n) (g n) (in_range n) (fits n)

  opens : (n : ℕ) → n ≤ opening_sd → (o n).opening ≡ n
  unfolding outs fresh_line
  opens zero l = refl
  opens (suc n) l =
      let e : (o n).opening ≡ n = opens n (omega arith) in
      first_bytes_lem s (o n) (g n) none (omega arith) ∙ (let z : (o n).opening + 1 ≡ suc n = omega arith in z)

  goes_from : (n : ℕ) → past_sd s (o n) ≡ true → Goes s (o n) (g n) (writing s (o n) (g n))
  goes_from n p = goes_by (o n) (g n) s p (in_range n)

  past_from : (n : ℕ) → past_sd s (o (opening_sd + n)) ≡ true
  unfolding outs
  past_from zero =
      let e : (o (opening_sd + 0)).opening ≡ opening_sd = opens opening_sd (omega arith) in
      rw (none, e) refl
  past_from (suc n) =
      subst (λ m. past_sd s (o m) ≡ true) (sym (add-suc opening_sd n))
      (ap (λ k. not (has_pair s) && leb opening_sd k) (same_opening (goes_from (opening_sd + n) (past_from n))) ∙ past_from n)

  past : (n : ℕ) → opening_sd ≤ n → past_sd s (o n) ≡ true
  past n l = let z : opening_sd + (n - opening_sd) ≡ n = omega arith in subst (λ m. past_sd s (o m) ≡ true) z (past_from (n - opening_sd))

  two_gone : (n : ℕ) → opening_sd ≤ n → 2 ≤ (o n).opening
  two_gone n l = omega (arith, leb-true opening_sd (o n).opening (both_right (not (has_pair s)) (leb opening_sd (o n).opening) (past n l)))

  same : (n : ℕ) → Same (h n) (o n)
  unfolding outs shown_after
  same zero = fresh_same _
  same (suc n) =
      subst (λ w. Same (shown_next w (h n)) (writing s (o n) (g n)).outbound) (sym (sends.sent n)) (next_same (tracked (o n) (g n) (h n) s) (same n))

  -- from slot t on, for n slots
  module _ (t n : ℕ) (leads : Leads) (late : x + opening_sd ≤ t) (long : waits s ≤ n) (steady : (m : ℕ) → m < n → (gs (t + m)).leads ≡ leads) where
    abbrev k : ℕ
    k = t - x

    led : (m : ℕ) → m < n → (g (k + m)).leads ≡ leads
    led m l = let z : t + m ≡ x + (k + m) = omega arith in sends.leads (k + m) ∙ subst (λ u. (gs u).leads ≡ leads) z (steady m l)

    found : OutBy leads (λ m. o (k + m)) 0 (waits s)
    unfolding outs
    found =
        out_by s leads (λ m. o (k + m)) (λ m. g (k + m)) (λ m. rw (add-suc k m) refl) (λ m. goes_from (k + m) (past (k + m) (omega arith)))
        (waits s) 0 (waits_most s leads (o (k + 0)))
        (λ m l. let z : m ≡ 0 + m = omega arith in subst (λ u. (g (k + u)).leads ≡ leads) z (led m (omega arith)))

    abbrev slots : ℕ
    slots = 0 + found.slots

    out_last : (h (k + slots)).last.leads ≡ leads
    out_last =
        ap (λ z. z.leads) ((same (k + slots)).last (omega (arith, two_gone (k + slots) (omega arith))))
        ∙ sym (equal_leads leads (o (k + slots)).last.leads found.out.last)

    out_before : (h (k + slots)).before.leads ≡ leads
    out_before =
        ap (λ z. z.leads) ((same (k + slots)).before (two_gone (k + slots) (omega arith)))
        ∙ sym (equal_leads leads (o (k + slots)).before.leads found.out.before)

    settles : (j : ℕ) → slots + j ≤ n → Settled leads (o (k + slots + j)) (h (k + slots + j))
    unfolding outs shown_after
    settles zero l =
        subst (λ m. Settled leads (o m) (h m)) (sym (add-zero (k + slots)))
        (record { standing = shown_agrees _ (k + slots) leads out_last out_before; claim = λ m q. inr out_last })
    settles (suc j) l =
        let y : k + (slots + j) ≡ k + slots + j = omega arith in
        let e = subst (λ m. (g m).leads ≡ leads) y (led (slots + j) (omega arith)) in
        let w = goes_from (k + slots + j) (past (k + slots + j) (omega arith)) in
        let z = settled s leads (o (k + slots + j)) (g (k + slots + j)) (h (k + slots + j)) e (settles j (omega arith)) w in
        subst (λ m. Settled leads (o m) (h m)) (sym (add-suc (k + slots) j))
        (subst (λ v. Settled leads (writing s (o (k + slots + j)) (g (k + slots + j))).outbound (shown_next v (h (k + slots + j))))
        (sym (sends.sent (k + slots + j))) z)

    stand : (u : ℕ) → t + slots + d ≤ u → u ≤ t + n + d → (signals_of (stands_at receiver hr gr u)).leads ≡ leads
    stand u lo hi =
        let j = u - (t + slots + d) in
        let z : k + slots + j ≡ u - (x + d) = omega arith in
        ap (λ (y : _). y.leads) (carries.signals u)
        ∙ subst (λ m. (h m).standing.leads ≡ leads) z (settles j (omega (arith, found.within))).standing

    stands_by_lem : Stands d s x sender hs gs receiver hr gr t n leads
    stands_by_lem =
        let z : k + slots ≡ t + slots - x = omega arith in
        record {
          slots = slots;
          within = omega (arith, found.within);
          out = subst (OutTwice _ leads) z (record { last = out_last; before = out_before });
          stands = λ u lo hi. stand u (omega arith) (omega arith);
        }

  leads_stand : LeadsStand d s x sender hs gs receiver hr gr
  leads_stand = stands_by_lem

pub both_stand : (d : ℕ) (bo ba : Book) (go ga : ℕ → Drive) (ho ha : ℕ → ℕ) → JoinedPair d bo ba go ga ho ha → (shared_version bo ba ≡ 0 → ⊥)
    → ProfileIn bo ba → has_pair (shape_of (entry_of bo 0) (shared_version bo ba)) ≡ false → BothStand d bo ba go ga ho ha
both_stand d bo ba go ga ho ha p n f none =
    let c = both_carry d go ga ho ha bo ba p n f in
    let s = both_send d go ga ho ha bo ba p n f in
    record {
      from_o = leads_stand d _ _ _ ho go _ ha ga none s.from_o c.from_o;
      from_a = leads_stand d _ _ _ ha ga _ ho go none s.from_a c.from_a;
    }
