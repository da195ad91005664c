-- Leads that are given without a change are in the last two Sd after so many slots at most: each slot brings them nearer. Assumes nothing.
use Rattle.std.specs.Prelude.{None}
use mathlib.Core.Path.{◌≡◌, refl, sym, subst}
use mathlib.Core.Bool.{Bool, true, false, cond, not, ◌&&◌, beq}
use mathlib.Core.Logic.{◌⊎◌, inl, inr}
use Prim.Native.Nat.{ℕ, zero, suc, ◌+◌, ◌≤◌, ◌<◌}
use native.Mathlib.Nat.{add-zero}
use native.Mathlib.Omega.{arith}
use borrow.Author.Tests.{not-false}
use Rattle.ground.proofs.Test.{by_test, both_left, both_right}
use Rattle.channel.specs.declared.byte.Leads.{Leads}
use Rattle.protocol.specs.Opened.{Writing, is_word, same_leads, changed, writes_sd, writes_given, writing}
use Rattle.protocol.specs.Ranges.{none_due}
use Rattle.protocol.specs.declared.Shape.{Shape}
use Rattle.protocol.specs.declared.Shape.TheVariants as shape
use Rattle.protocol.specs.declared.Claim.{Claim}
use Rattle.protocol.specs.declared.Claim.TheVariants.{Free, Second, Owed}
use Rattle.protocol.specs.declared.Outbound.{Outbound}
use Rattle.protocol.specs.declared.Drive.{Drive}
use Rattle.leads.specs.LeadsAhead.{waits}
use Rattle.leads.proofs.OneSlot.{Goes, high, broken, second, first, takes, idles}

-- Leads that are the same.

beq_same : (a : Bool) → beq a a ≡ true
beq_same true = refl
beq_same false = refl

beq_equal : (a b : Bool) → beq a b ≡ true → a ≡ b
beq_equal true true e = refl
beq_equal false false e = refl
beq_equal true false e = sym e
beq_equal false true e = e

pub same_leads_lem : (l : Leads) → same_leads l l ≡ true
same_leads_lem l = rw (beq_same l.s0, beq_same l.s1, beq_same l.s2, beq_same l.s3) refl

pub equal_leads : (a b : Leads) → same_leads a b ≡ true → a ≡ b
equal_leads a b e =
    let b0 = beq a.s0 b.s0 in
    let b1 = beq a.s1 b.s1 in
    let b2 = beq a.s2 b.s2 in
    let b3 = beq a.s3 b.s3 in
    let three = both_left (b0 && b1 && b2) b3 e in
    let two = both_left (b0 && b1) b2 three in
    let e0 = beq_equal a.s0 b.s0 (both_left b0 b1 two) in
    let e1 = beq_equal a.s1 b.s1 (both_right b0 b1 two) in
    let e2 = beq_equal a.s2 b.s2 (both_right (b0 && b1) b2 three) in
    let e3 = beq_equal a.s3 b.s3 (both_right (b0 && b1 && b2) b3 e) in
    let whole : ◌≡◌ {A = Leads} (record { s0 = a.s0; s1 = a.s1; s2 = a.s2; s3 = a.s3 }) (record { s0 = b.s0; s1 = b.s1; s2 = b.s2; s3 = b.s3 })
    = rw (e0, e1, e2, e3) refl in
    whole

-- the last two Sd have them
pub record Out (l : Leads) (o : Outbound) : Type 0 where
  pub last : same_leads l o.last.leads ≡ true
  pub before : same_leads l o.before.leads ≡ true

-- How many slots are left until then at most, by whether a DH is due, who has a claim, and whether the last Sd has them; a word takes a slot
-- more than a unit.

abbrev longer : Shape → ℕ
longer s = cond (is_word s) 1 0

abbrev left_at : ℕ → Leads → (none : Bool) → Claim → (last : Bool) → ℕ
left_at x l false c a = cond a 2 3
left_at x l true Free a = cond a 1 2
left_at x l true Owed a = cond a (2 + x) (3 + x)
left_at x l true (Second m) a = cond (same_leads l m) (cond a 1 (3 + x)) (cond a (4 + x) (4 + x + x))

abbrev left : Shape → Leads → Outbound → ℕ
left s l o = left_at (longer s) l (none_due o.due) o.claim (same_leads l o.last.leads)

least : (x : ℕ) (l : Leads) (none : Bool) (c : Claim) (a : Bool) → 1 ≤ left_at x l none c a
least x l false c true = omega arith
least x l false c false = omega arith
least x l true Free true = omega arith
least x l true Free false = omega arith
least x l true Owed true = omega arith
least x l true Owed false = omega arith
least x l true (Second m) true = by_test (λ n. 1 ≤ n) (same_leads l m) (λ t. omega arith) (λ t. omega arith)
least x l true (Second m) false = by_test (λ n. 1 ≤ n) (same_leads l m) (λ t. omega arith) (λ t. omega arith)

most : (x : ℕ) (l : Leads) (none : Bool) (c : Claim) (a : Bool) → left_at x l none c a ≤ 4 + x + x
most x l false c true = omega arith
most x l false c false = omega arith
most x l true Free true = omega arith
most x l true Free false = omega arith
most x l true Owed true = omega arith
most x l true Owed false = omega arith
most x l true (Second m) true = by_test (λ n. n ≤ 4 + x + x) (same_leads l m) (λ t. omega arith) (λ t. omega arith)
most x l true (Second m) false = by_test (λ n. n ≤ 4 + x + x) (same_leads l m) (λ t. omega arith) (λ t. omega arith)

pub waits_most : (s : Shape) (l : Leads) (o : Outbound) → left s l o ≤ waits s
waits_most (shape.Word w) l o = most 1 l (none_due o.due) o.claim (same_leads l o.last.leads)
waits_most (shape.Unit f) l o = most 0 l (none_due o.due) o.claim (same_leads l o.last.leads)

-- What a slot does to that.

due_less : (x : ℕ) (l : Leads) (c : Claim) (a : Bool) → left_at x l true Free a < left_at x l false c a
due_less x l c true = omega arith
due_less x l c false = omega arith

broken_less : (l : Leads) (c : Claim) → left_at 1 l true c true < left_at 1 l true c false
broken_less l Free = omega arith
broken_less l Owed = omega arith
broken_less l (Second m) = go (same_leads l m)
  where
    go : (b : Bool) → cond b 1 5 < cond b 4 6
    go true = omega arith
    go false = omega arith

takes_less : (x : ℕ) (l : Leads) (word none a : Bool) → none ≡ not word → x ≡ cond word 1 0 → left_at x l none Free a < left_at x l true Owed a
takes_less x l true none true e y = rw (e, y) (omega arith)
takes_less x l true none false e y = rw (e, y) (omega arith)
takes_less x l false none true e y = rw (e, y) (omega arith)
takes_less x l false none false e y = rw (e, y) (omega arith)

-- where leads claim nothing and no unit is owed, they are out
given_out : (l : Leads) (o : Outbound) (g : Drive) → g.leads ≡ l → changed g.leads o ≡ false → Out l o
given_out l o g e c =
    let z : (same_leads l o.last.leads && same_leads l o.before.leads) ≡ true
    = not-false (same_leads l o.last.leads && same_leads l o.before.leads) (subst (λ m. changed m o ≡ false) e c) in
    record {
      last = both_left (same_leads l o.last.leads) (same_leads l o.before.leads) z;
      before = both_right (same_leads l o.last.leads) (same_leads l o.before.leads) z;
    }

-- an Sd with the leads given: they are out, or the last Sd did not have them and now does
module _ (s : Shape) (l : Leads) (o : Outbound) (g : Drive) (e : g.leads ≡ l) where
  abbrev Less : Writing → Type 0
  Less w = Out l w.outbound ⊎ (left s l w.outbound < left s l o)

  now_same : same_leads l g.leads ≡ true
  now_same = rw e (same_leads_lem l)

  given_less : (w : Writing) → w.outbound.last.leads ≡ g.leads → w.outbound.before ≡ o.last → o.due ≡ None → w.outbound.due ≡ None
      → left_at (longer s) l true w.outbound.claim true < left_at (longer s) l true o.claim false → Less w
  given_less w p q d f less = go (same_leads l o.last.leads) refl
    where
      go : (a : Bool) → same_leads l o.last.leads ≡ a → Less w
      go true x = inl (record { last = rw p now_same; before = rw q x })
      go false x = inr (rw (d, f, p, now_same, x) less)

  -- a slot, whichever rule decides it
  less : {w : Writing} → Goes s o g w → Out l o ⊎ Less w
  less (high d c sent y) =
      inr (inr (rw d (due_less (longer s) l o.claim (same_leads l o.last.leads))))
  less (broken w d h) =
      let x : longer s ≡ 1 = rw w refl in
      inr (given_less (writes_given s o g) refl refl d refl (rw x (broken_less l o.claim)))
  less (second m f c) = inr (go (same_leads l m) (same_leads l o.last.leads) refl refl)
    where
      go : (b a : Bool) → same_leads l m ≡ b → same_leads l o.last.leads ≡ a → Less (writes_sd s o o.opening Owed m g)
      go true true x y = inl (record { last = x; before = y })
      go true false x y = inr (rw (f.none, c, x, y) (omega arith))
      go false true x y = inr (rw (f.none, c, x, y) (omega arith))
      go false false x y = inr (rw (f.none, c, x, y) (omega arith))
  less (first f c x) =
      inr (given_less (writes_sd s o o.opening (Second g.leads) g.leads g) refl refl f.none refl (rw (c, now_same) (omega arith)))
  less (takes f (inl c) u q due n sent x) =
      inr (inr (rw (f.none, c) (takes_less (longer s) l (is_word s) (none_due due) (same_leads l o.last.leads) n refl)))
  less (takes f (inr c) u q due n sent x) = inl (given_out l o g e c.1)
  less (idles f (inl c) q) = inr (given_less (writes_given s o g) refl refl f.none refl (rw c (omega arith)))
  less (idles f (inr c) q) = inl (given_out l o g e c.1)

-- Slot by slot, from slot n on.

pub record OutBy (l : Leads) (o : ℕ → Outbound) (n k : ℕ) : Type 0 where
  pub slots : ℕ
  pub within : slots ≤ k
  pub out : Out l (o (n + slots))

module _ (s : Shape) (l : Leads) (o : ℕ → Outbound) (g : ℕ → Drive) (next : (n : ℕ) → o (suc n) ≡ (writing s (o n) (g n)).outbound)
    (goes : (n : ℕ) → Goes s (o n) (g n) (writing s (o n) (g n))) where
  pub out_by : (k n : ℕ) → left s l (o n) ≤ k → ((m : ℕ) → m < k → (g (n + m)).leads ≡ l) → OutBy l o n k
  out_by zero n h given =
      absurd (omega (arith, least (longer s) l (none_due (o n).due) (o n).claim (same_leads l (o n).last.leads)))
  out_by (suc k) n h given =
      go (less s l (o n) (g n) (subst (λ m. (g m).leads ≡ l) (add-zero n) (given 0 (omega arith))) (goes n))
      (λ x. out_by k (suc n) x (λ m i. let z : n + suc m ≡ suc n + m = omega arith in subst (λ t. (g t).leads ≡ l) z (given (suc m) (omega arith))))
    where
      go : Out l (o n) ⊎ (Out l (writing s (o n) (g n)).outbound ⊎ (left s l (writing s (o n) (g n)).outbound < left s l (o n)))
          → (left s l (o (suc n)) ≤ k → OutBy l o (suc n) k) → OutBy l o n (suc k)
      go (inl d) later = record { slots = 0; within = omega arith; out = subst (λ m. Out l (o m)) (sym (add-zero n)) d }
      go (inr (inl d)) later =
          let z : suc n ≡ n + 1 = omega arith in
          record { slots = 1; within = omega arith; out = subst (λ m. Out l (o m)) z (subst (Out l) (sym (next n)) d) }
      go (inr (inr x)) later =
          let y : left s l (o (suc n)) < left s l (o n) = subst (λ p. left s l p < left s l (o n)) (sym (next n)) x in
          let r = later (omega arith) in
          let z : suc n + r.slots ≡ n + suc r.slots = omega arith in
          record { slots = suc r.slots; within = omega (arith, r.within); out = subst (λ m. Out l (o m)) z r.out }
