-- A run is the undamaged pair up to where both ends have concluded, and they conclude as demand 3 says. Assumes nothing.
use mathlib.Core.Path.{◌≡◌, refl, sym, ap, ap₂, ◌∙◌}
use mathlib.Core.Bool.{Bool, true, false, cond}
use mathlib.Core.Logic.{◌⊎◌, inl, inr}
use Prim.Native.Nat.{ℕ, zero, suc, ◌+◌, ◌≤◌, ◌<◌, max}
use native.Mathlib.Nat.{le-max_left, le-max_right}
use native.Mathlib.Omega.{arith}
use lib.Dec.{ltb}
use borrow.Author.Tests.{ltb-true, ltb-false}
use Rattle.ground.proofs.Test.{both_left, both_right}
use Rattle.book.specs.declared.Book.{Book}
use Rattle.book.specs.Kept.{book_ok}
use Rattle.protocol.specs.Schedule.{meets, lacks_o, lacks_a, concludes_o, concludes_a}
use Rattle.protocol.specs.Slot.{started, outcome_of}
use Rattle.protocol.specs.Call.{stands_at}
use Rattle.protocol.specs.Pair.{MayJoin, JoinedPair, Concludes, BothRefuse}
use Rattle.protocol.specs.Joined.{Joined, idle, joined_slot}
use Rattle.premises.specs.Undamaged.{joined_at, hears_o, hears_a}
use Rattle.protocol.specs.declared.Drive.{Drive}
use Rattle.protocol.specs.declared.Outcome.{Outcome}
use Rattle.protocol.specs.declared.Outcome.TheVariants.{Exchanging, Open, Refused}
use Rattle.premises.proofs.UndamagedCalls.{end_o, end_a}
use Rattle.protocol.proofs.Calls.EndsByLimit.{ends_by_limit}
use Rattle.premises.proofs.PairExists.{pair_exists}
use Rattle.protocol.proofs.Chain.PairConcludes.{no_version_lem, both_open, no_profile_lem}
use Rattle.pair.specs.Running.{has_concluded, both_concluded, ran_for}
use Rattle.pair.specs.Join.{ran_of, stands_of}
use Rattle.pair.specs.RunsTrue.{pair_at, Ends, Conclude, RunConcludes, RunsTrue}
use Rattle.std.specs.Prelude.{Result, Ok}
use Rattle.pair.specs.declared.join.Concluded.{Concluded}
use Rattle.pair.specs.declared.join.NotJoined.{NotJoined}

-- Where a run of n slots from slot t on ends.

pub record EndsFrom (at : ℕ → Joined) (n t : ℕ) : Type 0 where
  slot : ℕ
  since : t ≤ slot
  by : slot ≤ t + n
  is : ran_for n (at t) ≡ at slot
  over : (both_concluded (at slot) ≡ true) ⊎ (slot ≡ t + n)
  first : (u : ℕ) → t ≤ u → u < slot → both_concluded (at u) ≡ false

ends_from : (at : ℕ → Joined) → ((t : ℕ) → at (suc t) ≡ joined_slot idle idle (at t)) → (n t : ℕ) → EndsFrom at n t
unfolding ran_for
ends_from at next zero t =
    record { slot = t; since = omega arith; by = omega arith; is = refl; over = inr (omega arith); first = λ u l m. absurd (omega arith) }
ends_from at next (suc n) t = go (both_concluded (at t)) refl (ends_from at next n (suc t)) where
  before : both_concluded (at t) ≡ false → (r : EndsFrom at n (suc t)) (u : ℕ) → t ≤ u → u < r.slot → (b : Bool) → ltb t u ≡ b → both_concluded (at u) ≡ false
  before c r u l m true later = r.first u (ltb-true t u later) m
  before c r u l m false now = let k = ltb-false t u now in let e : u ≡ t = omega arith in rw e c

  over_later : (r : EndsFrom at n (suc t)) → (both_concluded (at r.slot) ≡ true) ⊎ (r.slot ≡ suc t + n)
      → (both_concluded (at r.slot) ≡ true) ⊎ (r.slot ≡ t + suc n)
  over_later r (inl c) = inl c
  over_later r (inr e) = inr (omega arith)

  go : (b : Bool) → both_concluded (at t) ≡ b → EndsFrom at n (suc t) → EndsFrom at (suc n) t
  go true c r =
      record {
        slot = t;
        since = omega arith;
        by = omega arith;
        is = rw c refl;
        over = inl c;
        first = λ u l m. absurd (omega arith);
      }
  go false c r =
      record {
        slot = r.slot;
        since = let s = r.since in omega arith;
        by = let s = r.by in omega arith;
        is = rw (c, ← next t) r.is;
        over = over_later r r.over;
        first = λ u l m. before c r u l m (ltb t u) refl;
      }

abbrev concluded : Outcome → Outcome → Result Concluded NotJoined
concluded o a = Ok (record { o = o; a = a })

-- Concluded is out of the exchange.

is_concluded : (x : Outcome) → (x ≡ Exchanging → ⊥) → has_concluded x ≡ true
is_concluded Exchanging out = absurd (out refl)
is_concluded (Open version profile slot signals) out = refl
is_concluded (Refused number slot) out = refl

not_exchanging : (x : Outcome) → has_concluded x ≡ true → x ≡ Exchanging → ⊥
not_exchanging x c e = let z : ◌≡◌ {A = ℕ} 0 1 = ap (λ (b : Bool). cond b 1 0) (sym (ap has_concluded e) ∙ c) in omega arith

-- an end that has concluded by slot t did so in the slot in which it does
concluded_so : (slot : ℕ) (How : Outcome → Type 0) (stands : ℕ → Outcome) → Concludes slot How stands → (t : ℕ) → has_concluded (stands t) ≡ true
    → How (stands t)
concluded_so slot How stands c t over = go (ltb slot t) refl where
  go : (b : Bool) → ltb slot t ≡ b → How (stands t)
  go true later = c.after t (ltb-true slot t later)
  go false yet = absurd (not_exchanging (stands t) over (c.before t (ltb-false slot t yet)))

module _ (o a : Book) (d : ℕ) where
  abbrev drive : ℕ → Drive
  drive t = idle

  abbrev ho : ℕ → ℕ
  ho = hears_o (started o) (started a) d drive drive

  abbrev ha : ℕ → ℕ
  ha = hears_a (started o) (started a) d drive drive

  stands_o_lem : (t : ℕ) → stands_at (started o) ho drive t ≡ outcome_of (pair_at o a d t).o
  stands_o_lem t = ap outcome_of (end_o (started o) (started a) d drive drive t)

  stands_a_lem : (t : ℕ) → stands_at (started a) ha drive t ≡ outcome_of (pair_at o a d t).a
  stands_a_lem t = ap outcome_of (end_a (started o) (started a) d drive drive t)

  -- the limits end both
  late : book_ok o ≡ true → book_ok a ≡ true → (t : ℕ) → max o.limit a.limit ≤ t → both_concluded (pair_at o a d t) ≡ true
  late fine-o fine-a t l =
      let lo : o.limit ≤ t = omega (arith, le-max_left o.limit a.limit) in
      let la : a.limit ≤ t = omega (arith, le-max_right o.limit a.limit) in
      let x = is_concluded (outcome_of (pair_at o a d t).o) (λ e. ends_by_limit o fine-o ho drive t lo (stands_o_lem t ∙ e)) in
      let y = is_concluded (outcome_of (pair_at o a d t).a) (λ e. ends_by_limit a fine-a ha drive t la (stands_a_lem t ∙ e)) in
      rw (x, y)

  pub run_ends : book_ok o ≡ true → book_ok a ≡ true → Ends o a d
  unfolding joined_at
  run_ends fine-o fine-a = from (ends_from (pair_at o a d) (λ t. refl) (max o.limit a.limit) 0) where
    over : (t : ℕ) → (both_concluded (pair_at o a d t) ≡ true) ⊎ (t ≡ 0 + max o.limit a.limit) → both_concluded (pair_at o a d t) ≡ true
    over t (inl c) = c
    over t (inr e) = late fine-o fine-a t (omega arith)

    from : EndsFrom (pair_at o a d) (max o.limit a.limit) 0 → Ends o a d
    from r =
        record {
          slot = r.slot;
          by = let b = r.by in omega arith;
          is = r.is;
          over = over r.slot r.over;
          first = λ t l. r.first t (omega arith) l;
        }

  module _ (may : MayJoin d o a) where
    joined_pair : JoinedPair d o a drive drive ho ha
    joined_pair = pair_exists d o a drive drive may (λ t. refl) (λ t. refl)

    ended : Ends o a d
    ended = run_ends may.book_o may.book_a

    -- how both ends stand when the run is over
    conclude : (HowO HowA : Outcome → Type 0) (slot_o slot_a : ℕ) → Concludes slot_o HowO (stands_at (started o) ho drive)
        → Concludes slot_a HowA (stands_at (started a) ha drive) → Conclude HowO HowA (stands_of (ran_of o a d))
    conclude HowO HowA slot_o slot_a co ca =
        let t = ended.slot in
        let x = pair_at o a d t in
        record {
          o = stands_at (started o) ho drive t;
          a = stands_at (started a) ha drive t;
          is = ap stands_of ended.is ∙ sym (ap₂ concluded (stands_o_lem t) (stands_a_lem t));
          how_o = concluded_so slot_o HowO (stands_at (started o) ho drive) co t (ap has_concluded (stands_o_lem t) ∙ both_left (has_concluded (outcome_of x.o)) (has_concluded (outcome_of x.a)) ended.over);
          how_a = concluded_so slot_a HowA (stands_at (started a) ha drive) ca t (ap has_concluded (stands_a_lem t) ∙ both_right (has_concluded (outcome_of x.o)) (has_concluded (outcome_of x.a)) ended.over);
        }

    refuse : (number slot_o slot_a : ℕ) → BothRefuse number slot_o slot_a (stands_at (started o) ho drive) (stands_at (started a) ha drive)
        → stands_of (ran_of o a d) ≡ concluded (Refused number slot_o) (Refused number slot_a)
    refuse number slot_o slot_a both =
        let c = conclude (λ x. x ≡ Refused number slot_o) (λ x. x ≡ Refused number slot_a) slot_o slot_a both.o both.a in
        c.is ∙ ap₂ concluded c.how_o c.how_a

    pub run_concludes : RunConcludes d o a
    run_concludes =
        record {
          opens = λ shared found.
              let both = both_open d drive drive ho ha o a joined_pair shared found in
              conclude _ _ (concludes_o (meets d) d o a) (concludes_a (meets d) d o a) both.o both.a;
          no_version = λ none. refuse 21 (lacks_o (meets d) d) (lacks_a (meets d) d) (no_version_lem d drive drive ho ha o a joined_pair none);
          no_profile =
              λ shared unknown.
              refuse 22 (concludes_o (meets d) d o a) (concludes_a (meets d) d o a)
              (no_profile_lem d drive drive ho ha o a joined_pair shared unknown);
        }

pub runs_true : RunsTrue
runs_true = record { ends = λ o a fine-o fine-a d. run_ends o a d fine-o fine-a; concludes = λ d o a may. run_concludes o a d may }
