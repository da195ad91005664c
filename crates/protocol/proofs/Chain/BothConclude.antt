-- The joined pair concludes: both ends open alike, or both refuse alike. Assumes nothing.
use Rattle.std.specs.Prelude.{Option, Some, None}
use mathlib.Core.Path.{◌≡◌, refl, sym, ap, ◌∙◌, subst}
use mathlib.Core.Bool.{true, false}
use mathlib.Core.List.{[], ◌∷◌}
use Prim.Native.Nat.{ℕ, zero, suc, ◌+◌, ◌-◌, ◌≤◌, ◌<◌}
use native.Mathlib.Nat.{add-zero, add-suc}
use native.Mathlib.Omega.{arith}
use lib.Dec.{eqb}
use lib.ListN.{get_or}
use Rattle.book.specs.declared.Entry.{Entry}
use Rattle.book.specs.declared.Book.{Book}
use Rattle.book.specs.Book.{params_of}
use Rattle.channel.specs.Bytes.{sdidle, sgidle}
use Rattle.channel.specs.Kinds.{kind_of}
use Rattle.protocol.specs.Lengths.{parameter_run, parameter_lead, all_parameter_bytes}
use Rattle.protocol.specs.Schedule.{lacks_o, lacks_a, parameters_o, concludes_o, concludes_a, enough}
use Rattle.protocol.specs.Exchange.{entry_of, has_params, match_in, answered, opens_on}
use Rattle.protocol.specs.Sent.{Alone}
use Rattle.protocol.specs.Slot.{started, opens, opens_hearing, open_at, slot_step, outcome_at, outcome_of}
use Rattle.protocol.specs.Opened.{fresh_line}
use Rattle.protocol.specs.Ranges.{well_formed}
use Rattle.protocol.specs.Call.{sent_at, stands_at}
use Rattle.protocol.specs.Concluding.{StaysOpen}
use Rattle.protocol.specs.Pair.{OpenSince, Concludes}
use Rattle.protocol.specs.Late.{Later, starts_o, starts_a, since, sent_from, JoinedLate, meets_late}
use Rattle.protocol.specs.declared.Line.{Line}
use Rattle.protocol.specs.declared.Exchange.{Exchange}
use Rattle.protocol.specs.declared.Awaited.TheVariants.{Nothing}
use Rattle.protocol.specs.declared.Sending.TheVariants.{Done}
use Rattle.protocol.specs.declared.Fate.TheVariants.{OpensHearing, OpensSending, Refuses}
use Rattle.protocol.specs.declared.Outcome.TheVariants.{Exchanging, Refused}
use Rattle.protocol.specs.declared.Drive.{Drive}
use Rattle.protocol.proofs.Kept.Matching.{same_self, same_comm, same_entry}
use Rattle.protocol.proofs.Kept.StateKept.{call_kept}
use Rattle.protocol.proofs.Kept.BookFacts.{has_entry_lem, identifier_small}
use Rattle.protocol.proofs.Calls.ConcludedStays.{open_stays, refused_stays}
use Rattle.protocol.proofs.Chain.Core.{Core, Talks, Over, Talking, talking, Ended, ended, core, hearing}
use Rattle.protocol.proofs.Chain.Sender.{settled}
use Rattle.protocol.proofs.Chain.Roles.{as_o, as_a, id_o, id_a, common}
use Rattle.protocol.proofs.Chain.Meeting.{Meeting}
use Rattle.protocol.proofs.Chain.Settling as settling
use Rattle.protocol.proofs.Chain.Concluding as concluding
use Rattle.protocol.proofs.Chain.Timed.{core_at, end, timed, timed_said, timed_over, timed_hearing, concludes}
use Rattle.protocol.proofs.Chain.OwnSlots.{once_started, next, core_from, said_from}
use Rattle.protocol.proofs.Chain.Starting.{met_late, after_o, after_a, first, meets_by}
use Rattle.protocol.proofs.Chain.Profile.{found_same, found_none}

-- One end, whose core is known to end in a slot.
module _ (b : Book) (heard : ℕ → ℕ) (given : ℕ → Drive) (kept : (t : ℕ) → well_formed (end b heard given t) ≡ true) where
  -- an exchange that goes on has gone on
  talked_step : (t : ℕ) (u : Core) → core_at b heard given t ≡ u → Talking (core_at b heard given (suc t)) → Talking (core_at b heard given t)
  unfolding core_at
  talked_step t (Talks x) e q = talking x e
  talked_step t (Over f x) e (talking y r) =
      let z : Over f x ≡ Talks y = sym (ap (λ u. (core b u (kind_of (heard t))).to) e) ∙ r in
      let w : ◌≡◌ {A = ℕ} 0 1 = cc in
      absurd (omega arith)

  talked : (n t : ℕ) → Talking (core_at b heard given (t + n)) → Talking (core_at b heard given t)
  talked zero t q = rw add-zero at q
  talked (suc n) t q = talked n t (talked_step (t + n) (core_at b heard given (t + n)) refl (rw add-suc at q))

  exchanges : (t : ℕ) → t < b.limit → Talking (core_at b heard given t) → stands_at (started b) heard given t ≡ Exchanging
  unfolding outcome_at
  exchanges t l (talking x e) = ap outcome_of (timed b heard given kept t l x e)

  module _ (s : ℕ) (within : s < b.limit) (last : Talking (core_at b heard given s)) where
    before : (t : ℕ) → t ≤ s → stands_at (started b) heard given t ≡ Exchanging
    before t l =
        let z : s ≡ t + (s - t) = omega arith in
        exchanges t (omega arith) (talked (s - t) t (subst (λ u. Talking (core_at b heard given u)) z last))

    pub refuses_in : (n : ℕ) → Ended (Refuses n) (core_at b heard given (suc s)) → Concludes s (λ o. o ≡ Refused n s) (stands_at (started b) heard given)
    unfolding outcome_at
    refuses_in n (ended x e) =
        let f : end b heard given (suc s) ≡ concludes b s (given s) (Refuses n) x = timed_over b heard given kept s within last (Refuses n) x e in
        record {
          before = before;
          after =
              λ t l.
              ap outcome_of (refused_stays (started b) heard given (suc s) t l (ap (λ u. u.phase) f) ∙ f);
        }

    -- open on entry i, in either way
    module _ (i : ℕ) (x : Exchange) (line : Line) (f : end b heard given (suc s) ≡ opens b s x i line) where
      stays : (t : ℕ) → s < t → StaysOpen (end b heard given (suc s)) s x.version i (end b heard given t)
      stays t l = open_stays (started b) heard given (suc s) t l (ap (λ u. u.phase) f)

      open_in : Concludes s (OpenSince s x.version (entry_of b i)) (stands_at (started b) heard given)
      unfolding outcome_at
      open_in =
          record {
            before = before;
            after =
                λ t l.
                record {
                  signals = (stays t l).line.inbound.standing;
                  is = ap outcome_of (stays t l).same ∙ ap (λ u. outcome_of (open_at u s x.version i (stays t l).line)) f;
                };
          }

    pub opens_sending : (i : ℕ) (x : Exchange) → core_at b heard given (suc s) ≡ Over (OpensSending i) x
        → Concludes s (OpenSince s x.version (entry_of b i)) (stands_at (started b) heard given)
    opens_sending i x e = open_in i x fresh_line (timed_over b heard given kept s within last (OpensSending i) x e)

    pub opens_hearing_lem : (i : ℕ) (x : Exchange) → core_at b heard given (suc s) ≡ Over (OpensHearing i) x
        → Concludes s (OpenSince s x.version (entry_of b i)) (stands_at (started b) heard given)
    opens_hearing_lem i x e = open_in i x _ (timed_over b heard given kept s within last (OpensHearing i) x e)

-- Both ends, each in its own slots, which count from its start.
module _ {d e : ℕ} {later : Later} (bo ba : Book) {go ga : ℕ → Drive} {ho ha : ℕ → ℕ}
    (p : JoinedLate d e later (as_o bo) (as_a ba) go ga ho ha) where
  -- the slots in which they start and meet
  abbrev o : ℕ
  o = starts_o later e

  abbrev a : ℕ
  a = starts_a later e

  abbrev h : ℕ
  h = meets_late later d e

  -- what each hears and is given in its own slots
  abbrev heard_o : ℕ → ℕ
  heard_o = since o ho

  abbrev heard_a : ℕ → ℕ
  heard_a = since a ha

  abbrev given_o : ℕ → Drive
  given_o = since o go

  abbrev given_a : ℕ → Drive
  given_a = since a ga

  kept_o : (t : ℕ) → well_formed (end (as_o bo) heard_o given_o t) ≡ true
  kept_o = call_kept (as_o bo) p.books.book_o heard_o given_o

  kept_a : (t : ℕ) → well_formed (end (as_a ba) heard_a given_a t) ≡ true
  kept_a = call_kept (as_a ba) p.books.book_a heard_a given_a

  small_o : id_o bo < 256
  small_o = identifier_small (as_o bo) p.books.book_o

  small_a : id_a ba < 256
  small_a = identifier_small (as_a ba) p.books.book_a

  m : Meeting d a h (e + enough d (as_o bo) (as_a ba)) bo ba
      (core_from o (as_o bo) ho go) (core_from a (as_a ba) ha ga) (λ t. kind_of (ho t)) (λ t. kind_of (ha t))
      (said_from o (as_o bo) ho go) (said_from a (as_a ba) ha ga)
  m =
      met_late d o a h (e + enough d (as_o bo) (as_a ba)) bo ba go ga ho ha p.books.delay (after_o d e later) (after_a d e later) (first d e later)
      (omega (arith, meets_by d e later)) (omega (arith, p.limit_o)) (omega (arith, p.limit_a)) kept_o kept_a p.to_o p.to_a

  -- no version: 21
  module _ (lacking : common bo ba ≡ 0) where
    pub refuse_21_o : Concludes (lacks_o h d - o) (λ u. u ≡ Refused 21 (lacks_o h d - o)) (stands_at (started (as_o bo)) heard_o given_o)
    refuse_21_o =
        refuses_in (as_o bo) heard_o given_o kept_o (lacks_o h d - o) (omega (arith, p.limit_o, meets_by d e later)) (settling.o_talks m small_a lacking) 21
        (subst (λ t. Ended (Refuses 21) (core_at (as_o bo) heard_o given_o t)) (next o (lacks_o h d) (omega (arith, after_o d e later)))
        (settling.o_refuses m small_a lacking))

    pub refuse_21_a : Concludes (lacks_a h d - a) (λ u. u ≡ Refused 21 (lacks_a h d - a)) (stands_at (started (as_a ba)) heard_a given_a)
    refuse_21_a =
        refuses_in (as_a ba) heard_a given_a kept_a (lacks_a h d - a) (omega (arith, p.limit_a, meets_by d e later)) (settling.a_talks m small_a lacking) 21
        (subst (λ t. Ended (Refuses 21) (core_at (as_a ba) heard_a given_a t)) (next a (lacks_a h d) (omega (arith, after_a d e later)))
        (settling.a_refuses m small_a lacking))

  -- a version is shared
  module _ (shared : eqb (common bo ba) 0 ≡ false) where
    abbrev own : Entry
    own = entry_of (as_o bo) 0

    abbrev found : Option ℕ
    found = match_in (common bo ba) ba.entries (params_of (entry_of (as_o bo) 0)) ba.n

    bytes_o_lem : (k : ℕ) → get_or (own.p0 ∷ own.p1 ∷ own.p2 ∷ own.p3 ∷ own.p4 ∷ []) k 0 < 256
    bytes_o_lem k = p.books.bytes_o 0 k

    some_o : 1 ≤ parameter_run (as_o bo)
    unfolding parameter_run
    some_o = omega arith

    some_a : 1 ≤ parameter_run (as_a ba)
    unfolding parameter_run
    some_a = omega arith

    enough_o : parameter_run (as_o bo) ≤ parameter_lead (as_a ba)
    unfolding parameter_run parameter_lead
    enough_o = omega arith

    enough_a : parameter_run (as_a ba) ≤ parameter_lead (as_o bo)
    unfolding parameter_run parameter_lead
    enough_a = omega arith

    -- the slots in which they conclude
    abbrev pub slot_a_lem : ℕ
    slot_a_lem = concludes_a h d (as_o bo) (as_a ba) - a

    abbrev pub slot_o_lem : ℕ
    slot_o_lem = concludes_o h d (as_o bo) (as_a ba) - o

    next_a : suc (concludes_a h d (as_o bo) (as_a ba)) - a ≡ suc slot_a_lem
    next_a = next a (concludes_a h d (as_o bo) (as_a ba)) (omega (arith, after_a d e later))

    next_o : suc (concludes_o h d (as_o bo) (as_a ba)) - o ≡ suc slot_o_lem
    next_o = next o (concludes_o h d (as_o bo) (as_a ba)) (omega (arith, after_o d e later))

    -- A's last byte goes in its slot
    talks_a : Talking (core_at (as_a ba) heard_a given_a slot_a_lem)
    talks_a = concluding.a_talks m small_a small_o shared own.p0 own.p1 own.p2 own.p3 own.p4 refl bytes_o_lem some_a enough_a

    last_a : core_at (as_a ba) heard_a given_a (suc slot_a_lem) ≡ Over (opens_on found) (settled (hearing Nothing (id_o bo ∷ params_of own)) (common bo ba) Done)
    last_a =
        ap (core_at (as_a ba) heard_a given_a) (sym next_a)
        ∙ concluding.a_concludes m small_a small_o shared own.p0 own.p1 own.p2 own.p3 own.p4 refl bytes_o_lem some_a enough_a

    within_a : slot_a_lem < ba.limit
    within_a = omega (arith, p.limit_a, meets_by d e later)

    within_o : slot_o_lem < bo.limit
    within_o = omega (arith, p.limit_o, meets_by d e later)

    -- O's, with A's reply in hand, in its own
    module _ (q0 q1 q2 q3 q4 : ℕ) (replied : answered found (params_of own) (params_of (entry_of (as_a ba) 0)) ≡ q0 ∷ q1 ∷ q2 ∷ q3 ∷ q4 ∷ [])
        (bytes-q : (k : ℕ) → get_or (q0 ∷ q1 ∷ q2 ∷ q3 ∷ q4 ∷ []) k 0 < 256) where
      talks_o : Talking (core_at (as_o bo) heard_o given_o slot_o_lem)
      talks_o =
          concluding.o_talks m small_a small_o shared own.p0 own.p1 own.p2 own.p3 own.p4 refl bytes_o_lem some_a enough_a
          q0 q1 q2 q3 q4 replied bytes-q some_o enough_o

      opens_o : has_params own (q0 ∷ q1 ∷ q2 ∷ q3 ∷ q4 ∷ []) ≡ true
          → core_at (as_o bo) heard_o given_o (suc slot_o_lem) ≡ Over (OpensHearing 0) (settled (hearing Nothing (id_a ba ∷ q0 ∷ q1 ∷ q2 ∷ q3 ∷ q4 ∷ [])) (common bo ba) Done)
      opens_o q =
          ap (core_at (as_o bo) heard_o given_o) (sym next_o)
          ∙ concluding.o_opens m small_a small_o shared own.p0 own.p1 own.p2 own.p3 own.p4 refl bytes_o_lem some_a enough_a
          q0 q1 q2 q3 q4 replied bytes-q some_o enough_o q

      refuses_o : has_params own (q0 ∷ q1 ∷ q2 ∷ q3 ∷ q4 ∷ []) ≡ false
          → core_at (as_o bo) heard_o given_o (suc slot_o_lem) ≡ Over (Refuses 22) (settled (hearing Nothing (id_a ba ∷ q0 ∷ q1 ∷ q2 ∷ q3 ∷ q4 ∷ [])) (common bo ba) Done)
      refuses_o q =
          ap (core_at (as_o bo) heard_o given_o) (sym next_o)
          ∙ concluding.o_refuses m small_a small_o shared own.p0 own.p1 own.p2 own.p3 own.p4 refl bytes_o_lem some_a enough_a
          q0 q1 q2 q3 q4 replied bytes-q some_o enough_o q

    -- the profile is entry i of A's book
    module _ (i : ℕ) (f : found ≡ Some i) where
      pub profile_is : entry_of (as_a ba) i ≡ own
      profile_is =
          let n = found_same d bo ba p.books shared i f in
          let alike = p.books.forms i n.0 n.1 in
          same_entry (entry_of (as_a ba) i) own n.1 alike.0 alike.1

      pub open_a : Concludes slot_a_lem (OpenSince slot_a_lem (common bo ba) own) (stands_at (started (as_a ba)) heard_a given_a)
      open_a =
          rw profile_is at
          (opens_sending (as_a ba) heard_a given_a kept_a slot_a_lem within_a talks_a i (settled (hearing Nothing (id_o bo ∷ params_of own)) (common bo ba) Done) (last_a ∙ rw f))

      replied_own : answered found (params_of own) (params_of (entry_of (as_a ba) 0)) ≡ own.p0 ∷ own.p1 ∷ own.p2 ∷ own.p3 ∷ own.p4 ∷ []
      replied_own = rw f

      pub open_o : Concludes slot_o_lem (OpenSince slot_o_lem (common bo ba) own) (stands_at (started (as_o bo)) heard_o given_o)
      open_o =
          opens_hearing_lem (as_o bo) heard_o given_o kept_o slot_o_lem within_o
          (talks_o own.p0 own.p1 own.p2 own.p3 own.p4 replied_own bytes_o_lem) 0
          (settled (hearing Nothing (id_a ba ∷ params_of own)) (common bo ba) Done)
          (opens_o own.p0 own.p1 own.p2 own.p3 own.p4 replied_own bytes_o_lem (same_self own))

      -- what each end is then, for what follows
      abbrev pub last_exchange_a : Exchange
      last_exchange_a = settled (hearing Nothing (id_o bo ∷ params_of own)) (common bo ba) Done

      abbrev pub last_exchange_o : Exchange
      last_exchange_o = settled (hearing Nothing (id_a ba ∷ params_of own)) (common bo ba) Done

      pub state_a : end (as_a ba) heard_a given_a (suc slot_a_lem) ≡ opens (as_a ba) slot_a_lem last_exchange_a i fresh_line
      state_a = timed_over (as_a ba) heard_a given_a kept_a slot_a_lem within_a talks_a (OpensSending i) last_exchange_a (last_a ∙ rw f)

      pub step_o : slot_step (end (as_o bo) heard_o given_o slot_o_lem) (heard_o slot_o_lem) (given_o slot_o_lem)
          ≡ opens_hearing (as_o bo) slot_o_lem last_exchange_o 0 (given_o slot_o_lem)
      step_o =
          timed_hearing (as_o bo) heard_o given_o kept_o slot_o_lem within_o
          (talks_o own.p0 own.p1 own.p2 own.p3 own.p4 replied_own bytes_o_lem) 0 last_exchange_o
          (opens_o own.p0 own.p1 own.p2 own.p3 own.p4 replied_own bytes_o_lem (same_self own))

      pub state_o : end (as_o bo) heard_o given_o (suc slot_o_lem) ≡ (opens_hearing (as_o bo) slot_o_lem last_exchange_o 0 (given_o slot_o_lem)).state
      state_o =
          timed_over (as_o bo) heard_o given_o kept_o slot_o_lem within_o
          (talks_o own.p0 own.p1 own.p2 own.p3 own.p4 replied_own bytes_o_lem) (OpensHearing 0) last_exchange_o
          (opens_o own.p0 own.p1 own.p2 own.p3 own.p4 replied_own bytes_o_lem (same_self own))

      -- O has sent Sdidle since its own parameters, by the common slots
      pub idled_o : (t : ℕ) → parameters_o h d + all_parameter_bytes (as_o bo) ≤ t → t < concludes_o h d (as_o bo) (as_a ba)
          → sent_from o (started (as_o bo)) ho go t ≡ Alone sdidle
      idled_o t hx hy =
          once_started o (Alone sgidle) (sent_at (started (as_o bo)) heard_o given_o) t (omega (arith, after_o d e later))
          ∙ timed_said (as_o bo) heard_o given_o kept_o (t - o) (omega (arith, p.limit_o, meets_by d e later)) (Alone sdidle)
          (concluding.o_idled m small_a small_o shared own.p0 own.p1 own.p2 own.p3 own.p4 refl bytes_o_lem some_a enough_a
          own.p0 own.p1 own.p2 own.p3 own.p4 replied_own bytes_o_lem some_o enough_o t (omega arith) (omega arith))

    -- it is in none
    module _ (f : found ≡ None) where
      pub refuse_22_a : Concludes slot_a_lem (λ u. u ≡ Refused 22 slot_a_lem) (stands_at (started (as_a ba)) heard_a given_a)
      refuse_22_a =
          refuses_in (as_a ba) heard_a given_a kept_a slot_a_lem within_a talks_a 22
          (ended (settled (hearing Nothing (id_o bo ∷ params_of own)) (common bo ba) Done) (last_a ∙ rw f))

      abbrev entry_0 : Entry
      entry_0 = entry_of (as_a ba) 0

      replied_first : answered found (params_of own) (params_of entry_0) ≡ entry_0.p0 ∷ entry_0.p1 ∷ entry_0.p2 ∷ entry_0.p3 ∷ entry_0.p4 ∷ []
      replied_first = rw f

      bytes_first : (k : ℕ) → get_or (entry_0.p0 ∷ entry_0.p1 ∷ entry_0.p2 ∷ entry_0.p3 ∷ entry_0.p4 ∷ []) k 0 < 256
      bytes_first k = p.books.bytes_a 0 k

      unequal : has_params own (entry_0.p0 ∷ entry_0.p1 ∷ entry_0.p2 ∷ entry_0.p3 ∷ entry_0.p4 ∷ []) ≡ false
      unequal = same_comm own entry_0 ∙ found_none d bo ba p.books shared 0 f (has_entry_lem (as_a ba) p.books.book_a)

      pub refuse_22_o : Concludes slot_o_lem (λ u. u ≡ Refused 22 slot_o_lem) (stands_at (started (as_o bo)) heard_o given_o)
      refuse_22_o =
          refuses_in (as_o bo) heard_o given_o kept_o slot_o_lem within_o
          (talks_o entry_0.p0 entry_0.p1 entry_0.p2 entry_0.p3 entry_0.p4 replied_first bytes_first) 22
          (ended (settled (hearing Nothing (id_a ba ∷ params_of entry_0)) (common bo ba) Done)
          (refuses_o entry_0.p0 entry_0.p1 entry_0.p2 entry_0.p3 entry_0.p4 replied_first bytes_first unequal))
