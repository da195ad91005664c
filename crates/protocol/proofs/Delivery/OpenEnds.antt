-- An end that opens in a call, as a sender and as a receiver from then on. Assumes nothing.
use Rattle.std.specs.Prelude.{Some, None}
use mathlib.Core.Path.{◌≡◌, refl, sym, ap, ap₂, ◌∙◌, subst}
use mathlib.Core.Bool.{true, false}
use mathlib.Core.List.{List, []}
use Prim.Native.Nat.{ℕ, zero, suc, ◌+◌, ◌-◌, ◌/◌, ◌≤◌, ◌<◌}
use native.Mathlib.Nat.{add-zero, add-suc}
use native.Mathlib.Decide.{dec_lt}
use native.Mathlib.Omega.{arith}
use Rattle.book.specs.declared.Book.{Book}
use Rattle.channel.specs.Bytes.{sdidle}
use Rattle.channel.specs.declared.unit.Form.TheVariants.{Six, SevenV1, SevenV2, Eight}
use Rattle.protocol.specs.Collecting.{no_nibbles}
use Rattle.protocol.specs.Exchange.{entry_of}
use Rattle.protocol.specs.Opened.{shape_of, has_unit, reading, reads_word, writing, writes_opening, fresh_line, idle_leads, idle_signals, drive_with}
use Rattle.protocol.specs.Ranges.{well_formed}
use Rattle.protocol.specs.Slot.{slot_step, opens_hearing, outcome_at, outcome_of}
use Rattle.protocol.specs.Call.{end_at, sent_at, delivered_at, taken_at, stands_at, Allowed}
use Rattle.protocol.specs.Carried.{carried, fill}
use Rattle.protocol.specs.Delivery.{signals_of}
use Rattle.protocol.proofs.Computing.{moving}
use Rattle.protocol.specs.declared.Shape.{Shape}
use Rattle.protocol.specs.declared.Shape.TheVariants as shape
use Rattle.protocol.specs.declared.Outbound.{Outbound}
use Rattle.protocol.specs.declared.Inbound.{Inbound}
use Rattle.protocol.specs.declared.Line.{Line}
use Rattle.protocol.specs.declared.Exchange.{Exchange}
use Rattle.protocol.specs.declared.Phase.TheVariants.{Open}
use Rattle.protocol.specs.declared.Endpoint.{Endpoint}
use Rattle.protocol.specs.declared.Outcome.TheVariants as outcome
use Rattle.protocol.specs.declared.Drive.{Drive}
use Rattle.protocol.proofs.Delivery.MirrorKept.{heard_sd}
use Rattle.protocol.proofs.Delivery.UnitsRead.{reads_sd_lem}
use Rattle.protocol.proofs.Delivery.Quiet.{exchange_quiet, fresh_writes}
use Rattle.protocol.proofs.Delivery.OpenRuns.{outs, ins, open_run, run_sends, run_takes, run_delivers, run_allowed}
use Rattle.protocol.proofs.Delivery.Stream.{goes, comes}
use Rattle.protocol.proofs.Delivery.Delivers.{SendsFrom, ReadsFrom}

-- The first byte of an open end does not depend on what is offered.

abbrev unoffered : Drive → Drive
unoffered g = drive_with g.leads g.flag None

first_writes : (s : Shape) (g : Drive) → writing s fresh_line.outbound (unoffered g) ≡ writing s fresh_line.outbound g
unfolding writing writes_opening fresh_line
first_writes (shape.Word w) g = refl
first_writes (shape.Unit Six) g = refl
first_writes (shape.Unit SevenV1) g = refl
first_writes (shape.Unit SevenV2) g = refl
first_writes (shape.Unit Eight) g = refl

-- The first slot is one with nothing offered.

abbrev first_unoffered : (ℕ → Drive) → ℕ → Drive
first_unoffered given zero = unoffered (given zero)
first_unoffered given (suc n) = given (suc n)

outs_after : (s : Shape) (given : ℕ → Drive) (n : ℕ)
    → outs s (first_unoffered given) fresh_line.outbound (suc n) ≡ outs s (λ m. given (suc m)) (writing s fresh_line.outbound (given 0)).outbound n
unfolding outs
outs_after s given zero = ap (λ w. w.outbound) (first_writes s (given 0))
outs_after s given (suc n) = ap (λ o. (writing s o (given (suc n))).outbound) (outs_after s given n)

outs_as : (s : Shape) (g h : ℕ → Drive) (o p : Outbound) → o ≡ p → ((m : ℕ) → g m ≡ h m) → (n : ℕ) → outs s g o n ≡ outs s h p n
unfolding outs
outs_as s g h o p q e zero = q
outs_as s g h o p q e (suc n) = ap₂ (λ j x. (writing s j x).outbound) (outs_as s g h o p q e n) (e n)

-- Sdidle changes nothing in an end that has just opened.

idle_reads : (s : Shape) (heard : ℕ) → heard / 2 ≡ sdidle / 2 → reading s fresh_line.inbound heard ≡ record { inbound = fresh_line.inbound; delivered = None }
unfolding moving
idle_reads (shape.Word w) heard e = ap (reads_word w fresh_line.inbound) (heard_sd idle_leads _ heard e)
idle_reads (shape.Unit f) heard e = reads_sd_lem fresh_line.inbound heard f idle_leads refl e

ins_idle : (s : Shape) (heard : ℕ → ℕ) (k : ℕ) → ((m : ℕ) → m < k → heard m / 2 ≡ sdidle / 2) → ins s heard fresh_line.inbound k ≡ fresh_line.inbound
unfolding ins
ins_idle s heard zero e = refl
ins_idle s heard (suc k) e =
    ap (λ i. (reading s i (heard k)).inbound) (ins_idle s heard k (λ m l. e m (omega arith)))
    ∙ ap (λ r. r.inbound) (idle_reads s (heard k) (e k (omega arith)))

ins_after : (s : Shape) (heard : ℕ → ℕ) (i : Inbound) (k n : ℕ) → ins s heard i (k + n) ≡ ins s (λ m. heard (k + m)) (ins s heard i k) n
unfolding ins
ins_after s heard i k zero = rw add-zero refl
ins_after s heard i k (suc n) = rw add-suc (ap (λ j. (reading s j (heard (k + n))).inbound) (ins_after s heard i k n))

ins_as : (s : Shape) (h k : ℕ → ℕ) (i : Inbound) → ((m : ℕ) → h m ≡ k m) → (n : ℕ) → ins s h i n ≡ ins s k i n
unfolding ins
ins_as s h k i e zero = refl
ins_as s h k i e (suc n) = ap₂ (λ j x. (reading s j x).inbound) (ins_as s h k i e n) (e n)

module _ (e : Endpoint) (heard : ℕ → ℕ) (given : ℕ → Drive) (kept : (t : ℕ) → well_formed (end_at e heard given t) ≡ true) (allowed : Allowed e heard given)
    (s : ℕ) (before : (t : ℕ) → t ≤ s → stands_at e heard given t ≡ outcome.Exchanging) where
  quiet_before : (t : ℕ) → t ≤ s → (taken_at e heard given t ≡ false) × (fill (sent_at e heard given t) ≡ [])
  quiet_before t l = let q = exchange_quiet (end_at e heard given t) (heard t) (given t) (before t l) in (q.takes, q.sends)

  silent_before : (t : ℕ) → t ≤ s → delivered_at e heard given t ≡ None
  silent_before t l = (exchange_quiet (end_at e heard given t) (heard t) (given t) (before t l)).delivers

  idle_before : (t : ℕ) → t ≤ s → signals_of (stands_at e heard given t) ≡ idle_signals
  idle_before t l = ap signals_of (before t l)

  -- opened by its own last byte in slot s
  module _ (version i : ℕ) (b : Book) (nibbles values : List ℕ)
      (start : end_at e heard given (suc s) ≡ record { book = b; nibbles = nibbles; values = values; phase = Open s version i fresh_line }) where
    abbrev laid : Shape
    laid = shape_of (entry_of b i) version

    pub sends_after : SendsFrom (suc s) laid e heard given
    sends_after =
        record {
          drives = λ n. given (suc s + n);
          leads = λ n. refl;
          quiet = λ t l. quiet_before t (omega arith);
          sent = run_sends e heard given kept allowed (suc s) s version i b nibbles values fresh_line start;
          carries =
              λ n.
              rw (
                run_sends e heard given kept allowed (suc s) s version i b nibbles values fresh_line start n,
                run_takes e heard given kept allowed (suc s) s version i b nibbles values fresh_line start n,
              ) refl;
          allowed = run_allowed e heard given kept allowed (suc s) s version i b nibbles values fresh_line start;
        }

    -- and hearing Sdidle up to slot suc s + k
    module _ (k : ℕ) (idle : (m : ℕ) → m < k → heard (suc s + m) / 2 ≡ sdidle / 2) where
      silent_while : (m : ℕ) → m < k → delivered_at e heard given (suc s + m) ≡ None
      silent_while m l =
          run_delivers e heard given kept allowed (suc s) s version i b nibbles values fresh_line start m
          ∙ ap (λ j. (reading laid j (heard (suc s + m))).delivered) (ins_idle laid (λ n. heard (suc s + n)) m (λ n h. idle n (omega arith)))
          ∙ ap (λ r. r.delivered) (idle_reads laid (heard (suc s + m)) (idle m l))

      quiet_until : (t : ℕ) → t < suc s + k → delivered_at e heard given t ≡ None
      quiet_until t l = go (dec_lt s t)
        where
          go : Dec (s < t) → delivered_at e heard given t ≡ None
          go (yes h) =
              let z : suc s + (t - suc s) ≡ t = omega arith in
              subst (λ u. delivered_at e heard given u ≡ None) z (silent_while (t - suc s) (omega arith))
          go (no h) = silent_before t (omega arith)

      idle_while : (m : ℕ) → m < k → signals_of (stands_at e heard given (suc s + m)) ≡ idle_signals
      unfolding outcome_at fresh_line
      idle_while m l =
          ap (λ u. signals_of (outcome_of u)) (open_run e heard given kept allowed (suc s) s version i b nibbles values fresh_line start m)
          ∙ ap (λ j. j.standing) (ins_idle laid (λ n. heard (suc s + n)) m (λ n h. idle n (omega arith)))

      idle_until : (t : ℕ) → t < suc s + k → signals_of (stands_at e heard given t) ≡ idle_signals
      idle_until t l = go (dec_lt s t)
        where
          go : Dec (s < t) → signals_of (stands_at e heard given t) ≡ idle_signals
          go (yes h) =
              let z : suc s + (t - suc s) ≡ t = omega arith in
              subst (λ u. signals_of (stands_at e heard given u) ≡ idle_signals) z (idle_while (t - suc s) (omega arith))
          go (no h) = idle_before t (omega arith)

      same_ins : (n : ℕ) → ins laid (λ m. heard (suc s + m)) fresh_line.inbound (k + n) ≡ ins laid (λ m. heard (suc s + k + m)) fresh_line.inbound n
      same_ins n =
          ins_after laid (λ m. heard (suc s + m)) fresh_line.inbound k n
          ∙ ap (λ i. ins laid (λ m. heard (suc s + (k + m))) i n) (ins_idle laid (λ m. heard (suc s + m)) k idle)
          ∙ ins_as laid (λ m. heard (suc s + (k + m))) (λ m. heard (suc s + k + m)) fresh_line.inbound (λ m. ap heard (omega arith)) n

      comes_after : (n : ℕ) → delivered_at e heard given (suc s + k + n) ≡ (comes laid (λ m. heard (suc s + k + m)) n).delivered
      comes_after n =
          let z : suc s + (k + n) ≡ suc s + k + n = omega arith in
          subst (λ u. delivered_at e heard given u ≡ (reading laid (ins laid (λ m. heard (suc s + k + m)) fresh_line.inbound n) (heard u)).delivered) z
          (run_delivers e heard given kept allowed (suc s) s version i b nibbles values fresh_line start (k + n)
          ∙ ap (λ j. (reading laid j (heard (suc s + (k + n)))).delivered) (same_ins n))

      shows_after : (n : ℕ) → signals_of (stands_at e heard given (suc s + k + n)) ≡ (ins laid (λ m. heard (suc s + k + m)) fresh_line.inbound n).standing
      unfolding outcome_at
      shows_after n =
          let z : suc s + (k + n) ≡ suc s + k + n = omega arith in
          subst (λ u. signals_of (stands_at e heard given u) ≡ (ins laid (λ m. heard (suc s + k + m)) fresh_line.inbound n).standing) z
          (ap (λ u. signals_of (outcome_of u)) (open_run e heard given kept allowed (suc s) s version i b nibbles values fresh_line start (k + n))
          ∙ ap (λ j. j.standing) (same_ins n))

      pub reads_after_idle : ReadsFrom (suc s + k) laid e heard given
      reads_after_idle = record { quiet = quiet_until; delivered = comes_after; idle = idle_until; shows = shows_after }

  -- opened by a byte received in slot s
  module _ (i : ℕ) (b : Book) (x : Exchange) (start : end_at e heard given (suc s) ≡ (opens_hearing b s x i (given s)).state)
      (first : slot_step (end_at e heard given s) (heard s) (given s) ≡ opens_hearing b s x i (given s)) where
    abbrev as_laid : Shape
    as_laid = shape_of (entry_of b i) x.version

    abbrev line : Line
    line = record { outbound = (writing as_laid fresh_line.outbound (given s)).outbound; inbound = fresh_line.inbound }

    abbrev given_from : ℕ → Drive
    given_from n = given (s + n)

    same_outs : (n : ℕ)
        → outs as_laid (first_unoffered given_from) fresh_line.outbound (suc n) ≡ outs as_laid (λ m. given (suc s + m)) line.outbound n
    same_outs n =
        outs_after as_laid given_from n
        ∙ outs_as as_laid (λ m. given (s + suc m)) (λ m. given (suc s + m)) (writing as_laid fresh_line.outbound (given (s + 0))).outbound line.outbound
        (ap (λ t. (writing as_laid fresh_line.outbound (given t)).outbound) (add-zero s)) (λ m. ap given (omega arith)) n

    as_sent_lem : (n : ℕ) → sent_at e heard given (s + n) ≡ (goes as_laid (first_unoffered given_from) n).sent
    unfolding outs
    as_sent_lem zero =
        subst (λ u. sent_at e heard given u ≡ (writing as_laid fresh_line.outbound (unoffered (given u))).sent) (sym (add-zero s))
        (ap (λ w. w.sent) first ∙ sym (ap (λ w. w.sent) (first_writes as_laid (given s))))
    as_sent_lem (suc n) =
        let z : suc s + n ≡ s + suc n = omega arith in
        subst (λ u. sent_at e heard given u ≡ (writing as_laid (outs as_laid (first_unoffered given_from) fresh_line.outbound (suc n)) (given u)).sent) z
        (run_sends e heard given kept allowed (suc s) s x.version i b no_nibbles x.hearing.values line start n
        ∙ ap (λ o. (writing as_laid o (given (suc s + n))).sent) (sym (same_outs n)))

    as_taken : (n : ℕ) → taken_at e heard given (s + suc n) ≡ (goes as_laid (first_unoffered given_from) (suc n)).taken
    as_taken n =
        let z : suc s + n ≡ s + suc n = omega arith in
        subst (λ u. taken_at e heard given u ≡ (writing as_laid (outs as_laid (first_unoffered given_from) fresh_line.outbound (suc n)) (given u)).taken) z
        (run_takes e heard given kept allowed (suc s) s x.version i b no_nibbles x.hearing.values line start n
        ∙ ap (λ o. (writing as_laid o (given (suc s + n))).taken) (sym (same_outs n)))

    as_carried : (n : ℕ) → carried (taken_at e heard given (s + n)) (given (s + n)).offer (sent_at e heard given (s + n))
        ≡ carried (goes as_laid (first_unoffered given_from) n).taken (first_unoffered given_from n).offer (goes as_laid (first_unoffered given_from) n).sent
    unfolding outs
    as_carried zero =
        let q = quiet_before (s + 0) (omega arith) in
        let f = fresh_writes as_laid (unoffered (given (s + 0))) in
        rw (q.0, f.0) (q.1 ∙ sym f.1)
    as_carried (suc n) =
        ap₂ (λ taken sent. carried taken (given (s + suc n)).offer sent) (as_taken n) (as_sent_lem (suc n))

    as_allowed : (n u : ℕ) → (first_unoffered given_from n).offer ≡ Some u → has_unit as_laid u ≡ true
    as_allowed zero u q = let z : ◌≡◌ {A = ℕ} 0 1 = cc in absurd (omega arith)
    as_allowed (suc n) u q =
        let z : s + suc n ≡ suc s + n = omega arith in
        run_allowed e heard given kept allowed (suc s) s x.version i b no_nibbles x.hearing.values line start n u
        (subst (λ t. (given t).offer ≡ Some u) z q)

    as_led : (n : ℕ) → (first_unoffered given_from n).leads ≡ (given (s + n)).leads
    as_led zero = refl
    as_led (suc n) = refl

    pub sends_at_once : SendsFrom s as_laid e heard given
    sends_at_once =
        record {
          drives = first_unoffered given_from;
          leads = as_led;
          quiet = λ t l. quiet_before t (omega arith);
          sent = as_sent_lem;
          carries = as_carried;
          allowed = as_allowed;
        }

    as_shown : (n : ℕ) → signals_of (stands_at e heard given (suc s + n)) ≡ (ins as_laid (λ m. heard (suc s + m)) fresh_line.inbound n).standing
    unfolding outcome_at
    as_shown n =
        ap (λ u. signals_of (outcome_of u)) (open_run e heard given kept allowed (suc s) s x.version i b no_nibbles x.hearing.values line start n)

    pub reads_after : ReadsFrom (suc s) as_laid e heard given
    reads_after =
        record {
          quiet = λ t l. silent_before t (omega arith);
          delivered = run_delivers e heard given kept allowed (suc s) s x.version i b no_nibbles x.hearing.values line start;
          idle = λ t l. idle_before t (omega arith);
          shows = as_shown;
        }
