-- An open end in form 0 or 6, from a slot after its first 16 Sd on: slot by slot it goes by the rules. Assumes nothing.
use mathlib.Core.Path.{◌≡◌, refl, ap, ◌∙◌, subst}
use mathlib.Core.Bool.{true, not, ◌&&◌}
use Prim.Native.Nat.{ℕ, zero, suc, ◌+◌}
use lib.Dec.{leb}
use Rattle.protocol.specs.Exchange.{entry_of}
use Rattle.protocol.specs.Opened.{Writing, shape_of, has_pair, opening_sd, writing}
use Rattle.protocol.specs.Ranges.{well_formed}
use Rattle.protocol.specs.Call.{end_at, sent_at, taken_at, Allowed}
use Rattle.protocol.specs.declared.Shape.{Shape}
use Rattle.protocol.specs.declared.Outbound.{Outbound}
use Rattle.protocol.specs.declared.Line.{Line}
use Rattle.protocol.specs.declared.Phase.TheVariants.{Open}
use Rattle.protocol.specs.declared.Endpoint.{Endpoint}
use Rattle.protocol.specs.declared.Drive.{Drive}
use Rattle.protocol.proofs.Kept.WritingKept.{OutboundIn, parts}
use Rattle.protocol.proofs.Kept.StateKept.{phase_in_lem, open_parts}
use Rattle.protocol.proofs.Delivery.OpenRuns.{outs, opened, open_run, run_sends, run_takes}
use Rattle.leads.specs.LeadsAhead.{past_sd, asks, asks_at}
use Rattle.leads.proofs.OneSlot.{Goes, high, broken, second, first, takes, idles, goes_by}

pub same_opening : {s : Shape} {o : Outbound} {g : Drive} {w : Writing} → Goes s o g w → w.outbound.opening ≡ o.opening
same_opening (high d c sent y) = refl
same_opening (broken w d h) = refl
same_opening (second leads f c) = refl
same_opening (first f c x) = refl
same_opening (takes f y u e due n sent x) = refl
same_opening (idles f y e) = refl

module _ (e : Endpoint) (heard : ℕ → ℕ) (given : ℕ → Drive) (kept : (t : ℕ) → well_formed (end_at e heard given t) ≡ true)
    (allowed : Allowed e heard given) (a slot version i : ℕ) (line : Line) (q : (end_at e heard given a).phase ≡ Open slot version i line) where
  abbrev pub laid : Shape
  laid = shape_of (entry_of (end_at e heard given a).book i) version

  abbrev pub out : ℕ → Outbound
  out n = outs laid (λ m. given (a + m)) line.outbound n

  pub start : end_at e heard given a
      ≡ record { book = (end_at e heard given a).book; nibbles = (end_at e heard given a).nibbles; values = (end_at e heard given a).values; phase = Open slot version i line }
  start =
      ap (λ p. record { book = (end_at e heard given a).book; nibbles = (end_at e heard given a).nibbles; values = (end_at e heard given a).values; phase = p }) q

  pub runs : (n : ℕ) → end_at e heard given (a + n)
      ≡ opened e heard given kept allowed a slot version i (end_at e heard given a).book (end_at e heard given a).nibbles (end_at e heard given a).values line start n
  runs n =
      open_run e heard given kept allowed a slot version i (end_at e heard given a).book (end_at e heard given a).nibbles (end_at e heard given a).values line start n

  pub sends : (n : ℕ) → sent_at e heard given (a + n) ≡ (writing laid (out n) (given (a + n))).sent
  sends n =
      run_sends e heard given kept allowed a slot version i (end_at e heard given a).book (end_at e heard given a).nibbles (end_at e heard given a).values line start n

  pub takes_as : (n : ℕ) → taken_at e heard given (a + n) ≡ (writing laid (out n) (given (a + n))).taken
  takes_as n =
      run_takes e heard given kept allowed a slot version i (end_at e heard given a).book (end_at e heard given a).nibbles (end_at e heard given a).values line start n

  pub in_range : (n : ℕ) → OutboundIn laid (out n)
  in_range n =
      let z = phase_in_lem _ (subst (λ x. well_formed x ≡ true) (runs n) (kept (a + n))) in
      parts laid (out n) (open_parts _ slot version i _ _ _ z).0.outbound

  module _ (p : past_sd laid line.outbound ≡ true) where
    goes_from : (n : ℕ) → past_sd laid (out n) ≡ true → Goes laid (out n) (given (a + n)) (writing laid (out n) (given (a + n)))
    goes_from n x = goes_by (out n) (given (a + n)) laid x (in_range n)

    pub past : (n : ℕ) → past_sd laid (out n) ≡ true
    unfolding outs
    past zero = p
    past (suc n) = ap (λ k. not (has_pair laid) && leb opening_sd k) (same_opening (goes_from n (past n))) ∙ past n

    pub goes : (n : ℕ) → Goes laid (out n) (given (a + n)) (writing laid (out n) (given (a + n)))
    goes n = goes_from n (past n)

    pub asks_as : (n : ℕ) → asks_at e heard given (a + n) ≡ asks laid (out n) (given (a + n))
    asks_as n = ap (λ (x : Endpoint). Rattle.leads.specs.LeadsAhead.asks_in x (given (a + n)) x.phase) (runs n)
