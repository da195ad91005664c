-- Leads that are given from a slot on are out in two Sd within 6 slots in form 0 and 4 in form 6. Assumes nothing.
use mathlib.Core.Path.{◌≡◌, refl, sym, ap, ◌∙◌, subst}
use mathlib.Core.Bool.{true, not}
use Prim.Native.Nat.{ℕ, ◌+◌, ◌≤◌, ◌<◌}
use native.Mathlib.Omega.{arith}
use lib.Dec.{leb}
use borrow.Author.Tests.{leb-true}
use Rattle.ground.proofs.Test.{both_right}
use Rattle.book.specs.declared.Book.{Book}
use Rattle.book.specs.Kept.{book_ok}
use Rattle.channel.specs.declared.byte.Leads.{Leads}
use Rattle.protocol.specs.Opened.{has_pair, opening_sd}
use Rattle.protocol.specs.Slot.{started}
use Rattle.protocol.specs.Call.{end_at, sent_at, Allowed}
use Rattle.protocol.specs.declared.Shape.{Shape}
use Rattle.protocol.specs.declared.Outbound.{Outbound}
use Rattle.protocol.specs.declared.Line.{Line}
use Rattle.protocol.specs.declared.Phase.TheVariants.{Open}
use Rattle.protocol.specs.declared.Drive.{Drive}
use Rattle.protocol.proofs.Kept.StateKept.{call_kept}
use Rattle.protocol.proofs.Delivery.OpenRuns.{outs}
use Rattle.leads.specs.LeadsAhead.{past_sd, waits, OutWithin, LeadsGoOut}
use Rattle.leads.proofs.LastTwo.{last_two_kept}
use Rattle.leads.proofs.Running.{laid, out, runs, past, goes}
use Rattle.leads.proofs.Waiting.{equal_leads, OutBy, waits_most, out_by}

module _ (b : Book) (ok : book_ok b ≡ true) (heard : ℕ → ℕ) (given : ℕ → Drive) (allowed : Allowed (started b) heard given) where
  module _ (t : ℕ) (leads : Leads) (slot version i : ℕ) (line : Line) (q : (end_at (started b) heard given t).phase ≡ Open slot version i line) where
    abbrev s : Shape
    s = laid (started b) heard given (call_kept b ok heard given) allowed t slot version i line q

    abbrev o : ℕ → Outbound
    o = out (started b) heard given (call_kept b ok heard given) allowed t slot version i line q

    module _ (p : past_sd s line.outbound ≡ true) (steady : (m : ℕ) → m < waits s → (given (t + m)).leads ≡ leads) where
      found : OutBy leads o 0 (waits s)
      unfolding outs
      found =
          out_by s leads o (λ m. given (t + m)) (λ n. refl) (goes (started b) heard given (call_kept b ok heard given) allowed t slot version i line q p)
          (waits s) 0
          (waits_most s leads (o 0)) (λ m l. let z : m ≡ 0 + m = omega arith in subst (λ u. (given (t + u)).leads ≡ leads) z (steady m l))

      -- what the state keeps is what went
      opening_past : (n : ℕ) → 2 ≤ (o n).opening
      opening_past n =
          let z = past (started b) heard given (call_kept b ok heard given) allowed t slot version i line q p n in
          omega (arith, leb-true opening_sd (o n).opening (both_right (not (has_pair s)) (leb opening_sd (o n).opening) z))

      pub out_in_two : OutWithin (sent_at (started b) heard given) leads t (waits s)
      out_in_two =
          let n = 0 + found.slots in
          let k = last_two_kept b ok heard given (t + n) slot version i _
          (ap (λ e. e.phase) (runs (started b) heard given (call_kept b ok heard given) allowed t slot version i line q n)) in
          record {
            slots = n;
            within = omega (arith, found.within);
            out =
                record {
                  last = ap (λ x. x.leads) (k.last (omega (arith, opening_past n))) ∙ sym (equal_leads leads (o n).last.leads found.out.last);
                  before = ap (λ x. x.leads) (k.before (opening_past n)) ∙ sym (equal_leads leads (o n).before.leads found.out.before);
                };
          }

  pub leads_go_out : LeadsGoOut (started b) heard given
  leads_go_out t slot version i line leads q p steady = out_in_two t leads slot version i line q p steady
