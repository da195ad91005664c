-- What is said of leads ahead of data holds. Assumes nothing.
use Rattle.protocol.proofs.Kept.StateKept.{call_kept}
use Rattle.protocol.specs.Slot.{started}
use Rattle.leads.specs.LeadsAhead.{LeadsAhead}
use Rattle.leads.proofs.LastTwo.{last_two_kept}
use Rattle.leads.proofs.UnitsGo.{units_go}
use Rattle.leads.proofs.LeadsOut.{leads_go_out}
use Rattle.leads.proofs.FarEnd.{both_stand}

pub leads_ahead : LeadsAhead
leads_ahead =
    record {
      last_two = last_two_kept;
      units = λ b ok heard given allowed. units_go (started b) heard given (call_kept b ok heard given) allowed;
      leads = leads_go_out;
      far_end = both_stand;
    }
