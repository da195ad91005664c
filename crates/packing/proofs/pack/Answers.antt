-- `packing::pack` meets its contract. Assumes nothing.
use Rattle.packing.proofs.Answers.{pack_answer}
use Rattle.packing.proofs.pack.Goals as goal

pub returns : goal.returns
returns c =
    let k = c.in_ok-k.ensures.ok in
    pack_answer _ _ _ _ k.0 c.octets.ensures.0 k.1 c.octets.ensures.1 c.units_for-n.ensures c.write.ensures
