-- `packing::unpack` meets its contract. Assumes nothing.
use Rattle.packing.proofs.Answers.{unpack_answer}
use Rattle.packing.proofs.unpack.Goals as goal

pub returns : goal.returns
returns c =
    let k = c.in_ok-k.ensures.ok in
    let n = c.in_ok-numbers.ensures.ok in
    unpack_answer _ _ _ _ k.0 k.1 n.0 n.1 n.2 c.if-not_whole.ensures c.octets_in-n.ensures c.write.ensures
