-- The pair as it is kept, and the joined pair that it is. Assumes nothing.
use Rattle.protocol.specs.Joined.{Joined}
use Rattle.pair.specs.declared.running.Pair.{Pair}

abbrev pub pair_in : Pair → Joined
pair_in p = record { o = p.o; a = p.a; to_o = p.back; to_a = p.forth }
