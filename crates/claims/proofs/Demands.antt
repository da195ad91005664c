-- The three demands hold. Assumes nothing.
use Rattle.protocol.specs.Late.{AnswererLater}
use Rattle.protocol.proofs.Chain.AtOnce.{together}
use Rattle.claims.specs.Demands.{Demand1, Demand2, Demand3, Demand3Late}
use Rattle.claims.proofs.Books.{book_answered, books_undone}
use Rattle.claims.proofs.Packing.{pack_answered, unpack_answered, packing_undone}
use Rattle.claims.proofs.Channel.{channel_answered, units_undone}
use Rattle.claims.proofs.OneEnd.{answers_all, call_holds}
use Rattle.claims.proofs.LatePair.{joins_late, one_of_three_late, slots_late}
use Rattle.claims.proofs.JoinedPair.{at_once}

pub demand_1 : Demand1
demand_1 =
    record {
      books = book_answered;
      packing = pack_answered;
      unpacking = unpack_answered;
      bytes = channel_answered;
      slots = answers_all;
    }

pub demand_2 : Demand2
demand_2 = record { calls = call_holds; packing = packing_undone; units = units_undone; books = books_undone }

pub demand_3_late : Demand3Late
demand_3_late d e later bo ba go ga ho ha p = (
  joins_late d e later bo ba go ga ho ha p,
  one_of_three_late d e later bo ba go ga ho ha p,
  slots_late d e later bo ba,
)

-- at e = 0
pub demand_3 : Demand3
demand_3 d bo ba go ga ho ha p = at_once d bo ba go ga ho ha (demand_3_late d 0 AnswererLater bo ba go ga ho ha (together d bo ba go ga ho ha p))
