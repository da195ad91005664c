-- The premises of the joined pair can be met: the undamaged pair of any two books that may be joined is one, and so is a pair with
-- much damage. Assumes nothing.
use mathlib.Core.Path.{ap, ◌∙◌}
use Prim.Native.Nat.{ℕ}
use native.Mathlib.Omega.{arith}
use Rattle.book.specs.declared.Book.{Book}
use Rattle.protocol.specs.Slot.{started}
use Rattle.protocol.specs.Call.{Allowed, OffersNothing, OffersFit}
use Rattle.protocol.specs.Pair.{MayJoin, JoinedPair}
use Rattle.protocol.specs.Late.{AnswererLater}
use Rattle.premises.specs.Undamaged.{hears_o, hears_a}
use Rattle.premises.specs.OneCopyWrong.{damaged, DamagedPair}
use Rattle.premises.specs.LateRun.{arrives_o, arrives_a}
use Rattle.protocol.specs.declared.Drive.{Drive}
use Rattle.protocol.proofs.Chain.AtOnce.{sent_at_once, joined_at_once}
use Rattle.premises.proofs.OffersAllowed.{offers_nothing_allowed, offers_fit_allowed}
use Rattle.premises.proofs.UndamagedCalls.{to_o_lem, to_a_lem}
use Rattle.premises.proofs.OneCopyWrong.{damaged_within}
use Rattle.premises.proofs.LateCalls.{late_pair_exists}

module _ (d : ℕ) (bo ba : Book) (go ga : ℕ → Drive) (books : MayJoin d bo ba) where
  abbrev ho : ℕ → ℕ
  ho = hears_o (started bo) (started ba) d go ga

  abbrev ha : ℕ → ℕ
  ha = hears_a (started bo) (started ba) d go ga

  -- the undamaged pair is a joined pair
  pub undamaged : Allowed (started bo) ho go → Allowed (started ba) ha ga → JoinedPair d bo ba go ga ho ha
  undamaged allowed_o allowed_a =
      record {
        books = books;
        allowed_o = allowed_o;
        allowed_a = allowed_a;
        to_o = to_o_lem bo ba d books.delay go ga;
        to_a = to_a_lem bo ba d books.delay go ga;
      }

  -- offered nothing, any two books that may be joined make a joined pair
  pub pair_exists : OffersNothing go → OffersNothing ga → JoinedPair d bo ba go ga ho ha
  pair_exists qo qa = undamaged (offers_nothing_allowed (started bo) ho go qo) (offers_nothing_allowed (started ba) ha ga qa)

  -- and offered units that are in range
  pub pair_with_offers_exists : OffersFit bo go → OffersFit ba ga → JoinedPair d bo ba go ga ho ha
  pair_with_offers_exists fo fa = undamaged (offers_fit_allowed bo books.book_o ho go fo) (offers_fit_allowed ba books.book_a ha ga fa)

  -- and with much damage
  pub damaged_pair_exists : OffersFit bo go → OffersFit ba ga → DamagedPair d bo ba go ga
  damaged_pair_exists fo fa =
      let heard_o = arrives_o damaged d 0 AnswererLater bo ba go ga in
      let heard_a = arrives_a damaged d 0 AnswererLater bo ba go ga in
      let r =
      late_pair_exists damaged damaged_within d 0 AnswererLater bo ba go ga books (omega (arith, books.limit_o)) (omega (arith, books.limit_a))
      fo fa
      in
      record {
        ho = heard_o;
        ha = heard_a;
        pair = joined_at_once d bo ba go ga heard_o heard_a r.pair;
        damage_o = λ t. r.made_o t ∙ ap (λ sent. damaged (sent t)) (sent_at_once (started ba) heard_a ga);
        damage_a = λ t. r.made_a t ∙ ap (λ sent. damaged (sent t)) (sent_at_once (started bo) heard_o go);
      }
