-- Two ends joined by a channel: what is promised of them, and that the premises of that are met. Assumes nothing.
use Rattle.std.specs.Prelude.{◌≡◌, false, ◌⊎◌, ℕ, ◌+◌, ◌*◌, ◌/◌, ◌%◌, ◌≤◌, ◌<◌}
use Rattle.book.specs.declared.Book.{Book}
use Rattle.book.specs.Book.{originating, answering}
use Rattle.channel.specs.Bytes.{sgidle}
use Rattle.channel.specs.Vote.{as_sent}
use Rattle.protocol.specs.Sent.{Sent, Part, byte_sent}
use Rattle.protocol.specs.Exchange.{entry_of}
use Rattle.protocol.specs.Schedule.{meets, lacks_o, lacks_a, concludes_o, concludes_a, enough}
use Rattle.protocol.specs.Slot.{started}
use Rattle.protocol.specs.Call.{stands_at, OffersNothing, OffersFit}
use Rattle.protocol.specs.Damage.{copy_heard, Arrives}
use Rattle.protocol.specs.Pair.{MayJoin, JoinedPair, ProfileIn, BothOpen, BothRefuse, shared_version}
use Rattle.premises.specs.Stretch.{JoinedUpTo, GoesOn}
use Rattle.protocol.specs.Delivery.{BothCarry, Dipsticks}
use Rattle.premises.specs.Undamaged.{hears_o, hears_a}
use Rattle.premises.specs.PlainPair.{plain_book, plain_drive}
use Rattle.premises.specs.OneCopyWrong.{inverted, damaged, is_eight, DamagedPair}
use Rattle.protocol.specs.declared.Drive.{Drive}

-- the slots of two ends that are started together, in numbers
pub record SlotsInNumbers (d : ℕ) (bo ba : Book) : Type 0 where
  -- where they share no version, O refuses in slot 3d+40 and A in slot 4d+40
  pub lacks_o : lacks_o (meets d) d ≡ 3 * d + 40
  pub lacks_a : lacks_a (meets d) d ≡ 4 * d + 40
  -- else O concludes in slot 5d+419 and A in slot 4d+419, for which limits of 5d+420 are enough
  pub concludes_o : concludes_o (meets d) d bo ba ≡ 5 * d + 419
  pub concludes_a : concludes_a (meets d) d bo ba ≡ 4 * d + 419
  pub limit : enough d bo ba ≡ 5 * d + 420

module _ (d : ℕ) (bo ba : Book) (go ga : ℕ → Drive) (ho ha : ℕ → ℕ) where
  -- the slots in which O and A conclude, where they share a version
  abbrev slot_o : ℕ
  slot_o = concludes_o (meets d) d bo ba

  abbrev slot_a : ℕ
  slot_a = concludes_a (meets d) d bo ba

  -- the ends share a version
  abbrev pub SharesVersion : Type 0
  SharesVersion = shared_version bo ba ≡ 0 → ⊥

  pub record JoinsAsPromised : Type 0 where
    -- if they share a version and the originator's profile is in the answerer's book, both open, O in slot 5d+419 and A in slot 4d+419, on
    -- the highest shared version and that profile, and stay open
    pub opens : SharesVersion → ProfileIn bo ba
        → BothOpen slot_o slot_a (shared_version bo ba) (entry_of bo 0) (stands_at (started bo) ho go) (stands_at (started ba) ha ga)
    -- and each unit taken is delivered once, in order, unchanged, given the slots to arrive, with nothing between but fill, both ways
    pub carries : SharesVersion → ProfileIn bo ba → BothCarry d bo ba go ga ho ha
    -- so a value that either end delivered is one that the other was offered in that place, or fill
    pub dipsticks : SharesVersion → ProfileIn bo ba → Dipsticks bo ba go ga ho ha
    -- if not, neither opens, and both refuse with the same true reason: 21 where no version is shared
    pub no_version : shared_version bo ba ≡ 0
        → BothRefuse 21 (lacks_o (meets d) d) (lacks_a (meets d) d) (stands_at (started bo) ho go) (stands_at (started ba) ha ga)
    -- 22 where the profile is in no entry
    pub no_profile : SharesVersion → (ProfileIn bo ba → ⊥)
        → BothRefuse 22 slot_o slot_a (stands_at (started bo) ho go) (stands_at (started ba) ha ga)

  -- so it is one of three, and the books decide which: both open and carry
  pub record OpensAndCarries : Type 0 where
    pub shares : SharesVersion
    pub has : ProfileIn bo ba
    pub opens : BothOpen slot_o slot_a (shared_version bo ba) (entry_of bo 0) (stands_at (started bo) ho go) (stands_at (started ba) ha ga)
    pub carries : BothCarry d bo ba go ga ho ha
    pub dipsticks : Dipsticks bo ba go ga ho ha

  -- or neither opens, for they share no version
  pub record RefusesVersion : Type 0 where
    pub shares_none : shared_version bo ba ≡ 0
    pub refuses : BothRefuse 21 (lacks_o (meets d) d) (lacks_a (meets d) d) (stands_at (started bo) ho go) (stands_at (started ba) ha ga)

  -- or neither opens, for the profile is in no entry
  pub record RefusesProfile : Type 0 where
    pub shares : SharesVersion
    pub lacks : ProfileIn bo ba → ⊥
    pub refuses : BothRefuse 22 slot_o slot_a (stands_at (started bo) ho go) (stands_at (started ba) ha ga)

  abbrev pub OneOfThree : Type 0
  OneOfThree = OpensAndCarries ⊎ (RefusesVersion ⊎ RefusesProfile)

-- Its premises are met.

-- two ends joined by a channel that does no damage
abbrev pub Undamaged : ℕ → Book → Book → (ℕ → Drive) → (ℕ → Drive) → Type 0
Undamaged d bo ba go ga = JoinedPair d bo ba go ga (hears_o (started bo) (started ba) d go ga) (hears_a (started bo) (started ba) d go ga)

pub record PremisesMet : Type 0 where
  -- for every delay, with nothing left to assume
  pub each_delay : (d : ℕ) → 1 ≤ d → Undamaged d (plain_book d originating) (plain_book d answering) plain_drive plain_drive
  -- by any two books that may be joined, offered nothing or units that are in range
  pub unoffered : (d : ℕ) (bo ba : Book) (go ga : ℕ → Drive) → MayJoin d bo ba → OffersNothing go → OffersNothing ga
      → Undamaged d bo ba go ga
  pub offered : (d : ℕ) (bo ba : Book) (go ga : ℕ → Drive) → MayJoin d bo ba → OffersFit bo go → OffersFit ba ga → Undamaged d bo ba go ga
  -- and with much damage, which the channel may do to whatever is sent
  pub damaged_pair : (d : ℕ) (bo ba : Book) (go ga : ℕ → Drive) → MayJoin d bo ba → OffersFit bo go → OffersFit ba ga
      → DamagedPair d bo ba go ga
  pub allowed : (d : ℕ) (sent : ℕ → Sent) (heard : ℕ → ℕ) → ((t : ℕ) → t < d → heard t / 2 ≡ sgidle / 2)
      → ((t : ℕ) → heard (t + d) ≡ damaged (sent t)) → Arrives d sent heard
  -- of each group the second copy is wrong at every bit, and B8 is wrong in every byte but that of a form 8 unit
  pub second_copy : (v i : ℕ) → i < 8 → as_sent i (copy_heard (λ place. damaged (Part place v)) 0 1) v ≡ 0
  pub b8 : (s : Sent) → is_eight s ≡ false → damaged s % 2 ≡ inverted (byte_sent s % 2)
  -- and two ends that are joined up to a slot, in whatever way, are up to it those of a joined pair: with demand 2 (`determined`), what is
  -- promised for ever holds up to that slot
  pub goes_on : (n d : ℕ) (bo ba : Book) (go ga : ℕ → Drive) (ho ha : ℕ → ℕ) → JoinedUpTo n d bo ba go ga ho ha
      → GoesOn n d bo ba go ga ho ha
