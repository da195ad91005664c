-- Two ends of which one starts e slots after the other: what is promised of them, and that the premises of that are met. Slots count from
-- the earlier start. Assumes nothing.
use Rattle.std.specs.Prelude.{◌≡◌, ◌⊎◌, ℕ, ◌+◌, ◌-◌, ◌*◌, ◌≤◌, max}
use Rattle.book.specs.declared.Book.{Book}
use Rattle.book.specs.Book.{originating, answering}
use Rattle.protocol.specs.Exchange.{entry_of}
use Rattle.protocol.specs.Schedule.{lacks_o, lacks_a, concludes_o, concludes_a, enough}
use Rattle.protocol.specs.Slot.{started}
use Rattle.protocol.specs.Call.{OffersFit}
use Rattle.protocol.specs.Pair.{MayJoin, ProfileIn, shared_version}
use Rattle.protocol.specs.Late.{Later, OriginatorLater, AnswererLater, starts_o, starts_a, stands_from, meets_late, BothOpenLate, BothRefuseLate, BothCarryLate, DipsticksLate}
use Rattle.premises.specs.PlainPair.{late_book, plain_drive}
use Rattle.premises.specs.LateRun.{UndamagedLate, DamagedLate}
use Rattle.protocol.specs.declared.Drive.{Drive}

-- the slots in numbers where O starts e slots after A
pub record SlotsOriginatorLater (d e : ℕ) (bo ba : Book) : Type 0 where
  -- where they share no version, O refuses in slot max(d, e)+2d+40 and A in slot max(d, e)+3d+40
  pub lacks_in_o : lacks_o (meets_late OriginatorLater d e) d ≡ max d e + 2 * d + 40
  pub lacks_in_a : lacks_a (meets_late OriginatorLater d e) d ≡ max d e + 3 * d + 40
  -- else O concludes in slot max(d, e)+4d+419 and A in slot max(d, e)+3d+419
  pub concludes_in_o : concludes_o (meets_late OriginatorLater d e) d bo ba ≡ max d e + 4 * d + 419
  pub concludes_in_a : concludes_a (meets_late OriginatorLater d e) d bo ba ≡ max d e + 3 * d + 419
  -- O itself reports e less, counted from its own start; d - e is 0 where e is more
  pub lacks_reported : lacks_o (meets_late OriginatorLater d e) d - starts_o OriginatorLater e ≡ d - e + 2 * d + 40
  pub concludes_reported : concludes_o (meets_late OriginatorLater d e) d bo ba - starts_o OriginatorLater e ≡ d - e + 4 * d + 419

-- and where A starts e slots after O
pub record SlotsAnswererLater (d e : ℕ) (bo ba : Book) : Type 0 where
  -- where they share no version, O refuses in slot e+3d+40 and A in slot e+4d+40
  pub lacks_in_o : lacks_o (meets_late AnswererLater d e) d ≡ e + 3 * d + 40
  pub lacks_in_a : lacks_a (meets_late AnswererLater d e) d ≡ e + 4 * d + 40
  -- else O concludes in slot e+5d+419 and A in slot e+4d+419
  pub concludes_in_o : concludes_o (meets_late AnswererLater d e) d bo ba ≡ e + 5 * d + 419
  pub concludes_in_a : concludes_a (meets_late AnswererLater d e) d bo ba ≡ e + 4 * d + 419
  -- A itself reports e less, counted from its own start
  pub lacks_reported : lacks_a (meets_late AnswererLater d e) d - starts_a AnswererLater e ≡ 4 * d + 40
  pub concludes_reported : concludes_a (meets_late AnswererLater d e) d bo ba - starts_a AnswererLater e ≡ 4 * d + 419

abbrev pub SlotsExact : ℕ → ℕ → Later → Book → Book → Type 0
SlotsExact d e OriginatorLater bo ba = SlotsOriginatorLater d e bo ba
SlotsExact d e AnswererLater bo ba = SlotsAnswererLater d e bo ba

pub record SlotsLate (d e : ℕ) (later : Later) (bo ba : Book) : Type 0 where
  pub exact : SlotsExact d e later bo ba
  -- both have concluded by slot e+5d+419, for which limits of e+5d+420 are enough
  pub lacks_by_o : lacks_o (meets_late later d e) d ≤ e + 5 * d + 419
  pub lacks_by_a : lacks_a (meets_late later d e) d ≤ e + 5 * d + 419
  pub concludes_by_o : concludes_o (meets_late later d e) d bo ba ≤ e + 5 * d + 419
  pub concludes_by_a : concludes_a (meets_late later d e) d bo ba ≤ e + 5 * d + 419
  pub limit : e + enough d bo ba ≡ e + 5 * d + 420

module _ (d e : ℕ) (later : Later) (bo ba : Book) (go ga : ℕ → Drive) (ho ha : ℕ → ℕ) where
  -- the slots in which O and A conclude, where they share a version
  abbrev slot_o : ℕ
  slot_o = concludes_o (meets_late later d e) d bo ba

  abbrev slot_a : ℕ
  slot_a = concludes_a (meets_late later d e) d bo ba

  -- the ends share a version
  abbrev pub Shares : Type 0
  Shares = shared_version bo ba ≡ 0 → ⊥

  -- both open on the highest shared version and the originator's profile, and stay open
  abbrev Opens : Type 0
  Opens =
      BothOpenLate (starts_o later e) (starts_a later e) slot_o slot_a (shared_version bo ba) (entry_of bo 0)
      (stands_from (starts_o later e) (started bo) ho go) (stands_from (starts_a later e) (started ba) ha ga)

  -- neither opens, and both refuse with the same reason
  abbrev Refuse : ℕ → ℕ → ℕ → Type 0
  Refuse number in_o in_a =
      BothRefuseLate number (starts_o later e) (starts_a later e) in_o in_a
      (stands_from (starts_o later e) (started bo) ho go) (stands_from (starts_a later e) (started ba) ha ga)

  pub record JoinsLate : Type 0 where
    -- if they share a version and the originator's profile is in the answerer's book, both open
    pub opens : Shares → ProfileIn bo ba → Opens
    -- and each unit taken is delivered once, in order, unchanged, given the slots to arrive, with nothing between but fill, both ways
    pub carries : Shares → ProfileIn bo ba → BothCarryLate d e later bo ba go ga ho ha
    -- so a value that either end delivered is one that the other was offered in that place, or fill
    pub dipsticks : Shares → ProfileIn bo ba → DipsticksLate e later bo ba go ga ho ha
    -- if not, neither opens, and both refuse with the same true reason: 21 where no version is shared
    pub no_version : shared_version bo ba ≡ 0 → Refuse 21 (lacks_o (meets_late later d e) d) (lacks_a (meets_late later d e) d)
    -- 22 where the profile is in no entry
    pub no_profile : Shares → (ProfileIn bo ba → ⊥) → Refuse 22 slot_o slot_a

  -- so it is one of three, and the books decide which: both open and carry
  pub record OpensAndCarriesLate : Type 0 where
    pub shares : Shares
    pub has : ProfileIn bo ba
    pub opens : Opens
    pub carries : BothCarryLate d e later bo ba go ga ho ha
    pub dipsticks : DipsticksLate e later bo ba go ga ho ha

  -- or neither opens, for they share no version
  pub record RefusesVersionLate : Type 0 where
    pub shares_none : shared_version bo ba ≡ 0
    pub refuses : Refuse 21 (lacks_o (meets_late later d e) d) (lacks_a (meets_late later d e) d)

  -- or neither opens, for the profile is in no entry
  pub record RefusesProfileLate : Type 0 where
    pub shares : Shares
    pub lacks : ProfileIn bo ba → ⊥
    pub refuses : Refuse 22 slot_o slot_a

  abbrev pub OneOfThreeLate : Type 0
  OneOfThreeLate = OpensAndCarriesLate ⊎ (RefusesVersionLate ⊎ RefusesProfileLate)

-- Its premises are met.

pub record LatePremisesMet : Type 0 where
  -- for every delay, every e and either end late, with nothing left to assume: without damage, and with much. Limits have no upper bound
  -- here; a book's 16 bits bound e+5d+420 by 65,535
  pub each_delay : (d e : ℕ) (later : Later) → 1 ≤ d
      → UndamagedLate d e later (late_book d e originating) (late_book d e answering) plain_drive plain_drive
  pub each_damaged : (d e : ℕ) (later : Later) → 1 ≤ d
      → DamagedLate d e later (late_book d e originating) (late_book d e answering) plain_drive plain_drive
  -- by any two books that may be joined and whose limits are enough, offered units that are in range
  pub offered : (d e : ℕ) (later : Later) (bo ba : Book) (go ga : ℕ → Drive)
      → MayJoin d bo ba → e + enough d bo ba ≤ bo.limit → e + enough d bo ba ≤ ba.limit → OffersFit bo go → OffersFit ba ga
      → UndamagedLate d e later bo ba go ga
  pub damaged_pair : (d e : ℕ) (later : Later) (bo ba : Book) (go ga : ℕ → Drive)
      → MayJoin d bo ba → e + enough d bo ba ≤ bo.limit → e + enough d bo ba ≤ ba.limit → OffersFit bo go → OffersFit ba ga
      → DamagedLate d e later bo ba go ga
