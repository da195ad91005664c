-- Two ends that start in slots o and a, run over time: in each slot the channel makes one byte of whatever is sent, which arrives d slots
-- later. `byte_sent` makes the byte that was sent. Assumes nothing.
use Rattle.std.specs.Prelude.{◌≡◌, cond, [], ◌∷◌, ◌++◌, ℕ, zero, suc, ◌+◌, ltb, drop}
use Rattle.book.specs.declared.Book.{Book}
use Rattle.channel.specs.Bytes.{sgidle}
use Rattle.protocol.specs.Sent.{Sent, Alone, byte_sent}
use Rattle.protocol.specs.Slot.{started, slot_step, slot_of}
use Rattle.protocol.specs.Joined.{Joined, arriving, joined}
use Rattle.protocol.specs.Late.{Later, starts_o, starts_a, sent_from, JoinedLate}
use Rattle.protocol.specs.declared.Endpoint.{Endpoint}
use Rattle.protocol.specs.declared.Drive.{Drive}
use Rattle.premises.specs.OneCopyWrong.{damaged}

-- slot t of an end that starts in slot s: before, nothing passes and 7F is sent
abbrev pub end_after : ℕ → ℕ → Endpoint → ℕ → Drive → Endpoint
end_after s t end heard g = cond (ltb t s) end (slot_of end heard g).state

abbrev pub sent_in : ℕ → ℕ → Endpoint → ℕ → Drive → Sent
sent_in s t end heard g = cond (ltb t s) (Alone sgidle) (slot_step end heard g).sent

module _ (made : Sent → ℕ) (o a : ℕ) (go ga : ℕ → Drive) where
  unfoldable pub late_slot : ℕ → Joined → Joined
  late_slot t j =
      let to_o = arriving j.to_o in
      let to_a = arriving j.to_a in
      record {
        o = end_after o t j.o to_o (go t);
        a = end_after a t j.a to_a (ga t);
        to_o = drop 1 j.to_o ++ (made (sent_in a t j.a to_a (ga t)) ∷ []);
        to_a = drop 1 j.to_a ++ (made (sent_in o t j.o to_o (go t)) ∷ []);
      }

  -- the pair before slot t
  unfoldable pub late_at : Joined → ℕ → Joined
  late_at j zero = j
  late_at j (suc t) = late_slot t (late_at j t)

-- what arrives at each end in slot t, where one starts e slots after the other
module _ (made : Sent → ℕ) (d e : ℕ) (later : Later) (bo ba : Book) (go ga : ℕ → Drive) where
  abbrev late_run : ℕ → Joined
  late_run = late_at made (starts_o later e) (starts_a later e) go ga (joined (started bo) (started ba) d)

  abbrev pub arrives_o : ℕ → ℕ
  arrives_o t = arriving (late_run t).to_o

  abbrev pub arrives_a : ℕ → ℕ
  arrives_a t = arriving (late_run t).to_a

  -- they are a joined pair, and what arrives at each is what the channel makes of what the other sends
  pub record RunsLate : Type 0 where
    pub pair : JoinedLate d e later bo ba go ga arrives_o arrives_a
    pub made_o : (t : ℕ) → arrives_o (t + d) ≡ made (sent_from (starts_a later e) (started ba) arrives_a ga t)
    pub made_a : (t : ℕ) → arrives_a (t + d) ≡ made (sent_from (starts_o later e) (started bo) arrives_o go t)

-- without damage, and with as much as in OneCopyWrong
abbrev pub UndamagedLate : ℕ → ℕ → Later → Book → Book → (ℕ → Drive) → (ℕ → Drive) → Type 0
UndamagedLate = RunsLate byte_sent

abbrev pub DamagedLate : ℕ → ℕ → Later → Book → Book → (ℕ → Drive) → (ℕ → Drive) → Type 0
DamagedLate = RunsLate damaged
