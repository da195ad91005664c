-- Any channel byte, unit and word is answered, and reading undoes sending. Assumes nothing.
use mathlib.Core.Path.{refl}
use Prim.Native.Nat.{ℕ, ◌<◌}
use lib.Dec.{lit<}
use Rattle.ground.proofs.Test.{either_way}
use Rattle.channel.specs.Bytes.{sgvi, sgp, sgr, sgss, sgidle, sgdis}
use Rattle.channel.specs.Kinds.{like, is_dl, is_dh, is_sd, kind_number}
use Rattle.channel.specs.Forms.{encoded, decoded, encoded_word}
use Rattle.channel.proofs.ReadBack.{b8_ignored}
use Rattle.channel.proofs.RoundTrip.{round_trip, round_trip_word}
use Rattle.claims.specs.Channel.{ChannelAnswered, UnitsUndone}

-- a number of the table
abbrev Numbered : ℕ → Type 0
Numbered n = n < 14

kind_numbered : (b : ℕ) → Numbered (kind_number b)
unfolding kind_number
kind_numbered b =
    either_way Numbered (is_dl b) (lit< tt)
    (either_way Numbered (is_dh b) (lit< tt)
    (either_way Numbered (is_sd b) (lit< tt)
    (either_way Numbered (like sgvi b) (lit< tt)
    (either_way Numbered (like (sgp 0) b) (lit< tt)
    (either_way Numbered (like (sgp 1) b) (lit< tt)
    (either_way Numbered (like (sgp 2) b) (lit< tt)
    (either_way Numbered (like (sgp 3) b) (lit< tt)
    (either_way Numbered (like (sgp 4) b) (lit< tt)
    (either_way Numbered (like sgr b) (lit< tt)
    (either_way Numbered (like sgss b) (lit< tt)
    (either_way Numbered (like sgidle b) (lit< tt)
    (either_way Numbered (like sgdis b) (lit< tt) (lit< tt)))))))))))))

pub channel_answered : ChannelAnswered
unfolding encoded encoded_word decoded
channel_answered =
    record {
      kinds = kind_numbered;
      b8 = b8_ignored;
      unit = λ f u e. rw e refl;
      unit12 = λ f u e. rw e refl;
      word = λ w v e. rw e refl;
      word12 = λ w v e. rw e refl;
      received = λ f b e. rw e refl;
      no_data = λ f b e. rw e refl;
    }

pub units_undone : UnitsUndone
units_undone = record { units = round_trip; words = round_trip_word }
