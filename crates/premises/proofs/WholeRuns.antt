-- The worked figures of the joined pair whose runs are whole calls, some 430 slots each, by computation. Assumes nothing.
use mathlib.Core.Path.{◌≡◌, refl}
use mathlib.Core.List.{List, [], ◌∷◌}
use Prim.Native.Nat.{ℕ}
use Rattle.book.specs.declared.Entry.{Entry}
use Rattle.protocol.proofs.Computing.{computing}
use Rattle.protocol.proofs.Figures.Joining.{profile_of, profile, pair, joined_on, reports, opened_on, opened}
use Rattle.protocol.specs.Sent.{Sent, byte_sent}
use Rattle.protocol.specs.Slot.{outcome_of}
use Rattle.protocol.specs.Joined.{idle, arriving}
use Rattle.protocol.specs.Late.{Later, OriginatorLater, AnswererLater, starts_o, starts_a}
use Rattle.protocol.specs.declared.Outcome.{Outcome}
use Rattle.protocol.specs.declared.Outcome.TheVariants.{Exchanging, Refused}
use Rattle.premises.specs.OneCopyWrong.{b8_inverted, nibble_inverted, damaged}
use Rattle.premises.specs.LateRun.{late_slot, late_at}

-- another profile
abbrev other : ℕ → Entry
other form = record { p0 = 1; p1 = 2; p2 = 3; p3 = 4; p4 = 6; form = form; w = 0 }

-- two ends with these masks, of which one starts e slots after the other: what both report after n slots
abbrev starts_late : (Sent → ℕ) → ℕ → ℕ → Later → ℕ → ℕ → ℕ → ℕ → List Outcome
starts_late made mask_o mask_a later limit d e n =
    let k = late_at made (starts_o later e) (starts_a later e) (λ t. idle) (λ t. idle) (pair mask_o mask_a limit d) n in
    outcome_of k.o ∷ outcome_of k.a ∷ []

-- what arrives at O in slot t, A being late
abbrev to_late_o : ℕ → ℕ
to_late_o t = arriving (late_at damaged 0 7 (λ t. idle) (λ t. idle) (pair 1 2 500 2) t).to_o

pub record WholeRuns : Type 0 where
  -- delay 2, limits 430: O opens in slot 429, A in 427
  pub opens_429_427 : reports 430 (pair 3 3 430 2) ≡ opened 429 ∷ opened 427 ∷ []
  -- limits 429: A opens in 427, O refuses 23 in slot 428
  pub refused_428 : reports 429 (pair 3 3 429 2) ≡ Refused 23 428 ∷ opened 427 ∷ []
  -- form 8 stands with mask 3: with a form 8 entry in both the ends open on version 2
  pub eight_opens : reports 425 (joined_on 3 (profile_of 8) 3 (profile_of 8 ∷ []) 1) ≡ opened_on 2 (profile_of 8) 424 ∷ opened_on 2 (profile_of 8) 423 ∷ []
  -- an answerer of mask 3 with a form 7 entry 0 and a form 8 entry 1: called on version 1 with the parameters of entry 1 it refuses 22, and so
  -- does the originator
  pub left_out : reports 425 (joined_on 1 (other 7) 3 (profile ∷ other 8 ∷ []) 1) ≡ Refused 22 424 ∷ Refused 22 423 ∷ []
  -- where entry 0 is the form 8 entry left out, the answerer's own values are the originator's: the originator opens, the answerer refuses 22.
  -- These books give equal parameters unequal forms, so demand 3 does not speak of them
  pub entry_0_left_out : reports 425 (joined_on 1 profile 3 (profile_of 8 ∷ []) 1) ≡ opened_on 1 profile 424 ∷ Refused 22 423 ∷ []
  -- O starts 7 slots after A, masks 1 and 2, delay 1: O refuses 21 in slot 49, which it reports as 42, A in slot 50
  pub late_o_none : starts_late byte_sent 1 2 OriginatorLater 500 1 7 49 ≡ Exchanging ∷ Exchanging ∷ []
  pub late_o_first : starts_late byte_sent 1 2 OriginatorLater 500 1 7 50 ≡ Refused 21 42 ∷ Exchanging ∷ []
  pub late_o_both : starts_late byte_sent 1 2 OriginatorLater 500 1 7 51 ≡ Refused 21 42 ∷ Refused 21 50 ∷ []
  -- O starts 1 slot after A, delay 2, so that it waits for A's first byte: in slot 46, reported as 45, and 48
  pub late_o_waits : starts_late byte_sent 1 2 OriginatorLater 500 2 1 49 ≡ Refused 21 45 ∷ Refused 21 48 ∷ []
  -- A starts 7 slots after O, delay 1: O in slot 50, A in slot 51, which it reports as 44
  pub late_a_first : starts_late byte_sent 1 2 AnswererLater 500 1 7 51 ≡ Refused 21 50 ∷ Exchanging ∷ []
  pub late_a_both : starts_late byte_sent 1 2 AnswererLater 500 1 7 52 ≡ Refused 21 50 ∷ Refused 21 44 ∷ []
  -- with much damage too: in slots 2 to 8 the 7F that A sent before its start arrives at O as 7E, in slot 9 its first Sgvi as 56
  pub late_damaged : starts_late damaged 1 2 AnswererLater 500 1 7 52 ≡ Refused 21 50 ∷ Refused 21 44 ∷ []
  pub late_7_f : ◌≡◌ {A = List ℕ} (to_late_o 1 ∷ to_late_o 2 ∷ to_late_o 8 ∷ to_late_o 9 ∷ []) (0x7F ∷ 0x7E ∷ 0x7E ∷ 0x56 ∷ [])
  -- both open, limits e+5d+420 = 432: O in slot 430, reported as 423, and A in 429; or O in slot 431 and A in 430, reported as 423
  pub late_o_opens : starts_late byte_sent 3 3 OriginatorLater 432 1 7 431 ≡ opened 423 ∷ opened 429 ∷ []
  pub late_a_opens : starts_late damaged 3 3 AnswererLater 432 1 7 432 ≡ opened 431 ∷ opened 423 ∷ []
  -- limits of one less: O refuses 23 in slot 430
  pub late_a_431 : starts_late byte_sent 3 3 AnswererLater 431 1 7 432 ≡ Refused 23 430 ∷ opened 423 ∷ []

pub whole_runs : WholeRuns
unfolding computing late_at late_slot damaged b8_inverted nibble_inverted
whole_runs =
    record {
      opens_429_427 = refl;
      refused_428 = refl;
      eight_opens = refl;
      left_out = refl;
      entry_0_left_out = refl;
      late_o_none = refl;
      late_o_first = refl;
      late_o_both = refl;
      late_o_waits = refl;
      late_a_first = refl;
      late_a_both = refl;
      late_damaged = refl;
      late_7_f = refl;
      late_o_opens = refl;
      late_a_opens = refl;
      late_a_431 = refl;
    }
