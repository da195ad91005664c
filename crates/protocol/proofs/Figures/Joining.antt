-- The worked figures of the joined pair, and the sample of a run, by computation. Of the runs to an end that opens one is here; the others are
-- in `premises` (WholeRuns), where fewer must-fail edits prove them again. Assumes nothing.
use Rattle.std.specs.Prelude.{None}
use mathlib.Core.Path.{◌≡◌, refl}
use mathlib.Core.Bool.{true, false}
use mathlib.Core.List.{List, [], ◌∷◌, ◌++◌}
use Prim.Native.Nat.{ℕ, zero, suc, ◌-◌}
use lib.ListN.{length, replicate}
use Rattle.book.specs.declared.Entry.{Entry}
use Rattle.book.specs.declared.Book.{Book}
use Rattle.book.specs.Book.{originating, answering, no_entry, book_with}
use Rattle.channel.specs.Bytes.{sgvi}
use Rattle.protocol.specs.Opened.{idle_signals}
use Rattle.protocol.specs.Slot.{started, outcome_of, slot_of}
use Rattle.protocol.specs.Joined.{Joined, idle, joined, joined_slot}
use Rattle.protocol.specs.Votes.{awaited_by}
use Rattle.protocol.proofs.Computing.{computing}
use Rattle.protocol.specs.declared.Awaited.{Awaited}
use Rattle.protocol.specs.declared.Awaited.TheVariants.{Run, Group}
use Rattle.protocol.specs.declared.Endpoint.{Endpoint}
use Rattle.protocol.specs.declared.Outcome.{Outcome}
use Rattle.protocol.specs.declared.Outcome.TheVariants.{Open, Refused}

abbrev pub profile_of : ℕ → Entry
profile_of form = record { p0 = 1; p1 = 2; p2 = 3; p3 = 4; p4 = 5; form = form; w = 0 }

abbrev pub profile : Entry
profile = profile_of 7

abbrev pub book_for : ℕ → ℕ → ℕ → Book
book_for role mask limit = book_with role mask limit 1 (profile ∷ replicate 7 no_entry)

abbrev pub after : ℕ → Joined → Joined
after zero j = j
after (suc n) j = after n (joined_slot idle idle j)

abbrev pub pair : ℕ → ℕ → ℕ → ℕ → Joined
pair mask_o mask_a limit d = joined (started (book_for originating mask_o limit)) (started (book_for answering mask_a limit)) d

-- an originator with this mask and entry, and an answerer with this mask and these entries, limits 500
abbrev pub joined_on : ℕ → Entry → ℕ → List Entry → ℕ → Joined
joined_on mask_o e mask_a es d =
    joined (started (book_with originating mask_o 500 1 (e ∷ replicate 7 no_entry)))
    (started (book_with answering mask_a 500 (length es) (es ++ replicate (8 - length es) no_entry))) d

-- what both ends report after n slots
abbrev pub reports : ℕ → Joined → List Outcome
reports n j = let k = after n j in outcome_of k.o ∷ outcome_of k.a ∷ []

-- open in a slot, the leads and BK standing as at the opening
abbrev pub opened_on : ℕ → Entry → ℕ → Outcome
opened_on version e slot = Open version e slot idle_signals

abbrev pub opened : ℕ → Outcome
opened slot = opened_on 2 profile slot

-- an answerer after it has heard these bytes, one a slot
abbrev hears : List ℕ → Endpoint → Endpoint
hears [] e = e
hears (b ∷ bs) e = hears bs (slot_of e b idle).state

abbrev awaits_after : List ℕ → Awaited
awaits_after bytes = awaited_by (hears bytes (started (book_for answering 3 500))).phase

pub record PairFigures : Type 0 where
  -- each end is given leads 0100, no break and no unit
  pub given : idle ≡ record { leads = record { s0 = false; s1 = false; s2 = true; s3 = false }; flag = false; offer = None }
  -- both masks 3, limit 500, delay 1: O open 424, A open 423
  pub opens_424_423 : reports 425 (pair 3 3 500 1) ≡ opened 424 ∷ opened 423 ∷ []
  -- with masks 1 and 2: O refused 21 43, A refused 21 44
  pub refused_43_44 : reports 45 (pair 1 2 500 1) ≡ Refused 21 43 ∷ Refused 21 44 ∷ []
  -- "shared" is over the identifiers sent: an originator of mask 3 and form 8 shares nothing with an answerer of mask 1, and both refuse 21,
  -- in the slots 3d+40 and 4d+40
  pub eight_refused_43_44 : reports 45 (joined_on 3 (profile_of 8) 1 (profile ∷ []) 1) ≡ Refused 21 43 ∷ Refused 21 44 ∷ []
  pub eight_refused_46_48 : reports 49 (joined_on 3 (profile_of 8) 1 (profile ∷ []) 2) ≡ Refused 21 46 ∷ Refused 21 48 ∷ []
  -- 15 Sgvi, one 43, one Sgvi make no run: one byte of it has come
  pub no_run : awaits_after (replicate 15 sgvi ++ (0x43 ∷ sgvi ∷ [])) ≡ Run 0 1
  -- 16 in a row do: the group is awaited
  pub run_of_16 : awaits_after (replicate 16 sgvi) ≡ Group 0 0

pub pair_figures : PairFigures
unfolding computing
pair_figures =
    record {
      given = refl;
      opens_424_423 = refl;
      refused_43_44 = refl;
      eight_refused_43_44 = refl;
      eight_refused_46_48 = refl;
      no_run = refl;
      run_of_16 = refl;
    }
