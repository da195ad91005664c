-- The versions are settled: from the answerer's identifier to the slot in which the answerer has the originator's. Assumes nothing.
use mathlib.Core.Path.{◌≡◌, refl, ap, ◌∙◌, subst}
use mathlib.Core.Bool.{false, and_comm, and-false}
use mathlib.Core.List.{[], ◌∷◌}
use Prim.Native.Nat.{ℕ, zero, suc, ◌+◌, ◌^◌, ◌<◌}
use native.Mathlib.Nat.{add-zero, le_refl, zero-div}
use native.Mathlib.Decide.{dec_lt}
use native.Mathlib.Omega.{arith}
use lib.Dec.{eqb}
use Rattle.ground.specs.Digits.{bit}
use Rattle.book.specs.declared.Book.{Book}
use Rattle.book.specs.Book.{params_of}
use Rattle.channel.specs.declared.kind.Kind.{Kind}
use Rattle.channel.specs.declared.kind.Kind.TheVariants.{Dh}
use Rattle.channel.specs.Bytes.{sdidle}
use Rattle.channel.specs.Versions.{highest, highest_up_to}
use Rattle.protocol.specs.Lengths.{all_parameter_bytes}
use Rattle.protocol.specs.Schedule.{masks_a, masks_o, lacks_o, lacks_a, parameters_o}
use Rattle.protocol.specs.Exchange.{entry_of, mask_sent}
use Rattle.protocol.specs.Sent.{Alone, Part, parameter_sent}
use Rattle.protocol.proofs.Computing.{moving}
use Rattle.protocol.specs.declared.Awaited.TheVariants.{Run, Group}
use Rattle.protocol.specs.declared.Hearing.{Hearing}
use Rattle.protocol.specs.declared.Sending.TheVariants.{Idle, Mask, Parameters}
use Rattle.protocol.specs.declared.Fate.TheVariants.{Refuses}
use Rattle.protocol.proofs.Chain.Segments.{Said, Says, During, join, at_offset, one, one_said, walk, along, along_said, keep, keep_said}
use Rattle.protocol.proofs.Chain.Core.{Core, Talks, Over, core, hearing, talk, Talking, talking, Ended, ended, slots}
use Rattle.protocol.proofs.Chain.Link.{GroupHeard, six, hears_six}
use Rattle.protocol.proofs.Chain.Roles.{as_o, as_a, id_o, id_a, common}
use Rattle.protocol.proofs.Chain.Hail.{ask_o, mask_a}
use Rattle.protocol.proofs.Chain.Meeting.{Meeting, identified, o_asking, a_mask, a_awaits, a_idles}
use Rattle.protocol.proofs.Chain.Sender.{settled, masks, SendsO, sends_o, mask_sends, lack_sends, lack_ends, parameter_sends}

highest_up_to_comm : (n a b : ℕ) → highest_up_to n a b ≡ highest_up_to n b a
unfolding highest_up_to
highest_up_to_comm zero a b = refl
highest_up_to_comm (suc i) a b = rw (and_comm (eqb (bit i a) 1) (eqb (bit i b) 1), highest_up_to_comm i a b)

pub highest_comm : (a b : ℕ) → highest a b ≡ highest b a
unfolding highest
highest_comm a b = highest_up_to_comm 8 a b

zero_up_to : (n a : ℕ) → highest_up_to n a 0 ≡ 0
unfolding highest_up_to
zero_up_to zero a = refl
zero_up_to (suc i) a = let z : bit i 0 ≡ 0 = rw (zero-div (2 ^ i)) in rw (z, and-false (eqb (bit i a) 1), zero_up_to i a)

pub highest_zero : (a : ℕ) → highest a 0 ≡ 0
unfolding highest
highest_zero a = zero_up_to 8 a

-- an answerer that hears the first five bytes of an identifier sends Sdidle
idle_said : (b : Book) {v x : ℕ} {heard : ℕ → Kind} (g : GroupHeard v heard x) (i : ℕ) → i < 5
    → (core (as_a b) (walk (core (as_a b)) (mask_a 5) (six g) i) (six g i)).out ≡ Says (Alone sdidle)
unfolding moving walk
idle_said b g zero h = refl
idle_said b g (suc zero) h = refl
idle_said b g (suc (suc zero)) h = refl
idle_said b g (suc (suc (suc zero))) h = refl
idle_said b g (suc (suc (suc (suc zero)))) h = refl
idle_said b g (suc (suc (suc (suc (suc i))))) h = absurd (omega arith)

module _ {d a h n : ℕ} {bo ba : Book}
    {so sa : ℕ → Core} {ho ha : ℕ → Kind} {oo oa : ℕ → Said}
    (m : Meeting d a h n bo ba so sa ho ha oo oa) (small : id_a ba < 256) where
  -- A's identifier arrives at O in slot masks_a + d and the five after it
  o_group : GroupHeard (id_a ba) ho (masks_a h d + d)
  o_group = subst (GroupHeard (id_a ba) ho) (omega arith) (m.to_o.group (masks_a h d) (id_a ba) (omega (arith, m.apart)) (omega (arith, m.room)) small (a_mask m))

  o_walk : walk (core (as_o bo)) (ask_o 16) (six o_group) 6 ≡ Talks (talk (Run 1 0) (identified (id_a ba)) (common bo ba) (Mask 1))
  unfolding moving walk
  o_walk = rw o_group.votes

  -- O settles the version in slot masks_o, and sends the first byte of its own identifier
  pub o_settles : so (masks_o h d + 1) ≡ Talks (talk (Run 1 0) (identified (id_a ba)) (common bo ba) (Mask 1))
  o_settles =
      subst (λ t. so t ≡ Talks (talk (Run 1 0) (identified (id_a ba)) (common bo ba) (Mask 1))) (omega arith)
      (along m.runs_o (ask_o 16) (six o_group) (masks_a h d + d) 6 (omega arith) (o_asking m) (hears_six o_group) 6 (le_refl 6) ∙ o_walk)

  o_walk_said : (core (as_o bo) (walk (core (as_o bo)) (ask_o 16) (six o_group) 5) (six o_group 5)).out
      ≡ Says (Part 0 (mask_sent (as_o bo) (common bo ba)))
  unfolding moving walk
  o_walk_said = rw o_group.votes

  o_first : oo (masks_o h d) ≡ Says (Part 0 (mask_sent (as_o bo) (common bo ba)))
  o_first =
      subst (λ t. oo t ≡ Says (Part 0 (mask_sent (as_o bo) (common bo ba)))) (omega arith)
      (along_said m.runs_o (ask_o 16) (six o_group) (masks_a h d + d) 6 (omega arith) (o_asking m) (hears_six o_group) 5 (omega arith) ∙ o_walk_said)

  -- Where a version is shared.
  module _ (small_o : id_o bo < 256) (shared : eqb (common bo ba) 0 ≡ false) where
    -- O's identifier goes in slot masks_o and the five after it
    pub o_mask : (j : ℕ) → j < 6 → oo (masks_o h d + j) ≡ Says (Part j (id_o bo))
    unfolding moving
    o_mask zero l = rw add-zero (rw shared at o_first)
    o_mask (suc j) l =
        subst (λ t. oo t ≡ Says (Part (suc j) (id_o bo))) (omega arith)
        (keep_said m.runs_o (λ i u. SendsO (common bo ba) (masks i) u) (λ i. Says (Part (suc i) (id_o bo))) 5 (masks_o h d + 1) (omega arith)
        (sends_o (hearing (Run 1 0) (identified (id_a ba))) refl o_settles)
        (λ i u hi q. mask_sends bo (common bo ba) shared i u (ho (masks_o h d + 1 + i)) hi q) j (omega arith))

    o_masked : SendsO (common bo ba) (Parameters 0) (so (parameters_o h d))
    o_masked =
        subst (λ t. SendsO (common bo ba) (Parameters 0) (so t)) (omega arith)
        (keep m.runs_o (λ i u. SendsO (common bo ba) (masks i) u) (λ i. Says (Part (suc i) (id_o bo))) 5 (masks_o h d + 1) (omega arith)
        (sends_o (hearing (Run 1 0) (identified (id_a ba))) refl o_settles)
        (λ i u hi q. mask_sends bo (common bo ba) shared i u (ho (masks_o h d + 1 + i)) hi q) 5 (le_refl 5))

    -- and its parameters from slot parameters_o on
    pub o_parameters : (i : ℕ) → i < all_parameter_bytes (as_o bo)
        → oo (parameters_o h d + i) ≡ Says (parameter_sent (as_o bo) (params_of (entry_of (as_o bo) 0)) i)
    o_parameters i l =
        keep_said m.runs_o (λ j u. j < all_parameter_bytes (as_o bo) → SendsO (common bo ba) (Parameters j) u)
        (λ j. Says (parameter_sent (as_o bo) (params_of (entry_of (as_o bo) 0)) j)) (all_parameter_bytes (as_o bo))
        (parameters_o h d) (omega arith) (λ z. o_masked)
        (λ j u hj q. parameter_sends bo (common bo ba) j u (ho (parameters_o h d + j)) (q hj)) i l

    -- O's identifier arrives at A in slot masks_o + d and the five after it
    a_group : GroupHeard (id_o bo) ha (masks_o h d + d)
    a_group = subst (GroupHeard (id_o bo) ha) (omega arith) (m.to_a.group (masks_o h d) (id_o bo) (omega arith) (omega (arith, m.room)) small_o o_mask)

    -- five bytes of it in hand
    a_held : Hearing
    a_held =
        record {
          awaited = Group 0 5;
          nibbles = a_group.l0 ∷ a_group.h0 ∷ a_group.l1 ∷ a_group.h1 ∷ a_group.l2 ∷ 0 ∷ [];
          values = 0 ∷ 0 ∷ 0 ∷ 0 ∷ 0 ∷ 0 ∷ [];
        }

    a_nearly : sa (lacks_a h d) ≡ Talks (settled a_held 0 Idle)
    unfolding moving walk a_held
    a_nearly =
        subst (λ t. sa t ≡ Talks (settled a_held 0 Idle)) (omega arith)
        (along m.runs_a (mask_a 5) (six a_group) (masks_o h d + d) 5 (omega (arith, m.apart)) (a_awaits m) (λ i hi. hears_six a_group i (omega arith)) 5 (le_refl 5))

    a_nearly_said : (i : ℕ) → i < 5 → oa (masks_o h d + d + i) ≡ Says (Alone sdidle)
    a_nearly_said i hi =
        along_said m.runs_a (mask_a 5) (six a_group) (masks_o h d + d) 5 (omega (arith, m.apart)) (a_awaits m) (λ i hi. hears_six a_group i (omega arith)) i hi
        ∙ idle_said ba a_group i hi

    same_version : highest (id_a ba) (id_o bo) ≡ common bo ba
    same_version = highest_comm (id_a ba) (id_o bo)

    a_last : core (as_a ba) (Talks (settled a_held 0 Idle)) (Dh a_group.h2)
        ≡ record { to = Talks (talk (Run 1 0) (identified (id_o bo)) (common bo ba) Idle); out = Says (Alone sdidle) }
    unfolding slots a_held
    a_last = rw (a_group.votes, same_version, shared)

    -- A settles the version in slot lacks_a
    pub a_settles : sa (parameters_o h d + d) ≡ Talks (talk (Run 1 0) (identified (id_o bo)) (common bo ba) Idle)
    a_settles =
        subst (λ t. sa t ≡ Talks (talk (Run 1 0) (identified (id_o bo)) (common bo ba) Idle)) (omega arith)
        (one m.runs_a (lacks_a h d) (Talks (settled a_held 0 Idle)) (Dh a_group.h2) (omega (arith, m.apart)) a_nearly
        (subst (λ t. ha t ≡ Dh a_group.h2) (omega arith) a_group.at5) ∙ ap (λ q. q.to) a_last)

    -- and has sent Sdidle since its identifier
    pub a_idle : During (masks_a h d + 6) (parameters_o h d + d) (λ t. oa t ≡ Says (Alone sdidle))
    a_idle =
        join (masks_o h d + d) (a_idles m)
        (join (lacks_a h d)
        (λ t hx hy. at_offset (λ t. oa t ≡ Says (Alone sdidle)) (masks_o h d + d) 5 a_nearly_said t hx (omega arith))
        (λ t hx hy. let z : lacks_a h d ≡ t = omega arith in
        subst (λ t. oa t ≡ Says (Alone sdidle)) z
        (one_said m.runs_a (lacks_a h d) (Talks (settled a_held 0 Idle)) (Dh a_group.h2) (omega (arith, m.apart)) a_nearly
        (subst (λ t. ha t ≡ Dh a_group.h2) (omega arith) a_group.at5) ∙ ap (λ q. q.out) a_last)))

  -- Where none is shared.
  module _ (lacking : common bo ba ≡ 0) where
    lacks_on : (i : ℕ) (u : Core) → i < 4 → SendsO (common bo ba) (Mask (suc i)) u
        → SendsO (common bo ba) (Mask (suc (suc i))) (core (as_o bo) u (ho (masks_o h d + 1 + i))).to
        × ((core (as_o bo) u (ho (masks_o h d + 1 + i))).out ≡ Says (Part (suc i) 0))
    lacks_on i u hi q = lack_sends bo (common bo ba) lacking i u (ho (masks_o h d + 1 + i)) hi q

    lacks_from : SendsO (common bo ba) (Mask 1) (so (masks_o h d + 1))
    lacks_from = sends_o (hearing (Run 1 0) (identified (id_a ba))) refl o_settles

    lacks : SendsO (common bo ba) (Mask 5) (so (lacks_o h d))
    lacks =
        subst (λ t. SendsO (common bo ba) (Mask 5) (so t)) (omega arith)
        (keep m.runs_o (λ i u. SendsO (common bo ba) (Mask (suc i)) u) (λ i. Says (Part (suc i) 0)) 4 (masks_o h d + 1) (omega arith) lacks_from lacks_on 4 (le_refl 4))

    -- O refuses 21 in slot lacks_o, with the sixth byte of 00
    pub o_refuses : Ended (Refuses 21) (so (suc (lacks_o h d)))
    o_refuses =
        rw (one m.runs_o (lacks_o h d) (so (lacks_o h d)) (ho (lacks_o h d)) (omega arith) refl refl)
        (lack_ends bo (common bo ba) lacking (so (lacks_o h d)) (ho (lacks_o h d)) lacks).0

    pub o_talks : Talking (so (lacks_o h d))
    o_talks = go lacks
      where
        go : SendsO (common bo ba) (Mask 5) (so (lacks_o h d)) → Talking (so (lacks_o h d))
        go (sends_o g e r) = talking _ r

    zeros_said : (j : ℕ) → j < 5 → oo (masks_o h d + j) ≡ Says (Part j 0)
    unfolding moving
    zeros_said zero l = rw add-zero (rw lacking at o_first)
    zeros_said (suc j) l =
        subst (λ t. oo t ≡ Says (Part (suc j) 0)) (omega arith)
        (keep_said m.runs_o (λ i u. SendsO (common bo ba) (Mask (suc i)) u) (λ i. Says (Part (suc i) 0)) 4 (masks_o h d + 1) (omega arith) lacks_from lacks_on j (omega arith))

    sixth_said : oo (masks_o h d + 5) ≡ Says (Part 5 0)
    sixth_said =
        subst (λ t. oo t ≡ Says (Part 5 0)) (omega arith)
        (one_said m.runs_o (lacks_o h d) (so (lacks_o h d)) (ho (lacks_o h d)) (omega arith) refl refl
        ∙ (lack_ends bo (common bo ba) lacking (so (lacks_o h d)) (ho (lacks_o h d)) lacks).1)

    o_zeros : (j : ℕ) → j < 6 → oo (masks_o h d + j) ≡ Says (Part j 0)
    o_zeros j l = go (dec_lt j 5)
      where
        go : Dec (j < 5) → oo (masks_o h d + j) ≡ Says (Part j 0)
        go (yes p) = zeros_said j p
        go (no p) = let z : 5 ≡ j = omega arith in subst (λ i. oo (masks_o h d + i) ≡ Says (Part i 0)) z sixth_said

    zero_group : GroupHeard 0 ha (masks_o h d + d)
    zero_group = subst (GroupHeard 0 ha) (omega arith) (m.to_a.group (masks_o h d) 0 (omega arith) (omega (arith, m.room)) (omega arith) o_zeros)

    zero_held : Hearing
    zero_held =
        record {
          awaited = Group 0 5;
          nibbles = zero_group.l0 ∷ zero_group.h0 ∷ zero_group.l1 ∷ zero_group.h1 ∷ zero_group.l2 ∷ 0 ∷ [];
          values = 0 ∷ 0 ∷ 0 ∷ 0 ∷ 0 ∷ 0 ∷ [];
        }

    a_lacks : sa (lacks_a h d) ≡ Talks (settled zero_held 0 Idle)
    unfolding moving walk zero_held
    a_lacks =
        subst (λ t. sa t ≡ Talks (settled zero_held 0 Idle)) (omega arith)
        (along m.runs_a (mask_a 5) (six zero_group) (masks_o h d + d) 5 (omega (arith, m.apart)) (a_awaits m) (λ i hi. hears_six zero_group i (omega arith)) 5 (le_refl 5))

    zero_last : (core (as_a ba) (Talks (settled zero_held 0 Idle)) (Dh zero_group.h2)).to
        ≡ Over (Refuses 21) (talk (Run 1 0) (identified 0) 0 Idle)
    unfolding slots zero_held
    zero_last = rw (zero_group.votes, highest_zero (id_a ba))

    -- and A in slot lacks_a
    pub a_refuses : Ended (Refuses 21) (sa (suc (lacks_a h d)))
    a_refuses =
        ended (talk (Run 1 0) (identified 0) 0 Idle)
        (one m.runs_a (lacks_a h d) (Talks (settled zero_held 0 Idle)) (Dh zero_group.h2) (omega (arith, m.apart)) a_lacks
        (subst (λ t. ha t ≡ Dh zero_group.h2) (omega arith) zero_group.at5) ∙ zero_last)

    pub a_talks : Talking (sa (lacks_a h d))
    a_talks = talking _ a_lacks
