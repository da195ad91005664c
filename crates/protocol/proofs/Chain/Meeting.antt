-- The two ends meet: from slot h, in which a waiting originator first hears the answerer's unbroken Sgvi, to the slot in which the
-- originator has the answerer's identifier. Assumes nothing.
use mathlib.Core.Path.{◌≡◌, refl, ap, ◌∙◌, subst}
use mathlib.Core.Bool.{true, false}
use mathlib.Core.List.{List, [], ◌∷◌}
use Prim.Native.Nat.{ℕ, zero, suc, ◌+◌, ◌-◌, ◌*◌, ◌≤◌, ◌<◌, min}
use native.Mathlib.Nat.{add-zero, le_refl}
use native.Mathlib.Numerals.{add-one}
use native.Mathlib.Omega.{arith}
use Rattle.book.specs.declared.Book.{Book}
use Rattle.channel.specs.declared.kind.Kind.{Kind}
use Rattle.channel.specs.declared.kind.Kind.TheVariants.{Sgvi}
use Rattle.channel.specs.Bytes.{sgvi, sdidle}
use Rattle.channel.specs.Kinds.{kind_of}
use Rattle.protocol.specs.Schedule.{hails_o, masks_a, masks_o, concludes_o}
use Rattle.protocol.specs.Collecting.{of_run}
use Rattle.protocol.specs.Sent.{Alone, Part}
use Rattle.protocol.proofs.Computing.{moving}
use Rattle.protocol.proofs.Chain.Segments.{Said, Says, Runs, During, join, at_offset, one, one_said, climb, climb_said, hold, hold_said, keep, keep_said}
use Rattle.protocol.proofs.Chain.Core.{Core, core}
use Rattle.protocol.proofs.Chain.Link.{Link, arrive}
use Rattle.protocol.proofs.Chain.Roles.{as_o, as_a, id_a}
use Rattle.protocol.proofs.Chain.Hail.{wait_o, hail_a, ask_o, mask_a, WaitsO, waits_o, HailsA, hails_a, AsksO, asks_o, wait_more, hail_more, hail_again, wait_rises, hail_rises, wait_over, hail_over, ask_more, mask_more, idle_more, ask_rises}

-- Both ends, from the answerer's slot a and the originator's slot h on; n slots are spoken of. Nothing that the answerer has heard before
-- the originator's bytes of slot h come counts into a run of Sgvi.
pub record Meeting (d a h n : ℕ) (bo ba : Book)
    (so sa : ℕ → Core) (ho ha : ℕ → Kind) (oo oa : ℕ → Said) : Type 0 where
  pub ahead : 1 ≤ d
  pub apart : a + d ≤ h
  pub room : concludes_o h d (as_o bo) (as_a ba) < n
  pub runs_o : Runs (core (as_o bo)) h so ho oo
  pub runs_a : Runs (core (as_a ba)) a sa ha oa
  pub to_o : Link a n d oa ho
  pub to_a : Link h n d oo ha
  pub waits : so h ≡ wait_o 0
  pub hails : HailsA 0 (sa a)
  pub quiet : During a (h + d) (λ t. of_run 0 (ha t) ≡ false)

-- a count of the run, exactly
data HailsAt (c : ℕ) (u : Core) : Type 0 where
  hails_at : (m : ℕ) → u ≡ hail_a m c → HailsAt c u

hails_at_lem : (u : Core) → HailsA 0 u → HailsAt 0 u
hails_at_lem u (hails_a c m l e) = let z : c ≡ 0 = omega arith in hails_at m (e ∙ ap (hail_a m) z)

sgvi_kind : kind_of sgvi ≡ Sgvi
unfolding moving
sgvi_kind = refl

sgvi_counts : of_run 0 Sgvi ≡ true
unfolding moving
sgvi_counts = refl

-- Sdidle is no Sgvi
pub sdidle_counts_not : of_run 0 (kind_of sdidle) ≡ false
unfolding moving
sdidle_counts_not = refl

-- the values with an identifier voted
abbrev pub identified : ℕ → List ℕ
identified v = v ∷ 0 ∷ 0 ∷ 0 ∷ 0 ∷ 0 ∷ []

module _ {d a h n : ℕ} {bo ba : Book}
    {so sa : ℕ → Core} {ho ha : ℕ → Kind} {oo oa : ℕ → Said}
    (m : Meeting d a h n bo ba so sa ho ha oo oa) where
  -- O sends Sdidle before slot hails_o h, whatever it hears
  o_idles : During h (hails_o h) (λ t. oo t ≡ Says (Alone sdidle))
  o_idles =
      at_offset (λ t. oo t ≡ Says (Alone sdidle)) h 15
      (λ i hi. keep_said m.runs_o WaitsO (λ j. Says (Alone sdidle)) 15 h (le_refl h) (waits_o 0 (le_refl 0) m.waits)
      (λ j u hj q. wait_rises bo j u (ho (h + j)) hj q) i hi)

  -- so A hears no Sgvi before slot hails_o h + d
  a_deaf : During a (hails_o h + d) (λ t. of_run 0 (ha t) ≡ false)
  a_deaf =
      join (h + d) m.quiet
      (λ t hx hy. ap (of_run 0) (arrive m.to_a h (hails_o h) sdidle (le_refl h) (omega (arith, m.room)) o_idles t hx (omega arith)) ∙ sdidle_counts_not)

  a_again : (j : ℕ) (u : Core) → j < hails_o h + d - a → HailsA 0 u
      → HailsA 0 (core (as_a ba) u (ha (a + j))).to × ((core (as_a ba) u (ha (a + j))).out ≡ Says (Alone sgvi))
  a_again j u hj (hails_a c i l e) =
      rw (e, hail_again ba c i (ha (a + j)) (a_deaf (a + j) (omega arith) (omega arith))) (hails_a 0 (min (i + 1) 16) (le_refl 0) refl, refl)

  a_hails : HailsA 0 (sa (hails_o h + d))
  a_hails =
      subst (λ t. HailsA 0 (sa t)) (omega (arith, m.apart))
      (keep m.runs_a (λ j u. HailsA 0 u) (λ j. Says (Alone sgvi)) (hails_o h + d - a) a (le_refl a) m.hails a_again (hails_o h + d - a) (le_refl _))

  -- and sends Sgvi before slot masks_a, whatever it hears in the last fifteen
  a_says : During a (masks_a h d) (λ t. oa t ≡ Says (Alone sgvi))
  a_says =
      join (hails_o h + d)
      (λ t hx hy. at_offset (λ t. oa t ≡ Says (Alone sgvi)) a (hails_o h + d - a)
      (λ i hi. keep_said m.runs_a (λ j u. HailsA 0 u) (λ j. Says (Alone sgvi)) (hails_o h + d - a) a (le_refl a) m.hails a_again i hi) t hx (omega (arith, m.apart)))
      (λ t hx hy. at_offset (λ t. oa t ≡ Says (Alone sgvi)) (hails_o h + d) 15
      (λ i hi. keep_said m.runs_a HailsA (λ j. Says (Alone sgvi)) 15 (hails_o h + d) (omega (arith, m.apart)) a_hails
      (λ j u hj q. hail_rises ba j u (ha (hails_o h + d + j)) hj q) i hi) t hx (omega arith))

  -- O hears Sgvi from slot h on
  o_hears : During h (masks_a h d + d) (λ t. ho t ≡ Sgvi)
  o_hears t hx hy =
      arrive m.to_o a (masks_a h d) sgvi (le_refl a) (omega (arith, m.room)) a_says t (omega (arith, m.apart)) (omega arith) ∙ sgvi_kind

  -- O's run is complete with slot hails_o h
  o_waited : so (hails_o h) ≡ wait_o 15
  o_waited =
      climb m.runs_o wait_o (λ i. Sgvi) h 15 (le_refl h) m.waits (λ i hi. o_hears (h + i) (omega arith) (omega arith))
      (λ i hi. ap (λ q. q.to) (wait_more bo i Sgvi (omega arith) sgvi_counts) ∙ ap wait_o (add-one i)) 15 (le_refl 15)

  o_asks : so (hails_o h + 1) ≡ ask_o 1
  o_asks =
      subst (λ t. so t ≡ ask_o 1) (omega arith)
      (one m.runs_o (hails_o h) (wait_o 15) Sgvi (omega arith) o_waited (o_hears (hails_o h) (omega arith) (omega (arith, m.ahead)))
      ∙ ap (λ q. q.to) (wait_over bo))

  o_says_first : oo (hails_o h) ≡ Says (Alone sgvi)
  o_says_first =
      one_said m.runs_o (hails_o h) (wait_o 15) Sgvi (omega arith) o_waited (o_hears (hails_o h) (omega arith) (omega (arith, m.ahead)))
      ∙ ap (λ q. q.out) (wait_over bo)

  -- and by slot masks_a + d, in which A's identifier begins to arrive, it has sent 16 Sgvi
  ask_on : (i : ℕ) → i < 2 * d + 14 → (core (as_o bo) (ask_o (min (i + 1) 16)) Sgvi).to ≡ ask_o (min (suc i + 1) 16)
  ask_on i hi = let z : min (min (i + 1) 16 + 1) 16 ≡ min (suc i + 1) 16 = omega arith in ap (λ q. q.to) (ask_more bo (min (i + 1) 16)) ∙ ap ask_o z

  asked : so (hails_o h + 1) ≡ ask_o (min (0 + 1) 16)
  asked = o_asks

  pub o_asking : so (masks_a h d + d) ≡ ask_o 16
  o_asking =
      let z : min (2 * d + 14 + 1) 16 ≡ 16 = omega (arith, m.ahead) in
      subst (λ t. so t ≡ ask_o 16) (omega arith)
      (climb m.runs_o (λ i. ask_o (min (i + 1) 16)) (λ i. Sgvi) (hails_o h + 1) (2 * d + 14) (omega arith) asked
      (λ i hi. o_hears (hails_o h + 1 + i) (omega arith) (omega arith)) ask_on (2 * d + 14) (le_refl _) ∙ ap ask_o z)

  -- O sends Sgvi from slot hails_o up to slot masks_o, whatever it hears in the last five
  o_says : During (hails_o h) (masks_o h d) (λ t. oo t ≡ Says (Alone sgvi))
  o_says =
      join (hails_o h + 1)
      (λ t hx hy. let z : hails_o h ≡ t = omega arith in subst (λ t. oo t ≡ Says (Alone sgvi)) z o_says_first)
      (join (masks_a h d + d)
      (λ t hx hy. at_offset (λ t. oo t ≡ Says (Alone sgvi)) (hails_o h + 1) (2 * d + 14)
      (λ i hi. climb_said m.runs_o (λ i. ask_o (min (i + 1) 16)) (λ i. Sgvi) (hails_o h + 1) (2 * d + 14) (omega arith) asked
      (λ i hi. o_hears (hails_o h + 1 + i) (omega arith) (omega arith)) ask_on i hi ∙ ap (λ q. q.out) (ask_more bo (min (i + 1) 16))) t hx (omega arith))
      (λ t hx hy. at_offset (λ t. oo t ≡ Says (Alone sgvi)) (masks_a h d + d) 5
      (λ i hi. keep_said m.runs_o AsksO (λ j. Says (Alone sgvi)) 5 (masks_a h d + d) (omega arith) (asks_o 0 _ (le_refl 0) o_asking)
      (λ j u hj q. ask_rises bo j u (ho (masks_a h d + d + j)) hj q) i hi) t hx (omega arith)))

  -- A hears Sgvi from slot hails_o + d up to slot masks_o + d
  pub a_hears : During (hails_o h + d) (masks_o h d + d) (λ t. ha t ≡ Sgvi)
  a_hears t hx hy =
      arrive m.to_a (hails_o h) (masks_o h d) sgvi (omega arith) (omega (arith, m.room)) o_says t (omega arith) (omega arith) ∙ sgvi_kind

  -- A's run is complete with slot masks_a
  a_counts : HailsAt 15 (sa (masks_a h d))
  a_counts =
      subst (λ t. HailsAt 15 (sa t)) (omega arith)
      (keep m.runs_a HailsAt (λ j. Says (Alone sgvi)) 15 (hails_o h + d) (omega (arith, m.apart)) (hails_at_lem _ a_hails) counts 15 (le_refl 15))
    where
      counts : (j : ℕ) (u : Core) → j < 15 → HailsAt j u
          → HailsAt (suc j) (core (as_a ba) u (ha (hails_o h + d + j))).to × ((core (as_a ba) u (ha (hails_o h + d + j))).out ≡ Says (Alone sgvi))
      counts j u hj (hails_at i e) =
          rw (e, a_hears (hails_o h + d + j) (omega arith) (omega arith), hail_more ba j i Sgvi (omega arith) sgvi_counts, add-one j)
          (hails_at (min (i + 1) 16) refl, refl)

  a_over : (u : Core) → sa (masks_a h d) ≡ u → HailsAt 15 u → (sa (masks_a h d + 1) ≡ mask_a 0) × (oa (masks_a h d) ≡ Says (Part 0 (id_a ba)))
  a_over u e (hails_at i f) =
      let k : ha (masks_a h d) ≡ Sgvi = a_hears (masks_a h d) (omega arith) (omega (arith, m.ahead)) in (
        subst (λ t. sa t ≡ mask_a 0) (omega arith)
            (one m.runs_a (masks_a h d) (hail_a i 15) Sgvi (omega (arith, m.apart)) (e ∙ f) k ∙ ap (λ q. q.to) (hail_over ba i)),
        one_said m.runs_a (masks_a h d) (hail_a i 15) Sgvi (omega (arith, m.apart)) (e ∙ f) k ∙ ap (λ q. q.out) (hail_over ba i),
      )

  a_masks : (sa (masks_a h d + 1) ≡ mask_a 0) × (oa (masks_a h d) ≡ Says (Part 0 (id_a ba)))
  a_masks = a_over (sa (masks_a h d)) refl a_counts

  -- A's identifier goes in slot masks_a and the five after it
  pub a_mask : (j : ℕ) → j < 6 → oa (masks_a h d + j) ≡ Says (Part j (id_a ba))
  a_mask zero hj = rw add-zero a_masks.1
  a_mask (suc j) hj =
      subst (λ t. oa t ≡ Says (Part (suc j) (id_a ba))) (omega arith)
      (climb_said m.runs_a mask_a (λ i. Sgvi) (masks_a h d + 1) 5 (omega (arith, m.apart)) a_masks.0
      (λ i hi. a_hears (masks_a h d + 1 + i) (omega arith) (omega (arith, m.ahead))) (λ i hi. ap (λ q. q.to) (mask_more ba i hi)) j (omega arith)
      ∙ ap (λ q. q.out) (mask_more ba j (omega arith)))

  a_masked : sa (masks_a h d + 6) ≡ mask_a 5
  a_masked =
      subst (λ t. sa t ≡ mask_a 5) (omega arith)
      (climb m.runs_a mask_a (λ i. Sgvi) (masks_a h d + 1) 5 (omega (arith, m.apart)) a_masks.0
      (λ i hi. a_hears (masks_a h d + 1 + i) (omega arith) (omega (arith, m.ahead))) (λ i hi. ap (λ q. q.to) (mask_more ba i hi)) 5 (le_refl 5))

  idles_on : During (masks_a h d + 6) (masks_o h d + d) (λ t. core (as_a ba) (mask_a 5) (ha t) ≡ record { to = mask_a 5; out = Says (Alone sdidle) })
  idles_on t hx hy = ap (core (as_a ba) (mask_a 5)) (a_hears t (omega arith) hy) ∙ idle_more ba

  -- then it sends Sdidle, and awaits O's identifier
  pub a_awaits : sa (masks_o h d + d) ≡ mask_a 5
  a_awaits =
      hold m.runs_a (masks_a h d + 6) (masks_o h d + d) (mask_a 5) (omega (arith, m.apart)) a_masked (λ t hx hy. ap (λ q. q.to) (idles_on t hx hy))
      (masks_o h d + d) (omega (arith, m.ahead)) (le_refl _)

  pub a_idles : During (masks_a h d + 6) (masks_o h d + d) (λ t. oa t ≡ Says (Alone sdidle))
  a_idles t hx hy =
      hold_said m.runs_a (masks_a h d + 6) (masks_o h d + d) (mask_a 5) (omega (arith, m.apart)) a_masked (λ t hx hy. ap (λ q. q.to) (idles_on t hx hy)) t hx hy
      ∙ ap (λ q. q.out) (idles_on t hx hy)
