-- The own states of admitted jobs fit, and groups are sound, behind an event too.
use Rattle.std.proofs.Common.{◌≡◌, ◌⊎◌, inl, inr, ℕ, false, List, Option, Some, None, refl, sym, ap, ◌∙◌, subst}
use Rattle.std.specs.Prelude.{slice_get}
use Rattle.jcl_plan.specs.declared.entry.Entry.{Entry}
use Rattle.jcl_plan.specs.declared.entry.JobLine.{JobLine}
use Rattle.jcl_plan.specs.declared.plan.JobPlan.{JobPlan}
use Rattle.jcl_meaning.specs.Solo.{nothing_own}
use Rattle.jcl_meaning.specs.States.{Fixed}
use Rattle.jcl_meaning.specs.WellFormed.{IsWellFormedPlan}
use Rattle.part_laws.specs.Keeping.{HasSoundGroups}
use Rattle.part_laws.proofs.PlansFit.{start_fits}
use Rattle.world_meaning.specs.declared.event.Event.{Event}
use Rattle.world_meaning.specs.Admissions.{Answered, MayFail, assured, fixed_at, no_space, refused, risk, risky, too_many}
use Rattle.world_meaning.specs.Cancels.{is_admitted}
use Rattle.world_meaning.specs.Holdings.{Holds, blocked, broken, held, read}
use Rattle.world_meaning.specs.Lenses.{WorldStore, put_back, seen}
use Rattle.world_meaning.specs.Readings.{Denoting}
use Rattle.world_meaning.specs.Transitions.{GoesOn, Transition}
use Rattle.world_meaning.specs.Turns.{Advanced, Advances, acts, ends, waits}
use Rattle.world_meaning.specs.Worlds.{Admitted, Config, Initiator, IsAt, Named, Running, Selected, Shared, Stage, Wanting, World}
use Rattle.world_laws.specs.Beside.{FitsAt, RunsFit}
use Rattle.world_laws.proofs.Beside.{answered_store, behind, holds_store, reads_store, turn_fits}
use Rattle.world_laws.proofs.Effects.{Effect, changes, ended_early, goes, picks, still, unqueued}
use Rattle.law_core.specs.Soundness.{IsSound, RunsAt, plan_read}
use Rattle.law_core.proofs.Places.{place_cases}
use Rattle.law_core.proofs.Reading.{plan_formed}

-- the numbers of groups in a store that is another one, put back
groups_of : (w v : WorldStore) → v.catalog ≡ w.catalog → ((job : ℕ) → HasSoundGroups (seen job w)) → (job : ℕ) → HasSoundGroups (seen job v)
groups_of w v e h job base g is = h job base g (sym (ap (λ (c : _). c base) e) ∙ is)

module _ (c : Config) (old : Shared) (r : Running) where
  may_fail_fits : (plan : JobPlan) (fixed : Fixed) (told : JobLine) (lines : List JobLine) (new : Shared) (runs : Option Running) →
      MayFail c old r plan fixed told lines new runs → FitsAt c (Admitted plan (record { fixed = fixed; assured = false }) 0 nothing_own) → RunsFit c runs
  may_fail_fits plan fixed told lines new runs (risky b t n on) fits = subst (RunsFit c) (sym on) fits
  may_fail_fits plan fixed told lines new runs (refused free b t n conserved gone) fits = subst (RunsFit c) (sym gone) tt

  answered_fits : (plan : JobPlan) (fixed : Fixed) (lines : List JobLine) (new : Shared) (runs : Option Running) →
      Answered c old r plan fixed lines new runs → FitsAt c (Admitted plan (record { fixed = fixed; assured = false }) 0 nothing_own) → RunsFit c runs
  answered_fits plan fixed lines new runs (assured places kept free safe are_made are others t n conserved on) fits = subst (RunsFit c) (sym on) fits
  answered_fits plan fixed lines new runs (no_space serial there t n on) fits = subst (RunsFit c) (sym on) tt
  answered_fits plan fixed lines new runs (risk fault step dd path meets m) fits = may_fail_fits plan fixed _ lines new runs m fits
  answered_fits plan fixed lines new runs (too_many step low high views m) fits = may_fail_fits plan fixed _ lines new runs m fits

  holds_fits : (plan : JobPlan) (lines : List JobLine) (new : Shared) (runs : Option Running) → Holds old r plan lines new runs → RunsFit c runs
  holds_fits plan lines new runs (held free t n on) = subst (RunsFit c) (sym on) tt
  holds_fits plan lines new runs (blocked by is t n on) = subst (RunsFit c) (sym on) tt

  -- an admission begins with what fits
  goes_fits : (stage : Stage) (lines : List JobLine) (new : Shared) (runs : Option Running) → r.stage ≡ stage → FitsAt c stage →
      ((plan : JobPlan) → stage ≡ Named plan → IsWellFormedPlan plan) → HasSoundGroups (seen r.job old.store) → GoesOn c old r stage lines new runs → RunsFit c runs
  goes_fits (Selected first) lines new runs is fits formed groups (broken n free f t e conserved gone) = subst (RunsFit c) (sym gone) tt
  goes_fits (Selected first) lines new runs is fits formed groups (read plan rest denoted h) = holds_fits plan lines new runs h
  goes_fits (Wanting plan) lines new runs is fits formed groups h = holds_fits plan lines new runs h
  goes_fits (Named plan) lines new runs is fits formed groups g =
      answered_fits plan (fixed_at c old r.job plan g.places) lines new runs g.answers
      (start_fits plan c.programs (seen r.job old.store) (formed plan refl) groups)
  goes_fits (Admitted plan a count own) lines new runs is fits formed groups g =
      turn_fits c old r plan a count own fits lines new runs (subst (FitsAt c) (sym is) fits) g

  -- and groups stay sound
  goes_groups : (stage : Stage) (lines : List JobLine) (new : Shared) (runs : Option Running) → FitsAt c stage →
      ((job : ℕ) → HasSoundGroups (seen job old.store)) → GoesOn c old r stage lines new runs → (job : ℕ) → HasSoundGroups (seen job new.store)
  goes_groups (Selected first) lines new runs fits groups g job =
      groups_of old.store new.store (ap (λ (w : WorldStore). w.catalog) (reads_store c old r first lines new runs g)) groups job
  goes_groups (Wanting plan) lines new runs fits groups g job =
      groups_of old.store new.store (ap (λ (w : WorldStore). w.catalog) (holds_store old r plan lines new runs g)) groups job
  goes_groups (Named plan) lines new runs fits groups g job =
      groups_of old.store new.store
      (ap (λ (w : WorldStore). w.catalog) (answered_store c old r plan (fixed_at c old r.job plan g.places) lines new runs g.answers)) groups job
  goes_groups (Admitted plan a count own) lines new runs fits groups turn job = by_case turn
    where
      after : (x : Advanced) → HasSoundGroups x.done.state.store → new.store ≡ put_back r.job old.store x.done.state.store → HasSoundGroups (seen job new.store)
      after x sound is base g e = sound base g (sym (ap (λ (w : WorldStore). w.catalog base) is) ∙ e)

      by_case : Advances c old r plan a count own lines new runs → HasSoundGroups (seen job new.store)
      by_case (waits x growth primary is must t n on) =
          groups_of old.store new.store (ap (λ (s : Shared). s.store.catalog) n) groups job
      by_case (acts x growth primary free is grants further more t n conserved on) =
          after x ((behind c old r plan a count own fits x growth primary is).stays.sound (groups r.job)) (ap (λ (s : Shared). s.store) n)
      by_case (ends x growth primary free is grants further last t n conserved gone) =
          after x ((behind c old r plan a count own fits x growth primary is).stays.sound (groups r.job)) (ap (λ (s : Shared). s.store) n)

module _ (job_of : Denoting) (old new : World) (e : Event) (lines : List Entry) (s : IsSound old) (t : Transition job_of old e lines new) where
  formed : (place : ℕ) (r : Running) (plan : JobPlan) → RunsAt old place r → r.stage ≡ Named plan → IsWellFormedPlan plan
  formed place r plan at is =
      plan_formed old.config.layout.most_steps _ plan (s.denoted place r plan at (ap plan_read is)).denoted.in_range

  fits_running : (place : ℕ) (x : Initiator) (r : Running) → IsAt old place x → x.running ≡ Some r → FitsAt old.config r.stage
  fits_running place x r at is = subst (RunsFit old.config) is (s.fits place x at)

  fits_by : Effect old e new → (place : ℕ) (y : Initiator) → IsAt new place y → RunsFit old.config y.running
  fits_by (still i k l) place y at = s.fits place y (sym (ap (λ (xs : List Initiator). slice_get xs place) i) ∙ at)
  fits_by (picks there x first r is_at is idle stage i k l) place y at = by_case (place_cases old.initiators new.initiators there x (Some r) is_at i place y at)
    where
      unread : (z : Stage) → is_admitted z ≡ false → FitsAt old.config z
      unread (Selected n) h = tt
      unread (Wanting plan) h = tt
      unread (Named plan) h = tt
      unread (Admitted plan a count own) h = absurd cc

      by_case : ((place ≡ there) × (y ≡ record x { running = Some r })) ⊎ ((place ≡ there → ⊥) × (slice_get old.initiators place ≡ Some y)) →
          RunsFit old.config y.running
      by_case (inl (same, it)) = subst (RunsFit old.config) (sym (ap (λ (z : Initiator). z.running) it)) (unread r.stage stage)
      by_case (inr (apart, was)) = s.fits place y was
  fits_by (goes there x r turn_lines shared runs is_at is running g i k l) place y at =
      by_case (place_cases old.initiators new.initiators there x runs is_at i place y at)
    where
      by_case : ((place ≡ there) × (y ≡ record x { running = runs })) ⊎ ((place ≡ there → ⊥) × (slice_get old.initiators place ≡ Some y)) →
          RunsFit old.config y.running
      by_case (inl (same, it)) = subst (RunsFit old.config) (sym (ap (λ (z : Initiator). z.running) it))
          (goes_fits old.config old.shared r r.stage turn_lines shared runs refl (fits_running there x r is_at running)
          (λ plan is_named. formed there r plan (record { it = x; at = is_at; running = running }) is_named) (s.groups r.job) g)
      by_case (inr (apart, was)) = s.fits place y was
  fits_by (unqueued w contained is i k l) place y at = s.fits place y (sym (ap (λ (xs : List Initiator). slice_get xs place) i) ∙ at)
  fits_by (ended_early there x r is_at running is stage i k l) place y at = by_case (place_cases old.initiators new.initiators there x None is_at i place y at)
    where
      by_case : ((place ≡ there) × (y ≡ record x { running = None })) ⊎ ((place ≡ there → ⊥) × (slice_get old.initiators place ≡ Some y)) →
          RunsFit old.config y.running
      by_case (inl (same, it)) = subst (RunsFit old.config) (sym (ap (λ (z : Initiator). z.running) it)) tt
      by_case (inr (apart, was)) = s.fits place y was

  pub fits_kept : (place : ℕ) (y : Initiator) → IsAt new place y → RunsFit new.config y.running
  fits_kept place y at =
      subst (λ (k : Config). RunsFit k y.running) (sym (changes job_of old new e lines t).config) (fits_by (changes job_of old new e lines t).effect place y at)

  groups_by : Effect old e new → (job : ℕ) → HasSoundGroups (seen job new.shared.store)
  groups_by (still i k l) = groups_of old.shared.store new.shared.store (ap (λ (w : WorldStore). w.catalog) k) s.groups
  groups_by (picks there x first r is_at is idle stage i k l) = groups_of old.shared.store new.shared.store (ap (λ (w : WorldStore). w.catalog) k) s.groups
  groups_by (goes there x r turn_lines shared runs is_at is running g i k l) =
      groups_of shared.store new.shared.store (ap (λ (w : WorldStore). w.catalog) k)
      (goes_groups old.config old.shared r r.stage turn_lines shared runs (fits_running there x r is_at running) s.groups g)
  groups_by (unqueued w contained is i k l) = groups_of old.shared.store new.shared.store (ap (λ (w : WorldStore). w.catalog) k) s.groups
  groups_by (ended_early there x r is_at running is stage i k l) =
      groups_of old.shared.store new.shared.store (ap (λ (w : WorldStore). w.catalog) k) s.groups

  pub groups_kept : (job : ℕ) → HasSoundGroups (seen job new.shared.store)
  groups_kept = groups_by (changes job_of old new e lines t).effect
