-- The store behind an event at which nothing more is kept, or what is kept is kept for one job.
use Rattle.std.proofs.Common.{◌≡◌, ◌≢◌, ◌==◌, inl, inr, ℕ, Bool, true, not, List, [], Option, Some, None, refl, sym, ap, ◌∙◌, subst}
use Rattle.std.specs.Prelude.{filter}
use Rattle.std.specs.List.{Contains, list_any}
use Rattle.std.proofs.lemmas.Bool.{both_ways, cases_Bool, cases_eq, eq-eqb, ne_eqb}
use Rattle.std.proofs.lemmas.List.Elements.{All-contains}
use Rattle.jcl_plan.specs.declared.plan.JobPlan.{JobPlan}
use Rattle.jcl_meaning.specs.declared.state.Place.{Place}
use Rattle.path_meaning.specs.Verdicts.{AreRising}
use Rattle.world_meaning.specs.Admissions.{AreKept}
use Rattle.world_meaning.specs.Tracks.{kept_without}
use Rattle.world_meaning.specs.Worlds.{Kept}
use Rattle.mount_core.specs.declared.place.KeptPlace.{KeptPlace}
use Rattle.mount_core.specs.Mounts.{MountedState}
use Rattle.shared_core.specs.Extents.{StaysKept}
use Rattle.shared_core.specs.LaidOut.{VolumesAreLaidOut}
use Rattle.shared_core.specs.Laws.{Follow}
use Rattle.shared_core.specs.Shown.{kept_extents, mounted_in}
use Rattle.shared_core.specs.Tracks.{kept_shown, kept_tracks}
use Rattle.shared_core.specs.declared.store.SharedStore.{SharedStore}
use Rattle.shared_core.proofs.Following.{stays_follow}
use Rattle.shared_core.proofs.ShownLists.{any_shown, each_shown}
use Rattle.place_core.specs.Keepings.{kept_in}
use Rattle.place_core.specs.Placings.{serials_of}
use Rattle.next_laws.specs.Next.{IsNextStore}
use Rattle.init_core.specs.Extents.{KeepsSome}
use Rattle.keep_laws.proofs.Elements.{all_left, has_passed, passes, some_passes, without_elements}
use Rattle.keep_laws.proofs.Places.{entry, same_keeping, there}
use Rattle.keep_laws.proofs.Rising.{same_lists}

abbrev is_of : ℕ → Kept → Bool
is_of job k = k.job == job

abbrev pub is_of_another : ℕ → Kept → Bool
is_of_another job k = not (k.job == job)

-- where extents follow what is kept for a job on a volume was kept for it before
kept_before : (job : ℕ) (o n : Option MountedState) → ((at : KeptPlace) → StaysKept (kept_extents o at) (kept_extents n at)) → (k : Kept) →
    Contains (kept_tracks n) k → is_of job k ≡ true → list_any (is_of job) (kept_tracks o) ≡ true
kept_before job o n stay k h of_job =
    All-contains (λ (x : Kept). list_any (is_of job) (kept_tracks o) ≡ true) (filter (is_of job) (kept_tracks n)) k
    (each_shown (λ x. list_any (is_of job) (kept_tracks o) ≡ true) (is_of job) n
    (λ at list is own. elim (stay at) [
      | inl same ↦ any_shown (is_of job) o at list (sym same ∙ is) own
      | inr gone ↦ let clash : Some list ≡ None = sym is ∙ gone in cc
    ]))
    (passes (is_of job) (kept_tracks n) k h of_job)

-- of what is left for others nothing is for the job
none_left : (job : ℕ) (xs : List Kept) → list_any (is_of job) (filter (is_of_another job) xs) ≡ true → ⊥
none_left job xs some =
    let found = some_passes (is_of job) (filter (is_of_another job) xs) some in
    both_ways (is_of_another job found.0) (ap not found.2) (has_passed (is_of_another job) xs found.0 found.1)

-- where extents follow, and all that is kept for a job is new, nothing is kept for it
module _ (job : ℕ) (old new : SharedStore) (follow : Follow old new) (without : kept_without (kept_shown new.volumes) job ≡ kept_shown old.volumes) where
  of_another : (serial : List ℕ) (k : Kept) → Contains (kept_shown new.volumes serial) k → is_of_another job k ≡ true
  of_another serial k h =
      elim (cases_Bool (is_of job k)) [
        | inl own ↦ absurd (none_left job (kept_shown new.volumes serial)
            (ap (λ (kept : List ℕ → List Kept). list_any (is_of job) (kept serial)) without
            ∙ kept_before job (mounted_in old.volumes serial) (mounted_in new.volumes serial) (follow serial).kept k h own))
        | inr other ↦ ap not other
      ]

  pub kept_as_before : kept_shown new.volumes ≡ kept_shown old.volumes
  kept_as_before = sym (λ i serial. all_left (is_of_another job) (kept_shown new.volumes serial) (of_another serial) i) ∙ without

  pub nothing_made : (plan : JobPlan) (made : List Place) → AreKept plan job made (kept_shown new.volumes) → made ≡ []
  nothing_made plan made are =
      without_elements made (λ p h.
      let found = entry (kept_shown new.volumes) job plan made are p h in
      both_ways (is_of_another job found.0) (ap not (eq-eqb found.0.job job found.2.of_job)) (of_another p.serial found.0 found.1))

-- a store is next to itself
pub itself : (old : SharedStore) → VolumesAreLaidOut old.volumes → IsNextStore old old
itself old laid_out = record { serials = refl; follow = stays_follow old; laid_out = laid_out }

-- where nothing is kept at an admission the store is as it was
pub as_it_was : (job : ℕ) (plan : JobPlan) (made : List Place) (old : SharedStore) → made ≡ [] →
    record old { volumes = (kept_in job plan made old.volumes).volumes } ≡ old
as_it_was job plan made old none = λ i. record old { volumes = (kept_in job plan (none i) old.volumes).volumes }

-- the primaries of a job are kept, whoever is said to have them
module _ (job : ℕ) (plan : JobPlan) (made : List Place) (old new : SharedStore) (some : KeepsSome old new)
    (rising : AreRising (serials_of old.volumes) made) (are : AreKept plan job made (kept_shown new.volumes))
    (without : kept_without (kept_shown new.volumes) job ≡ kept_shown old.volumes) where
  abbrev kept : List ℕ → List Kept
  kept = kept_shown new.volumes

  abbrev left : ℕ → JobPlan → List Place → SharedStore
  left j p places = record old { volumes = (kept_in j p places old.volumes).volumes }

  same_job : some.job ≡ job → left some.job some.plan some.made ≡ left job plan made
  same_job is =
      let theirs : AreKept some.plan job some.made kept = subst (λ (j : ℕ). AreKept some.plan j some.made kept) is some.keeps.kept in
      let places : some.made ≡ made = same_lists (serials_of old.volumes) some.made made some.rising rising
      (λ p h. (there kept job some.plan plan some.made made theirs are p h).0) (λ p h. (there kept job plan some.plan made some.made are theirs p h).0) in
      (λ i. left (is i) some.plan (places i))
      ∙ ap (λ volumes. record old { volumes = volumes.volumes })
      (same_keeping job plan some.plan made (λ p h. (there kept job plan some.plan made some.made are theirs p h).1) old.volumes)

  -- of two jobs neither has anything kept that is not for the other too
  no_place : (j other : ℕ) (p : JobPlan) (places : List Place) → j ≢ other → AreKept p j places kept → kept_without kept other ≡ kept_without kept j →
      places ≡ []
  no_place j other p places apart they same =
      without_elements places (λ at h.
      let found = entry kept j p places they at h in
      let out : Contains (kept_without kept other at.serial) found.0 = passes (is_of_another other) (kept at.serial) found.0 found.1
      (ap not (ne_eqb found.0.job other (λ is. apart (sym found.2.of_job ∙ is)))) in
      let within : Contains (kept_without kept j at.serial) found.0 =
      subst (λ (f : List ℕ → List Kept). Contains (f at.serial) found.0) same out in
      both_ways (is_of_another j found.0) (ap not (eq-eqb found.0.job j found.2.of_job)) (has_passed (is_of_another j) (kept at.serial) found.0 within))

  other_job : some.job ≢ job → left some.job some.plan some.made ≡ left job plan made
  other_job apart =
      let same : kept_without kept job ≡ kept_without kept some.job = without ∙ sym some.keeps.others in
      as_it_was some.job some.plan some.made old (no_place some.job job some.plan some.made apart some.keeps.kept same)
      ∙ sym (as_it_was job plan made old (no_place job some.job plan made (λ e. apart (sym e)) are (sym same)))

  pub some_kept : new ≡ left job plan made
  some_kept =
      some.keeps.volumes ∙ elim (cases_eq some.job job) [
        | inl is ↦ same_job is
        | inr apart ↦ other_job apart
      ]
