-- Of a job whose primaries are kept the places, and how many tracks each asks for, are seen in what is kept.
use Rattle.std.proofs.Common.{◌≡◌, ◌==◌, ◌&&◌, ℕ, List, [], ◌∷◌, Some, cond, true, refl, sym, ap, ◌∙◌, subst, eqb-true}
use Rattle.std.specs.List.{Contains}
use Rattle.std.specs.Str.{bytes_eq}
use Rattle.std.proofs.lemmas.Bool.{and_parts, eq-eqb}
use Rattle.std.proofs.lemmas.List.Elements.{All-contains}
use Rattle.jcl_plan.specs.declared.plan.JobPlan.{JobPlan}
use Rattle.jcl_meaning.specs.declared.state.Place.{Place}
use Rattle.world_meaning.specs.Admissions.{AreKept, IsKeptAt, asked_at}
use Rattle.world_meaning.specs.Tracks.{is_kept_for, kept_of}
use Rattle.world_meaning.specs.Worlds.{Kept}
use Rattle.mount_core.specs.Mounts.{MountedState}
use Rattle.shared_core.specs.Shown.{mounted_in}
use Rattle.shared_core.specs.Rooms.{kept_place}
use Rattle.place_core.specs.Keepings.{Keeping, keep_on, kept_in}
use Rattle.place_core.specs.Volumes.{changed_on, has_room}
use Rattle.keep_laws.proofs.Elements.{in_front, later_too, passes, some_passes}

-- an entry for a place of a job
pub record IsFor (job : ℕ) (p : Place) (k : Kept) : Type 0 where
  pub of_job : k.job ≡ job
  pub of_step : k.step ≡ p.step
  pub of_dd : k.dd ≡ p.dd

is_for : (job : ℕ) (p : Place) (k : Kept) → is_kept_for job p p.serial k ≡ true → IsFor job p k
is_for job p k e =
    let a = and_parts ((k.job == job) && (k.step == p.step) && (k.dd == p.dd)) (bytes_eq p.serial p.serial) e in
    let b = and_parts ((k.job == job) && (k.step == p.step)) (k.dd == p.dd) a.0 in
    let c = and_parts (k.job == job) (k.step == p.step) b.0 in
    record { of_job = eqb-true k.job job c.0; of_step = eqb-true k.step p.step c.1; of_dd = eqb-true k.dd p.dd b.1 }

place_is : (job : ℕ) (p : Place) (k : Kept) → IsFor job p k → record { step = k.step; dd = k.dd; serial = p.serial } ≡ p
place_is job p k f = λ i. record { step = f.of_step i; dd = f.of_dd i; serial = p.serial }

module _ (kept : List ℕ → List Kept) (job : ℕ) (plan : JobPlan) (made : List Place) (are : AreKept plan job made kept) where
  -- each place has its entry, and each entry of the job its place
  pub entry : (p : Place) → Contains made p → (k : Kept) × Contains (kept p.serial) k × IsFor job p k
  entry p h = let found = some_passes (is_kept_for job p p.serial) (kept p.serial) (are.all p h) in (found.0, found.1, is_for job p found.0 found.2)

  founded : (serial : List ℕ) (k : Kept) → Contains (kept serial) k → k.job ≡ job → IsKeptAt plan made serial k
  founded serial k h e =
      All-contains (IsKeptAt plan made serial) (kept_of job kept serial) k (are.founded serial)
      (passes (λ (x : Kept). x.job == job) (kept serial) k h (eq-eqb k.job job e))

-- two lists of places for one job
module _ (kept : List ℕ → List Kept) (job : ℕ) (plan other : JobPlan) (made more : List Place) (are : AreKept plan job made kept)
    (too : AreKept other job more kept) where
  pub there : (p : Place) → Contains made p → Contains more p × (asked_at other p ≡ asked_at plan p)
  there p h =
      let found = entry kept job plan made are p h in
      let here = founded kept job plan made are p.serial found.0 found.1 found.2.of_job in
      let also = founded kept job other more too p.serial found.0 found.1 found.2.of_job in
      let is = place_is job p found.0 found.2 in (
        subst (Contains more) is also.place,
        ap (asked_at other) (sym is) ∙ sym also.tracks ∙ here.tracks ∙ ap (asked_at plan) is,
      )

-- what is kept depends on the plan in what the places ask for alone
pub same_keeping : (job : ℕ) (plan other : JobPlan) (places : List Place) → ((p : Place) → Contains places p → asked_at other p ≡ asked_at plan p) →
    (volumes : List MountedState) → kept_in job other places volumes ≡ kept_in job plan places volumes
same_keeping job plan other [] asked volumes = refl
same_keeping job plan other (p ∷ places) asked volumes =
    let n : asked_at other p ≡ asked_at plan p = asked p (in_front p places) in
    let next : List MountedState = changed_on (keep_on (kept_place job p) (asked_at plan p)) p.serial volumes in
    (λ i. cond (has_room (n i) (mounted_in volumes p.serial))
    (kept_in job other places (changed_on (keep_on (kept_place job p) (n i)) p.serial volumes))
    (record { volumes = volumes; refused = Some p.serial }))
    ∙ ap (λ (k : Keeping). cond (has_room (asked_at plan p) (mounted_in volumes p.serial)) k (record { volumes = volumes; refused = Some p.serial }))
    (same_keeping job plan other places (λ q h. asked q (later_too p q places h)) next)
