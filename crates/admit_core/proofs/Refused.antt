-- The volume that has no room is that of one of the places.
use Rattle.std.proofs.Common.{◌≡◌, ℕ, suc, Bool, true, false, cond, List, [], ◌∷◌, Some, arith, refl}
use Rattle.std.specs.List.{Contains}
use Rattle.std.proofs.lemmas.Option.{none-some, same_Some}
use Rattle.jcl_plan.specs.declared.plan.JobPlan.{JobPlan}
use Rattle.jcl_meaning.specs.declared.state.Place.{Place}
use Rattle.world_meaning.specs.Admissions.{asked_at}
use Rattle.mount_core.specs.Mounts.{MountedState}
use Rattle.shared_core.specs.Rooms.{kept_place}
use Rattle.shared_core.specs.Shown.{mounted_in}
use Rattle.place_core.specs.Keepings.{Keeping, keep_on, kept_in}
use Rattle.place_core.specs.Volumes.{changed_on, has_room}

-- one of the places, on this volume
pub record IsPlaceOn (places : List Place) (serial : List ℕ) : Type 0 where
  pub place : Place
  pub among : Contains places place
  pub there : place.serial ≡ serial

further : (p : Place) (places : List Place) (serial : List ℕ) → IsPlaceOn places serial → IsPlaceOn (p ∷ places) serial
further p places serial h = record { place = h.place; among = (suc h.among.0, omega (arith, h.among.1), h.among.2); there = h.there }

by_room : (b : Bool) (p : Place) (places : List Place) (volumes : List MountedState) (behind : Keeping) (serial : List ℕ) →
    (behind.refused ≡ Some serial → IsPlaceOn places serial) →
    (cond b behind (record { volumes = volumes; refused = Some p.serial })).refused ≡ Some serial → IsPlaceOn (p ∷ places) serial
by_room true p places volumes behind serial more e = further p places serial (more e)
by_room false p places volumes behind serial more e =
    record { place = p; among = (0, omega arith, refl); there = same_Some p.serial serial e }

pub refused_place : (job : ℕ) (plan : JobPlan) (places : List Place) (volumes : List MountedState) (serial : List ℕ) →
    (kept_in job plan places volumes).refused ≡ Some serial → IsPlaceOn places serial
refused_place job plan [] volumes serial e = absurd (none-some serial e)
refused_place job plan (p ∷ places) volumes serial e =
    let behind : List MountedState = changed_on (keep_on (kept_place job p) (asked_at plan p)) p.serial volumes in
    by_room (has_room (asked_at plan p) (mounted_in volumes p.serial)) p places volumes (kept_in job plan places behind) serial
    (refused_place job plan places behind serial) e
