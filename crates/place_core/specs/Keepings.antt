-- Where a job's primaries are kept: for each of its places in turn the primary of its DD, on its volume, until one has no room. And what was kept for a
-- job given back. (This profile)
use Rattle.std.specs.Prelude.{◌≡◌, ℕ, ◌==◌, ◌&&◌, true, Bool, List, [], ◌∷◌, map, Option, Some, None, All, if◌then◌else◌}
use Rattle.std.specs.FinMap.{get}
use Rattle.std.specs.Str.{bytes_eq}
use Rattle.jcl_plan.specs.declared.plan.JobPlan.{JobPlan}
use Rattle.jcl_meaning.specs.declared.state.Place.{Place}
use Rattle.plain.specs.Lists.{all_different}
use Rattle.vtoc_core.specs.Extents.{free_extents, planned}
use Rattle.world_meaning.specs.Admissions.{AreKept, asked_at}
use Rattle.world_meaning.specs.Tracks.{kept_without}
use Rattle.mount_core.specs.declared.place.KeptPlace.{KeptPlace}
use Rattle.mount_core.specs.Mounts.{MountedState, unusable_at}
use Rattle.shared_core.specs.declared.store.SharedStore.{SharedStore}
use Rattle.shared_core.specs.Laws.{Follow}
use Rattle.shared_core.specs.Rooms.{all_tracks, kept_place, room_of}
use Rattle.shared_core.specs.Shown.{kept_extents, mounted_in, world_store_of}
use Rattle.shared_core.specs.Tracks.{kept_shown}
use Rattle.place_core.specs.Volumes.{aside_by, changed_on, has_room}

-- so many tracks kept at a place on a volume that has room for them
abbrev pub keep_on : KeptPlace → ℕ → MountedState → MountedState
keep_on at n m = aside_by (planned (free_extents m.volume.tracks) n) at m

-- the volumes with what is kept on them, and the serial of the first that had no room
pub record Keeping : Type 0 where
  pub volumes : List MountedState
  pub refused : Option (List ℕ)

abbrev pub kept_in : ℕ → JobPlan → List Place → List MountedState → Keeping
kept_in job plan [] volumes = record { volumes = volumes; refused = None }
kept_in job plan (p ∷ places) volumes =
    if has_room (asked_at plan p) (mounted_in volumes p.serial)
    then kept_in job plan places (changed_on (keep_on (kept_place job p) (asked_at plan p)) p.serial volumes)
    else record { volumes = volumes; refused = Some p.serial }

-- no place stands twice
abbrev pub is_same_spot : Place → Place → Bool
is_same_spot a b = a.step == b.step && a.dd == b.dd && bytes_eq a.serial b.serial

abbrev pub AreApart : List Place → Type 0
AreApart places = all_different is_same_spot places ≡ true

-- nothing is kept for a job at these places
abbrev pub AreClearFor : List MountedState → ℕ → List Place → Type 0
AreClearFor volumes job places = All (λ p. kept_extents (mounted_in volumes p.serial) (kept_place job p) ≡ None) places

-- Beside what was kept for others, the primary of each of these places is kept for a job, in their order; sets, catalog and the tracks that volumes have
-- in all stay.
pub record KeepsAll (job : ℕ) (plan : JobPlan) (places : List Place) (old new : SharedStore) : Type 0 where
  pub others : kept_without (kept_shown new.volumes) job ≡ kept_shown old.volumes
  pub kept : AreKept plan job places (kept_shown new.volumes)
  pub store : world_store_of new ≡ world_store_of old
  pub rooms : map room_of new.volumes ≡ map room_of old.volumes
  pub volumes : new ≡ record old { volumes = (kept_in job plan places old.volumes).volumes }

-- Nothing is kept for a job on a volume any more: what is kept for others, its sets and how many tracks it has in all stay.
pub record IsGivenBackOn (job : ℕ) (old new : MountedState) : Type 0 where
  pub kept : (at : KeptPlace) → get new.kept at ≡ if at.job == job then None else get old.kept at
  pub sets : new.volume.sets ≡ old.volume.sets
  pub serial : new.serial ≡ old.serial
  pub all : all_tracks new.volume.tracks ≡ all_tracks old.volume.tracks
  pub unusable : (n : ℕ) → unusable_at new.volume.tracks n ≡ unusable_at old.volume.tracks n

-- Nothing is kept for a job any more; sets, catalog and the tracks that volumes have in all stay.
pub record GivesBackAll (job : ℕ) (old new : SharedStore) : Type 0 where
  pub kept : kept_shown new.volumes ≡ kept_without (kept_shown old.volumes) job
  pub store : world_store_of new ≡ world_store_of old
  pub rooms : map room_of new.volumes ≡ map room_of old.volumes
  pub follow : Follow old new
