-- Where a job's sets are placed, DD by DD: each on the first volume of its unit that has room for its primary once those of the DDs before it are set
-- aside. (GC28-6704, UNIT and VOLUME parameters; this profile)
use Rattle.std.specs.Prelude.{◌≡◌, ℕ, ◌+◌, ◌<◌, ◌≤◌, ◌==◌, ◌⊎◌, List, [], ◌∷◌, ◌++◌, map, Option, Some, None, if◌then◌else◌}
use Rattle.jcl_plan.specs.declared.plan.DdKind.{DdKind}
use Rattle.jcl_plan.specs.declared.plan.DdKind.TheVariants.{Cards, Dummy, Set, Sysout}
use Rattle.jcl_plan.specs.declared.plan.DdPlan.{DdPlan}
use Rattle.jcl_plan.specs.declared.plan.JobPlan.{JobPlan}
use Rattle.jcl_plan.specs.declared.plan.StepPlan.{StepPlan}
use Rattle.jcl_plan.specs.declared.plan.VolumePlan.{VolumePlan}
use Rattle.jcl_plan.specs.declared.plan.VolumePlan.TheVariants as volume
use Rattle.jcl_meaning.specs.declared.state.Place.{Place}
use Rattle.world_meaning.specs.Admissions.{primary_asked}
use Rattle.world_meaning.specs.Placements.{ArePlaces, places, unit_volumes}
use Rattle.world_meaning.specs.Worlds.{Config}
use Rattle.mount_core.specs.declared.place.KeptPlace.{KeptPlace}
use Rattle.mount_core.specs.Mounts.{MountedState}
use Rattle.shared_core.specs.declared.store.SharedStore.{SharedStore}
use Rattle.shared_core.specs.Shown.{kept_extents, mounted_in}
use Rattle.place_core.specs.Volumes.{aside_at, has_room}

-- the volumes on which a DD's set may be placed, of those that are listed for its unit: a volume that is coded alone, and none where VOL is a reference
abbrev pub candidates : VolumePlan → List (List ℕ) → List (List ℕ)
candidates volume.NotCoded listed = listed
candidates (volume.Serial serial) listed = serial ∷ []
candidates (volume.OfName name) listed = []
candidates (volume.OfDd step dd) listed = []

-- the volumes on which the set of a DD may be placed; none where the DD makes no set
abbrev pub volumes_for : List (List ℕ) → List (List (List ℕ)) → DdKind → List (List ℕ)
volumes_for all units (Sysout class) = []
volumes_for all units Dummy = []
volumes_for all units (Cards cards) = []
volumes_for all units (Set p) = if places p.status p.volume then candidates p.volume (unit_volumes all units p.units) else []

-- the first of these volumes that has room, or else another
abbrev pub first_with_room : List MountedState → ℕ → List ℕ → List (List ℕ) → List ℕ
first_with_room volumes n other [] = other
first_with_room volumes n other (serial ∷ serials) =
    if has_room n (mounted_in volumes serial) then serial else first_with_room volumes n other serials

-- the volume of a set: the first that has room, or else the first, also where no tracks are asked for
abbrev pub chosen : List MountedState → ℕ → List (List ℕ) → Option (List ℕ)
chosen volumes n [] = None
chosen volumes n (first ∷ serials) = Some (if n == 0 then first else first_with_room volumes n first (first ∷ serials))

-- the volumes with what is set aside on them, and the places so far
pub record Placing : Type 0 where
  pub volumes : List MountedState
  pub places : List Place

abbrev pub placing : List MountedState → List Place → Placing
placing volumes places = record { volumes = volumes; places = places }

abbrev pub ArePlaced : Placing → List MountedState → List Place → Type 0
ArePlaced p volumes places = (volumes ≡ p.volumes) × (places ≡ p.places)

abbrev pub spot : Option (List ℕ) → KeptPlace → List Place
spot None at = []
spot (Some serial) at = record { step = at.step; dd = at.dd; serial = serial } ∷ []

abbrev pub placed_on : Option (List ℕ) → KeptPlace → ℕ → Placing → Placing
placed_on serial at n p = record { volumes = aside_at serial at n p.volumes; places = p.places ++ spot serial at }

abbrev pub placed_among : List (List ℕ) → KeptPlace → ℕ → Placing → Placing
placed_among serials at n p = placed_on (chosen p.volumes n serials) at n p

abbrev pub placed_dd : List (List ℕ) → List (List (List ℕ)) → KeptPlace → DdKind → Placing → Placing
placed_dd all units at kind p = placed_among (volumes_for all units kind) at (primary_asked (Some kind)) p

abbrev pub placed_dds : List (List ℕ) → List (List (List ℕ)) → ℕ → ℕ → ℕ → List DdPlan → Placing → Placing
placed_dds all units job step dd [] p = p
placed_dds all units job step dd (d ∷ ds) p =
    placed_dds all units job step (dd + 1) ds (placed_dd all units (record { job = job; step = step; dd = dd }) d.kind p)

abbrev pub placed_steps : List (List ℕ) → List (List (List ℕ)) → ℕ → ℕ → List StepPlan → Placing → Placing
placed_steps all units job n [] p = p
placed_steps all units job n (step ∷ steps) p = placed_steps all units job (n + 1) steps (placed_dds all units job n 1 step.dds p)

abbrev pub serials_of : List MountedState → List (List ℕ)
serials_of volumes = map (λ m. m.serial) volumes

-- the places of a job's sets, on these volumes and with these lists of volumes for the unit names
abbrev pub placed : List MountedState → List (List (List ℕ)) → ℕ → JobPlan → List Place
placed volumes units job plan = (placed_steps (serials_of volumes) units job 1 plan.steps (placing volumes [])).places

-- each DD that makes a set is placed among the volumes that are configured for it
abbrev pub SetsArePlacedAsConfigured : Type 0
SetsArePlacedAsConfigured = (c : Config) (volumes : List MountedState) (job : ℕ) (plan : JobPlan) → c.volumes ≡ serials_of volumes →
    ArePlaces c plan (placed volumes c.units job plan)

-- a place of a job's step and DD, or behind that
abbrev pub IsAhead : ℕ → ℕ → ℕ → KeptPlace → Type 0
IsAhead job step dd at = (at.job ≡ job) × ((step < at.step) ⊎ ((at.step ≡ step) × (dd ≤ at.dd)))

-- nothing is set aside there
abbrev pub IsClearFrom : List MountedState → ℕ → ℕ → ℕ → Type 0
IsClearFrom volumes job step dd = (serial : List ℕ) (at : KeptPlace) → IsAhead job step dd at → kept_extents (mounted_in volumes serial) at ≡ None

-- no tracks are kept for a job
abbrev pub NothingKeptFor : ℕ → SharedStore → Type 0
NothingKeptFor job s = (serial : List ℕ) (at : KeptPlace) → at.job ≡ job → kept_extents (mounted_in s.volumes serial) at ≡ None
