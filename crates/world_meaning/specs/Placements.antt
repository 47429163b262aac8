-- Where the sets that a job may make are placed. (GC28-6704, UNIT and VOLUME parameters; this profile)
use Rattle.std.specs.Prelude.{◌≡◌, ℕ, ◌+◌, ◌-◌, Bool, true, false, List, [], ◌∷◌, ◌++◌, Option, Some, None, slice_index_or}
use Rattle.std.specs.List.{Contains}
use Rattle.jcl_plan.specs.declared.plan.DdKind.{DdKind}
use Rattle.jcl_plan.specs.declared.plan.DdKind.TheVariants.{Cards, Dummy, Set, Sysout}
use Rattle.jcl_plan.specs.declared.plan.DdPlan.{DdPlan}
use Rattle.jcl_plan.specs.declared.plan.JobPlan.{JobPlan}
use Rattle.jcl_plan.specs.declared.plan.SetPlan.{SetPlan}
use Rattle.jcl_plan.specs.declared.plan.Status.{Status}
use Rattle.jcl_plan.specs.declared.plan.Status.TheVariants as status
use Rattle.jcl_plan.specs.declared.plan.StepPlan.{StepPlan}
use Rattle.jcl_plan.specs.declared.plan.VolumePlan.{VolumePlan}
use Rattle.jcl_plan.specs.declared.plan.VolumePlan.TheVariants as volume
use Rattle.jcl_meaning.specs.declared.state.Place.{Place}
use Rattle.world_meaning.specs.Worlds.{Config}

-- the volumes of a unit name; without one all, as configured
abbrev pub unit_volumes : List (List ℕ) → List (List (List ℕ)) → Option ℕ → List (List ℕ)
unit_volumes volumes units None = volumes
unit_volumes volumes units (Some n) = slice_index_or units (n - 1) []

-- a DD with NEW is placed, and one with MOD that has no VOL
abbrev pub places : Status → VolumePlan → Bool
places status.New v = true
places status.Old v = false
places status.Shr v = false
places status.Mod volume.NotCoded = true
places status.Mod (volume.Serial serial) = false
places status.Mod (volume.OfName name) = false
places status.Mod (volume.OfDd step dd) = false

-- on one of the volumes of its unit, if there are any; on the volume that is coded; where VOL is a reference there is no place
pub data PlacedAmong (volumes : List (List ℕ)) (step dd : ℕ) (here : List Place) : Type 0 where
  nowhere : volumes ≡ [] → here ≡ [] → PlacedAmong volumes step dd here
  among : (serial : List ℕ) → Contains volumes serial → here ≡ record { step = step; dd = dd; serial = serial } ∷ [] → PlacedAmong volumes step dd here

abbrev pub PlacedBy : VolumePlan → List (List ℕ) → ℕ → ℕ → List Place → Type 0
PlacedBy volume.NotCoded volumes step dd here = PlacedAmong volumes step dd here
PlacedBy (volume.Serial serial) volumes step dd here = here ≡ record { step = step; dd = dd; serial = serial } ∷ []
PlacedBy (volume.OfName name) volumes step dd here = here ≡ []
PlacedBy (volume.OfDd s d) volumes step dd here = here ≡ []

abbrev pub PlacedIf : Bool → Config → ℕ → ℕ → SetPlan → List Place → Type 0
PlacedIf true c step dd p here = PlacedBy p.volume (unit_volumes c.volumes c.units p.units) step dd here
PlacedIf false c step dd p here = here ≡ []

abbrev pub PlacedDd : Config → ℕ → ℕ → DdKind → List Place → Type 0
PlacedDd c step dd (Sysout class) here = here ≡ []
PlacedDd c step dd Dummy here = here ≡ []
PlacedDd c step dd (Cards cards) here = here ≡ []
PlacedDd c step dd (Set p) here = PlacedIf (places p.status p.volume) c step dd p here

-- the places of a job's DDs, in their order
abbrev pub PlacedDds : Config → ℕ → ℕ → List DdPlan → List Place → Type 0
PlacedDds c step dd [] all = all ≡ []
PlacedDds c step dd (d ∷ ds) all = (here : List Place) × (behind : List Place) × (all ≡ here ++ behind)
    × PlacedDd c step dd d.kind here × PlacedDds c step (dd + 1) ds behind

abbrev pub PlacedSteps : Config → ℕ → List StepPlan → List Place → Type 0
PlacedSteps c n [] all = all ≡ []
PlacedSteps c n (step ∷ steps) all = (here : List Place) × (behind : List Place) × (all ≡ here ++ behind)
    × PlacedDds c n 1 step.dds here × PlacedSteps c (n + 1) steps behind

abbrev pub ArePlaces : Config → JobPlan → List Place → Type 0
ArePlaces c plan all = PlacedSteps c 1 plan.steps all
