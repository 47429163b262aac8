-- There are places for the sets of any plan.
use Rattle.std.proofs.Common.{◌+◌, ◌++◌, ℕ, Bool, true, false, List, [], ◌∷◌, refl}
use Rattle.jcl_plan.specs.declared.plan.DdKind.{DdKind}
use Rattle.jcl_plan.specs.declared.plan.DdKind.TheVariants.{Cards, Dummy, Set, Sysout}
use Rattle.jcl_plan.specs.declared.plan.DdPlan.{DdPlan}
use Rattle.jcl_plan.specs.declared.plan.JobPlan.{JobPlan}
use Rattle.jcl_plan.specs.declared.plan.SetPlan.{SetPlan}
use Rattle.jcl_plan.specs.declared.plan.StepPlan.{StepPlan}
use Rattle.jcl_plan.specs.declared.plan.VolumePlan.{VolumePlan}
use Rattle.jcl_plan.specs.declared.plan.VolumePlan.TheVariants as volume
use Rattle.jcl_meaning.specs.declared.state.Place.{Place}
use Rattle.world_meaning.specs.Placements.{ArePlaces, PlacedAmong, PlacedBy, PlacedDd, PlacedDds, PlacedIf, PlacedSteps, among, nowhere, places, unit_volumes}
use Rattle.world_meaning.specs.Worlds.{Config}
use Rattle.law_core.proofs.Elements.{contains_first}

-- some list
abbrev SomeList : (List Place → Type 0) → Type 0
SomeList P = (here : List Place) × P here

placed_among : (volumes : List (List ℕ)) (step dd : ℕ) → SomeList (PlacedAmong volumes step dd)
placed_among [] step dd = ([], nowhere refl refl)
placed_among (v ∷ vs) step dd = (record { step = step; dd = dd; serial = v } ∷ [], among v (contains_first v vs) refl)

placed_by : (v : VolumePlan) (volumes : List (List ℕ)) (step dd : ℕ) → SomeList (PlacedBy v volumes step dd)
placed_by volume.NotCoded volumes step dd = placed_among volumes step dd
placed_by (volume.Serial serial) volumes step dd = (record { step = step; dd = dd; serial = serial } ∷ [], refl)
placed_by (volume.OfName name) volumes step dd = ([], refl)
placed_by (volume.OfDd s d) volumes step dd = ([], refl)

placed_if : (b : Bool) (c : Config) (step dd : ℕ) (p : SetPlan) → SomeList (PlacedIf b c step dd p)
placed_if true c step dd p = placed_by p.volume (unit_volumes c.volumes c.units p.units) step dd
placed_if false c step dd p = ([], refl)

placed_dd : (c : Config) (step dd : ℕ) (kind : DdKind) → SomeList (PlacedDd c step dd kind)
placed_dd c step dd (Sysout class) = ([], refl)
placed_dd c step dd Dummy = ([], refl)
placed_dd c step dd (Cards cards) = ([], refl)
placed_dd c step dd (Set p) = placed_if (places p.status p.volume) c step dd p

placed_dds : (c : Config) (step dd : ℕ) (ds : List DdPlan) → SomeList (PlacedDds c step dd ds)
placed_dds c step dd [] = ([], refl)
placed_dds c step dd (d ∷ ds) =
    let here : SomeList (PlacedDd c step dd d.kind) = placed_dd c step dd d.kind in
    let behind : SomeList (PlacedDds c step (dd + 1) ds) = placed_dds c step (dd + 1) ds in
    (here.0 ++ behind.0, (here.0, behind.0, refl, here.1, behind.1))

placed_steps : (c : Config) (n : ℕ) (steps : List StepPlan) → SomeList (PlacedSteps c n steps)
placed_steps c n [] = ([], refl)
placed_steps c n (step ∷ steps) =
    let here : SomeList (PlacedDds c n 1 step.dds) = placed_dds c n 1 step.dds in
    let behind : SomeList (PlacedSteps c (n + 1) steps) = placed_steps c (n + 1) steps in
    (here.0 ++ behind.0, (here.0, behind.0, refl, here.1, behind.1))

pub placed : (c : Config) (plan : JobPlan) → (here : List Place) × ArePlaces c plan here
placed c plan = placed_steps c 1 plan.steps
