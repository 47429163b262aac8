-- The answer of a store on which the taking of a DD depends: whether it grants the primary of a set that is to be made.
use Rattle.std.specs.Prelude.{◌≡◌, ℕ, Bool, true, List, [], ◌∷◌, Option, Some, None}
use Rattle.jname_core.specs.declared.key.Key.{Key}
use Rattle.jcl_plan.specs.declared.fault.Fault.{Fault}
use Rattle.jcl_plan.specs.declared.plan.DdKind.{DdKind}
use Rattle.jcl_plan.specs.declared.plan.DdKind.TheVariants.{Sysout, Dummy, Cards, Set}
use Rattle.jcl_plan.specs.declared.plan.SetPlan.{SetPlan}
use Rattle.jcl_meaning.specs.declared.state.Own.{Own}
use Rattle.jcl_meaning.specs.declared.state.Place.{Place}
use Rattle.jcl_meaning.specs.declared.state.Resolution.{Resolution}
use Rattle.jcl_meaning.specs.declared.state.Resolution.TheVariants.{Means, Fails}
use Rattle.jcl_meaning.specs.Resolutions.{meaning_at}
use Rattle.jcl_meaning.specs.States.{Answers, Done, Fixed, State}
use Rattle.jcl_meaning.specs.Stores.{Store}
use Rattle.jcl_meaning.specs.Takes.{looked_at, primary_of}
use Rattle.store_core.specs.Actions.{state_at}
use Rattle.disp_core.specs.Courses.{Does}
use Rattle.disp_core.specs.Takings.{target_in}
use Rattle.disp_core.specs.declared.course.Course.{Course}

-- of a set on the volume that is looked at, if there is one
abbrev pub granted_on : (Place → ℕ → Bool) → ℕ → ℕ → SetPlan → Option (List ℕ) → Bool
granted_on grants n dd p None = true
granted_on grants n dd p (Some serial) = grants (record { step = n; dd = dd; serial = serial }) (primary_of p.space)

-- where a DD goes for a set
abbrev pub granted_by : (Key → Place → ℕ → Bool) → Fixed → ℕ → ℕ → SetPlan → Store → Own → Resolution → Bool
granted_by grants fixed n dd p seen own (Fails fault) = true
granted_by grants fixed n dd p seen own (Means key) = granted_on (grants key) n dd p (looked_at (target_in fixed n dd p key seen own))

abbrev pub primary_granted : (Key → Place → ℕ → Bool) → Fixed → ℕ → ℕ → DdKind → Store → Own → Bool
primary_granted grants fixed n dd (Sysout class) seen own = true
primary_granted grants fixed n dd Dummy seen own = true
primary_granted grants fixed n dd (Cards cards) seen own = true
primary_granted grants fixed n dd (Set p) seen own = granted_by grants fixed n dd p seen own (meaning_at fixed.meanings n dd)

-- an action was carried out whatever answers are left, where the answer to its primary is this
abbrev pub CarriedWith : Bool → (State → Done) → Store → Course → Store → Course → Option Fault → List Place → Type 0
CarriedWith primary action old before new after meets made =
    (answers : Answers) → answers.primary ≡ primary → Does (action (state_at old before.own answers)) new after before answers meets made

abbrev pub made_of : Option Place → List Place
made_of None = []
made_of (Some place) = place ∷ []
