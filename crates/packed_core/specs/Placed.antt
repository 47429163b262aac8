-- Where the scenes behind a part stand to which those before it lead.
use Rattle.std.specs.Prelude.{◌≡◌, ◌⊎◌, ℕ, ◌+◌, Bool, true, false, List, ◌∷◌, Ok, Err, Option, Result, Some, IfOk, OnOk, drop, slice_get}
use Rattle.jcl_plan.specs.declared.outcome.Abend.TheVariants.{User}
use Rattle.jcl_plan.specs.declared.outcome.Outcome.{Outcome}
use Rattle.jcl_plan.specs.declared.outcome.Outcome.TheVariants as outcome
use Rattle.jcl_plan.specs.declared.plan.JobPlan.{JobPlan}
use Rattle.jcl_plan.specs.declared.plan.StepPlan.{StepPlan}
use Rattle.jcl_meaning.specs.States.{Fixed}
use Rattle.view_domain.specs.declared.crossed.Stop.{Stop}
use Rattle.view_core.specs.declared.scene.Scene.{Scene}
use Rattle.view_core.specs.Legs.{HasEnded, HasMade, HasStopped}
use Rattle.packed_core.specs.declared.placed.Known.{Known}
use Rattle.packed_core.specs.declared.placed.Placed.{Placed}
use Rattle.packed_core.specs.declared.placed.Placed.TheVariants as placed
use Rattle.packed_core.specs.Scenes.{HasScene, HasSceneFrom}

-- the number of a scene that shows the same as the one that a step leaves, or the fault that it meets
abbrev pub StandsIn : JobPlan → ℕ → ℕ → List Scene → Result Scene Stop → Result ℕ Stop → Type 0
StandsIn plan date k scenes (Ok scene) (Ok n) = HasScene plan date k scenes scene n
StandsIn plan date k scenes (Ok scene) (Err stop) = ⊥
StandsIn plan date k scenes (Err stop) (Ok n) = ⊥
StandsIn plan date k scenes (Err stop) (Err other) = other ≡ stop

-- where the step behind a part stands that ended so
pub record HasPlaced (plan : JobPlan) (fixed : Fixed) (k : ℕ) (behind : List Scene) (step : StepPlan) (scene : Scene) (abend : Bool) (outcome : Outcome)
    (number : Result ℕ Stop) : Type 0 where
  pub end : Result Scene Stop
  pub ended : HasEnded fixed (k + 1) step scene abend outcome end
  pub stands : StandsIn plan fixed.date (k + 1) behind end number

abbrev pub ArePlaced : JobPlan → Fixed → ℕ → List Scene → StepPlan → Scene → Bool → Placed → Type 0
ArePlaced plan fixed k behind step scene abend (placed.Refused stop) = HasStopped fixed (k + 1) step scene abend stop
ArePlaced plan fixed k behind step scene abend (placed.Ended made by_code by_abend) = HasMade fixed (k + 1) step scene abend made
    × HasPlaced plan fixed k behind step scene abend (outcome.Code 0) by_code
    × HasPlaced plan fixed k behind step scene abend (outcome.Abend (User 0)) by_abend

-- the same of the step of a part
abbrev pub IsPlacedAt : JobPlan → Fixed → ℕ → List Scene → Scene → Bool → Placed → Type 0
IsPlacedAt plan fixed k behind scene abend it = (step : StepPlan) (later : List StepPlan) → drop k plan.steps ≡ step ∷ later →
    ArePlaced plan fixed k behind step scene abend it

-- what a step comes to on the scene with this number before the part
abbrev pub ArePlacedFrom : JobPlan → Fixed → ℕ → List Scene → List Scene → StepPlan → ℕ → Bool → Placed → Type 0
ArePlacedFrom plan fixed k before behind step n abend it = (scene : Scene) → slice_get before n ≡ Some scene →
    ArePlaced plan fixed k behind step scene abend it

-- the same of the step of a part
abbrev pub IsPlacedFrom : JobPlan → Fixed → ℕ → List Scene → List Scene → ℕ → Bool → Placed → Type 0
IsPlacedFrom plan fixed k before behind n abend it = (scene : Scene) → slice_get before n ≡ Some scene → IsPlacedAt plan fixed k behind scene abend it

-- what a step comes to is said once more
abbrev pub IsPlacedAgain : {E : Type 0} → Placed → Result Placed E → Type 0
IsPlacedAgain it result = (plan : JobPlan) (fixed : Fixed) (k : ℕ) (behind : List Scene) (step : StepPlan) (scene : Scene) (abend : Bool) →
    ArePlaced plan fixed k behind step scene abend it → IfOk result (ArePlaced plan fixed k behind step scene abend)

-- What is known is so: the number of a scene behind a step that does not run, and what the step comes to that runs.
pub record AreKnown (plan : JobPlan) (fixed : Fixed) (k : ℕ) (before behind : List Scene) (known : Known) : Type 0 where
  pub idle : (n : ℕ) (scene : Scene) (number : ℕ) → slice_get before n ≡ Some scene → slice_get known.idle.items n ≡ Some (Some number) →
      HasScene plan fixed.date (k + 1) behind scene number
  pub calm : (n : ℕ) (scene : Scene) (it : Placed) → slice_get before n ≡ Some scene → slice_get known.calm.items n ≡ Some (Some it) →
      IsPlacedAt plan fixed k behind scene false it
  pub abended : (n : ℕ) (scene : Scene) (it : Placed) → slice_get before n ≡ Some scene → slice_get known.abended.items n ≡ Some (Some it) →
      IsPlacedAt plan fixed k behind scene true it

-- What is known stays so where this is noted of a scene: its number behind a step that does not run,
abbrev pub NotesIdle : {T E : Type 0} → ℕ → ℕ → Known → Result T E → Known → Type 0
NotesIdle n number old result new = (plan : JobPlan) (fixed : Fixed) (k : ℕ) (before behind : List Scene) → AreKnown plan fixed k before behind old →
    HasSceneFrom plan fixed.date (k + 1) before behind n number → OnOk result (AreKnown plan fixed k before behind new)

-- or what a step comes to that runs.
abbrev pub NotesPlaced : {T E : Type 0} → ℕ → Bool → Placed → Known → Result T E → Known → Type 0
NotesPlaced n abend it old result new = (plan : JobPlan) (fixed : Fixed) (k : ℕ) (before behind : List Scene) → AreKnown plan fixed k before behind old →
    IsPlacedFrom plan fixed k before behind n abend it → OnOk result (AreKnown plan fixed k before behind new)

-- nothing is noted but what was
abbrev pub HasNoMore : {X : Type 0} → List (Option X) → List (Option X) → Type 0
HasNoMore old new = (i : ℕ) (y : _) → slice_get new i ≡ Some (Some y) → slice_get old i ≡ Some (Some y)

-- and this at its place
abbrev pub HasPut : {X : Type 0} → List (Option X) → List (Option X) → ℕ → X → Type 0
HasPut old new n x = (i : ℕ) (y : _) → slice_get new i ≡ Some (Some y) → (slice_get old i ≡ Some (Some y)) ⊎ ((i ≡ n) × (y ≡ x))
