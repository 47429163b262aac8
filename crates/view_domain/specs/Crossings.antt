-- What a domain of views says of a part of a job's path: of every state with the view, and of every outcome. (This profile)
use Rattle.std.specs.Prelude.{◌≡◌, ◌≤◌, ℕ, ◌+◌, Bool, true, false, List, [], ◌∷◌, ◌++◌, drop, length, map, slice_get, Some, All, Contains}
use Rattle.jcl_plan.specs.declared.fault.Fault.{Fault}
use Rattle.jcl_plan.specs.declared.outcome.Fate.{Fate}
use Rattle.jcl_plan.specs.declared.outcome.Fate.TheVariants.{Run, Bypassed, Flushed}
use Rattle.jcl_plan.specs.declared.outcome.Outcome.{Outcome}
use Rattle.jcl_plan.specs.declared.outcome.Outcome.TheVariants as outcome
use Rattle.jcl_plan.specs.declared.outcome.TheConstants.{GREATEST_CODE}
use Rattle.jcl_plan.specs.declared.plan.JobPlan.{JobPlan}
use Rattle.jcl_meaning.specs.Agendas.{Action}
use Rattle.jcl_meaning.specs.History.{IsStepOutcome}
use Rattle.jcl_meaning.specs.Names.{names_of}
use Rattle.jcl_meaning.specs.Solo.{Met, Ran, at_start, given, run}
use Rattle.jcl_meaning.specs.States.{Fixed, State}
use Rattle.jcl_meaning.specs.Stores.{Store}
use Rattle.jcl_meaning.specs.Views.{IsViewAfter, View, view_at}
use Rattle.part_laws.specs.Fits.{Fits}
use Rattle.path_meaning.specs.Paths.{fates_in, fault_place}
use Rattle.path_laws.specs.PathParts.{IsBefore, next_outcome, path_part}
use Rattle.view_domain.specs.declared.crossed.Branch.{Branch}
use Rattle.view_domain.specs.declared.crossed.Branch.TheVariants as branch
use Rattle.view_domain.specs.declared.crossed.Crossed.{Crossed}
use Rattle.view_domain.specs.declared.crossed.Crossed.TheVariants as crossed
use Rattle.view_domain.specs.declared.crossed.Move.{Move}
use Rattle.view_domain.specs.declared.crossed.Stop.{Stop}

-- the view before the first step
abbrev pub view_at_start : JobPlan → ℕ → Store → View
view_at_start plan date store = view_at plan 0 date (at_start store (given []))

-- the view with this number is one that the job may have before part k
abbrev pub IsViewBefore : Fixed → JobPlan → Store → ℕ → List View → ℕ → Type 0
IsViewBefore fixed plan store k views number = (view : View) → slice_get views number ≡ Some view → IsViewAfter fixed plan store k view

-- A stop is the first of the faults that were met, and stands where its action stands in the part.
pub record IsStop (plan : JobPlan) (k : ℕ) (stop : Stop) (faults : List Met) : Type 0 where
  pub behind : List Met
  pub first : faults ≡ record { place = stop.at; fault = stop.fault } ∷ behind
  pub action : Action
  pub due : slice_get (path_part plan k) stop.at ≡ Some action
  pub at : fault_place (length plan.steps) action ≡ Some (record { step = stop.step; dd = stop.dd; ended = stop.ended })

abbrev pub views_of : {V : Type 0} → (V → View) → List (Move V) → List View
views_of {V} meaning moves = map (λ m. meaning m.view) moves

-- behind a step's end: its dispositions meet this fault, or the view there stood in the list already or is one of those told
abbrev pub IsBehindEnd : {V : Type 0} → (V → View) → JobPlan → ℕ → ℕ → List View → Ran → Branch V → Type 0
IsBehindEnd meaning plan date k there ran (branch.Stops stop) = IsStop plan k stop ran.faults
IsBehindEnd meaning plan date k there ran (branch.Leads moves) =
    (ran.faults ≡ []) × Contains (there ++ views_of meaning moves.items) (view_at plan (k + 1) date ran.state)

-- of the two branches the one that an outcome takes
abbrev pub branch_of : {V : Type 0} → Outcome → Branch V → Branch V → Branch V
branch_of (outcome.Code code) by_code by_abend = by_code
branch_of (outcome.Abend a) by_code by_abend = by_abend
branch_of outcome.Bypassed by_code by_abend = by_code
branch_of outcome.Flushed by_code by_abend = by_code

-- what a part did along an outcome, and what is said of it
abbrev pub CameTo : {V : Type 0} → (V → View) → JobPlan → ℕ → ℕ → List View → Outcome → Ran → Crossed V → Type 0
CameTo meaning plan date k there o ran (crossed.Stops stop) = IsStop plan k stop ran.faults
CameTo meaning plan date k there o ran crossed.Ends = (drop k plan.steps ≡ []) × (ran.faults ≡ [])
CameTo meaning plan date k there o ran (crossed.Passes fate view) =
    (fates_in ran.lines ≡ fate ∷ []) × ((fate ≡ Run) → ⊥) × (ran.faults ≡ []) × (ran.made ≡ [])
    × (view_at plan (k + 1) date ran.state ≡ meaning view)
CameTo meaning plan date k there o ran (crossed.Runs made by_code by_abend) =
    (fates_in ran.lines ≡ Run ∷ []) × (ran.made ≡ made) × IsBehindEnd meaning plan date k there ran (branch_of o by_code by_abend)

-- Each state with the view, between two parts, along each outcome that a step may have, comes to what is said.
abbrev pub IsCovered : {V : Type 0} → (V → View) → JobPlan → Fixed → ℕ → List View → View → Crossed V → Type 0
IsCovered meaning plan fixed k there view crossed = (s : State) (outcomes : List Outcome) (rest : List Action) → view ≡ view_at plan k fixed.date s →
    IsBefore s outcomes → IsStepOutcome (next_outcome outcomes) → Fits (names_of plan) fixed.meanings (path_part plan k ++ rest) s.own →
    CameTo meaning plan fixed.date k there (next_outcome outcomes) (run fixed (path_part plan k) s) crossed

-- And each view that is told comes from the outcome with which it is told.
abbrev pub ComesFrom : {V : Type 0} → (V → View) → JobPlan → Fixed → ℕ → View → Move V → Type 0
ComesFrom meaning plan fixed k view move = (s : State) (outcomes : List Outcome) (rest : List Action) → view ≡ view_at plan k fixed.date s →
    IsBefore s outcomes → Fits (names_of plan) fixed.meanings (path_part plan k ++ rest) s.own → next_outcome outcomes ≡ move.outcome →
    meaning move.view ≡ view_at plan (k + 1) fixed.date (run fixed (path_part plan k) s).state

abbrev pub IsByCode : Outcome → Type 0
IsByCode (outcome.Code code) = code ≤ GREATEST_CODE
IsByCode (outcome.Abend a) = ⊥
IsByCode outcome.Bypassed = ⊥
IsByCode outcome.Flushed = ⊥

abbrev pub IsByAbend : Outcome → Type 0
IsByAbend (outcome.Code code) = ⊥
IsByAbend (outcome.Abend a) = Unit {0}
IsByAbend outcome.Bypassed = ⊥
IsByAbend outcome.Flushed = ⊥

abbrev pub AreFounded : {V : Type 0} → (V → View) → JobPlan → Fixed → ℕ → View → (Outcome → Type 0) → Branch V → Type 0
AreFounded meaning plan fixed k view By (branch.Stops stop) = Unit {0}
AreFounded meaning plan fixed k view By (branch.Leads moves) = All (λ m. By m.outcome × ComesFrom meaning plan fixed k view m) moves.items

abbrev pub IsFounded : {V : Type 0} → (V → View) → JobPlan → Fixed → ℕ → View → Crossed V → Type 0
IsFounded meaning plan fixed k view (crossed.Stops stop) = Unit {0}
IsFounded meaning plan fixed k view crossed.Ends = Unit {0}
IsFounded meaning plan fixed k view (crossed.Passes fate v) = Unit {0}
IsFounded meaning plan fixed k view (crossed.Runs made by_code by_abend) =
    AreFounded meaning plan fixed k view IsByCode by_code × AreFounded meaning plan fixed k view IsByAbend by_abend

-- What a part comes to from a view: all that can follow is told, and all that is told can follow.
pub record IsCrossed {V : Type 0} (meaning : V → View) (plan : JobPlan) (fixed : Fixed) (k : ℕ) (there : List View) (view : View) (crossed : Crossed V) : Type 0 where
  pub covered : IsCovered meaning plan fixed k there view crossed
  pub founded : IsFounded meaning plan fixed k view crossed

-- The same from the view with this number, in a domain with these members and this meaning.
abbrev pub IsCrossedFrom : {X V : Type 0} → (X → List View) → (X → V → View) → JobPlan → Fixed → ℕ → X → ℕ → X → Crossed V → Type 0
IsCrossedFrom members meaning plan fixed k before number behind crossed = (view : View) → slice_get (members before) number ≡ Some view →
    IsCrossed (meaning behind) plan fixed k (members behind) view crossed

-- A view is put into a list of views, each once: whether it stood there.
pub data IsPut (old : List View) (view : View) : Bool → List View → Type 0 where
  Stood : Contains old view → IsPut old view true old
  New : (Contains old view → ⊥) → IsPut old view false (old ++ view ∷ [])
