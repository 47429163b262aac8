-- What may become of a job: its solo meaning along all outcomes that its steps may have. (This profile)
use Rattle.std.specs.Prelude.{◌≡◌, ℕ, ◌-◌, ◌<◌, true, List, [], ◌∷◌, drop, length, take, Option, Some, None, slice_get, All}
use Rattle.std.specs.List.{Contains, filter_map}
use Rattle.plain.specs.Lists.{Differ}
use Rattle.jcl_plan.specs.declared.entry.JobLine.{JobLine}
use Rattle.jcl_plan.specs.declared.entry.JobLine.TheVariants as line
use Rattle.jcl_plan.specs.declared.fault.Fault.{Fault}
use Rattle.jcl_plan.specs.declared.outcome.Abend.TheVariants.{User}
use Rattle.jcl_plan.specs.declared.outcome.Fate.{Fate}
use Rattle.jcl_plan.specs.declared.outcome.Fate.TheVariants as fate
use Rattle.jcl_plan.specs.declared.outcome.Outcome.{Outcome}
use Rattle.jcl_plan.specs.declared.outcome.Outcome.TheVariants as outcome
use Rattle.jcl_plan.specs.declared.plan.JobPlan.{JobPlan}
use Rattle.jcl_meaning.specs.declared.state.Place.{Place}
use Rattle.jcl_meaning.specs.Agendas.{Action, Ask, Dispose, Finish, Left, Over, Receive, Start, Take, path_agenda}
use Rattle.jcl_meaning.specs.History.{IsStepOutcome}
use Rattle.jcl_meaning.specs.RequestActs.{head_or}
use Rattle.jcl_meaning.specs.Solo.{is_clean, solo_path_of}
use Rattle.jcl_meaning.specs.States.{Fixed}
use Rattle.jcl_meaning.specs.Stores.{Store}
use Rattle.jcl_meaning.specs.Views.{IsViewAfter, View}

-- it meets no fault, however its steps end
abbrev pub IsSafe : Fixed → JobPlan → Store → Type 0
IsSafe fixed plan store = (outcomes : List Outcome) → All IsStepOutcome outcomes → is_clean (solo_path_of fixed plan store outcomes) ≡ true

-- on some path it makes a set at this place
pub record Makes (fixed : Fixed) (plan : JobPlan) (store : Store) (p : Place) : Type 0 where
  pub outcomes : List Outcome
  pub within : All IsStepOutcome outcomes
  pub made : Contains (solo_path_of fixed plan store outcomes).made p

-- What a path shows of a step: of one that runs its code, or an ABEND as U0000; of another its fate. A step past the end of the outcomes ends
-- with code 0.
abbrev pub shown_code : Outcome → Outcome
shown_code (outcome.Code code) = outcome.Code code
shown_code (outcome.Abend a) = outcome.Abend (User 0)
shown_code outcome.Bypassed = outcome.Code 0
shown_code outcome.Flushed = outcome.Code 0

abbrev pub shown_of : Fate → Outcome → Outcome
shown_of fate.Run o = shown_code o
shown_of fate.Bypassed o = outcome.Bypassed
shown_of fate.Flushed o = outcome.Flushed

abbrev pub path_shown : List Fate → List Outcome → List Outcome
path_shown [] outcomes = []
path_shown (f ∷ fates) outcomes = shown_of f (head_or (outcome.Code 0) outcomes) ∷ path_shown fates (drop 1 outcomes)

-- the fates of the steps that a run came to, as its lines tell them
abbrev pub fate_told : JobLine → Option Fate
fate_told (line.Step n name procedure_step f) = Some f
fate_told other = None

abbrev pub fates_in : List JobLine → List Fate
fates_in lines = filter_map fate_told lines

-- The step and the DD at which an action may meet a fault, and how many steps have ended there: at a take those before it, at a disposition
-- its own too, at the job's end all.
pub record FaultPlace : Type 0 where
  pub step : ℕ
  pub dd : ℕ
  pub ended : ℕ

abbrev pub fault_place : ℕ → Action → Option FaultPlace
fault_place steps (Start n step) = None
fault_place steps (Take n dd d) = Some (record { step = n; dd = dd; ended = n - 1 })
fault_place steps (Ask step move) = None
fault_place steps Receive = None
fault_place steps (Finish n) = None
fault_place steps (Dispose n dd d) = Some (record { step = n; dd = dd; ended = n })
fault_place steps (Left n dd d) = Some (record { step = n; dd = dd; ended = steps })
fault_place steps Over = None

-- with these outcomes it meets this fault at this step and DD: an outcome is shown for each step that has ended there
pub record MeetsFault (fixed : Fixed) (plan : JobPlan) (store : Store) (fault : Fault) (step dd : ℕ) (path : List Outcome) : Type 0 where
  pub outcomes : List Outcome
  pub within : All IsStepOutcome outcomes
  pub place : ℕ
  pub action : Action
  pub due : slice_get (path_agenda plan) place ≡ Some action
  pub ended : ℕ
  pub at : fault_place (length plan.steps) action ≡ Some (record { step = step; dd = dd; ended = ended })
  pub met : Contains (solo_path_of fixed plan store outcomes).faults (record { place = place; fault = fault })
  pub shown : path ≡ path_shown (take ended (fates_in (solo_path_of fixed plan store outcomes).lines)) outcomes

-- behind the k-th step there are more views than the limit
pub record HasMoreViews (fixed : Fixed) (plan : JobPlan) (store : Store) (k limit : ℕ) : Type 0 where
  pub views : List View
  pub seen : All (IsViewAfter fixed plan store k) views
  pub different : Differ views
  pub more : limit < length views
