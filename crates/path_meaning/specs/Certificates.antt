-- A path that is told with a fault, as anyone can check it: the job's solo meaning along it meets the fault. (This profile)
use Rattle.std.specs.Prelude.{◌≡◌, ℕ, ◌≤◌, List, [], ◌∷◌, length, take, Some, slice_get}
use Rattle.std.specs.List.{Contains}
use Rattle.jcl_plan.specs.declared.fault.Fault.{Fault}
use Rattle.jcl_plan.specs.declared.outcome.Fate.{Fate}
use Rattle.jcl_plan.specs.declared.outcome.Fate.TheVariants as fate
use Rattle.jcl_plan.specs.declared.outcome.Outcome.{Outcome}
use Rattle.jcl_plan.specs.declared.outcome.Outcome.TheVariants as outcome
use Rattle.jcl_plan.specs.declared.outcome.TheConstants.{GREATEST_CODE}
use Rattle.jcl_plan.specs.declared.plan.JobPlan.{JobPlan}
use Rattle.jcl_meaning.specs.Agendas.{Action, path_agenda}
use Rattle.jcl_meaning.specs.Solo.{solo_path_of}
use Rattle.jcl_meaning.specs.States.{Fixed}
use Rattle.jcl_meaning.specs.Stores.{Store}
use Rattle.path_meaning.specs.Paths.{fates_in, fault_place}

-- an outcome is one that a step of this fate may have: of one that runs a code up to 4095 or an ABEND, of another its fate
abbrev pub IsOfFate : Fate → Outcome → Type 0
IsOfFate fate.Run (outcome.Code code) = code ≤ GREATEST_CODE
IsOfFate fate.Run (outcome.Abend a) = Unit {0}
IsOfFate fate.Run outcome.Bypassed = ⊥
IsOfFate fate.Run outcome.Flushed = ⊥
IsOfFate fate.Bypassed (outcome.Code code) = ⊥
IsOfFate fate.Bypassed (outcome.Abend a) = ⊥
IsOfFate fate.Bypassed outcome.Bypassed = Unit {0}
IsOfFate fate.Bypassed outcome.Flushed = ⊥
IsOfFate fate.Flushed (outcome.Code code) = ⊥
IsOfFate fate.Flushed (outcome.Abend a) = ⊥
IsOfFate fate.Flushed outcome.Bypassed = ⊥
IsOfFate fate.Flushed outcome.Flushed = Unit {0}

-- fates and outcomes go together one by one, and are as many
abbrev pub AreOfFates : List Fate → List Outcome → Type 0
AreOfFates [] [] = Unit {0}
AreOfFates [] (o ∷ path) = ⊥
AreOfFates (f ∷ fates) [] = ⊥
AreOfFates (f ∷ fates) (o ∷ path) = IsOfFate f o × AreOfFates fates path

-- Along the path itself the job meets this fault at this step and DD, where as many steps have ended as the path has outcomes; each of them is one
-- that its step may have. (Where that fits two kinds of place, at either. Faults that come before and do not end the job do not matter.)
pub record TakesPath (fixed : Fixed) (plan : JobPlan) (store : Store) (fault : Fault) (step dd : ℕ) (path : List Outcome) : Type 0 where
  pub place : ℕ
  pub action : Action
  pub due : slice_get (path_agenda plan) place ≡ Some action
  pub at : fault_place (length plan.steps) action ≡ Some (record { step = step; dd = dd; ended = length path })
  pub fates : AreOfFates (take (length path) (fates_in (solo_path_of fixed plan store path).lines)) path
  pub met : Contains (solo_path_of fixed plan store path).faults (record { place = place; fault = fault })
