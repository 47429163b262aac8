-- Which actions of a job stand where the fault of a report is to be met.
use Rattle.std.specs.Prelude.{ℕ, zero, suc, ◌+◌, ◌==◌, ◌&&◌, Bool, false, List, [], ◌∷◌, ◌++◌, length, Option, Some, None, slice_get, unwrap_or}
use Rattle.jcl_plan.specs.declared.plan.StepPlan.{StepPlan}
use Rattle.jcl_meaning.specs.Agendas.{Action}
use Rattle.path_meaning.specs.Paths.{FaultPlace, fault_place}
use Rattle.path_core.specs.declared.marks.Spot.{Spot}

abbrev pub place_of : Spot → FaultPlace
place_of spot = record { step = spot.step; dd = spot.dd; ended = spot.ended }

abbrev pub is_spot : FaultPlace → ℕ → ℕ → ℕ → Bool
is_spot wanted step dd ended = wanted.step == step && wanted.dd == dd && wanted.ended == ended

abbrev pub is_place : FaultPlace → Option FaultPlace → Bool
is_place wanted None = false
is_place wanted (Some p) = is_spot wanted p.step p.dd p.ended

-- an action may meet its fault there
abbrev pub is_at : ℕ → FaultPlace → Action → Bool
is_at steps wanted action = is_place wanted (fault_place steps action)

-- of the takes of so many DDs, or of their dispositions
abbrev pub dd_marks : FaultPlace → ℕ → ℕ → ℕ → ℕ → List Bool
dd_marks wanted n ended dd zero = []
dd_marks wanted n ended dd (suc count) = is_spot wanted n dd ended ∷ dd_marks wanted n ended (dd + 1) count

-- of a step with its number, and how many steps come before it
abbrev pub step_marks : FaultPlace → ℕ → ℕ → ℕ → List Bool
step_marks wanted before n dds = false ∷ (dd_marks wanted n before 1 dds ++ (false ∷ dd_marks wanted n n 1 dds))

abbrev pub steps_marks : FaultPlace → ℕ → List StepPlan → List Bool
steps_marks wanted before [] = []
steps_marks wanted before (step ∷ steps) = step_marks wanted before (before + 1) (length step.dds) ++ steps_marks wanted (before + 1) steps

abbrev pub mark_at : List Bool → ℕ → Bool
mark_at marks place = unwrap_or (slice_get marks place) false
