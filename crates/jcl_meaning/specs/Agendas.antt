-- The agenda of a job: all that it may do, in order. A step that does not run passes over its own actions.
use Rattle.std.specs.Prelude.{ℕ, ◌+◌, ◌*◌, List, [], ◌∷◌, ◌++◌, length, sum_by, if◌then◌else◌}
use Rattle.jcl_plan.specs.declared.plan.DdPlan.{DdPlan}
use Rattle.jcl_plan.specs.declared.plan.JobPlan.{JobPlan}
use Rattle.jcl_plan.specs.declared.plan.StepPlan.{StepPlan}
use Rattle.jcl_meaning.specs.declared.program.Move.{Move}
use Rattle.jcl_meaning.specs.declared.program.SoloProgram.{SoloProgram}
use Rattle.jcl_meaning.specs.Plans.{passes}
use Rattle.jcl_meaning.specs.Programs.{moves_of}

-- steps and DDs with their numbers, from 1
pub data Action : Type 0 where
  Start : ℕ → StepPlan → Action
  Take : ℕ → ℕ → DdPlan → Action
  Ask : StepPlan → Move → Action  -- a request's first action
  Receive : Action  -- and what is due of it
  Finish : ℕ → Action
  Dispose : ℕ → ℕ → DdPlan → Action
  Left : ℕ → ℕ → DdPlan → Action
  Over : Action  -- the job's end

abbrev pub takes_from : ℕ → ℕ → List DdPlan → List Action
takes_from step dd [] = []
takes_from step dd (d ∷ ds) = Take step dd d ∷ takes_from step (dd + 1) ds

abbrev pub moves_from : StepPlan → List Move → List Action
moves_from step [] = []
moves_from step (m ∷ ms) = Ask step m ∷ Receive ∷ moves_from step ms

abbrev pub disposes_from : ℕ → ℕ → List DdPlan → List Action
disposes_from step dd [] = []
disposes_from step dd (d ∷ ds) = Dispose step dd d ∷ disposes_from step (dd + 1) ds

-- a step: its start, its takes, its program's requests, its end, its dispositions
abbrev pub step_actions : ℕ → StepPlan → List Move → List Action
step_actions n step moves =
    Start n step ∷ (takes_from n 1 step.dds ++ (moves_from step moves ++ (Finish n ∷ disposes_from n 1 step.dds)))

abbrev pub steps_from : (List ℕ → List Move) → ℕ → List StepPlan → List Action
steps_from moves n [] = []
steps_from moves n (step ∷ steps) = step_actions n step (moves step.program) ++ steps_from moves (n + 1) steps

-- a passed set that was not received is dealt with at the end, by each DD that may have passed one
abbrev pub left_by : ℕ → ℕ → DdPlan → List Action
left_by step dd d = if passes d.kind then Left step dd d ∷ [] else []

abbrev pub lefts_in : ℕ → ℕ → List DdPlan → List Action
lefts_in step dd [] = []
lefts_in step dd (d ∷ ds) = left_by step dd d ++ lefts_in step (dd + 1) ds

abbrev pub lefts_from : ℕ → List StepPlan → List Action
lefts_from n [] = []
lefts_from n (step ∷ steps) = lefts_in n 1 step.dds ++ lefts_from (n + 1) steps

abbrev pub agenda_by : (List ℕ → List Move) → List StepPlan → List Action
agenda_by moves steps = steps_from moves 1 steps ++ (lefts_from 1 steps ++ (Over ∷ []))

-- of a job and its programs
abbrev pub agenda : JobPlan → List SoloProgram → List Action
agenda plan programs = agenda_by (moves_of programs) plan.steps

-- of a job whose outcomes are given: without programs there are no requests
abbrev pub path_agenda : JobPlan → List Action
path_agenda plan = agenda plan []

-- The most lines of a job: two a step, two a DD, two a request, one a DD whose normal word is or means PASS, and one.
abbrev pub step_budget : List SoloProgram → StepPlan → ℕ
step_budget programs step = 2 + 2 * length step.dds + 2 * length (moves_of programs step.program)

abbrev pub passing : StepPlan → ℕ
passing step = sum_by (λ d. if passes d.kind then 1 else 0) step.dds

abbrev pub budget_of : JobPlan → List SoloProgram → ℕ
budget_of plan programs = sum_by (step_budget programs) plan.steps + sum_by passing plan.steps + 1
