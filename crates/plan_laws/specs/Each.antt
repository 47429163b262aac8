-- What is true of each step of a job, or of each DD, by its number.
use Rattle.std.specs.Prelude.{ℕ, ◌+◌, List, [], ◌∷◌}
use Rattle.jcl_plan.specs.declared.plan.DdPlan.{DdPlan}
use Rattle.jcl_plan.specs.declared.plan.StepPlan.{StepPlan}

-- of each step, where the first of these is the k-th
abbrev pub EachStep : (ℕ → StepPlan → Type 0) → ℕ → List StepPlan → Type 0
EachStep Holds k [] = Unit {0}
EachStep Holds k (step ∷ steps) = Holds k step × EachStep Holds (k + 1) steps

-- of each DD of a step, where the first of these is the d-th
abbrev pub EachDd : (ℕ → DdPlan → Type 0) → ℕ → List DdPlan → Type 0
EachDd Holds d [] = Unit {0}
EachDd Holds d (dd ∷ dds) = Holds d dd × EachDd Holds (d + 1) dds
