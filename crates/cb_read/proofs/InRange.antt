-- A plan that records can spell has its texts and numbers in their ranges.
use Rattle.std.proofs.Common.{◌+◌, ℕ, List, [], ◌∷◌}
use Rattle.std.specs.Prelude.{All}
use Rattle.std.proofs.lemmas.List.Elements.{All-cons, All-nil, All-weaker}
use Rattle.jname_core.specs.declared.key.Key.{Key}
use Rattle.jname_core.specs.declared.key.Key.TheVariants.{Named, Relative, Temporary, Unnamed}
use Rattle.jcl_plan.specs.declared.plan.DdKind.{DdKind}
use Rattle.jcl_plan.specs.declared.plan.DdKind.TheVariants.{Cards, Dummy, Set, Sysout}
use Rattle.jcl_plan.specs.declared.plan.DdPlan.{DdPlan}
use Rattle.jcl_plan.specs.declared.plan.JobPlan.{JobPlan}
use Rattle.jcl_plan.specs.declared.plan.StepPlan.{StepPlan}
use Rattle.jcl_plan.specs.declared.plan.VolumePlan.{VolumePlan}
use Rattle.jcl_plan.specs.declared.plan.VolumePlan.TheVariants as volume
use Rattle.cb_meaning.specs.Writable.{AreDds, AreSteps, IsJobTest, IsKeyAt, IsKindAt, IsStepAt, IsStepTest, IsVolumeAt, IsWritable}
use Rattle.cb_read.specs.Ranges.{IsDdInRange, IsJobInRange, IsKeyInRange, IsKindInRange, IsStepInRange, IsTestInRange, IsVolumeInRange}

module _ (units : ℕ) (all : List StepPlan) (k : ℕ) where
  key_in_range : (d : ℕ) (key : Key) → IsKeyAt all k d key → IsKeyInRange key
  key_in_range d (Named name) h = h
  key_in_range d (Relative base sign amount) h = h
  key_in_range d (Temporary name) h = h
  key_in_range d (Unnamed step dd) h = tt

  volume_in_range : (d : ℕ) (v : VolumePlan) → IsVolumeAt all k d v → IsVolumeInRange v
  volume_in_range d volume.NotCoded h = tt
  volume_in_range d (volume.Serial serial) h = h
  volume_in_range d (volume.OfName name) h = h
  volume_in_range d (volume.OfDd step dd) h = tt

  kind_in_range : (d : ℕ) (kind : DdKind) → IsKindAt units all k d kind → IsKindInRange kind
  kind_in_range d (Sysout class) h = tt
  kind_in_range d Dummy h = tt
  kind_in_range d (Cards cards) h = tt
  kind_in_range d (Set p) h = record { key = key_in_range d p.key h.key; volume = volume_in_range d p.volume h.volume; expiry = h.expiry_fits }

  dds_in_range : (d : ℕ) (dds : List DdPlan) → AreDds units all k d dds → All IsDdInRange dds
  dds_in_range d [] h = All-nil IsDdInRange
  dds_in_range d (dd ∷ dds) h =
      All-cons IsDdInRange dd dds (record { name = h.0; kind = kind_in_range d dd.kind h.1 }) (dds_in_range (d + 1) dds h.2)

  step_in_range : (step : StepPlan) → IsStepAt units all k step → IsStepInRange step
  step_in_range step h = record {
    name = h.name;
    procedure_step = h.procedure_step;
    program = h.program;
    tests = All-weaker (IsStepTest k) IsTestInRange (λ t fits. fits.0) step.tests.items h.tests;
    dds = dds_in_range 1 step.dds h.dds;
  }

steps_in_range : (units : ℕ) (all : List StepPlan) (k : ℕ) (steps : List StepPlan) → AreSteps units all k steps → All IsStepInRange steps
steps_in_range units all k [] h = All-nil IsStepInRange
steps_in_range units all k (step ∷ steps) h =
    All-cons IsStepInRange step steps (step_in_range units all k step h.0) (steps_in_range units all (k + 1) steps h.1)

pub job_in_range : (most units : ℕ) (plan : JobPlan) → IsWritable most units plan → IsJobInRange plan
job_in_range most units plan h = record {
  name = h.name;
  tests = All-weaker IsJobTest IsTestInRange (λ t fits. fits.0) plan.tests.items h.tests;
  steps = steps_in_range units plan.steps 1 plan.steps h.steps;
}
