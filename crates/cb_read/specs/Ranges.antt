-- What must hold of the texts and numbers of a plan that is read, so that its types have room for it. (This profile)
use Rattle.std.specs.Prelude.{◌≤◌, All}
use Rattle.jname_core.specs.Grammar.{IsDsNameWithin, IsName8, IsSerial}
use Rattle.jname_core.specs.declared.key.Key.{Key}
use Rattle.jname_core.specs.declared.key.Key.TheVariants.{Named, Relative, Temporary, Unnamed}
use Rattle.jcl_plan.specs.declared.outcome.TheConstants.{GREATEST_CODE}
use Rattle.jcl_plan.specs.declared.plan.DdKind.{DdKind}
use Rattle.jcl_plan.specs.declared.plan.DdKind.TheVariants.{Cards, Dummy, Set, Sysout}
use Rattle.jcl_plan.specs.declared.plan.DdPlan.{DdPlan}
use Rattle.jcl_plan.specs.declared.plan.JobPlan.{JobPlan}
use Rattle.jcl_plan.specs.declared.plan.SetPlan.{SetPlan}
use Rattle.jcl_plan.specs.declared.plan.StepPlan.{StepPlan}
use Rattle.jcl_plan.specs.declared.plan.Test.{Test}
use Rattle.jcl_plan.specs.declared.plan.VolumePlan.{VolumePlan}
use Rattle.jcl_plan.specs.declared.plan.VolumePlan.TheVariants as volume
use Rattle.cb_meaning.specs.Writable.{IsExpiry, IsName}

abbrev pub IsTestInRange : Test → Type 0
IsTestInRange t = t.code ≤ GREATEST_CODE

abbrev pub IsKeyInRange : Key → Type 0
IsKeyInRange (Named name) = IsDsNameWithin 44 name
IsKeyInRange (Relative base sign amount) = IsDsNameWithin 35 base × (amount ≤ 255)
IsKeyInRange (Temporary name) = IsName8 name
IsKeyInRange (Unnamed step dd) = Unit {0}

abbrev pub IsVolumeInRange : VolumePlan → Type 0
IsVolumeInRange volume.NotCoded = Unit {0}
IsVolumeInRange (volume.Serial serial) = IsSerial serial
IsVolumeInRange (volume.OfName name) = IsDsNameWithin 44 name
IsVolumeInRange (volume.OfDd step dd) = Unit {0}

pub record IsSetInRange (p : SetPlan) : Type 0 where
  pub key : IsKeyInRange p.key
  pub volume : IsVolumeInRange p.volume
  pub expiry : IsExpiry p.expiry

abbrev pub IsKindInRange : DdKind → Type 0
IsKindInRange (Sysout class) = Unit {0}
IsKindInRange Dummy = Unit {0}
IsKindInRange (Cards cards) = Unit {0}
IsKindInRange (Set p) = IsSetInRange p

pub record IsDdInRange (dd : DdPlan) : Type 0 where
  pub name : IsName dd.name
  pub kind : IsKindInRange dd.kind

pub record IsStepInRange (step : StepPlan) : Type 0 where
  pub name : IsName step.name
  pub procedure_step : IsName step.procedure_step
  pub program : IsName8 step.program
  pub tests : All IsTestInRange step.tests.items
  pub dds : All IsDdInRange step.dds

pub record IsJobInRange (plan : JobPlan) : Type 0 where
  pub name : IsName8 plan.name
  pub tests : All IsTestInRange plan.tests.items
  pub steps : All IsStepInRange plan.steps
