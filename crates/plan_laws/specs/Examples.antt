-- A job whose cards are sound, and its plan.
use Rattle.std.specs.Prelude.{◌≡◌, ℕ, List, [], ◌∷◌, codes, Some, None, Ok, All}
use Rattle.jname_core.specs.declared.key.Key.TheVariants.{Unnamed}
use Rattle.jcl_plan.specs.declared.plan.AfterAbend.TheVariants.{Unsaid}
use Rattle.jcl_plan.specs.declared.plan.DdKind.{DdKind}
use Rattle.jcl_plan.specs.declared.plan.DdKind.TheVariants.{Set}
use Rattle.jcl_plan.specs.declared.plan.DdPlan.{DdPlan}
use Rattle.jcl_plan.specs.declared.plan.Expiry.TheVariants as expiry
use Rattle.jcl_plan.specs.declared.plan.JobPlan.{JobPlan}
use Rattle.jcl_plan.specs.declared.plan.Status.TheVariants.{New}
use Rattle.jcl_plan.specs.declared.plan.StepPlan.{StepPlan}
use Rattle.jcl_plan.specs.declared.plan.VolumePlan.{VolumePlan}
use Rattle.jcl_plan.specs.declared.plan.VolumePlan.TheVariants as volume
use Rattle.value_core.specs.declared.reference.DdReference.TheVariants.{Dd}
use Rattle.value_core.specs.declared.set.SetName.{SetName}
use Rattle.value_core.specs.declared.set.SetName.TheVariants as name
use Rattle.value_core.specs.declared.set.VolumeName.{VolumeName}
use Rattle.value_core.specs.declared.set.VolumeName.TheVariants as coded_volume
use Rattle.jcl_cards.specs.declared.coded.Coded.{Coded}
use Rattle.jcl_cards.specs.declared.coded.Coded.TheVariants.{NotGiven, Value}
use Rattle.jcl_cards.specs.declared.job.JobCard.{JobCard}
use Rattle.jcl_dds.specs.declared.dd.DdCard.{DdCard}
use Rattle.jcl_dds.specs.Examples.{empty_dd}
use Rattle.jcl_procs.specs.declared.step.FlatStep.{FlatStep}
use Rattle.jcl_refs.specs.Plans.{plan_of}
use Rattle.statement_laws.specs.Ranges.{IsSoundJob}
use Rattle.deck_laws.specs.Sound.{IsSoundStep}

abbrev pub card : List ℕ → Coded SetName → Coded VolumeName → DdCard
card name set_name volume = record (empty_dd name) { set_name = set_name; volume = volume }

abbrev pub a_job : JobCard
a_job = record { name = codes "J"; class = 65; priority = 1; message_class = 65; tests = record { items = [] } }

-- D is for a set without a name, and E for the same on its volume
abbrev pub a_step : FlatStep
a_step = record {
  name = Some (codes "S");
  procedure_step = None;
  call = None;
  program = codes "X";
  condition = record { tests = record { items = [] }; after_abend = Unsaid };
  dds = card (codes "D") NotGiven NotGiven
      ∷ card (codes "E") (Value (name.OfDd (Dd (codes "D")))) (Value (coded_volume.OfDd (Dd (codes "D")))) ∷ [];
}

abbrev pub set_on : VolumePlan → DdKind
set_on volume = Set (record {
  key = Unnamed 1 1;
  status = New;
  normal = None;
  conditional = None;
  volume = volume;
  units = None;
  space = None;
  expiry = expiry.NotCoded;
})

abbrev pub dd : List ℕ → VolumePlan → DdPlan
dd name volume = record { name = Some name; kind = set_on volume }

abbrev pub step_plan : StepPlan
step_plan = record {
  name = Some (codes "S");
  procedure_step = None;
  program = codes "X";
  after_abend = Unsaid;
  tests = record { items = [] };
  dds = dd (codes "D") volume.NotCoded ∷ dd (codes "E") (volume.OfDd 1 1) ∷ [];
}

abbrev pub job_plan : JobPlan
job_plan = record { name = codes "J"; class = 65; priority = 1; message_class = 65; tests = record { items = [] }; steps = step_plan ∷ [] }

pub record Example : Type 0 where
  pub job : IsSoundJob a_job
  pub steps : All IsSoundStep (a_step ∷ [])
  pub plan : plan_of [] a_job (a_step ∷ []) ≡ Ok job_plan
