-- A plan that records spell is printable.
use Rattle.std.proofs.Common.{◌+◌, ℕ, List, [], ◌∷◌, Option, Some, None, All}
use Rattle.std.proofs.lemmas.List.Elements.{All-cons, All-nil, All-weaker}
use Rattle.jname_core.specs.declared.key.Key.{Key}
use Rattle.jname_core.specs.declared.key.Key.TheVariants.{Named, Relative, Temporary, Unnamed}
use Rattle.jcl_plan.specs.declared.plan.DdKind.{DdKind}
use Rattle.jcl_plan.specs.declared.plan.DdKind.TheVariants.{Cards, Dummy, Set, Sysout}
use Rattle.jcl_plan.specs.declared.plan.DdPlan.{DdPlan}
use Rattle.jcl_plan.specs.declared.plan.StepPlan.{StepPlan}
use Rattle.jcl_plan.specs.declared.plan.VolumePlan.{VolumePlan}
use Rattle.jcl_plan.specs.declared.plan.VolumePlan.TheVariants as volume
use Rattle.cb_meaning.specs.Writable.{AreDds, AreSteps, IsCard, IsKeyAt, IsKindAt, IsName, IsVolumeAt}
use Rattle.line_laws.specs.Printable.{IsPrintable, IsPrintableName}
use Rattle.print_laws.specs.Printable.{IsPrintableDd, IsPrintableKey, IsPrintableKind, IsPrintableStep, IsPrintableVolume}
use Rattle.print_laws.specs.PrintLaws.{WritableIsPrintable}
use Rattle.print_laws.proofs.Characters.{ds_name_printable, job_class_shown, letter_or_digit_shown, name8_printable, one_printable, serial_printable}

name_printable : (name : Option (List ℕ)) → IsName name → IsPrintableName name
name_printable None h = tt
name_printable (Some name) h = name8_printable name h

module _ (units : ℕ) (steps : List StepPlan) (k : ℕ) where
  key_printable : (d : ℕ) (key : Key) → IsKeyAt steps k d key → IsPrintableKey key
  key_printable d (Named name) h = ds_name_printable 44 name h
  key_printable d (Relative base sign amount) h = ds_name_printable 35 base h.0
  key_printable d (Temporary name) h = tt
  key_printable d (Unnamed step dd) h = tt

  volume_printable : (d : ℕ) (v : VolumePlan) → IsVolumeAt steps k d v → IsPrintableVolume v
  volume_printable d volume.NotCoded h = tt
  volume_printable d (volume.Serial serial) h = serial_printable serial h
  volume_printable d (volume.OfName name) h = ds_name_printable 44 name h
  volume_printable d (volume.OfDd step dd) h = tt

  kind_printable : (d : ℕ) (kind : DdKind) → IsKindAt units steps k d kind → IsPrintableKind kind
  kind_printable d (Set p) h = (key_printable d p.key h.key, volume_printable d p.volume h.volume)
  kind_printable d Dummy h = tt
  kind_printable d (Sysout class) h = one_printable class (letter_or_digit_shown class h)
  kind_printable d (Cards cards) h = All-weaker IsCard IsPrintable (λ card is. is.printable) cards h

  dds_printable : (d : ℕ) (dds : List DdPlan) → AreDds units steps k d dds → All IsPrintableDd dds
  dds_printable d [] h = All-nil IsPrintableDd
  dds_printable d (dd ∷ dds) h =
      All-cons IsPrintableDd dd dds (name_printable dd.name h.0, kind_printable d dd.kind h.1) (dds_printable (d + 1) dds h.2)

steps_printable : (units : ℕ) (all : List StepPlan) (k : ℕ) (steps : List StepPlan) → AreSteps units all k steps → All IsPrintableStep steps
steps_printable units all k [] h = All-nil IsPrintableStep
steps_printable units all k (step ∷ steps) h =
    All-cons IsPrintableStep step steps (record {
      name = name_printable step.name h.0.name;
      procedure_step = name_printable step.procedure_step h.0.procedure_step;
      dds = dds_printable units all k 1 step.dds h.0.dds;
    }) (steps_printable units all (k + 1) steps h.1)

pub writable_printable : WritableIsPrintable
writable_printable most_steps units plan h = record {
  name = name8_printable plan.name h.name;
  class = one_printable plan.class (job_class_shown plan.class h.class);
  message_class = one_printable plan.message_class (letter_or_digit_shown plan.message_class h.message_class);
  steps = steps_printable units plan.steps 1 plan.steps h.steps;
}
