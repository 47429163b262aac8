-- The steps that a reference to a step may mean, as they are looked for.
use Rattle.std.specs.Prelude.{Bool}
use Rattle.jcl_procs.specs.declared.step.FlatStep.{FlatStep}
use Rattle.jcl_refs.specs.declared.targets.Meant.{Meant}
use Rattle.jcl_refs.specs.declared.targets.Meant.TheVariants as meant
use Rattle.jcl_refs.specs.Targets.{is_brought_by, is_own_step, is_step_of_call}

abbrev pub is_meant : Meant → FlatStep → Bool
is_meant (meant.Own name) s = is_own_step name s
is_meant (meant.OfCall call name) s = is_step_of_call call name s
is_meant (meant.Brought name procedure_step) s = is_brought_by name procedure_step s
