use Rattle.std.proofs.Common.{◌∙◌, ap, sym, List, Result, Ok}
use Rattle.std.specs.List.{list_any}
use Rattle.jcl_plan.specs.declared.fault.Cause.{Cause}
use Rattle.jcl_procs.specs.declared.step.FlatStep.{FlatStep}
use Rattle.jcl_procs.specs.StepDds.{names_step}
use Rattle.jcl_procs.proofs.Overridden.{none_left, without}
use Rattle.jcl_procs.proofs.overriding.without_steps.Goals as goal

pub returns-then-some_names_step : goal.returns-then-some_names_step
returns-then-some_names_step c =
    without c.args.steps c.args.dds c.some_names_step.result c.requires (c.some_names_step.ensures ∙ ap (list_any names_step) c.as_slice.ensures)
    ∙ ap none_left c.if-some_names_step.true

pub returns : goal.returns
returns c =
    without c.args.steps c.args.dds c.some_names_step.result c.requires (c.some_names_step.ensures ∙ ap (list_any names_step) c.as_slice.ensures)
    ∙ ap none_left c.if-some_names_step.false ∙ ap (λ s. let r : Result (List FlatStep) Cause = Ok s in r) (sym c.requires)
