use Rattle.std.proofs.Common.{ap, ◌∙◌, sym, refl}
use Rattle.std.specs.List.{position}
use Rattle.jcl_procs.specs.Overrides.{is_step}
use Rattle.jcl_procs.proofs.Reached.{step_is}
use Rattle.jcl_procs.proofs.overriding.step_at.Goals as goal

pub returns-in-Some-step_of-clause-is : goal.returns-in-Some-step_of-clause-is
returns-in-Some-step_of-clause-is c =
    step_is c.args.steps.now c.args.at c.args.name c.in-Some.name _ _ c.in-Some.is
    (sym c.in-Some-step_of.is ∙ c.step_of.ensures.is ∙ ap (position (is_step c.in-Some.name)) c.split_at.ensures.back) refl

pub returns-then-has_step-clause-is : goal.returns-then-has_step-clause-is
returns-then-has_step-clause-is c =
    step_is c.args.steps.now c.args.at c.args.name c.in-Some.name _ _ c.in-Some.is
    (sym c.in_default-step_of.is ∙ c.step_of.ensures.is ∙ ap (position (is_step c.in-Some.name)) c.split_at.ensures.back)
    (sym c.if-has_step.true ∙ c.has_step.ensures)

pub returns-clause-is : goal.returns-clause-is
returns-clause-is c =
    step_is c.args.steps.now c.args.at c.args.name c.in-Some.name _ _ c.in-Some.is
    (sym c.in_default-step_of.is ∙ c.step_of.ensures.is ∙ ap (position (is_step c.in-Some.name)) c.split_at.ensures.back)
    (sym c.if-has_step.false ∙ c.has_step.ensures)
