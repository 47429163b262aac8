use Rattle.std.proofs.Common.{sym, ◌∙◌, subst}
use Rattle.std.specs.Bool.{OnTrue}
use Rattle.jcl_refs.specs.Early.{AreTaken, IsEarly}
use Rattle.jcl_refs.proofs.Early.{is_early}
use Rattle.jcl_refs.proofs.plan.early_refusal.Goals as goal

pub returns : goal.returns
returns c =
    subst (IsEarly c.args.steps.now c.args.many.now c.args.count) (sym c.many_refusal.ensures)
    (is_early c.args.steps.now c.args.many.now c.args.count c.in-Some.step.now c.in-Some.field-0-1.now c.split_at.result.0.now c.split_at-2.result.0.now
    c.requires.as_many c.requires.first (sym c.split_at.ensures.back ∙ c.in-Some.ensures.cases.0) c.split_at.ensures.front c.split_at-2.ensures.front (subst (λ taken. OnTrue taken (AreTaken c.split_at.result.0.now c.split_at-2.result.0.now)) c.if-not-branch.false c.in_ok-are_taken.ensures))
