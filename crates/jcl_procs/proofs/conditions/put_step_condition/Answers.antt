use Rattle.std.proofs.Common.{sym, ap, ◌∙◌, slice_set, slice_index_or}
use Rattle.jcl_procs.proofs.Conditioned.{at_none, at_place}
use Rattle.jcl_procs.proofs.conditions.put_step_condition.Goals as goal

pub returns-in-Some : goal.returns-in-Some
returns-in-Some c =
    let steps = c.args.steps.now in
    let there = slice_index_or steps c.in-Some.n c.index-steps-n.result in
    ap (λ condition. slice_set steps c.in-Some.n (record there { condition = condition })) c.copied.ensures
    ∙ at_place c.args.own.now steps c.in-Some.n c.index-steps-n.result (sym c.step_of.ensures.is ∙ c.in-Some.is)

pub returns-in_default : goal.returns-in_default
returns-in_default c = at_none c.args.own.now c.args.steps.now (sym c.step_of.ensures.is ∙ c.in_default.is)
