use Rattle.std.proofs.Common.{sym, subst}
use Rattle.std.proofs.lemmas.List.Elements.{All-get_or}
use Rattle.jcl_meaning.specs.WellFormed.{IsStep}
use Rattle.path_rows.proofs.repeat.steps_again.Goals as goal

pub push_step-requires-clause-step : goal.push_step-requires-clause-step
push_step-requires-clause-step c =
    let step = c.index-steps-before.result in
    subst IsStep (sym c.index-steps-before.is)
    (All-get_or IsStep c.args.steps.now c.loop-before.before step c.loop-before-test.true c.requires)
